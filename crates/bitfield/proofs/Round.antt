-- Reading what was written, and writing what was read, for every layout: its values are one number's digits, and so are its bytes.
-- Assumes nothing.
use Prim.Native.Nat.{ℕ, zero, suc, ◌+◌, ◌*◌, ◌/◌, ◌%◌, ◌^◌, ◌≤◌, ◌<◌}
use mathlib.Core.Path.{◌≡◌, refl, sym, ap, ◌∙◌}
use mathlib.Core.Bool.{Bool, true, ◌&&◌}
use mathlib.Core.List.{List, [], ◌∷◌, ◌++◌}
use native.Mathlib.Nat.{add-zero, mul_assoc, add_assoc, div-div-eq-div-mul, mod-eq_of_lt, mul-suc, mul-le-mul_left, add_comm, add-mul-div_right, zero-add, suc-add, add-mul}
use native.Mathlib.Omega.{arith}
use lib.ListN.{length, get_or, take, drop, replicate, get_or-append, take-append-drop}
use lib.Seq.{get_or-drop, drop-append_seam, length-take-le}
use lib.Pow.{pow-add, mod-pow-add, high, low, pow_pos}
use lib.Arith.{digits_lt}
use lib.Dec.{leb}
use borrow.Author.Tests.{leb-true}
use Rattle.basics.specs.Choice.{both}
use Rattle.basics.specs.Order.{last-cases}
use Rattle.basics.specs.Places.{firsts, firsts-front, firsts_same, in_turn, length-in_turn, in_turn-front}
use Rattle.bitfield.specs.Bits.{AreBytes, widest, bit_at, value_at, field_at, value_in, bytes}
use Rattle.bitfield.specs.Layout.{total, fields, field_of, join, Fit}
use Rattle.bitfield.proofs.Laws.{value-join, value-byte, value-lt, value-inside, length-bytes}

-- ---- a field of a part

bit-drop : (s : List ℕ) (k p : ℕ) → bit_at (drop k s) p ≡ bit_at s (8 * k + p)
unfolding bit_at
bit-drop s k p =
    let e : (8 * k + p) / 8 ≡ k + p / 8 = omega arith in
    let f : (8 * k + p) % 8 ≡ p % 8 = omega arith in
    rw (get_or-drop, e, f)

pub value-drop : (s : List ℕ) (k p w : ℕ) → value_at (drop k s) p w ≡ value_at s (8 * k + p) w
unfolding value_at
value-drop s k p zero = refl
value-drop s k p (suc w) = rw (value-drop s k p w, bit-drop s k (p + w), add_assoc (8 * k) p w)

pub value_after : (l m : List ℕ) (p w : ℕ) → value_at (l ++ m) (8 * length l + p) w ≡ value_at m p w
value_after l m p w = rw (← value-drop, drop-append_seam)

bit-front : (l m : List ℕ) (p : ℕ) → p < 8 * length l → bit_at (l ++ m) p ≡ bit_at l p
unfolding bit_at
bit-front l m p h = rw (get_or-append l m 0 (p / 8) (omega arith))

pub value-front : (l m : List ℕ) (at w : ℕ) → at + w ≤ 8 * length l → value_at (l ++ m) at w ≡ value_at l at w
unfolding value_at
value-front l m at zero h = refl
value-front l m at (suc w) h = rw (value-front l m at w (omega arith), bit-front l m (at + w) (omega arith))

-- a field of one of n equal parts
pub value-in_turn : (f : ℕ → List ℕ) (m n : ℕ) → ((i : ℕ) → i < n → length (f i) ≡ m) → (i p w : ℕ) → i < n → p + w ≤ 8 * m → value_at (in_turn n f) (8 * (m * i) + p) w ≡ value_at (f i) p w
unfolding in_turn
value-in_turn f m zero l i p w h g = absurd (omega arith)
value-in_turn f m (suc n) l i p w h g =
    let e = length-in_turn f m n (λ j q. l j (omega arith)) in
    last-cases h
    (λ q. rw q (rw (← e) (value_after (in_turn n f) (f n) p w)))
    (λ q.
    let b : m * suc i ≤ m * n = mul-le-mul_left m q in
    value-front (in_turn n f) (f n) (8 * (m * i) + p) w (omega (arith, mul-suc m i))
    ∙ value-in_turn f m n (λ j r. l j (omega arith)) i p w q g)

-- ---- one number

-- the value of bytes is what they write
pub value-cons : (b : ℕ) (s : List ℕ) (n : ℕ) → b < 256 → value_at (b ∷ s) 0 (8 * suc n) ≡ b * 2 ^ (8 * n) + value_at s 0 (8 * n)
value-cons b s n h =
    let e : 8 * suc n ≡ 8 + 8 * n = omega arith in
    let one : value_at (b ∷ s) 0 8 ≡ b = value-byte (b ∷ s) 0 h in
    let rest : value_at (b ∷ s) (0 + 8) (8 * n) ≡ value_at s 0 (8 * n) = value_after (b ∷ []) s 0 (8 * n) in
    rw (e, value-join (b ∷ s) 0 8 (8 * n), one, rest)

pub value-bytes : (n x : ℕ) → value_at (bytes n x) 0 (8 * n) ≡ x % 2 ^ (8 * n)
unfolding value_at bytes
value-bytes zero x = omega arith
value-bytes (suc n) x =
    let e : 8 * suc n ≡ 8 + 8 * n = omega arith in
    value-cons (x / 2 ^ (8 * n) % 256) (bytes n x) n (omega arith)
    ∙ rw (value-bytes n x, e, mod-pow-add x 8 (8 * n))

-- the bytes of a number are those of its lower part
bytes_low : (n x y : ℕ) → bytes n (x * 2 ^ (8 * n) + y) ≡ bytes n y
unfolding bytes
bytes_low zero x y = refl
bytes_low (suc n) x y =
    let e : 8 * suc n ≡ 8 + 8 * n = omega arith in
    let p : x * 2 ^ (8 * suc n) ≡ x * 256 * 2 ^ (8 * n) = rw (e, pow-add 2 8 (8 * n), ← mul_assoc) in
    let q : (x * 256 * 2 ^ (8 * n) + y) / 2 ^ (8 * n) % 256 ≡ y / 2 ^ (8 * n) % 256 =
    rw (add_comm (x * 256 * 2 ^ (8 * n)) y, add-mul-div_right y (x * 256) (pow_pos (8 * n))) (omega arith) in
    rw (p, q, bytes_low n (x * 256) y)

pub bytes-value : (s : List ℕ) → AreBytes s → bytes (length s) (value_at s 0 (8 * length s)) ≡ s
unfolding bytes
bytes-value [] h = refl
bytes-value (b ∷ s) h =
    let m = 8 * length s in
    let lt = value-lt s 0 m in
    rw (value-cons b s (length s) (h 0), high b m lt, mod-eq_of_lt (h 0), bytes_low (length s) b (value_at s 0 m), bytes-value s (λ i. h (suc i)))

-- ---- a layout

pub join-lt : (ws vs : List ℕ) → Fit ws vs → join ws vs < 2 ^ total ws
unfolding join
join-lt [] [] f = omega arith
join-lt [] (v ∷ vs) f = absurd f
join-lt (w ∷ ws) [] f = absurd f
join-lt (w ∷ ws) (v ∷ vs) f = rw (pow-add 2 w (total ws)) (digits_lt f.0 (join-lt ws vs f.1))

-- values that each fit their width
pub fit-each : (ws vs : List ℕ) → length vs ≡ length ws → ((k : ℕ) → k < length ws → get_or vs k 0 < 2 ^ get_or ws k 0) → Fit ws vs
fit-each [] [] e h = tt
fit-each [] (v ∷ vs) e h = absurd (omega arith)
fit-each (w ∷ ws) [] e h = absurd (omega arith)
fit-each (w ∷ ws) (v ∷ vs) e h = (h 0 (omega arith), fit-each ws vs (omega arith) (λ k l. h (suc k) (omega arith)))

pub join_one : (w v : ℕ) → join (w ∷ []) (v ∷ []) ≡ v
unfolding join
join_one w v = omega arith

-- the fields of bytes, side by side, write the value of them all
pub join-fields : (ws : List ℕ) (at : ℕ) (s : List ℕ) → join ws (fields ws at s) ≡ value_at s at (total ws)
unfolding join fields value_at
join-fields [] at s = refl
join-fields (w ∷ ws) at s = rw (value-join s at w (total ws), join-fields ws (at + w) s)

-- where the value of all the bits is that of the values side by side, the fields are the values
pub fields_join : (ws vs : List ℕ) (at : ℕ) (s : List ℕ) → Fit ws vs → value_at s at (total ws) ≡ join ws vs → fields ws at s ≡ vs
unfolding join fields
fields_join [] [] at s f e = refl
fields_join [] (v ∷ vs) at s f e = absurd f
fields_join (w ∷ ws) [] at s f e = absurd f
fields_join (w ∷ ws) (v ∷ vs) at s f e =
    let k = total ws in
    let q : value_at s at w * 2 ^ k + value_at s (at + w) k ≡ v * 2 ^ k + join ws vs = sym (value-join s at w k) ∙ e in
    let lo = value-lt s (at + w) k in
    let lt = join-lt ws vs f.1 in
    let top : value_at s at w ≡ v = sym (high (value_at s at w) k lo) ∙ ap (λ (x : ℕ). x / 2 ^ k) q ∙ high v k lt in
    let bot : value_at s (at + w) k ≡ join ws vs = sym (low (value_at s at w) k lo) ∙ ap (λ (x : ℕ). x % 2 ^ k) q ∙ low v k lt in
    rw (top, fields_join ws vs (at + w) s f.1 bot)

-- the fields one by one
pub fields-are : (ws : List ℕ) (at : ℕ) (s : List ℕ) → fields ws at s ≡ firsts (length ws) (λ k. field_of ws k at s)
unfolding fields firsts
fields-are [] at s = refl
fields-are (w ∷ ws) at s =
    rw (firsts-front (length ws) (λ k. field_of (w ∷ ws) k at s), add-zero, fields-are ws (at + w) s)
    (ap (λ (l : List ℕ). value_at s at w ∷ l) (firsts_same (length ws) _ _ (λ k h. rw add_assoc)))

-- what `value` reads of a layout of fields that are at most a word each, one after another
abbrev pub read_in : List ℕ → ℕ → List ℕ → List ℕ
read_in [] at s = []
read_in (w ∷ ws) at s = value_in (field_at s at w) ∷ read_in ws (at + w) s

abbrev pub narrow : List ℕ → Bool
narrow [] = true
narrow (w ∷ ws) = leb w widest && narrow ws

pub read-fields : (ws : List ℕ) (at : ℕ) (s : List ℕ) → narrow ws ≡ true → at + total ws ≤ 8 * length s → read_in ws at s ≡ fields ws at s
unfolding fields
read-fields [] at s h g = refl
read-fields (w ∷ ws) at s h g =
    let n = both (leb w widest) (narrow ws) h in
    rw (value-inside s at w (leb-true _ _ n.0) (omega arith), read-fields ws (at + w) s n.1 (omega arith))

pub fields-drop : (ws : List ℕ) (k p : ℕ) (s : List ℕ) → fields ws p (drop k s) ≡ fields ws (8 * k + p) s
unfolding fields
fields-drop [] k p s = refl
fields-drop (w ∷ ws) k p s = rw (value-drop s k p w, fields-drop ws k (p + w) s, add_assoc)

-- ---- the round trip, of a layout of n whole bytes

-- what was written is read, whatever follows
pub read-written : (ws vs : List ℕ) (n : ℕ) (rest : List ℕ) → 8 * n ≡ total ws → Fit ws vs → fields ws 0 (bytes n (join ws vs) ++ rest) ≡ vs
read-written ws vs n rest e f =
    let x = join ws vs in
    let l = length-bytes n x in
    fields_join ws vs 0 (bytes n x ++ rest) f
    (rw (value-front (bytes n x) rest 0 (total ws) (omega arith), ← e, value-bytes n x, e, mod-eq_of_lt (join-lt ws vs f)))

-- what was read is written
pub written_read : (ws s : List ℕ) → 8 * length s ≡ total ws → AreBytes s → bytes (length s) (join ws (fields ws 0 s)) ≡ s
written_read ws s e h = rw (join-fields ws 0 s, ← e, bytes-value s h)

-- the fields of a front
pub fields-front : (ws l m : List ℕ) (at : ℕ) → at + total ws ≤ 8 * length l → fields ws at (l ++ m) ≡ fields ws at l
unfolding fields
fields-front [] l m at h = refl
fields-front (w ∷ ws) l m at h = rw (value-front l m at w (omega arith), fields-front ws l m (at + w) (omega arith))

pub take-bytes : (n : ℕ) (s : List ℕ) → AreBytes s → AreBytes (take n s)
take-bytes zero s b i = omega arith
take-bytes (suc n) [] b i = omega arith
take-bytes (suc n) (x ∷ s) b zero = b 0
take-bytes (suc n) (x ∷ s) b (suc i) = take-bytes n s (λ j. b (suc j)) i

-- what was read from a front is written there
pub written-front : (ws s : List ℕ) (n : ℕ) → n ≤ length s → 8 * n ≡ total ws → AreBytes s → bytes n (join ws (fields ws 0 s)) ≡ take n s
written-front ws s n h e b =
    let t = take n s in
    let l : length t ≡ n = length-take-le n s h in
    let f : fields ws 0 s ≡ fields ws 0 t = ap (fields ws 0) (sym (take-append-drop n s)) ∙ fields-front ws t (drop n s) 0 (omega arith) in
    let w : bytes (length t) (join ws (fields ws 0 t)) ≡ t = written_read ws t (omega arith) (take-bytes n s b) in
    rw f (rw l at w)

-- ---- one layout after another

-- the bytes of a number in two parts
pub bytes-append : (m n x y : ℕ) → y < 2 ^ (8 * n) → bytes (m + n) (x * 2 ^ (8 * n) + y) ≡ bytes m x ++ bytes n y
unfolding bytes
bytes-append zero n x y h = rw (zero-add, bytes_low)
bytes-append (suc m) n x y h =
    let e : 8 * (m + n) ≡ 8 * n + 8 * m = omega arith in
    rw (suc-add, e, pow-add 2 (8 * n) (8 * m), ← div-div-eq-div-mul, high x (8 * n) h, bytes-append m n x y h)

total-append : (ws us : List ℕ) → total (ws ++ us) ≡ total ws + total us
total-append [] us = omega arith
total-append (w ∷ ws) us = rw (total-append ws us, add_assoc)

-- the number of two layouts' values, one after the other
pub join-append : (ws vs us xs : List ℕ) → Fit ws vs → join (ws ++ us) (vs ++ xs) ≡ join ws vs * 2 ^ total us + join us xs
unfolding join
join-append [] [] us xs f = omega arith
join-append [] (v ∷ vs) us xs f = absurd f
join-append (w ∷ ws) [] us xs f = absurd f
join-append (w ∷ ws) (v ∷ vs) us xs f =
    rw (join-append ws vs us xs f.1, total-append ws us, pow-add 2 (total ws) (total us), ← mul_assoc, add-mul, add_assoc)

-- the bytes of two layouts' values, one after the other
pub bytes-join : (m n : ℕ) (ws vs us xs : List ℕ) → 8 * n ≡ total us → Fit ws vs → Fit us xs → bytes (m + n) (join (ws ++ us) (vs ++ xs)) ≡ bytes m (join ws vs) ++ bytes n (join us xs)
bytes-join m n ws vs us xs e g f = rw (join-append ws vs us xs g, ← e) (bytes-append m n (join ws vs) (join us xs) (rw e (join-lt us xs f)))

total-words : (n : ℕ) → total (replicate n 64) ≡ 8 * (8 * n)
total-words zero = refl
total-words (suc n) = omega (arith, total-words n)

-- words side by side, eight bytes each
pub bytes-words : (n : ℕ) (vs : List ℕ) → Fit (replicate n 64) vs → bytes (8 * n) (join (replicate n 64) vs) ≡ in_turn n (λ i. bytes 8 (get_or vs i 0))
unfolding bytes in_turn
bytes-words zero vs f = refl
bytes-words (suc n) [] f = absurd f
bytes-words (suc n) (v ∷ vs) f =
    let e : 8 * suc n ≡ 8 + 8 * n = omega arith in
    rw (e, bytes-join 8 (8 * n) (64 ∷ []) (v ∷ []) (replicate n 64) vs (sym (total-words n)) (f.0, tt) f.1, join_one 64 v, bytes-words n vs f.1, in_turn-front n (λ i. bytes 8 (get_or (v ∷ vs) i 0)))
