-- Fields by bytes: what bytes write, by the kit's words for the bytes of a number; a field is cut out of the number of the bytes that
-- cover it. Assumes nothing.
use Prim.Native.Nat.{ℕ, zero, suc, ◌+◌, ◌-◌, ◌*◌, ◌/◌, ◌%◌, ◌^◌, ◌≤◌, ◌<◌}
use mathlib.Core.Path.{◌≡◌, refl, sym, ap, subst, ◌∙◌}
use mathlib.Core.List.{List, [], ◌∷◌, ◌++◌, reverse}
use native.Mathlib.Nat.{zero-add, suc-add, add-mul, mul_assoc, add_assoc, mod-eq_of_lt}
use native.Mathlib.Omega.{arith}
use lib.ListN.{length, take, drop, get_or, take-append-drop, get_or-eq_default, length-drop}
use lib.Seq.{length-take-le, take_all}
use lib.Pow.{high, low, shl_exact, pow-add, pow_pos}
use lib.Arith.{digits_lt}
use Rattle.std.specs.Prelude.{bit_or}
use Rattle.std.specs.List.{fold}
use Rattle.std.specs.Int.{w64, to_be_bytes, to_le_bytes, from_be_bytes, swap_bytes}
use Rattle.std.proofs.lemmas.List.{ext_get_or, length-reverse, get_or-reverse}
use Rattle.std.proofs.lemmas.Nat.{or_shifted, be_bytes_8}
use Rattle.basics.specs.Order.{lt-cases}
use Rattle.basics.specs.Places.{firsts, length-firsts, get_or-firsts}
use Rattle.bitfield.specs.Bits.{AreBytes, widest, widest_bytes, value_at, bytes}
use Rattle.bitfield.proofs.Laws.{value-lt, value-join, length-bytes, get_or-bytes}
use Rattle.bitfield.proofs.Round.{value-cons, value-bytes, value-front, value-drop}
use Rattle.bitfield.proofs.Turned.{turned-back}

-- no bytes write 0
pub value_none : (s : List ℕ) → length s ≡ 0 → 0 ≡ value_at s 0 (8 * length s)
unfolding value_at
value_none s h = rw h

-- a field of the m bytes from byte k on
pub value-part : (s : List ℕ) (k m p w : ℕ) → k + m ≤ length s → p + w ≤ 8 * m → value_at (take m (drop k s)) p w ≡ value_at s (8 * k + p) w
value-part s k m p w h g =
    let l = drop k s in
    let n : length (take m l) ≡ m = length-take-le m l (omega (arith, length-drop k s)) in
    sym (value-front (take m l) (drop m l) p w (omega arith)) ∙ ap (λ (t : List ℕ). value_at t p w) (take-append-drop m l) ∙ value-drop s k p w

-- the number of the first m bytes
pub value-take : (s : List ℕ) (m : ℕ) → m ≤ length s → value_at (take m s) 0 (8 * length (take m s)) ≡ value_at s 0 (8 * m)
value-take s m h =
    let n : length (take m s) ≡ m = length-take-le m s h in
    let e : value_at (take m s ++ drop m s) 0 (8 * m) ≡ value_at (take m s) 0 (8 * m) = value-front (take m s) (drop m s) 0 (8 * m) (omega arith) in
    rw n (rw (take-append-drop m s) at (sym e))

-- ---- the number of bytes

-- bytes that are shifted in one by one, after a number that leaves room for them
pub fold-bytes : (l : List ℕ) (v : ℕ) → AreBytes l → length l ≤ widest_bytes → v < 2 ^ (8 * (widest_bytes - length l)) → fold (λ v b. bit_or (v * 2 ^ 8 % 2 ^ 64) b) v l ≡ v * 2 ^ (8 * length l) + value_at l 0 (8 * length l)
unfolding value_at
fold-bytes [] v b h lt = omega arith
fold-bytes (x ∷ l) v b h lt =
    let n = length l in
    let room : 8 * (widest_bytes - n) ≡ 8 * (widest_bytes - suc n) + 8 = omega arith in
    let within : 8 * (widest_bytes - suc n) + 8 ≤ widest = omega arith in
    let step : bit_or (v * 2 ^ 8 % 2 ^ 64) x ≡ v * 256 + x = rw (shl_exact _ 8 64 lt within) (or_shifted v 8 x (b 0)) in
    let fits : v * 256 + x < 2 ^ (8 * (widest_bytes - n)) = rw (room, pow-add 2 (8 * (widest_bytes - suc n)) 8) (digits_lt lt (b 0)) in
    let e : 8 * suc n ≡ 8 + 8 * n = omega arith in
    let w = value_at l 0 (8 * n) in
    let more : fold (λ v b. bit_or (v * 2 ^ 8 % 2 ^ 64) b) (v * 256 + x) l ≡ (v * 256 + x) * 2 ^ (8 * n) + w = fold-bytes l (v * 256 + x) (λ i. b (suc i)) (omega arith) fits in
    rw (step, more, value-cons x l n (b 0), e, pow-add 2 8 (8 * n), add-mul, mul_assoc, add_assoc)

pub to-be-bytes : (x : ℕ) → to_be_bytes w64 x ≡ bytes widest_bytes x
unfolding bytes
to-be-bytes x =
    let e : x / 2 ^ (8 * 0) % 256 ≡ x % 256 = omega arith in
    rw e

bytes-drop : (m n x : ℕ) → drop m (bytes (m + n) x) ≡ bytes n x
unfolding bytes
bytes-drop zero n x = rw zero-add
bytes-drop (suc m) n x = rw suc-add (bytes-drop m n x)

-- the last of a word's bytes are those of as many
pub last-bytes : (l : List ℕ) (n x : ℕ) → n ≤ widest_bytes → l ≡ to_be_bytes w64 x → take (widest_bytes - (widest_bytes - n)) (drop (widest_bytes - n) l) ≡ bytes n x
last-bytes l n x h e =
    let m : widest_bytes - n + n ≡ widest_bytes = omega arith in
    let k : widest_bytes - (widest_bytes - n) ≡ n = omega arith in
    let d : drop (widest_bytes - n) (bytes widest_bytes x) ≡ bytes n x = rw m at (bytes-drop (widest_bytes - n) n x) in
    rw (e, to-be-bytes x, d, k) (take_all n (bytes n x) (omega (arith, length-bytes n x)))

-- the number of a word's bytes
be-value : (l : List ℕ) (x : ℕ) → length l ≡ widest_bytes → AreBytes l → x < 2 ^ widest → x ≡ from_be_bytes w64 l → x ≡ value_at l 0 widest
be-value l x h b lt e =
    let w : bytes widest_bytes x ≡ l = sym (to-be-bytes x) ∙ be_bytes_8 l x h b e in
    sym (ap (λ (t : List ℕ). value_at t 0 widest) (sym w) ∙ value-bytes widest_bytes x ∙ mod-eq_of_lt lt)

turned-are-bytes : (s : List ℕ) → AreBytes s → AreBytes (reverse s)
turned-are-bytes s b i =
    lt-cases i (length s) (λ l. rw (get_or-reverse s i 0 l) (b _))
    (λ l. rw (get_or-eq_default (reverse s) 0 {n = i} (omega (arith, length-reverse s))) (omega arith))

bytes-are-bytes : (n x : ℕ) → AreBytes (bytes n x)
bytes-are-bytes n x i =
    lt-cases i n (λ l. rw (get_or-bytes n x i l) (omega arith))
    (λ l. rw (get_or-eq_default (bytes n x) 0 {n = i} (omega (arith, length-bytes n x))) (omega arith))

-- a word's bytes, lowest first
low_first : (y : ℕ) → to_le_bytes w64 y ≡ reverse (bytes widest_bytes y)
low_first y =
    let e : to_le_bytes w64 y ≡ reverse (to_be_bytes w64 y) = refl in
    e ∙ ap reverse (to-be-bytes y)

-- a list turned round, by its places
turned-places : (s : List ℕ) (n : ℕ) (f : ℕ → ℕ) → length s ≡ n → ((i : ℕ) → i < n → get_or s (n - 1 - i) 0 ≡ f i) → reverse s ≡ firsts n f
turned-places s n f e h =
    ext_get_or 0 (reverse s) (firsts n f) (omega (arith, length-reverse s, length-firsts f n, e))
    (λ i m.
    let l : i < n = omega (arith, length-reverse s, e) in
    let j : length s - 1 - i ≡ n - 1 - i = omega (arith, e) in
    get_or-reverse s i 0 (omega (arith, e)) ∙ ap (λ (k : ℕ). get_or s k 0) j ∙ h i l ∙ sym (get_or-firsts f n i 0 l))

-- a word's bytes, lowest first, by what each has of it
low-places : (y : ℕ) → to_le_bytes w64 y ≡ firsts widest_bytes (λ i. y / 2 ^ (8 * i) % 256)
low-places y =
    low_first y
    ∙ turned-places (bytes widest_bytes y) widest_bytes (λ i. y / 2 ^ (8 * i) % 256) (length-bytes widest_bytes y)
    (λ i l.
    let j : widest_bytes - 1 - (widest_bytes - 1 - i) ≡ i = omega arith in
    get_or-bytes widest_bytes y (widest_bytes - 1 - i) (omega arith) ∙ rw j)

-- bytes that are read in the other order and swapped are the upper ones of a word: `turned-back`, by the kit's words
pub swapped-back : (s : List ℕ) (y x : ℕ) → AreBytes s → length s ≤ widest_bytes → y ≡ fold (λ v b. bit_or (v * 2 ^ 8 % 2 ^ 64) b) 0 (reverse s) → x ≡ swap_bytes w64 y → x < 2 ^ widest → x / 2 ^ (8 * (widest_bytes - length s)) ≡ value_at s 0 (8 * length s)
swapped-back s y x b h e q lt =
    let n = length s in
    let f : ℕ → ℕ = λ i. get_or s (0 + (n - 1 - i)) 0 in
    let l = to_le_bytes w64 y in
    let len = length-reverse s in
    let other : y ≡ value_at (reverse s) 0 (8 * n) = e ∙ fold-bytes (reverse s) 0 (turned-are-bytes s b) (omega arith) (pow_pos _) ∙ rw len (omega arith) in
    let from : reverse s ≡ firsts n f = turned-places s n f refl (λ i m. rw zero-add) in
    let fit : AreBytes l = subst AreBytes (sym (low_first y)) (turned-are-bytes (bytes widest_bytes y) (bytes-are-bytes widest_bytes y)) in
    let v : x ≡ value_at l 0 widest = be-value l x refl fit lt q in
    turned-back s 0 n y x b h (other ∙ ap (λ (t : List ℕ). value_at t 0 (8 * n)) from) (v ∙ ap (λ (t : List ℕ). value_at t 0 widest) (low-places y))

-- ---- a field of a number

-- the last w of b bits that write x
pub value_low : (s : List ℕ) (p a w b x : ℕ) → b ≡ a + w → x ≡ value_at s p b → x % 2 ^ w ≡ value_at s (p + a) w
value_low s p a w b x h e = rw (e, h, value-join s p a w, low (value_at s p a) w (value-lt s (p + a) w))

-- a field amid them: t bits stand past it
pub value-cut : (s : List ℕ) (p a w b t x : ℕ) → b ≡ a + w + t → x ≡ value_at s p b → x / 2 ^ t % 2 ^ w ≡ value_at s (p + a) w
value-cut s p a w b t x h e =
    value_low s p a w (a + w) (x / 2 ^ t) refl (rw (e, h, value-join s p (a + w) t, high (value_at s p (a + w)) t (value-lt s (p + (a + w)) t)))

-- a field in two parts, of which the first is shifted to its place in a word
pub value-joined : (s : List ℕ) (p a b : ℕ) → a + b ≤ widest → value_at s p a * 2 ^ b % 2 ^ widest + value_at s (p + a) b ≡ value_at s p (a + b)
value-joined s p a b h = rw (shl_exact a b widest (value-lt s p a) h, value-join)
