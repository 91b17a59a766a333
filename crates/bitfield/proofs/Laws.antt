-- The laws of a field's value, by induction on its width, bit by bit; and of writing, by where bytes are cut and joined. Assumes nothing.
use Prim.Native.Nat.{ℕ, zero, suc, ◌+◌, ◌-◌, ◌*◌, ◌/◌, ◌%◌, ◌^◌, ◌≤◌, ◌<◌}
use mathlib.Core.Path.{◌≡◌, refl, sym, ap, ◌∙◌}
use mathlib.Core.List.{List, [], ◌++◌, append_assoc, append-nil}
use native.Mathlib.Nat.{pow-suc, pow-zero, add-suc, add-zero, mul_assoc, add_assoc, mul-suc, div-div-eq-div-mul, mod-eq_of_lt}
use native.Mathlib.Omega.{arith}
use native.Mathlib.Numerals.{add-one}
use lib.ListN.{length, get_or, take, drop, length-append, length-drop, take-append-drop, get_or-eq_default}
use lib.Seq.{paste, length-take-le, drop-drop, drop-append-add, take-length, take_at}
use lib.Pow.{pow_mono, pow_pos}
use Rattle.std.proofs.lemmas.Nat.{one_shl}
use mathlib.Core.Bool.{Bool, true, false}
use lib.Dec.{leb}
use borrow.Author.Tests.{le-leb, lt-leb}
use borrow.Rule.Slice.PartMut.{put_mid}
use Rattle.std.proofs.lemmas.Slice.{put_mid-paste}
use Rattle.basics.proofs.Choice.{pick-cases}
use Rattle.basics.specs.Places.{firsts, length-firsts, get_or-firsts, in_turn, in_turn-more}
use Rattle.basics.specs.Order.{lt-cases}
use Rattle.bitfield.specs.Bits.{AreBytes, widest, widest_bytes, bit_at, value_at, field_at, value_in, bytes, put, room_for, written}

pub bit-lt : (s : List ℕ) (p : ℕ) → bit_at s p < 2
unfolding bit_at
bit-lt s p = omega arith

pub value-lt : (s : List ℕ) (at w : ℕ) → value_at s at w < 2 ^ w
unfolding value_at
value-lt s at zero = omega arith
value-lt s at (suc w) = rw pow-suc (omega (arith, value-lt s at w, bit-lt s (at + w)))

-- the widest field fits a word
pub value-fits : (s : List ℕ) (at w : ℕ) → w ≤ widest → value_at s at w < 2 ^ widest
value-fits s at w h = omega (arith, value-lt s at w, pow_mono {i = w} {j = widest} h)

-- what a caller that has looked at the length reads
pub value-inside : (s : List ℕ) (at w : ℕ) → w ≤ widest → at + w ≤ 8 * length s → value_in (field_at s at w) ≡ value_at s at w
value-inside s at w h g = simp (le-leb _ _ h, le-leb _ _ g)

-- the last bits of a word: what they are by, and all of them
pub one_bit : (w : ℕ) → w < widest → (1 * 2 ^ w % 2 ^ widest ≡ 2 ^ w) × (0 < 2 ^ w)
one_bit w h = (one_shl w widest h, pow_pos w)

pub all_bits : (v w : ℕ) → v < 2 ^ widest → widest ≤ w → v ≡ v % 2 ^ w
all_bits v w h g = sym (mod-eq_of_lt (omega (arith, pow_mono {i = widest} {j = w} g)))

-- two fields side by side are one
pub value-join : (s : List ℕ) (at a b : ℕ) → value_at s at (a + b) ≡ value_at s at a * 2 ^ b + value_at s (at + a) b
unfolding value_at
value-join s at a zero = simp (add-zero, pow-zero) (omega arith)
value-join s at a (suc b) =
    rw (add-suc, pow-suc, add_assoc at a b)
    (omega (arith, value-join s at a b, mul_assoc (value_at s at a) (2 ^ b) 2))

-- a bit of byte k
pub bit-of : (s : List ℕ) (k j : ℕ) → j < 8 → bit_at s (8 * k + j) ≡ get_or s k 0 / 2 ^ (7 - j) % 2
unfolding bit_at
bit-of s k j h =
    let e : (8 * k + j) / 8 ≡ k = omega arith in
    let f : (8 * k + j) % 8 ≡ j = omega arith in
    rw (e, f)

-- the first j bits of a byte are its upper part
pub value-top : (s : List ℕ) (k j : ℕ) → get_or s k 0 < 256 → j ≤ 8 → value_at s (8 * k) j ≡ get_or s k 0 / 2 ^ (8 - j)
unfolding value_at
value-top s k zero h g = omega arith
value-top s k (suc j) h g =
    let m : j < 8 = omega arith in
    let e : 8 - j ≡ suc (7 - j) = omega arith in
    let f : 8 - suc j ≡ 7 - j = omega arith in
    let up : value_at s (8 * k) j ≡ get_or s k 0 / 2 ^ (7 - j) / 2 = value-top s k j h (omega arith) ∙ rw (e, pow-suc, ← div-div-eq-div-mul) in
    rw (up, bit-of s k j m, f) (omega arith)

-- the eight bits of a byte are the byte
pub value-byte : (s : List ℕ) (k : ℕ) → get_or s k 0 < 256 → value_at s (8 * k) 8 ≡ get_or s k 0
value-byte s k h = value-top s k 8 h (omega arith) ∙ omega arith

pub length-bytes : (n x : ℕ) → length (bytes n x) ≡ n
unfolding bytes
length-bytes zero x = refl
length-bytes (suc n) x = ap suc (length-bytes n x)

pub get_or-bytes : (n x i : ℕ) → i < n → get_or (bytes n x) i 0 ≡ x / 2 ^ (8 * (n - 1 - i)) % 256
unfolding bytes
get_or-bytes zero x i h = absurd (omega arith)
get_or-bytes (suc n) x zero h = let e : suc n - 1 - 0 ≡ n = omega arith in rw e
get_or-bytes (suc n) x (suc i) h = let e : suc n - 1 - suc i ≡ n - 1 - i = omega arith in rw e (get_or-bytes n x i (omega arith))

-- a list by its places is bytes where each place is one
pub firsts-bytes : (n : ℕ) (f : ℕ → ℕ) → ((i : ℕ) → f i < 256) → AreBytes (firsts n f)
firsts-bytes n f h i =
    lt-cases i n (λ l. rw (get_or-firsts f n i 0 l) (h i))
    (λ l. rw (get_or-eq_default (firsts n f) 0 {n = i} (omega (arith, length-firsts f n))) (omega arith))

-- ---- writing

pub put-paste : (d : List ℕ) (k : ℕ) (l : List ℕ) → paste d k l (length l) ≡ put d k l
unfolding put
put-paste d k l = rw take-length

-- where nothing is written all stays
pub put-none : (d : List ℕ) → d ≡ put d 0 []
unfolding put
put-none d = refl

put-head : (d : List ℕ) (k j : ℕ) (l : List ℕ) → j ≡ k + length l → j ≤ length d → length (take k d ++ l) ≡ j
put-head d k j l e h = omega (arith, length-append (take k d) l, length-take-le k d (omega arith))

pub take_put : (d : List ℕ) (k j : ℕ) (l : List ℕ) → j ≡ k + length l → j ≤ length d → take j (put d k l) ≡ take k d ++ l
unfolding put
take_put d k j l e h = take_at (take k d ++ l) (drop (k + length l) d) j (put-head d k j l e h)

-- what stands past a write is as it was
pub drop-put : (d : List ℕ) (k j n : ℕ) (l : List ℕ) → j ≡ k + length l → j ≤ length d → drop (j + n) (put d k l) ≡ drop (j + n) d
unfolding put
drop-put d k j n l e h =
    let q = put-head d k j l e h in
    rw (← drop-drop n j d, e) (rw (← drop-append-add (take k d ++ l) (drop (k + length l) d) n, q, e))

-- one write after another, side by side, is one write
pub put-put : (d : List ℕ) (k j : ℕ) (l m : List ℕ) → j ≡ k + length l → j + length m ≤ length d → put (put d k l) j m ≡ put d k (l ++ m)
unfolding put
put-put d k j l m e h =
    let a : j + length m ≡ k + length (l ++ m) = omega (arith, length-append l m) in
    rw (take_put d k j l e (omega arith), drop-put d k j (length m) l e (omega arith), ← append_assoc, a)

-- and so are three
pub put_three : (d b1 b2 b3 : List ℕ) (k i j : ℕ) (x y z : List ℕ) → b1 ≡ put d k x → b2 ≡ put b1 i y → b3 ≡ put b2 j z → i ≡ k + length x → j ≡ i + length y → j + length z ≤ length d → b3 ≡ put d k (x ++ y ++ z)
put_three d b1 b2 b3 k i j x y z e1 e2 e3 li lj h =
    let l = length-append x y in
    let p : b2 ≡ put d k (x ++ y) = rw (e2, e1) (put-put d k i x y li (omega arith)) in
    rw (e3, p) (put-put d k j (x ++ y) z (omega arith) h)

-- writes of m bytes each, one after another from index k on: e is d after i of them
abbrev pub Strung : List ℕ → ℕ → ℕ → (ℕ → List ℕ) → ℕ → List ℕ → Type 0
Strung d k m f i e = (e ≡ put d k (in_turn i f)) × (length (in_turn i f) ≡ m * i)

pub strung-none : (d : List ℕ) (k m : ℕ) (f : ℕ → List ℕ) → Strung d k m f 0 d
unfolding put in_turn
strung-none d k m f = (simp (append-nil, add-zero) (sym (take-append-drop k d)), omega arith)

pub strung-more : (d : List ℕ) (k m : ℕ) (f : ℕ → List ℕ) (i : ℕ) (e e' : List ℕ) → Strung d k m f i e → length (f i) ≡ m → e' ≡ put e (k + m * i) (f i) → k + m * i + m ≤ length d → Strung d k m f (i + 1) e'
strung-more d k m f i e e' s l w h =
    let z = mul-suc m i in
    let n : length (in_turn i f ++ f i) ≡ m * (i + 1) = rw add-one (omega (arith, length-append (in_turn i f) (f i), s.1)) in
    rw in_turn-more (rw (w, s.0) (put-put d k (k + m * i) (in_turn i f) (f i) (omega (arith, s.1)) (omega arith)), n)

-- the ways that a write ends
module _ (s : List ℕ) (k n : ℕ) where
  pub too_wide : widest_bytes < n → room_for s k n ≡ false
  unfolding room_for
  too_wide h = simp (lt-leb _ _ h)

  pub past_end : length s < k + n → room_for s k n ≡ false
  unfolding room_for
  past_end h = simp (lt-leb _ _ h) (pick-cases (λ (b : Bool). b ≡ false) (leb n widest_bytes) false false (λ _. refl) (λ _. refl))

  pub room : n ≤ widest_bytes → k + n ≤ length s → room_for s k n ≡ true
  unfolding room_for
  room h g = simp (le-leb _ _ h, le-leb _ _ g)

module _ (s : List ℕ) (k n x : ℕ) where
  pub refused : room_for s k n ≡ false → (false ≡ room_for s k n) × (s ≡ written s k n x)
  unfolding written
  refused e = rw e (refl, refl)

  pub written-inside : room_for s k n ≡ true → written s k n x ≡ put s k (bytes n x)
  unfolding written
  written-inside e = rw e

-- a part that was written
pub put_mid-put : (d : List ℕ) (k m n x : ℕ) (new : List ℕ) → new ≡ bytes (length (take m (drop k d))) x → m ≡ n → n ≤ widest_bytes → k + n ≤ length d → put_mid k m d new ≡ written d k n x
put_mid-put d k m n x new e q h g =
    let l : length (take m (drop k d)) ≡ n = omega (arith, length-take-le m (drop k d) (omega (arith, length-drop k d))) in
    let w : new ≡ bytes n x = rw l at e in
    put_mid-paste k m d new (bytes n x) (length (bytes n x)) w (length-bytes n x ∙ sym q) refl
    ∙ put-paste d k (bytes n x)
    ∙ sym (written-inside d k n x (room d k n h g))
