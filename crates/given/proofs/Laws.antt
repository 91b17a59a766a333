-- By induction on the first digits: what digits write is what the first of them write, moved up by the rest, and what the rest write.
-- Assumes nothing.
use Rattle.std.specs.Prelude.{None, Some}
use Prim.Native.Nat.{ℕ, ◌+◌, ◌-◌, ◌*◌, ◌/◌, ◌^◌, ◌≤◌, ◌<◌}
use Prim.Native.Char.{Char, code}
use mathlib.Core.Path.{◌≡◌, ap}
use mathlib.Core.Bool.{true, false, and-false}
use mathlib.Core.List.{List, [], ◌∷◌, ◌++◌}
use native.Mathlib.Nat.{add_assoc, add-zero, add-mul, mul_assoc, mul-one, one-mul, one-le-pow, mul-le-mul_left, le-div_iff_mul-le, div-lt_iff_lt-mul, pow-zero, pow-suc}
use native.Mathlib.Numerals.{add-one}
use native.Mathlib.Omega.{arith}
use borrow.Author.Tests.{lt-ltb, le-ltb, le-leb, leb-true}
use lib.Dec.{leb}
use lib.ListN.{length, get_or, take, drop, length-append, take-append-drop, get_or-eq_default}
use lib.Seq.{take-suc, take-length}
use lib.Pow.{pow-add}
use Rattle.basics.specs.Choice.{refuted, both}
use Rattle.basics.specs.Every.{all_below, all-fails}
use Rattle.given.specs.Numerals.{is_from, digit_of, is_digit_at, value_of, is_number, written_in, is_hex}

inside : (first last : Char) (b : ℕ) → code first ≤ b → b ≤ code last → is_from first last b ≡ true
inside first last b l u = rw (le-leb (code first) b l, le-leb b (code last) u)

outside : (first last : Char) (b : ℕ) → (code first ≤ b → b ≤ code last → ⊥) → is_from first last b ≡ false
outside first last b f =
    refuted _ (λ e. let h = both (leb (code first) b) (leb b (code last)) e in f (leb-true (code first) b h.0) (leb-true b (code last) h.1))

-- the four kinds of bytes
module _ (b : ℕ) where
  pub decimal : 48 ≤ b → b ≤ 57 → b - 48 ≡ digit_of b
  unfolding digit_of
  decimal l u = rw (inside "0" "9" b l u)

  pub lower : 97 ≤ b → b ≤ 102 → b - 97 + 10 ≡ digit_of b
  unfolding digit_of
  lower l u = rw (outside "0" "9" b (λ h k. omega arith), inside "a" "f" b l u)

  pub upper : 65 ≤ b → b ≤ 70 → b - 65 + 10 ≡ digit_of b
  unfolding digit_of
  upper l u = rw (outside "0" "9" b (λ h k. omega arith), outside "a" "f" b (λ h k. omega arith), inside "A" "F" b l u)

  pub other : (48 ≤ b → b ≤ 57 → ⊥) → (97 ≤ b → b ≤ 102 → ⊥) → (65 ≤ b → b ≤ 70 → ⊥) → 16 ≡ digit_of b
  unfolding digit_of
  other f g h = rw (outside "0" "9" b f, outside "a" "f" b g, outside "A" "F" b h)

module _ (base : ℕ) where
  value-append : (s t : List ℕ) → value_of base (s ++ t) ≡ value_of base s * base ^ length t + value_of base t
  unfolding value_of
  value-append [] t = omega arith
  value-append (b ∷ s) t =
      rw (value-append s t, length-append s t, pow-add base (length s) (length t), add-mul, mul_assoc, add_assoc)

  value-one : (b : ℕ) → value_of base (b ∷ []) ≡ digit_of b
  unfolding value_of
  value-one b = rw (pow-zero base, mul-one, add-zero)

  module _ (s : List ℕ) where
    -- a digit more
    pub value-more : (i v d : ℕ) → i < length s → v ≡ value_of base (take i s) → d ≡ digit_of (get_or s i 0) → v * base + d ≡ value_of base (take (i + 1) s)
    value-more i v d l p q =
        rw (p, q, add-one, take-suc s i 0, value-append, value-one, pow-suc base 0, pow-zero base, one-mul)

    -- more digits never write less
    pub value-front : (i : ℕ) → 0 < base → value_of base (take i s) ≤ value_of base s
    value-front i h =
        let e = ap (value_of base) (take-append-drop i s) in
        let a = value-append (take i s) (drop i s) in
        let m = mul-le-mul_left (value_of base (take i s)) (one-le-pow (length (drop i s)) base h) in
        omega arith

    -- what a word writes: no number where it is empty, a byte is no digit, or the number is too large
    pub of_none : length s ≡ 0 → None ≡ written_in base s
    unfolding written_in is_number
    of_none e = rw e

    pub of-no-digit : (i : ℕ) → i < length s → base ≤ digit_of (get_or s i 0) → None ≡ written_in base s
    unfolding written_in is_number
    of-no-digit i l h = rw (← all-fails (length s) (is_digit_at base s) i l (le-ltb _ _ h), and-false)

    pub of-too-large : 2 ^ 64 ≤ value_of base s → None ≡ written_in base s
    unfolding written_in is_number
    of-too-large h = rw (le-ltb _ _ h, and-false)

    pub of_number : (i v : ℕ) → 0 < length s → i ≡ length s → v ≡ value_of base (take i s) → v < 2 ^ 64 → all_below i (is_digit_at base s) ≡ true → Some v ≡ written_in base s
    unfolding written_in is_number
    of_number i v l e p h a =
        let w : v ≡ value_of base s = rw (e, take-length) at p in
        rw (lt-ltb 0 (length s) l, ← e, a, ← w, lt-ltb v (2 ^ 64) h)

-- the test before a turn: whether what it makes is within the largest number
module _ (v d base most : ℕ) where
  pub stays : v ≤ (most - d) / base → 0 < base → d ≤ most → v * base + d ≤ most
  stays g b l = omega (arith, (le-div_iff_mul-le b).0 g)

  pub passes : (most - d) / base < v → 0 < base → d ≤ most → most < v * base + d
  passes g b l = omega (arith, (div-lt_iff_lt-mul b).0 g)

-- a word of fewer than two bytes does not open with `0x`
pub short : (word : List ℕ) → length word < 2 → is_hex word ≡ false
unfolding is_hex
short word h = rw (get_or-eq_default word 0 {n = 1} (omega arith), and-false)
