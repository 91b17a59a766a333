-- A number's bytes turned round twice are the number, by what each place holds, of any n bytes from byte k on. `number` goes by it:
-- `swapped-back` (ByBytes) is this law of a whole slice, by the kit's words. Assumes nothing.
use Prim.Native.Nat.{ℕ, zero, suc, ◌+◌, ◌-◌, ◌*◌, ◌/◌, ◌%◌, ◌^◌, ◌≤◌, ◌<◌}
use mathlib.Core.Path.{◌≡◌, refl, sym, ap, ◌∙◌}
use mathlib.Core.List.{List}
use native.Mathlib.Nat.{zero-add}
use native.Mathlib.Omega.{arith}
use native.Mathlib.Numerals.{add-one}
use lib.ListN.{length, get_or}
use lib.Pow.{high}
use Rattle.basics.specs.Places.{firsts, length-firsts, get_or-firsts}
use Rattle.bitfield.specs.Bits.{AreBytes, widest, widest_bytes, value_at, bytes}
use Rattle.bitfield.proofs.Laws.{value-lt, value-join, value-byte, get_or-bytes, firsts-bytes}
use Rattle.bitfield.proofs.Round.{bytes-value}

no-bytes : (s : List ℕ) (p : ℕ) → value_at s p 0 ≡ 0
unfolding value_at
no-bytes s p = refl

-- one byte more
byte_more : (s : List ℕ) (k i : ℕ) → get_or s (k + i) 0 < 256 → value_at s (8 * k) (8 * (i + 1)) ≡ value_at s (8 * k) (8 * i) * 256 + get_or s (k + i) 0
byte_more s k i h =
    let w : 8 * (i + 1) ≡ 8 * i + 8 = omega arith in
    let at : 8 * k + 8 * i ≡ 8 * (k + i) = omega arith in
    rw (w, value-join s (8 * k) (8 * i) 8, at, value-byte s (k + i) h)

-- the bytes of the number that bytes write in the other order, turned again
turned-byte : (s : List ℕ) (k n x i : ℕ) → AreBytes s → i < n → x ≡ value_at (firsts n (λ j. get_or s (k + (n - 1 - j)) 0)) 0 (8 * n) → x / 2 ^ (8 * i) % 256 ≡ get_or s (k + i) 0
turned-byte s k n x i b h e =
    let f : ℕ → ℕ = λ j. get_or s (k + (n - 1 - j)) 0 in
    let m : length (firsts n f) ≡ n = length-firsts f n in
    let w : bytes n x ≡ firsts n f = rw e (rw m at (bytes-value (firsts n f) (firsts-bytes n f (λ j. b (k + (n - 1 - j)))))) in
    let j : n - 1 - (n - 1 - i) ≡ i = omega arith in
    let p : get_or (bytes n x) (n - 1 - i) 0 ≡ x / 2 ^ (8 * i) % 256 = get_or-bytes n x (n - 1 - i) (omega arith) ∙ rw j in
    let q : get_or (firsts n f) (n - 1 - i) 0 ≡ get_or s (k + i) 0 = get_or-firsts f n (n - 1 - i) 0 (omega arith) ∙ rw j in
    sym p ∙ ap (λ (l : List ℕ). get_or l (n - 1 - i) 0) w ∙ q

-- the same bytes write the same number
value_same : (l s : List ℕ) (k n : ℕ) → AreBytes s → ((i : ℕ) → i < n → get_or l i 0 ≡ get_or s (k + i) 0) → value_at l 0 (8 * n) ≡ value_at s (8 * k) (8 * n)
value_same l s k zero b h = no-bytes l 0 ∙ sym (no-bytes s (8 * k))
value_same l s k (suc n) b h =
    let g : get_or l (0 + n) 0 ≡ get_or s (k + n) 0 = rw zero-add (h n (omega arith)) in
    rw (← add-one n, byte_more l 0 n (rw g (b (k + n))), byte_more s k n (b (k + n)), g, value_same l s k n b (λ i m. h i (omega arith)))

-- n bytes turned twice are the upper ones of a word
pub turned-back : (s : List ℕ) (k n y x : ℕ) → AreBytes s → n ≤ widest_bytes → y ≡ value_at (firsts n (λ i. get_or s (k + (n - 1 - i)) 0)) 0 (8 * n) → x ≡ value_at (firsts widest_bytes (λ i. y / 2 ^ (8 * i) % 256)) 0 widest → x / 2 ^ (8 * (widest_bytes - n)) ≡ value_at s (8 * k) (8 * n)
turned-back s k n y x b h e q =
    let f : ℕ → ℕ = λ i. y / 2 ^ (8 * i) % 256 in
    let l = firsts widest_bytes f in
    let rest = 8 * (widest_bytes - n) in
    let w : widest ≡ 8 * n + rest = omega arith in
    let top : x / 2 ^ rest ≡ value_at l 0 (8 * n) = rw (q, w, value-join l 0 (8 * n) rest, high (value_at l 0 (8 * n)) rest (value-lt l (0 + 8 * n) rest)) in
    top ∙ value_same l s k n b (λ i m. get_or-firsts f widest_bytes i 0 (omega arith) ∙ turned-byte s k n y i b m e)
