-- The bits of a number, and how the operations of a word go on them. Assumes nothing.
use Rattle.std.specs.Prelude.{ℕ, zero, suc, ◌-◌, ◌/◌, ◌%◌, ◌^◌, ◌<◌, ◌≤◌, ◌≡◌, refl, Bool, true, false, not, ◌&&◌, ◌||◌, ltb, eqb}
use Rattle.std.proofs.Common.{sym, ap₂, ◌∙◌, pow-suc, div-one, arith, pow_pos, eqb-true}
use Rattle.std.proofs.Math.Nat.{pow-succ', div-div-eq-div-mul, zero-div}
use Rattle.std.proofs.Math.Dec.{eqb-zero-suc, eqb-suc-zero, eqb-suc-suc, leb-suc-suc, leb-zero, leb-suc-zero}
use Rattle.std.specs.Int.Bits.{bit_and, bit_or, bit_xor, xor_add_and}
use Rattle.std.proofs.lemmas.Nat.{and_shr, or_shr, xor_shr, and_mod, or_mod, xor_mod, and_le_l, and_le_r}
use Rattle.std.proofs.lemmas.Bool.{eqb-false}
use Rattle.basics.specs.Choice.{pick}
use Rattle.basics.proofs.Choice.{pick-cases}

-- is bit j of x set
unfoldable pub bit : ℕ → ℕ → Bool
bit x j = eqb (x / 2 ^ j % 2) 1

-- the lowest bit
pub bit-first : (x : ℕ) → bit x 0 ≡ eqb (x % 2) 1
unfolding bit
bit-first x = rw (div-one x)

-- the bits above it
pub bit-rest : (x j : ℕ) → bit x (suc j) ≡ bit (x / 2) j
unfolding bit
bit-rest x j = rw (pow-succ' 2 j, ← div-div-eq-div-mul x 2 (2 ^ j))

pub bit-zero : (j : ℕ) → bit 0 j ≡ false
unfolding bit
bit-zero j = rw (zero-div (2 ^ j))

pub bit-pow : (i j : ℕ) → bit (2 ^ i) j ≡ eqb i j
bit-pow zero zero = bit-first 1
bit-pow zero (suc j) = bit-rest 1 j ∙ bit-zero j ∙ sym (eqb-zero-suc j)
bit-pow (suc i) zero =
    let h : 2 ^ suc i % 2 ≡ 0 = rw (pow-suc 2 i) (omega arith) in rw (bit-first, h, eqb-suc-zero)
bit-pow (suc i) (suc j) =
    let h : 2 ^ suc i / 2 ≡ 2 ^ i = rw (pow-suc 2 i) (omega arith) in rw (bit-rest, h, eqb-suc-suc) (bit-pow i j)

pub bit-ones : (n j : ℕ) → bit (2 ^ n - 1) j ≡ ltb j n
bit-ones zero j = bit-zero j ∙ sym (leb-suc-zero j)
bit-ones (suc n) zero =
    let h : (2 ^ suc n - 1) % 2 ≡ 1 = rw (pow-suc 2 n) (omega (arith, pow_pos n)) in rw (bit-first, h, leb-suc-suc, leb-zero)
bit-ones (suc n) (suc j) =
    let h : (2 ^ suc n - 1) / 2 ≡ 2 ^ n - 1 = rw (pow-suc 2 n) (omega (arith, pow_pos n)) in
    rw (bit-rest, h, leb-suc-suc) (bit-ones n j)

-- the lowest digit, from its bit
pub digit : (x : ℕ) → x % 2 ≡ pick (eqb (x % 2) 1) 1 0
digit x =
    pick-cases (λ d. x % 2 ≡ d) (eqb (x % 2) 1) 1 0 (eqb-true (x % 2) 1) (λ e. let d = eqb-false (x % 2) 1 e in omega arith)

-- two numbers of n bits with the same bits are equal
pub same_bits : (n x y : ℕ) → x < 2 ^ n → y < 2 ^ n → ((j : ℕ) → j < n → bit x j ≡ bit y j) → x ≡ y
same_bits zero x y hx hy h = omega arith
same_bits (suc n) x y hx hy h =
    let b : eqb (x % 2) 1 ≡ eqb (y % 2) 1 = rw (bit-first x, bit-first y) at (h 0 (omega arith)) in
    let top : x % 2 ≡ y % 2 = digit x ∙ rw b (sym (digit y)) in
    let p = pow-suc 2 n in
    let rest : x / 2 ≡ y / 2 =
    same_bits n (x / 2) (y / 2) (omega arith) (omega arith) (λ j l. rw (bit-rest x j, bit-rest y j) at (h (suc j) (omega arith))) in
    omega arith

-- an operation that goes with shifts and with remainders goes bit by bit, as it goes on the numbers 0 and 1
module _ (op : ℕ → ℕ → ℕ) (g : Bool → Bool → Bool)
    (shr : (a b k : ℕ) → op a b / 2 ^ k ≡ op (a / 2 ^ k) (b / 2 ^ k))
    (rem : (a b k : ℕ) → op a b % 2 ^ k ≡ op (a % 2 ^ k) (b % 2 ^ k))
    (op00 : eqb (op 0 0) 1 ≡ g false false) (op01 : eqb (op 0 1) 1 ≡ g false true)
    (op10 : eqb (op 1 0) 1 ≡ g true false) (op11 : eqb (op 1 1) 1 ≡ g true true) where
  on-digits : (p q : Bool) → eqb (op (pick p 1 0) (pick q 1 0)) 1 ≡ g p q
  on-digits false false = op00
  on-digits false true = op01
  on-digits true false = op10
  on-digits true true = op11

  bit-op : (a b j : ℕ) → bit (op a b) j ≡ g (bit a j) (bit b j)
  unfolding bit
  bit-op a b j =
      let h : op a b / 2 ^ j % 2 ≡ op (pick (bit a j) 1 0) (pick (bit b j) 1 0) =
      rw (shr a b j, rem (a / 2 ^ j) (b / 2 ^ j) 1) (ap₂ op (digit (a / 2 ^ j)) (digit (b / 2 ^ j))) in
      rw h (on-digits (bit a j) (bit b j))

pub bit-or : (a b j : ℕ) → bit (bit_or a b) j ≡ (bit a j || bit b j)
bit-or = bit-op bit_or (λ p q. p || q) or_shr or_mod refl refl refl refl

-- a without the bits that it shares with b
abbrev pub bit_less : ℕ → ℕ → ℕ
bit_less a b = bit_xor a (bit_and a b)

pub bit-less : (a b j : ℕ) → bit (bit_less a b) j ≡ (bit a j && not (bit b j))
bit-less =
    bit-op bit_less (λ p q. p && not q) (λ a b k. rw (xor_shr, and_shr)) (λ a b k. rw (xor_mod, and_mod)) refl refl refl refl

-- nothing of a is outside b only where a is no larger
pub less_none : (a b : ℕ) → bit_less a b ≡ 0 → a ≤ b
less_none a b e =
    omega (arith, xor_add_and a (bit_and a b), and_le_l a (bit_and a b), and_le_r a (bit_and a b), and_le_r a b)
