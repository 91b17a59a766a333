-- A set as a list of words, whatever their count: number j is bit j % 64 of word j / 64. Assumes nothing.
use Rattle.std.specs.Prelude.{ℕ, zero, suc, ◌+◌, ◌-◌, ◌*◌, ◌/◌, ◌%◌, ◌^◌, ◌<◌, ◌≤◌, min, ◌≡◌, refl, Bool, true, false, ◌&&◌, List, [], ◌∷◌, ltb, eqb, length, get_or}
use Rattle.std.proofs.Common.{sym, ap, ◌∙◌, arith, pow-suc, one-mul, lt_of_lt_of_le, lit<, pow_mono, shl_exact, ext_get_or, lt-ltb, le-ltb, eqb-true, eq-eqb, ne_eqb}
use Rattle.std.proofs.Math.Nat.{min-le_right}
use Rattle.std.proofs.Math.ListN.{get_or-eq_default}
use Rattle.std.proofs.Math.Pow.{pow-lt, ones_lt}
use Rattle.std.specs.Int.Count.{ones, ones_step}
use Rattle.std.proofs.lemmas.Bool.{eqb-false}
use Rattle.basics.specs.Choice.{pick}
use Rattle.basics.proofs.Choice.{pick-cases}
use Rattle.basics.specs.Order.{lt-cases, same-ltb}
use Rattle.basics.specs.Places.{firsts, length-firsts, get_or-firsts, firsts-front}
use Rattle.cpuset.specs.Bit.{bit, bit-first, bit-rest, bit-zero, bit-pow, bit-ones, digit, same_bits}
use Rattle.cpuset.specs.Tally.{tally, tally-same, tally-first, tally-split}

-- is j in the set of these words
abbrev pub member : List ℕ → ℕ → Bool
member ws j = bit (get_or ws (j / 64) 0) (j % 64)

-- each is a word
abbrev pub Words : List ℕ → Type 0
Words [] = Unit
Words (w ∷ ws) = (w < 2 ^ 64) × Words ws

-- ---- sets that are made word by word
word_at : (n : ℕ) (f : ℕ → ℕ) (k : ℕ) → get_or (firsts n f) k 0 ≡ pick (ltb k n) (f k) 0
word_at n f k =
    lt-cases k n (λ l. rw (lt-ltb k n l) (get_or-firsts f n k 0 l))
    (λ l. rw (le-ltb k n l) (get_or-eq_default (firsts n f) 0 {n = k} (omega (arith, length-firsts f n))))

bit-pick : (b : Bool) (x j : ℕ) → bit (pick b x 0) j ≡ (b && bit x j)
bit-pick true x j = refl
bit-pick false x j = bit-zero j

pub member-firsts : (n : ℕ) (f : ℕ → ℕ) (j : ℕ) → member (firsts n f) j ≡ (ltb j (n * 64) && bit (f (j / 64)) (j % 64))
member-firsts n f j =
    let b : ltb (j / 64) n ≡ ltb j (n * 64) = same-ltb (j / 64) n j (n * 64) (λ l. omega arith) (λ l. omega arith) in
    rw (word_at n f (j / 64), bit-pick (ltb (j / 64) n) (f (j / 64)) (j % 64), b)

pub words-firsts : (n : ℕ) (f : ℕ → ℕ) → ((k : ℕ) → f k < 2 ^ 64) → Words (firsts n f)
unfolding firsts
words-firsts zero f h = tt
words-firsts (suc n) f h = rw firsts-front (h 0, words-firsts n (λ k. f (suc k)) (λ k. h (suc k)))

-- what `1 << i` gives
pub one_shl : (i : ℕ) → i < 64 → 1 * 2 ^ i % 2 ^ 64 ≡ 2 ^ i
one_shl i h = shl_exact {a = 1} 1 i 64 (omega arith) (omega arith) ∙ one-mul (2 ^ i)

-- word k of the set of i alone
abbrev pub only_in : ℕ → ℕ → ℕ
only_in i k = pick (eqb (i / 64) k) (2 ^ (i % 64)) 0

pub bit-only : (i j : ℕ) → bit (only_in i (j / 64)) (j % 64) ≡ eqb i j
bit-only i j =
    rw (bit-pick (eqb (i / 64) (j / 64)) (2 ^ (i % 64)) (j % 64), bit-pow) (go (eqb (i / 64) (j / 64)) (eqb (i % 64) (j % 64)) refl refl)
  where
    go : (p q : Bool) → eqb (i / 64) (j / 64) ≡ p → eqb (i % 64) (j % 64) ≡ q → (p && q) ≡ eqb i j
    go false q a b = sym (ne_eqb i j (λ e. eqb-false _ _ a (ap (λ (n : ℕ). n / 64) e)))
    go true false a b = sym (ne_eqb i j (λ e. eqb-false _ _ b (ap (λ (n : ℕ). n % 64) e)))
    go true true a b =
        let x = eqb-true (i / 64) (j / 64) a in
        let y = eqb-true (i % 64) (j % 64) b in
        sym (eq-eqb i j (omega arith))

pub only-fits : (i k : ℕ) → only_in i k < 2 ^ 64
only-fits i k =
    pick-cases (λ w. w < 2 ^ 64) (eqb (i / 64) k) (2 ^ (i % 64)) 0 (λ e. pow-lt {i = i % 64} {j = 64} (omega arith)) (λ e. lit< tt)

-- word k of the set of the numbers below n
abbrev pub below_in : ℕ → ℕ → ℕ
below_in n k = 2 ^ min (n - k * 64) 64 - 1

pub bit_below : (n j : ℕ) → bit (below_in n (j / 64)) (j % 64) ≡ ltb j n
bit_below n j =
    bit-ones (min (n - j / 64 * 64) 64) (j % 64)
    ∙ same-ltb (j % 64) (min (n - j / 64 * 64) 64) j n (λ l. omega arith) (λ l. omega arith)

pub below-fits : (n k : ℕ) → below_in n k < 2 ^ 64
below-fits n k = lt_of_lt_of_le (ones_lt (min (n - k * 64) 64)) (pow_mono (min-le_right (n - k * 64) 64))

-- ---- the words of any set
pub member-first : (w : ℕ) (ws : List ℕ) (j : ℕ) → j < 64 → member (w ∷ ws) j ≡ bit w j
member-first w ws j l =
    let q : j / 64 ≡ 0 = omega arith in
    let r : j % 64 ≡ j = omega arith in
    rw (q, r)

member-rest : (w : ℕ) (ws : List ℕ) (j : ℕ) → member (w ∷ ws) (64 + j) ≡ member ws j
member-rest w ws j =
    let q : (64 + j) / 64 ≡ suc (j / 64) = omega arith in
    let r : (64 + j) % 64 ≡ j % 64 = omega arith in
    rw (q, r)

pub words-at : (ws : List ℕ) → Words ws → (k : ℕ) → get_or ws k 0 < 2 ^ 64
words-at [] p k = lit< tt
words-at (w ∷ ws) p zero = p.0
words-at (w ∷ ws) p (suc k) = words-at ws p.1 k

pub words_of : (ws : List ℕ) → ((k : ℕ) → k < length ws → get_or ws k 0 < 2 ^ 64) → Words ws
words_of [] h = tt
words_of (w ∷ ws) h = (h 0 (omega arith), words_of ws (λ k l. h (suc k) (omega arith)))

pub member-out : (ws : List ℕ) (j : ℕ) → length ws * 64 ≤ j → member ws j ≡ false
member-out ws j l = rw (get_or-eq_default ws 0 {n = j / 64} (omega arith)) (bit-zero (j % 64))

-- as many words with the same members are the same
pub same-words : (ws vs : List ℕ) → length ws ≡ length vs → Words ws → Words vs
    → ((j : ℕ) → j < length ws * 64 → member ws j ≡ member vs j) → ws ≡ vs
same-words ws vs e p q h =
    ext_get_or 0 ws vs e λ k l. same_bits 64 (get_or ws k 0) (get_or vs k 0) (words-at ws p k) (words-at vs q k) λ r m.
    let d : (k * 64 + r) / 64 ≡ k = omega arith in
    let u : (k * 64 + r) % 64 ≡ r = omega arith in
    rw (d, u) at (h (k * 64 + r) (omega arith))

-- ---- how many members
tally-bits : (n x : ℕ) → x < 2 ^ n → tally n (bit x) ≡ ones x
unfolding tally ones
tally-bits zero x h = let z : x ≡ 0 = omega arith in rw z
tally-bits (suc n) x h =
    let first : pick (bit x 0) 1 0 ≡ x % 2 = rw (bit-first x) (sym (digit x)) in
    let rest = tally-same n (λ i. bit x (suc i)) (bit (x / 2)) (λ i l. bit-rest x i) in
    let more = tally-bits n (x / 2) (omega (arith, pow-suc 2 n)) in
    tally-first n (bit x) ∙ omega (arith, ones_step x)

-- what the words' counts of set bits come to
abbrev pub total : List ℕ → ℕ
total [] = 0
total (w ∷ ws) = ones w + total ws

pub tally-words : (ws : List ℕ) → Words ws → tally (length ws * 64) (member ws) ≡ total ws
unfolding tally
tally-words [] p = refl
tally-words (w ∷ ws) p =
    let n = length ws * 64 in
    let e : suc (length ws) * 64 ≡ 64 + n = omega arith in
    let here : tally 64 (member (w ∷ ws)) ≡ ones w =
    tally-same 64 (member (w ∷ ws)) (bit w) (member-first w ws) ∙ tally-bits 64 w p.0 in
    let after : tally n (λ i. member (w ∷ ws) (64 + i)) ≡ total ws =
    tally-same n (λ i. member (w ∷ ws) (64 + i)) (member ws) (λ i l. member-rest w ws i) ∙ tally-words ws p.1 in
    rw (e, tally-split 64 n (member (w ∷ ws)), here, after)
