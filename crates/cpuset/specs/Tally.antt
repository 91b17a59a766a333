-- At how many of the numbers below n a test holds. Assumes nothing.
use Rattle.std.specs.Prelude.{ℕ, zero, suc, ◌+◌, ◌<◌, ◌≡◌, refl, Bool, true, false}
use Rattle.std.proofs.Common.{sym, ap, ◌∙◌, add-zero, add-suc, add_assoc, not-suc-le-zero, arith}
use Rattle.basics.specs.Choice.{pick}
use Rattle.basics.specs.Order.{last-cases}

unfoldable pub tally : ℕ → (ℕ → Bool) → ℕ
tally zero f = 0
tally (suc n) f = tally n f + pick (f n) 1 0

pub tally-same : (n : ℕ) (f g : ℕ → Bool) → ((i : ℕ) → i < n → f i ≡ g i) → tally n f ≡ tally n g
unfolding tally
tally-same zero f g h = refl
tally-same (suc n) f g h = rw (tally-same n f g (λ i l. h i (omega arith)), h n (omega arith))

pub tally-none : (n : ℕ) (f : ℕ → Bool) → ((i : ℕ) → f i ≡ false) → tally n f ≡ 0
unfolding tally
tally-none zero f h = refl
tally-none (suc n) f h = rw (tally-none n f h, h n)

-- the numbers below m, and the n after them
pub tally-split : (m n : ℕ) (f : ℕ → Bool) → tally (m + n) f ≡ tally m f + tally n (λ i. f (m + i))
unfolding tally
tally-split m zero f = rw (add-zero m) (sym (add-zero (tally m f)))
tally-split m (suc n) f =
    rw (add-suc m n, tally-split m n f) (add_assoc (tally m f) (tally n (λ i. f (m + i))) (pick (f (m + n)) 1 0))

-- 0, and the numbers after it
pub tally-first : (n : ℕ) (f : ℕ → Bool) → tally (suc n) f ≡ pick (f 0) 1 0 + tally n (λ i. f (suc i))
unfolding tally
tally-first zero f = omega arith
tally-first (suc n) f = omega (arith, tally-first n f)

-- a test that holds at one number more
pub tally-more :
    (n : ℕ) (f g : ℕ → Bool) (i : ℕ) → i < n → f i ≡ false → g i ≡ true
    → ((j : ℕ) → (j ≡ i → ⊥) → f j ≡ g j) → tally n g ≡ tally n f + 1
unfolding tally
tally-more zero f g i l p q h = absurd (not-suc-le-zero l)
tally-more (suc n) f g i l p q h =
    last-cases
    l
    (λ e. rw (sym (ap f e) ∙ p, sym (ap g e) ∙ q, tally-same n f g (λ j m. h j (λ d. omega arith))) (omega arith))
    (λ m. rw (tally-more n f g i m p q h, h n (λ d. omega arith)) (omega arith))
