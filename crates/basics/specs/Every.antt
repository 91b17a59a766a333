-- A test at every number below n, and the laws of a loop that goes through them. Assumes nothing.
use Rattle.std.specs.Prelude.{ℕ, zero, suc, ◌+◌, ◌<◌, ◌≤◌, ◌≡◌, refl, Bool, true, false, ◌&&◌, List, [], ◌∷◌, ◌++◌, eqb, ltb}
use Rattle.std.proofs.Common.{sym, ap, ◌∙◌, add-one, arith, not-suc-le-zero, le_antisymm}
use Rattle.std.proofs.Math.Bool.{and-false, and-true}
use Rattle.basics.specs.Choice.{pick, not-both, and_left, and_right}
use Rattle.basics.specs.Order.{last-cases}

unfoldable pub all_below : ℕ → (ℕ → Bool) → Bool
all_below zero f = true
all_below (suc n) f = all_below n f && f n

-- the loop begins
pub all_none : (f : ℕ → Bool) → all_below 0 f ≡ true
unfolding all_below
all_none f = refl

-- a turn passed
pub all_more : (f : ℕ → Bool) (i : ℕ) → all_below i f ≡ true → f i ≡ true → all_below (i + 1) f ≡ true
unfolding all_below
all_more f i p q = rw (add-one i, p, q)

-- a turn failed
pub all-fails : (n : ℕ) (f : ℕ → Bool) (i : ℕ) → i < n → f i ≡ false → false ≡ all_below n f
unfolding all_below
all-fails zero f i l q = absurd (not-suc-le-zero l)
all-fails (suc n) f i l q =
    last-cases l (λ e. rw (sym (ap f e) ∙ q) (sym (and-false (all_below n f)))) (λ h. rw (sym (all-fails n f i h q)))

-- the loop ended
pub all_done : (n : ℕ) (f : ℕ → Bool) (i : ℕ) → i ≤ n → n ≤ i → all_below i f ≡ true → true ≡ all_below n f
all_done n f i a b p = rw (le_antisymm b a) (sym p)

-- what a client reads
pub all-at : (n : ℕ) (f : ℕ → Bool) → all_below n f ≡ true → (i : ℕ) → i < n → f i ≡ true
unfolding all_below
all-at zero f p i l = absurd (not-suc-le-zero l)
all-at (suc n) f p i l =
    last-cases l (λ e. ap f e ∙ and_right (all_below n f) (f n) p) (all-at n f (and_left (all_below n f) (f n) p) i)

-- what a client shows
pub all_of : (n : ℕ) (f : ℕ → Bool) → ((i : ℕ) → i < n → f i ≡ true) → all_below n f ≡ true
unfolding all_below
all_of zero f h = refl
all_of (suc n) f h = rw (all_of n f (λ i l. h i (omega arith)), h n (omega arith))

-- where the test does not hold at every place, there is one at which it fails
pub record Failing (n : ℕ) (f : ℕ → Bool) : Type 0 where
  pub at : ℕ
  pub below : at < n
  pub fails : f at ≡ false

pub all-not : (n : ℕ) (f : ℕ → Bool) → all_below n f ≡ false → Failing n f
unfolding all_below
all-not zero f e = absurd (not-both refl e)
all-not (suc n) f e = here (f n) refl (λ q. all-not n f q) e
  where
    here : (t : Bool) → f n ≡ t → (all_below n f ≡ false → Failing n f) → (all_below n f && t) ≡ false → Failing (suc n) f
    here false p on q = record { at = n; below = omega arith; fails = p }
    here true p on q = let o = on (sym (and-true (all_below n f)) ∙ q) in record { at = o.at; below = omega (arith, o.below); fails = o.fails }

-- two tests that agree at each place
pub all_same : (n : ℕ) (f g : ℕ → Bool) → ((i : ℕ) → i < n → f i ≡ g i) → all_below n f ≡ all_below n g
unfolding all_below
all_same zero f g h = refl
all_same (suc n) f g h = rw (all_same n f g (λ i l. h i (omega arith)), h n (omega arith))

-- n is one of these numbers
abbrev pub one_of : ℕ → List ℕ → Bool
one_of n [] = false
one_of n (k ∷ ks) = pick (eqb n k) true (one_of n ks)

-- and all are below a number
abbrev pub all_under : ℕ → List ℕ → Bool
all_under m [] = true
all_under m (k ∷ ks) = pick (ltb k m) (all_under m ks) false

-- every entry of a list of examples holds
unfoldable pub all_hold : List Bool → Bool
all_hold [] = true
all_hold (b ∷ bs) = b && all_hold bs

-- and so do two lists as one
pub hold-both : (bs cs : List Bool) → all_hold bs ≡ true → all_hold cs ≡ true → all_hold (bs ++ cs) ≡ true
unfolding all_hold
hold-both [] cs p q = q
hold-both (b ∷ bs) cs p q = rw (and_left b (all_hold bs) p, hold-both bs cs (and_right b (all_hold bs) p) q)
