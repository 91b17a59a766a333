-- A number that is one of some is below what these are all below: along both tests at each. Assumes nothing.
use Rattle.std.specs.Prelude.{ℕ, ◌<◌, ◌≡◌, refl, Bool, true, false, List, [], ◌∷◌, eqb, ltb}
use Rattle.std.proofs.Common.{eqb-true, ltb-true, arith}
use Rattle.basics.specs.Choice.{not-both}
use Rattle.basics.specs.Every.{one_of, all_under}
use Rattle.basics.proofs.Choice.{pick-cases}

pub one-under : (n m : ℕ) (ks : List ℕ) → all_under m ks ≡ true → one_of n ks ≡ true → n < m
one-under n m [] = λ u e. absurd (not-both e refl)
one-under n m (k ∷ ks) =
    pick-cases (λ (t : Bool). t ≡ true → one_of n (k ∷ ks) ≡ true → n < m) (ltb k m) (all_under m ks) false
    (λ l u. pick-cases (λ (t : Bool). t ≡ true → n < m) (eqb n k) true (one_of n ks)
    (λ q h. let s = eqb-true n k q in let b = ltb-true k m l in omega arith) (λ q. one-under n m ks u))
    (λ l u. absurd (not-both u refl))
