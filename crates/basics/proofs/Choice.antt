-- How a proof goes along a choice by a test. Assumes nothing.
use Rattle.std.specs.Prelude.{◌≡◌, refl, Bool, true, false}
use Rattle.std.proofs.Common.{sym, subst}
use Rattle.basics.specs.Choice.{pick}

-- a rule that is a nest of picks is answered with a word for each test on the way: `yes` where it held, `no` where it failed
pub yes : {A : Type 0} {b : Bool} {x z : A} (y : A) → b ≡ true → z ≡ x → z ≡ pick b x y
yes {A} {b} {x} {z} y e p = subst (λ (t : Bool). z ≡ pick t x y) (sym e) p

pub no : {A : Type 0} {b : Bool} {y z : A} (x : A) → b ≡ false → z ≡ y → z ≡ pick b x y
no {A} {b} {y} {z} x e p = subst (λ (t : Bool). z ≡ pick t x y) (sym e) p

-- what holds of both ways holds of the choice, each with its test at hand
pub pick-cases : {A : Type 0} (P : A → Type 0) (b : Bool) (x y : A) → (b ≡ true → P x) → (b ≡ false → P y) → P (pick b x y)
pick-cases P true x y t f = t refl
pick-cases P false x y t f = f refl
