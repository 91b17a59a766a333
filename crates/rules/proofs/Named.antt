-- A word names a function exactly when it is the function's number. Assumes nothing.
use Rattle.std.specs.Prelude.{None, Option, Some}
use Prim.Native.Nat.{ℕ}
use mathlib.Core.Path.{◌≡◌, refl, ap, ◌∙◌}
use lib.Dec.{eqb}
use borrow.Author.Tests.{eqb-true}
use Rattle.basics.specs.Choice.{pick, never}
use Rattle.basics.proofs.Choice.{pick-cases}
use Rattle.rules.specs.Numbers.{number_for, decode_of}
use Rattle.rules.specs.declared.numbers.Function.{Function}
use Rattle.rules.specs.declared.numbers.Function.TheVariants as function

abbrev number_in : Option Function → ℕ
number_in (Some f) = number_for f
number_in None = 0

-- a choice by w = n: n's function, or what the rest says
choice : (w : ℕ) (f g : Function) (rest : Option Function) → (rest ≡ Some f → w ≡ number_for f) → pick (eqb w (number_for g)) (Some g) rest ≡ Some f → w ≡ number_for f
choice w f g rest k =
    pick-cases (λ (d : Option Function). d ≡ Some f → w ≡ number_for f) (eqb w (number_for g)) (Some g) rest (λ t e. eqb-true w (number_for g) t ∙ ap number_in e) (λ t. k)

pub named : (w : ℕ) (f : Function) → decode_of w ≡ Some f → w ≡ number_for f
unfolding decode_of
named w f =
    choice w f function.Version _ (choice w f function.Features _ (choice w f function.GetInfo _ (choice w f function.GetInventory _
    (choice w f function.Prime _ (choice w f function.Activate _ (choice w f function.Cancel _ (choice w f function.CpuOff _
    (choice w f function.CpuOn None (λ e. never cc)))))))))

pub names : (f : Function) → decode_of (number_for f) ≡ Some f
unfolding decode_of
names function.Version = refl
names function.Features = refl
names function.GetInfo = refl
names function.GetInventory = refl
names function.Prime = refl
names function.Activate = refl
names function.Cancel = refl
names function.CpuOff = refl
names function.CpuOn = refl
