-- What comes before the rules of an event: whatever goes on from it goes along its three tests. Assumes nothing.
use Rattle.std.specs.Prelude.{Err, Ok, Result}
use Prim.Native.Nat.{ℕ}
use mathlib.Core.Path.{◌≡◌, refl}
use mathlib.Core.Bool.{Bool, true, false}
use mathlib.Core.List.{List, []}
use lib.Dec.{ltb}
use Rattle.basics.specs.First.{Row, first_of}
use Rattle.board_record.specs.WellFormed.{well_formed}
use Rattle.board_record.specs.declared.Record.{Record}
use Rattle.rules.specs.Statuses.{number_of}
use Rattle.rules.specs.Decide.{admitted, admission_of}
use Rattle.rules.specs.Moves.{refusal_of, admission_rows}
use Rattle.rules.specs.declared.Refusal.{Refusal}
use Rattle.rules.specs.declared.Refusal.TheVariants.{NotWellFormed, TableShort}

-- what holds whichever of the tests decides
by_tests : {P : Type 0} (r : Record) (entries contexts : ℕ) → let cpus = r.board.cpus in (well_formed r ≡ false → P)
    → (well_formed r ≡ true → ltb entries cpus ≡ true → P)
    → (well_formed r ≡ true → ltb entries cpus ≡ false → ltb contexts cpus ≡ true → P)
    → (well_formed r ≡ true → ltb entries cpus ≡ false → ltb contexts cpus ≡ false → P)
    → P
by_tests {P} r entries contexts nine short short-too long = go (well_formed r) (ltb entries r.board.cpus) (ltb contexts r.board.cpus) refl refl refl
  where
    go : (a b c : Bool) → well_formed r ≡ a → ltb entries r.board.cpus ≡ b → ltb contexts r.board.cpus ≡ c → P
    go false b c w e d = nine w
    go true true c w e d = short w e
    go true false true w e d = short-too w e d
    go true false false w e d = long w e d

-- going on from an admission: what is given where it is one, else what is made of its refusal
abbrev pub onward : {A : Type 0} → (Refusal → A) → A → Result Unit Refusal → A
onward refuse given (Ok tt) = given
onward refuse given (Err x) = refuse x

pub goes_on : {A : Type 0} (refuse : Refusal → A) (given : A) (r : Record) (entries contexts : ℕ) (a : Result Unit Refusal)
    → a ≡ admission_of r entries contexts → onward refuse given a ≡ admitted refuse r entries contexts given
unfolding admission_of
goes_on refuse given r entries contexts a q = rw q (by_tests r entries contexts (λ w. rw w) (λ w e. rw (w, e)) (λ w e d. rw (w, e, d)) (λ w e d. rw (w, e, d)))

-- the number of what is given is the first of the table that applies
pub admitted-first : {A : Type 0} (refuse : Refusal → A) (number : A → ℕ) → ((x : Refusal) → number (refuse x) ≡ number_of x)
    → (r : Record) (entries contexts : ℕ) (given : A) (rows : List Row) → (well_formed r ≡ true → number given ≡ first_of rows)
    → number (admitted refuse r entries contexts given) ≡ first_of (admission_rows r entries contexts rows)
admitted-first refuse number refusal r entries contexts given rows next =
    by_tests r entries contexts (λ w. rw w (refusal NotWellFormed)) (λ w e. rw (w, e) (refusal TableShort)) (λ w e d. rw (w, e, d) (refusal TableShort))
    (λ w e d. rw (w, e, d) (next w))

pub admission-first : (r : Record) (entries contexts : ℕ) (a : Result Unit Refusal) → a ≡ admission_of r entries contexts
    → refusal_of a ≡ first_of (admission_rows r entries contexts [])
unfolding admission_of
admission-first r entries contexts a q = rw q (admitted-first Err refusal_of (λ x. refl) r entries contexts (Ok tt) [] (λ w. refl))

-- what the check cites of `admit`
pub ruleset admissions = (admission-first)
