-- A refused event changes nothing, and 9 comes only where the record is not well formed: only `Refuse` refuses, and its facts say so.
-- How long the tables are matters only up to the CPU count, since two tests against it are all that asks. Assumes nothing.
use Rattle.std.specs.Prelude.{Err, Ok, Result}
use Prim.Native.Nat.{ℕ, ◌≤◌}
use mathlib.Core.Path.{◌≡◌, refl, ap, subst}
use mathlib.Core.Bool.{true}
use mathlib.Core.List.{List}
use lib.ListN.{length}
use borrow.Author.Tests.{le-ltb}
use Rattle.basics.specs.Choice.{not-both, never}
use Rattle.cpuset.specs.Laws.{has-none}
use Rattle.board.specs.Description.{most_cpus}
use Rattle.board.specs.Packed.{board_stands}
use Rattle.board.specs.declared.Board.{Board}
use Rattle.board.proofs.Laws.{stands-counted}
use Rattle.board_record.specs.Record.{fresh_of}
use Rattle.board_record.specs.WellFormed.{well_formed}
use Rattle.board_record.proofs.Clauses.{told}
use Rattle.board_record.proofs.Laws.{fresh-stands, fresh-sized}
use Rattle.board_record.specs.declared.Record.{Record}
use Rattle.rules.specs.Decide.{decide_of}
use Rattle.rules.specs.declared.Event.{Event}
use Rattle.rules.specs.declared.Move.{Move}
use Rattle.rules.specs.declared.Move.TheVariants as move
use Rattle.rules.specs.declared.Refusal.{Refusal}
use Rattle.rules.specs.declared.Refusal.TheVariants.{NotWellFormed}
use Rattle.rules.proofs.Facts.{Facts}
use Rattle.rules.proofs.Guards.{decide-guard}
use Rattle.agent.specs.Perform.{refused_of, accepted_of, perform_of}
use Rattle.agent.specs.Step.{step_of, stepped, resuming_of, filled, entries_of, contexts_of, after}
use Rattle.agent.specs.declared.Answer.{Answer}
use Rattle.agent.proofs.Written.{written-nobody}
use Rattle.agent.proofs.Kept.{after_kept}

no_answer : {A : Type 0} (a : Answer) (x : Refusal) → Ok a ≡ Err x → A
no_answer a x e = never cc

-- only a refusal refuses
refused-is : (r : Record) (m : Move) (x : Refusal) → (perform_of r m).outcome ≡ Err x → m ≡ move.Refuse x
unfolding refused_of accepted_of
refused-is r (move.Refuse y) x e = cc
refused-is r (move.Return y) x e = no_answer _ x e
refused-is r move.NoteInfo x e = no_answer _ x e
refused-is r (move.StartPrime a) x e = no_answer _ x e
refused-is r (move.Gather a) x e = no_answer _ x e
refused-is r (move.StartTogether a) x e = no_answer _ x e
refused-is r (move.StartAlone a) x e = no_answer _ x e
refused-is r move.ToIdle x e = no_answer _ x e
refused-is r (move.Withdraw id) x e = no_answer _ x e
refused-is r (move.PowerOff cpu) x e = no_answer _ x e
refused-is r (move.PowerOn w) x e = no_answer _ x e
refused-is r (move.EndPrime p) x e = no_answer _ x e
refused-is r move.EndWithdrawn x e = no_answer _ x e
refused-is r (move.EndActivate p) x e = no_answer _ x e
refused-is r (move.NoteImage i) x e = no_answer _ x e

-- the tables where nobody resumes
stays : (o : Result Answer Refusal) (x : Refusal) (from table : List ℕ) → o ≡ Err x → filled (resuming_of o) from table ≡ table
stays o x from table e = rw e (written-nobody _ _ from table has-none)

-- a refused event leaves the record and both tables as they were
pub refused-stays : (r : Record) (e : Event) (entries contexts : List ℕ) (x : Refusal)
    → (step_of r e (length entries) (length contexts)).outcome ≡ Err x
    → ((step_of r e (length entries) (length contexts)).rec ≡ r) × (entries_of r e entries contexts ≡ entries) × (contexts_of r e entries contexts ≡ contexts)
unfolding step_of entries_of contexts_of refused_of
refused-stays r e entries contexts x h =
    let m = decide_of r e (length entries) (length contexts) in (
      ap (λ (n : Move). (perform_of r n).rec) (refused-is r m x h),
      stays (perform_of r m).outcome x _ entries h,
      stays (perform_of r m).outcome x _ contexts h,
    )

-- on a well-formed record refusal 9 never comes
pub never-nine : (r : Record) (e : Event) (entries contexts : ℕ) → well_formed r ≡ true → (step_of r e entries contexts).outcome ≡ Err NotWellFormed → ⊥
unfolding step_of
never-nine r e entries contexts w h =
    let m = decide_of r e entries contexts in
    not-both w (subst (Facts r e) (refused-is r m NotWellFormed h) (decide-guard r e entries contexts) refl)

-- so it never comes to a board that started fresh, whatever happens
pub fresh-never-nine : (b : Board) → board_stands b ≡ true → (es : List Event) (e : Event)
    → (stepped (after (fresh_of b) es) e).outcome ≡ Err NotWellFormed → ⊥
fresh-never-nine b s es e = never-nine (after (fresh_of b) es) e most_cpus most_cpus (after_kept es (fresh_of b) (fresh-stands b s) (fresh-sized b)).0

-- how long the tables are matters only up to the CPU count
pub step-tables : (r : Record) (e : Event) (entries contexts : ℕ) → well_formed r ≡ true → r.board.cpus ≤ entries → r.board.cpus ≤ contexts
    → step_of r e entries contexts ≡ stepped r e
unfolding step_of decide_of
step-tables r e entries contexts w h k =
    let few = (stands-counted r.board (told r w).board).few_cpus in
    rw (w, le-ltb entries r.board.cpus h, le-ltb contexts r.board.cpus k, le-ltb most_cpus r.board.cpus few)
