-- What is explained, in numbers: one case for each way the walk ended, and of an asked call one for each outcome. Assumes nothing.
use Rattle.std.specs.Prelude.{Err, Ok, Result}
use Prim.Native.Nat.{ℕ}
use mathlib.Core.Path.{◌≡◌, refl, sym, ap, ◌∙◌}
use mathlib.Core.Bool.{true}
use mathlib.Core.List.{List}
use native.Mathlib.Omega.{arith}
use borrow.Author.Tests.{eqb-false, le-ltb}
use Rattle.basics.specs.First.{first_of}
use Rattle.board.specs.Description.{most_cpus, number_of as board_number}
use Rattle.board.proofs.Laws.{stands-counted}
use Rattle.board.proofs.Numbers.{number-some as board-some}
use Rattle.board_record.specs.WellFormed.{well_formed}
use Rattle.board_record.specs.declared.Record.{Record}
use Rattle.board_record.proofs.Clauses.{told}
use Rattle.log_record.specs.Rules.{number_of as log_number}
use Rattle.log_record.proofs.Numbers.{number-some as log-some}
use Rattle.rules.specs.Moves.{rows_for, event_rows}
use Rattle.rules.specs.Statuses.{number_of as call_number}
use Rattle.rules.specs.declared.Event.{Event}
use Rattle.rules.specs.declared.Event.TheVariants as event
use Rattle.rules.proofs.Moves.{number-some}
use Rattle.agent.specs.Numbers.{refused_with as only_refused, accepted_with, said_of}
use Rattle.agent.proofs.Numbers.{step-answers}
use Rattle.history.specs.Walk.{walked, walked_of}
use Rattle.history.proofs.Kept.{walked-kept}
use Rattle.reason.specs.Reason.{call_of, reason_of}
use Rattle.reason.specs.Explained.{called_by, outcome_at, called_of, explained_by, explained_of}
use Rattle.reason.specs.Numbers.{because_of, refused_with, numbers_of, Explains}
use Rattle.reason.specs.declared.Activate.{Activate}
use Rattle.history.specs.declared.Stop.TheVariants as stop
use Rattle.agent.specs.declared.Answer.{Answer}
use Rattle.rules.specs.declared.Refusal.{Refusal}
use Rattle.history.specs.declared.Stop.{Stop}
use Rattle.reason.specs.declared.Reason.{Reason}
use Rattle.reason.specs.declared.Unexplained.{Unexplained}

-- of a well-formed record, with tables that are long enough, only 2, 3 and 4 can apply to a call
rows-only : (r : Record) → well_formed r ≡ true → (e : Event) → first_of (event_rows r e most_cpus most_cpus) ≡ first_of (rows_for r e)
rows-only r w e = rw (w, le-ltb most_cpus r.board.cpus (stands-counted r.board (told r w).board).few_cpus)

-- the number of an outcome's refusal is the first of these
pub outcome-number : (r : Record) → well_formed r ≡ true → (a : Activate) (o : Result Answer Refusal) → outcome_at r a ≡ o
    → (said_of o).refusal ≡ first_of (rows_for r (event.Call (call_of a)))
outcome-number r w a o q =
    ap (λ (x : Result Answer Refusal). (said_of x).refusal) (sym q) ∙ (step-answers r (event.Call (call_of a)) most_cpus most_cpus).refusal ∙ rows-only r w (event.Call (call_of a))

module _ (r : Record) (a : Activate) where
  called-explains : well_formed r ≡ true → (o : Result Answer Refusal) → outcome_at r a ≡ o → Explains (walked r (Ok tt)) a (numbers_of (called_by o (reason_of r a)))
  unfolding only_refused accepted_with because_of refused_with
  called-explains w (Err x) q = record {
    walk_first = λ d. absurd (d refl);
    then_caller = λ z. outcome-number r w a (Err x) q;
    caller_only = λ z d. refl;
    then_reason = λ z. absurd (eqb-false (call_number x) 0 (number-some x) z);
  }
  called-explains w (Ok t) q = record {
    walk_first = λ d. absurd (d refl);
    then_caller = λ z. outcome-number r w a (Ok t) q;
    caller_only = λ z d. absurd (d refl);
    then_reason = λ z. refl;
  }

  explains-by : (e : Result Unit Stop) → (e ≡ Ok tt → well_formed r ≡ true) → Explains (walked r e) a (numbers_of (explained_by e r a))
  unfolding called_of refused_with
  explains-by (Ok tt) w = called-explains (w refl) (outcome_at r a) refl
  explains-by (Err (stop.Departs d)) w = record {
    walk_first = λ n. refl;
    then_caller = λ z. absurd (omega (arith, z));
    caller_only = λ z. absurd (omega (arith, z));
    then_reason = λ z. absurd (omega (arith, z));
  }
  explains-by (Err (stop.Board x)) w = record {
    walk_first = λ n. refl;
    then_caller = λ z. absurd (eqb-false (board_number x) 0 (board-some x) z);
    caller_only = λ z. absurd (eqb-false (board_number x) 0 (board-some x) z);
    then_reason = λ z. absurd (eqb-false (board_number x) 0 (board-some x) z);
  }
  explains-by (Err (stop.Log f)) w = record {
    walk_first = λ n. refl;
    then_caller = λ z. absurd (eqb-false (log_number f.refusal) 0 (log-some f.refusal) z);
    caller_only = λ z. absurd (eqb-false (log_number f.refusal) 0 (log-some f.refusal) z);
    then_reason = λ z. absurd (eqb-false (log_number f.refusal) 0 (log-some f.refusal) z);
  }

pub explains : (board log : List ℕ) (place : ℕ) (a : Activate) (e : Result Reason Unexplained) → e ≡ explained_of board log place a
    → Explains (walked_of board log place) a (numbers_of e)
unfolding explained_of
explains board log place a e q =
    let w = walked_of board log place in rw q (explains-by w.rec a w.ended (λ h. (walked-kept board log place h).0))
