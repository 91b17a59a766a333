use mathlib.Core.Path.{◌≡◌}
use Prim.Native.Nat.{ℕ}
use lib.ListN.{length}
use borrow.Author.Rules.{rules}
use Rattle.board_record.specs.declared.Record.{Record}
use Rattle.rules.specs.declared.Event.{Event}
use Rattle.agent.specs.Step.{step_of}
use Rattle.agent.specs.Numbers.{said_of, Answers}
use Rattle.agent.specs.declared.Stepped.{Stepped}
use Rattle.agent.proofs.Numbers.{step-answers}
use Rattle.agent.proofs.step.Goals as goal

answered : (r : Record) (e : Event) (n k : ℕ) (s : Stepped) → s ≡ step_of r e n k → Answers r e n k (said_of s.outcome)
answered r e n k s p = rw p (step-answers r e n k)

pub returns-then-is_none-clause-answers : goal.returns-then-is_none-clause-answers
unfolding step_of
returns-then-is_none-clause-answers c =
    let a = c.args in answered a.rec a.e (length a.entries.now) (length a.contexts.now) c.perform-s.result (search rules)

pub returns-clause-answers : goal.returns-clause-answers
unfolding step_of
returns-clause-answers c =
    let a = c.args in answered a.rec a.e (length a.entries.now) (length a.contexts.now) c.perform-s.result (search rules)
