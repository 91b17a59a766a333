-- The reason of an ACTIVATE at a place of a log, or why there is none: the board's refusal, the log's, 35, then the caller's
-- (document 02, request 1). Assumes nothing.
use Rattle.std.specs.Prelude.{ℕ, List, Err, Ok, Result}
use Rattle.board_record.specs.declared.Record.{Record}
use Rattle.rules.specs.declared.Event.TheVariants as event
use Rattle.agent.specs.Step.{stepped}
use Rattle.history.specs.Walk.{walked_of}
use Rattle.reason.specs.Reason.{call_of, reason_of}
use Rattle.reason.specs.declared.Activate.{Activate}
use Rattle.reason.specs.declared.Reason.{Reason}
use Rattle.history.specs.declared.Stop.TheVariants as stop
use Rattle.reason.specs.declared.Unexplained.TheVariants as unexplained
use Rattle.agent.specs.declared.Answer.{Answer}
use Rattle.rules.specs.declared.Refusal.{Refusal}
use Rattle.history.specs.declared.Stop.{Stop}
use Rattle.reason.specs.declared.Unexplained.{Unexplained}

-- ---- by the board's record: whom the agent refuses is refused with that
abbrev pub called_by : Result Answer Refusal → Reason → Result Reason Unexplained
called_by (Err x) y = Err (unexplained.Call x)
called_by (Ok a) y = Ok y

-- the agent's answer to it
abbrev pub outcome_at : Record → Activate → Result Answer Refusal
outcome_at r a = (stepped r (event.Call (call_of a))).outcome

unfoldable pub called_of : Record → Activate → Result Reason Unexplained
called_of r a = called_by (outcome_at r a) (reason_of r a)

-- ---- on bytes: by how the walk ended
abbrev pub stopped_by : Stop → Unexplained
stopped_by (stop.Departs d) = unexplained.Departs d.place
stopped_by (stop.Board x) = unexplained.Board x
stopped_by (stop.Log f) = unexplained.Log f

abbrev pub explained_by : Result Unit Stop → Record → Activate → Result Reason Unexplained
explained_by (Ok tt) r a = called_of r a
explained_by (Err x) r a = Err (stopped_by x)

unfoldable pub explained_of : List ℕ → List ℕ → ℕ → Activate → Result Reason Unexplained
explained_of board log place a = explained_by (walked_of board log place).ended (walked_of board log place).rec a
