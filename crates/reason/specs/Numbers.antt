-- A reason and a refusal in numbers, and what each reason says of the agent's answer. Assumes nothing.
use Rattle.std.specs.Prelude.{ℕ, ◌≡◌, Err, Ok, Result}
use Rattle.basics.specs.First.{first_of}
use Rattle.cpuset.specs.Set.{none_of}
use Rattle.cpuset.specs.declared.CpuSet.{CpuSet}
use Rattle.board.specs.Description.{number_of as board_number}
use Rattle.log_record.specs.Rules.{number_of as log_number}
use Rattle.rules.specs.Moves.{rows_for}
use Rattle.rules.specs.Statuses.{minus_of, number_of as call_number}
use Rattle.rules.specs.declared.Event.TheVariants as event
use Rattle.agent.specs.declared.Answer.{Answer}
use Rattle.agent.specs.declared.Caller.{Caller}
use Rattle.agent.specs.declared.Caller.TheVariants as caller
use Rattle.agent.specs.declared.Release.TheVariants as release
use Rattle.history.specs.Numbers.{departs, refusal_in, place_in}
use Rattle.history.specs.declared.Walked.{Walked}
use Rattle.reason.specs.Reason.{call_of, reason_of}
use Rattle.reason.specs.declared.Activate.{Activate}
use Rattle.reason.specs.declared.Reason.{Reason}
use Rattle.reason.specs.declared.Reason.TheVariants.{NothingPrepared, BeingPrepared, HalfPrepared, BoardDead, WasWithdrawn, OtherComponent, OtherFlags, NotOptional, SkipInGathering, NoSkip, BadEntry, BeingActivated, Skipped, Held, AllPresent}
use Rattle.reason.specs.declared.Unexplained.TheVariants as unexplained
use Rattle.reason.specs.declared.Unexplained.{Unexplained}

-- ---- a reason: its number, from 1 on (a new one takes the next, and those that are there keep theirs); the component and the CPUs
-- that it names, 0 and none where it names none; and the answer that it stands for: a status, held, or started
pub record Says : Type 0 where
  pub number : ℕ
  pub component : ℕ
  pub missing : CpuSet
  pub caller : Caller

abbrev says : ℕ → ℕ → CpuSet → Caller → Says
says n c s w = record { number = n; component = c; missing = s; caller = w }

abbrev status : ℕ → Caller
status k = caller.Returned (record { x0 = minus_of k; x1 = 0; x2 = 0; x3 = 0 })

abbrev pub says_of : Reason → Says
says_of NothingPrepared = says 1 0 none_of (status 7)
says_of (BeingPrepared c) = says 2 c none_of (status 7)
says_of (HalfPrepared c) = says 3 c none_of (status 7)
says_of BoardDead = says 4 0 none_of (status 7)
says_of (WasWithdrawn c) = says 15 c none_of (status 7)
says_of (OtherComponent c) = says 5 c none_of (status 8)
says_of OtherFlags = says 6 0 none_of (status 8)
says_of NotOptional = says 7 0 none_of (status 8)
says_of SkipInGathering = says 8 0 none_of (status 8)
says_of NoSkip = says 9 0 none_of (status 8)
says_of BadEntry = says 10 0 none_of (status 10)
says_of (BeingActivated c) = says 11 c none_of (status 2)
says_of Skipped = says 12 0 none_of caller.ActivationStarted
says_of (Held s) = says 13 0 s caller.Held
says_of AllPresent = says 14 0 none_of caller.ActivationStarted

abbrev pub number_of : Reason → ℕ
number_of x = (says_of x).number

abbrev pub component_in : Reason → ℕ
component_in x = (says_of x).component

abbrev pub missing_in : Reason → CpuSet
missing_in x = (says_of x).missing

-- an ACTIVATE releases nobody
abbrev pub answer_for : Reason → Answer
answer_for x = record { caller = (says_of x).caller; release = release.Nobody }

-- ---- the whole answer
pub record Numbers : Type 0 where
  pub refusal : ℕ
  pub place : ℕ
  pub reason : ℕ
  pub component : ℕ
  pub missing : CpuSet

unfoldable pub because_of : Reason → Numbers
because_of x = record { refusal = 0; place = 0; reason = number_of x; component = component_in x; missing = missing_in x }

-- a refusal "comes with nothing else" (Events 21)
unfoldable pub refused_with : ℕ → ℕ → Numbers
refused_with n place = record { refusal = n; place = place; reason = 0; component = 0; missing = none_of }

abbrev pub numbers_of : Result Reason Unexplained → Numbers
numbers_of (Ok x) = because_of x
numbers_of (Err (unexplained.Board x)) = refused_with (board_number x) 0
numbers_of (Err (unexplained.Log f)) = refused_with (log_number f.refusal) f.place
numbers_of (Err (unexplained.Departs k)) = refused_with departs k
numbers_of (Err (unexplained.Call x)) = refused_with (call_number x) 0

-- after a walk that ended so: the board's refusal, the log's, 35 with its place (`Ends`, crates/history/specs/Numbers.antt); then 2, 3,
-- 4 (Events 11); else the reason
pub record Explains (w : Walked) (a : Activate) (n : Numbers) : Type 0 where
  pub walk_first : (refusal_in w.ended ≡ 0 → ⊥) → n ≡ refused_with (refusal_in w.ended) (place_in w.ended)
  pub then_caller : refusal_in w.ended ≡ 0 → n.refusal ≡ first_of (rows_for w.rec (event.Call (call_of a)))
  pub caller_only : refusal_in w.ended ≡ 0 → (n.refusal ≡ 0 → ⊥) → n ≡ refused_with n.refusal 0
  pub then_reason : n.refusal ≡ 0 → n ≡ because_of (reason_of w.rec a)
