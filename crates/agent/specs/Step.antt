-- One event: the answer, the next record, and the two resume tables (document 01, "Events and what they answer").
-- Assumes nothing.
use Rattle.std.specs.Prelude.{ℕ, zero, suc, Bool, List, [], ◌∷◌, length, get_or, set, replicate, Err, None, Ok, Option, Result, Some}
use Rattle.basics.specs.Choice.{pick}
use Rattle.cpuset.specs.Set.{has_of, none_of}
use Rattle.cpuset.specs.declared.CpuSet.{CpuSet}
use Rattle.board.specs.Description.{most_cpus}
use Rattle.board_record.specs.declared.Record.{Record}
use Rattle.rules.specs.Decide.{decide_of}
use Rattle.rules.specs.declared.Event.{Event}
use Rattle.rules.specs.declared.Move.{Move}
use Rattle.rules.specs.declared.Move.TheVariants as move
use Rattle.agent.specs.Perform.{perform_of}
use Rattle.agent.specs.declared.Release.{Release}
use Rattle.agent.specs.declared.Release.TheVariants as release
use Rattle.agent.specs.declared.Stepped.{Stepped}
use Rattle.agent.specs.declared.Answer.{Answer}
use Rattle.rules.specs.declared.Refusal.{Refusal}
use Rattle.rules.specs.declared.Waking.{Waking}

-- the rules decide, then their effects happen; the two numbers are how many places the resume tables have
unfoldable pub step_of : Record → Event → ℕ → ℕ → Stepped
step_of r e entry_places context_places = perform_of r (decide_of r e entry_places context_places)

-- ---- the "two lent tables" (Events 6)

abbrev pub resumed_by : Release → CpuSet
resumed_by release.Nobody = none_of
resumed_by (release.Returned f) = none_of
resumed_by (release.Resumed cpus) = cpus

-- who resumes by entry
abbrev pub resuming_of : Result Answer Refusal → CpuSet
resuming_of (Err x) = none_of
resuming_of (Ok a) = resumed_by a.release

-- where: CPU_ON's target as its caller says, a held CPU as it said itself
abbrev pub source_of : Move → Option Waking
source_of (move.Refuse x) = None
source_of (move.Return x) = None
source_of move.NoteInfo = None
source_of (move.StartPrime a) = None
source_of (move.Gather a) = None
source_of (move.StartTogether a) = None
source_of (move.StartAlone a) = None
source_of move.ToIdle = None
source_of (move.Withdraw id) = None
source_of (move.PowerOff cpu) = None
source_of (move.PowerOn w) = Some w
source_of (move.EndPrime p) = None
source_of move.EndWithdrawn = None
source_of (move.EndActivate p) = None
source_of (move.NoteImage i) = None

abbrev pub entries_from : Record → Option Waking → List ℕ
entries_from r None = r.entry
entries_from r (Some w) = replicate most_cpus w.entry

abbrev pub contexts_from : Record → Option Waking → List ℕ
contexts_from r None = r.context
contexts_from r (Some w) = replicate most_cpus w.context

-- a table with the places below n that f says written, and every other as it was
unfoldable pub written : ℕ → (ℕ → Bool) → List ℕ → List ℕ → List ℕ
written zero f from table = table
written (suc n) f from table =
    pick (f n) (set (written n f from table) n (get_or from n 0)) (written n f from table)

abbrev pub filled : CpuSet → List ℕ → List ℕ → List ℕ
filled cpus from table = written most_cpus (has_of cpus) from table

-- the tables after an event
unfoldable pub entries_of : Record → Event → List ℕ → List ℕ → List ℕ
entries_of r e entries contexts =
    let m = decide_of r e (length entries) (length contexts) in
    filled (resuming_of (perform_of r m).outcome) (entries_from r (source_of m)) entries

unfoldable pub contexts_of : Record → Event → List ℕ → List ℕ → List ℕ
contexts_of r e entries contexts =
    let m = decide_of r e (length entries) (length contexts) in
    filled (resuming_of (perform_of r m).outcome) (contexts_from r (source_of m)) contexts

-- one event with tables that are long enough; all such tables give the same (`step-tables`, proofs/Refused.antt)
abbrev pub stepped : Record → Event → Stepped
stepped r e = step_of r e most_cpus most_cpus

-- the record after some events, each accepted or not
abbrev pub after : Record → List Event → Record
after r [] = r
after r (e ∷ es) = after (stepped r e).rec es
