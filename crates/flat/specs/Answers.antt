-- Events, answers and what questions find, as numbers and back. Assumes nothing.
use Rattle.std.specs.Prelude.{ℕ, eqb, Err, None, Ok, Option, Result, Some}
use Rattle.basics.specs.Choice.{pick}
use Rattle.rules.specs.declared.Registers.{Registers}
use Rattle.agent.specs.Numbers.{with_status, by_entry, Said, refused_with, said_of}
use Rattle.agent.specs.declared.Answer.{Answer}
use Rattle.agent.specs.declared.Caller.{Caller}
use Rattle.agent.specs.declared.Caller.TheVariants as caller
use Rattle.agent.specs.declared.Freed.{Freed}
use Rattle.agent.specs.declared.Release.{Release}
use Rattle.agent.specs.declared.Release.TheVariants as release
use Rattle.codes.specs.Outcomes.{returned, held, prime_started, activation_started, gone}
use Rattle.log_record.specs.Packed.{skipped_by}
use Rattle.log_record.specs.Numbers.{refusal_read}
use Rattle.log_record.specs.declared.LogRecord.{LogRecord}
use Rattle.log_book.specs.Log.{blank, said}
use Rattle.log_book.specs.Numbers.{found_in, component_in, Numbers as LogNumbers, numbers_of as log_numbers}
use Rattle.log_book.specs.declared.Flaw.{Flaw}
use Rattle.reader.specs.Numbers.{Numbers as StartNumbers, numbers_of as start_numbers, refusal_of as cpus_refusal, place_of as cpus_place, cpus_in}
use Rattle.reason.specs.Numbers.{Numbers as ReasonNumbers, numbers_of as reason_numbers}
use Rattle.trace.specs.Logged.{logged_of, of_kind}
use Rattle.flat.specs.declared.FlatAnswer.{FlatAnswer}
use Rattle.flat.specs.declared.FlatEvent.{FlatEvent}
use Rattle.flat.specs.declared.FlatFound.{FlatFound}
use Rattle.flat.specs.declared.FlatPrepared.{FlatPrepared}
use Rattle.flat.specs.declared.FlatRead.{FlatRead}
use Rattle.flat.specs.declared.FlatStarted.{FlatStarted}
use Rattle.flat.specs.declared.FlatCpus.{FlatCpus}
use Rattle.flat.specs.declared.FlatWhy.{FlatWhy}
use Rattle.flat.specs.declared.FlatWritten.{FlatWritten}
use Rattle.rules.specs.declared.Refusal.{Refusal}
use Rattle.log_record.specs.declared.Refusal.{Refusal as LogRecordRefusal}
use Rattle.log_book.specs.declared.Prepared.{Prepared}
use Rattle.reader.specs.declared.Refusal.{Refusal as ReaderRefusal}
use Rattle.cpuset.specs.declared.CpuSet.{CpuSet}
use Rattle.reason.specs.declared.Reason.{Reason}
use Rattle.reason.specs.declared.Unexplained.{Unexplained}
use Rattle.rules.specs.declared.Event.{Event}

-- ---- events: kinds as the log numbers them (Packed 3)
abbrev pub event_in : FlatEvent → Option Event
event_in e = of_kind e.kind e.call e.report e.image

-- ---- answers: the agent's numbers as they cross
unfoldable pub answer_by : Said → FlatAnswer
answer_by s = record { refusal = s.refusal; caller = s.caller; returned = s.returned; release = s.release; freed = s.freed }

-- a refusal "comes with nothing else" (Events 21)
abbrev pub refused_answer : ℕ → FlatAnswer
refused_answer n = answer_by (refused_with n)

abbrev pub answer_of : Result Answer Refusal → FlatAnswer
answer_of o = answer_by (said_of o)

-- ---- and back: the parts of an accepted answer
abbrev pub caller_in : ℕ → Registers → Caller
caller_in n x =
    pick (eqb n returned) (caller.Returned x)
    (pick (eqb n held) caller.Held
    (pick (eqb n prime_started) caller.PrimeStarted
    (pick (eqb n activation_started) caller.ActivationStarted
    (pick (eqb n gone) caller.Gone
    caller.Nothing))))

abbrev pub release_in : ℕ → Freed → Release
release_in n f =
    pick (eqb n with_status) (release.Returned f)
    (pick (eqb n by_entry) (release.Resumed f.cpus)
    release.Nobody)

unfoldable pub accepted_in : FlatAnswer → Answer
accepted_in a = record {
  caller = caller_in a.caller a.returned;
  release = release_in a.release a.freed;
}

-- ---- the log record of an event with its answer, where it was accepted (Packed 12)
abbrev pub logged_by : Option Event → FlatAnswer → LogRecord
logged_by None a = blank
logged_by (Some e) a = logged_of e (accepted_in a)

unfoldable pub logged_in : FlatEvent → FlatAnswer → LogRecord
logged_in e a = pick (eqb a.refusal 0) (logged_by (event_in e) a) blank

-- ---- how many bytes were written, or a refusal by its number
abbrev pub written_by : {E : Type 0} → (E → ℕ) → Result ℕ E → FlatWritten
written_by number (Ok n) = record { refusal = 0; bytes = n }
written_by number (Err x) = record { refusal = number x; bytes = 0 }

-- ---- a log record as it was read; zeros with a refusal
abbrev pub read_by : Result LogRecord LogRecordRefusal → FlatRead
read_by r = record { refusal = refusal_read r; bytes = skipped_by r; rec = said r }

-- ---- what questions find: a component, or zeros
abbrev pub found_of : Option ℕ → FlatFound
found_of c = record { found = found_in c; component = component_in c }

unfoldable pub prepared_with : LogNumbers → FlatPrepared
prepared_with n = record { refusal = n.refusal; place = n.place; prepared = record { found = n.found; component = n.component }; looked = n.looked }

abbrev pub prepared_by : Result Prepared Flaw → FlatPrepared
prepared_by a = prepared_with (log_numbers a)

unfoldable pub started_with : StartNumbers → FlatStarted
started_with n = record { refusal = n.refusal; place = n.place; started = record { found = n.found; component = n.component } }

abbrev pub started_by : Result (Option ℕ) ReaderRefusal → FlatStarted
started_by a = started_with (start_numbers a)

-- ---- which CPUs the log tells of
abbrev pub cpus_by : Result CpuSet Flaw → FlatCpus
cpus_by c = record { refusal = cpus_refusal c; place = cpus_place c; cpus = cpus_in c }

-- ---- why an ACTIVATE gets its answer
unfoldable pub why_with : ReasonNumbers → FlatWhy
why_with n = record { refusal = n.refusal; place = n.place; reason = n.reason; component = n.component; missing = n.missing }

abbrev pub why_by : Result Reason Unexplained → FlatWhy
why_by e = why_with (reason_numbers e)
