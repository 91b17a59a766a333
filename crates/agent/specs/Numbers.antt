-- An answer in document 01's numbers ("Events and what they answer"; the outcomes: "Packed forms"). Assumes nothing.
use Rattle.std.specs.Prelude.{ℕ, ◌≡◌, true, eqb, Err, Ok, Result}
use Rattle.basics.specs.Choice.{pick}
use Rattle.basics.specs.Every.{one_of}
use Rattle.basics.specs.First.{first_of}
use Rattle.codes.specs.Codes.{by_reset}
use Rattle.codes.specs.Outcomes.{returned, held, prime_started, activation_started, gone, call_outcomes}
use Rattle.cpuset.specs.Set.{none_of}
use Rattle.cpuset.specs.declared.CpuSet.{CpuSet}
use Rattle.board_record.specs.declared.Record.{Record}
use Rattle.rules.specs.Statuses.{number_of}
use Rattle.rules.specs.Moves.{prime_status, prime_again, activate_status, again_of, event_rows}
use Rattle.rules.specs.declared.Event.{Event}
use Rattle.rules.specs.declared.Event.TheVariants as event
use Rattle.rules.specs.declared.Registers.{Registers}
use Rattle.agent.specs.declared.Answer.{Answer}
use Rattle.agent.specs.declared.Caller.{Caller}
use Rattle.agent.specs.declared.Caller.TheVariants as caller
use Rattle.agent.specs.declared.Freed.{Freed}
use Rattle.agent.specs.declared.Release.{Release}
use Rattle.agent.specs.declared.Release.TheVariants as release
use Rattle.rules.specs.declared.Refusal.{Refusal}

-- ---- the "Caller's part" (Events 4): as the log numbers outcomes, and 0 where there is none
abbrev pub outcome_of : Caller → ℕ
outcome_of caller.Nothing = 0
outcome_of (caller.Returned x) = returned
outcome_of caller.Held = held
outcome_of caller.PrimeStarted = prime_started
outcome_of caller.ActivationStarted = activation_started
outcome_of caller.Gone = gone

-- what is returned where no register is named
abbrev pub no_registers : Registers
no_registers = record { x0 = 0; x1 = 0; x2 = 0; x3 = 0 }

abbrev pub returned_of : Caller → Registers
returned_of caller.Nothing = no_registers
returned_of (caller.Returned x) = x
returned_of caller.Held = no_registers
returned_of caller.PrimeStarted = no_registers
returned_of caller.ActivationStarted = no_registers
returned_of caller.Gone = no_registers

-- ---- the "Release part" (Events 5), its three cases from 0 on
abbrev pub nobody : ℕ
nobody = 0

abbrev pub with_status : ℕ
with_status = 1

abbrev pub by_entry : ℕ
by_entry = 2

abbrev pub release_number : Release → ℕ
release_number release.Nobody = nobody
release_number (release.Returned f) = with_status
release_number (release.Resumed cpus) = by_entry

-- the set, with X0 and X1; those that resume by entry are given neither
abbrev pub freed_with : CpuSet → Freed
freed_with s = record { cpus = s; x0 = 0; x1 = 0 }

abbrev pub freed_by : Release → Freed
freed_by release.Nobody = freed_with none_of
freed_by (release.Returned f) = f
freed_by (release.Resumed s) = freed_with s

-- ---- the whole answer (Events 3)
pub record Said : Type 0 where
  pub refusal : ℕ
  pub caller : ℕ
  pub returned : Registers
  pub release : ℕ
  pub freed : Freed

-- a refusal "comes with nothing else" (Events 21)
unfoldable pub refused_with : ℕ → Said
refused_with n = record { refusal = n; caller = 0; returned = no_registers; release = nobody; freed = freed_with none_of }

unfoldable pub accepted_with : Answer → Said
accepted_with a = record {
  refusal = 0;
  caller = outcome_of a.caller;
  returned = returned_of a.caller;
  release = release_number a.release;
  freed = freed_by a.release;
}

abbrev pub said_of : Result Answer Refusal → Said
said_of (Err x) = refused_with (number_of x)
said_of (Ok a) = accepted_with a

-- ---- what is promised of it

-- a report or an image, which has no caller's part
unfoldable pub released_with : ℕ → CpuSet → ℕ → ℕ → Said
released_with release cpus x0 x1 =
    record { refusal = 0; caller = 0; returned = no_registers; release = release; freed = record { cpus = cpus; x0 = x0; x1 = x1 } }

-- a reset's release (Reports 6)
abbrev pub release_for : ℕ → ℕ
release_for code = pick (eqb code by_reset) by_entry with_status

-- a call has one of its outcomes (Packed 8), and other events no caller (Events 4): a report releases the held CPUs with the
-- status that it says, or that of a withdrawn preparation, and an image nobody
abbrev pub Parts : Record → Event → Said → Type 0
Parts r (event.Call call) s = one_of s.caller call_outcomes ≡ true
Parts r (event.Prime p) s = s ≡ released_with with_status r.held (prime_status r.state p.code) (prime_again r.state p.code)
Parts r (event.Activate p) s = s ≡ released_with (release_for p.code) r.held (activate_status p.code) (again_of p.code)
Parts r (event.Image i) s = s ≡ released_with nobody none_of 0 0

-- "The first that applies" (Events 20) and nothing beside it; 0 is no refusal, and then there are the parts
pub record Answers (r : Record) (e : Event) (entries contexts : ℕ) (s : Said) : Type 0 where
  pub refusal : s.refusal ≡ first_of (event_rows r e entries contexts)
  pub nothing : (s.refusal ≡ 0 → ⊥) → s ≡ refused_with s.refusal
  pub parts : s.refusal ≡ 0 → Parts r e s
