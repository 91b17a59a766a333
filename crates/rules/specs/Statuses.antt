-- Statuses, and the numbers of the refusals (document 01, "Events and what they answer"). Assumes nothing.
use Rattle.std.specs.Prelude.{ℕ, ◌-◌, ◌^◌, eqb}
use Rattle.basics.specs.Choice.{pick}
use Rattle.rules.specs.declared.Refusal.{Refusal}
use Rattle.rules.specs.declared.Refusal.TheVariants.{NotWellFormed, TableShort, NoSuchCpu, CpuOff, CpuHeld, NoSuchJob, CodeNotAllowed, NotCapable, StateComponent}

-- "A status -k" as a word (Events 7); 0 is 0
unfoldable pub minus_of : ℕ → ℕ
minus_of k = pick (eqb k 0) 0 (2 ^ 64 - k)

-- what those get who wait where a CANCEL ends it (Calls 28; request 3)
abbrev pub cancelled_status : ℕ
cancelled_status = minus_of 11

-- document 01's number of each refusal
abbrev pub number_of : Refusal → ℕ
number_of NotWellFormed = 9
number_of TableShort = 1
number_of NoSuchCpu = 2
number_of CpuOff = 3
number_of CpuHeld = 4
number_of NoSuchJob = 5
number_of CodeNotAllowed = 6
number_of NotCapable = 7
number_of StateComponent = 8
