-- What each move does and answers (document 01, "Calls" and "Reports"; the two parts of an answer, images and refusals: "Events
-- and what they answer"). (H) marks a house choice. Assumes nothing.
use Rattle.std.specs.Prelude.{ℕ, Bool, true, false, ◌||◌, eqb, set, replicate, Err, Ok}
use Rattle.basics.specs.Choice.{pick}
use Rattle.codes.specs.Codes.{by_reset}
use Rattle.cpuset.specs.Set.{none_of, only_of, with_of, without_of}
use Rattle.cpuset.specs.declared.CpuSet.{CpuSet}
use Rattle.board.specs.Description.{most_cpus}
use Rattle.board_record.specs.Record.{is_gathering}
use Rattle.board_record.specs.declared.Record.{Record}
use Rattle.board_record.specs.declared.State.{State}
use Rattle.board_record.specs.declared.State.TheVariants.{Idle, Preparing, HalfPrepared, Ready, Gathering, Together, Alone, HalfActivated, Dead, Withdrawn}
use Rattle.rules.specs.Statuses.{minus_of, cancelled_status}
use Rattle.rules.specs.declared.Arrival.{Arrival}
use Rattle.rules.specs.declared.Image.{Image}
use Rattle.rules.specs.declared.Refusal.{Refusal}
use Rattle.rules.specs.declared.Report.{Report}
use Rattle.rules.specs.declared.Waking.{Waking}
use Rattle.rules.specs.declared.Move.{Move}
use Rattle.rules.specs.declared.Move.TheVariants as move
use Rattle.agent.specs.declared.Caller.{Caller}
use Rattle.agent.specs.declared.Caller.TheVariants as caller
use Rattle.agent.specs.declared.Release.{Release}
use Rattle.agent.specs.declared.Release.TheVariants as release
use Rattle.agent.specs.declared.Stepped.{Stepped}

-- a refusal "comes with nothing else" (Events 21)
unfoldable pub refused_of : Record → Refusal → Stepped
refused_of r x = record { rec = r; outcome = Err x }

-- the two parts of an answer (Events 3)
unfoldable pub accepted_of : Record → Caller → Release → Stepped
accepted_of r who free = record { rec = r; outcome = Ok (record { caller = who; release = free }) }

abbrev pub success_of : ℕ → Caller
success_of x1 = caller.Returned (record { x0 = 0; x1 = x1; x2 = 0; x3 = 0 })

-- ---- GET_INFO is noted, or forgotten
unfoldable pub informed_of : Record → Bool → Record
informed_of r noted = record {
  board = r.board;
  pending = r.pending;
  version = r.version;
  state = r.state;
  on = r.on;
  held = r.held;
  entry = r.entry;
  context = r.context;
  informed = noted;
}

-- what it returns, and that it is noted (Calls 6)
abbrev pub note_info_of : Record → Stepped
note_info_of r = accepted_of (informed_of r true) (success_of r.board.components) release.Nobody

-- ---- an image of component id is pending with this version, or none is and its version is 0
unfoldable pub imaged_of : Record → ℕ → Bool → ℕ → Record
imaged_of r id pending version = record {
  board = r.board;
  pending = set r.pending id pending;
  version = set r.version id version;
  state = r.state;
  on = r.on;
  held = r.held;
  entry = r.entry;
  context = r.context;
  informed = r.informed;
}

-- "An accepted image" (Events 2)
abbrev pub note_image_of : Record → Image → Stepped
note_image_of r i = accepted_of (imaged_of r i.component true i.version) caller.Nothing release.Nobody

-- ---- "the caller is held" (Calls 20 and 25)
unfoldable pub joined_of : Record → State → Arrival → Record
joined_of r s a = record {
  board = r.board;
  pending = r.pending;
  version = r.version;
  state = s;
  on = r.on;
  held = with_of r.held a.cpu;
  entry = set r.entry a.cpu a.entry;
  context = set r.context a.cpu a.context;
  informed = r.informed;
}

abbrev pub held_of : Record → State → Arrival → Caller → Stepped
held_of r s a who = accepted_of (joined_of r s a) who release.Nobody

-- ---- the held CPUs are released; entries and context ids are "0 elsewhere" (Board 3)
unfoldable pub settled_of : Record → State → Record
settled_of r s = record {
  board = r.board;
  pending = r.pending;
  version = r.version;
  state = s;
  on = r.on;
  held = none_of;
  entry = replicate most_cpus 0;
  context = replicate most_cpus 0;
  informed = r.informed;
}

-- the second case of a release (Events 5)
abbrev pub freed_of : CpuSet → ℕ → ℕ → Release
freed_of cpus x0 x1 = release.Returned (record { cpus = cpus; x0 = x0; x1 = x1 })

-- ---- CANCEL: with what those go on whose wait it ended
abbrev pub called_off : CpuSet → Release
called_off held = freed_of held cancelled_status 0

-- who waits "From gathering" gets -11 (Calls 28, H)
abbrev pub cancelled_of : Record → Release
cancelled_of r = pick (is_gathering r.state) (called_off r.held) release.Nobody

abbrev pub to_idle_of : Record → Stepped
to_idle_of r = accepted_of (settled_of r Idle) (success_of 0) (cancelled_of r)

-- "the state becomes withdrawn" (request 3); whoever is held stays so
unfoldable pub withdrawn_of : Record → ℕ → Record
withdrawn_of r id = record {
  board = r.board;
  pending = r.pending;
  version = r.version;
  state = Withdrawn id;
  on = r.on;
  held = r.held;
  entry = r.entry;
  context = r.context;
  informed = r.informed;
}

abbrev pub withdraw_of : Record → ℕ → Stepped
withdraw_of r id = accepted_of (withdrawn_of r id) (success_of 0) release.Nobody

-- ---- CPU_OFF, CPU_ON
unfoldable pub powered_of : Record → CpuSet → Record
powered_of r cpus = record {
  board = r.board;
  pending = r.pending;
  version = r.version;
  state = r.state;
  on = cpus;
  held = r.held;
  entry = r.entry;
  context = r.context;
  informed = r.informed;
}

abbrev pub power_off_of : Record → ℕ → Stepped
power_off_of r cpu = accepted_of (powered_of r (without_of r.on cpu)) caller.Gone release.Nobody

-- "the target resumes" (Calls 30)
abbrev pub power_on_of : Record → Waking → Stepped
power_on_of r w =
    accepted_of (powered_of r (with_of r.on w.target)) (success_of 0) (release.Resumed (only_of w.target))

-- ---- reports: with what the held CPUs are released (Reports 2)
unfoldable pub reported_of : CpuSet → ℕ → Release
reported_of held code = pick (eqb code 1) (freed_of held 0 1) (freed_of held (minus_of code) 0)

-- the state after a prime report (Reports 3)
unfoldable pub after_prime : Report → State
after_prime p = pick (eqb p.code 0) (Ready p.component) (pick (eqb p.code 1) (HalfPrepared p.component) Idle)

abbrev pub end_prime_of : Record → Report → Stepped
end_prime_of r p = accepted_of (settled_of r (after_prime p)) caller.Nothing (reported_of r.held p.code)

-- a withdrawn preparation "leads to idle", whatever its code (request 3)
abbrev pub end_withdrawn_of : Record → Stepped
end_withdrawn_of r = accepted_of (settled_of r Idle) caller.Nothing (called_off r.held)

-- the state after an activate report (Reports 5 and 7 to 10)
unfoldable pub after_activate : Report → State
after_activate p =
    pick (eqb p.code 1) (HalfActivated p.component)
    (pick (eqb p.code 2) (Ready p.component)
    (pick (eqb p.code 5) Dead
    Idle))

-- what a success forgets (Reports 5; Calls 8, H)
unfoldable pub is_done : ℕ → Bool
is_done code = eqb code 0 || eqb code by_reset

abbrev pub forgotten_of : Record → ℕ → Record
forgotten_of r id = informed_of (imaged_of r id false 0) false

unfoldable pub ended_of : Record → Report → Record
ended_of r p =
    let next = settled_of r (after_activate p) in pick (is_done p.code) (forgotten_of next p.component) next

-- a reset's release (Reports 6)
unfoldable pub released_of : CpuSet → ℕ → Release
released_of held code = pick (eqb code by_reset) (release.Resumed held) (reported_of held code)

abbrev pub end_activate_of : Record → Report → Stepped
end_activate_of r p = accepted_of (ended_of r p) caller.Nothing (released_of r.held p.code)

abbrev pub perform_of : Record → Move → Stepped
perform_of r (move.Refuse x) = refused_of r x
perform_of r (move.Return x) = accepted_of r (caller.Returned x) release.Nobody
perform_of r move.NoteInfo = note_info_of r
perform_of r (move.StartPrime a) = held_of r (Preparing a.component) a caller.PrimeStarted
perform_of r (move.Gather a) = held_of r (Gathering a.component) a caller.Held
perform_of r (move.StartTogether a) = held_of r (Together a.component) a caller.ActivationStarted
perform_of r (move.StartAlone a) = held_of r (Alone a.component) a caller.ActivationStarted
perform_of r move.ToIdle = to_idle_of r
perform_of r (move.Withdraw id) = withdraw_of r id
perform_of r (move.PowerOff cpu) = power_off_of r cpu
perform_of r (move.PowerOn w) = power_on_of r w
perform_of r (move.EndPrime p) = end_prime_of r p
perform_of r move.EndWithdrawn = end_withdrawn_of r
perform_of r (move.EndActivate p) = end_activate_of r p
perform_of r (move.NoteImage i) = note_image_of r i
