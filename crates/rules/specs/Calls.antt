-- What each call calls for (document 01, "Calls"; refusals 2 to 4 and the registers of a return: "Events and what they answer").
-- (H) marks a house choice. Assumes nothing.
use Rattle.std.specs.Prelude.{ℕ, zero, suc, ◌+◌, ◌*◌, Bool, false, not, ◌&&◌, List, eqb, leb, ltb, get_or, None, Option, Some}
use Rattle.basics.specs.Choice.{pick}
use Rattle.codes.specs.Numbers.{version_number, cancel_number, function_number}
use Rattle.cpuset.specs.Set.{has_of, only_of, with_of, same_of}
use Rattle.board.specs.Description.{numbered_of, is_capable, may_reset_at, good_entry, entry_right}
use Rattle.board.specs.Packed.{digit_of}
use Rattle.board.specs.declared.Component.{Component}
use Rattle.board_record.specs.Record.{subject_of, is_for, skips_rendezvous, is_gathering, is_alone, is_pending, version_of}
use Rattle.board_record.specs.declared.Record.{Record}
use Rattle.board_record.specs.declared.State.{State}
use Rattle.rules.specs.Statuses.{minus_of}
use Rattle.rules.specs.Numbers.{decode_of}
use Rattle.rules.specs.Table.{rule_of}
use Rattle.codes.specs.declared.Call.{Call}
use Rattle.rules.specs.declared.Registers.{Registers}
use Rattle.rules.specs.declared.Arrival.{Arrival}
use Rattle.rules.specs.declared.Refusal.TheVariants.{NotWellFormed, NoSuchCpu, CpuOff, CpuHeld}
use Rattle.rules.specs.declared.Move.{Move}
use Rattle.rules.specs.declared.Move.TheVariants.{Refuse, Return, NoteInfo, StartPrime, Gather, StartTogether, StartAlone, ToIdle, Withdraw, PowerOff, PowerOn}
use Rattle.rules.specs.declared.cells.PrimeCell.{PrimeCell}
use Rattle.rules.specs.declared.cells.PrimeCell.TheVariants as prime
use Rattle.rules.specs.declared.cells.ActivateCell.{ActivateCell}
use Rattle.rules.specs.declared.cells.ActivateCell.TheVariants as activate
use Rattle.rules.specs.declared.cells.CancelCell.{CancelCell}
use Rattle.rules.specs.declared.cells.CancelCell.TheVariants as cancel
use Rattle.rules.specs.declared.cells.PowerCell.{PowerCell}
use Rattle.rules.specs.declared.cells.PowerCell.TheVariants as power
use Rattle.rules.specs.declared.numbers.Function.{Function}
use Rattle.rules.specs.declared.numbers.Function.TheVariants as function

-- "returned", with the "unnamed ones" 0 (Events 4)
unfoldable pub returned : ℕ → Move
returned x0 = Return (record { x0 = x0; x1 = 0; x2 = 0; x3 = 0 })

-- returned with the status -k
abbrev pub says : ℕ → Move
says k = returned (minus_of k)

-- "no caller exists" in together (Calls 16): on a well-formed record no call comes to this (`never-nine` of the agent)
abbrev pub no_caller : Move
no_caller = Refuse NotWellFormed

-- ---- FEATURES (Calls 5)
unfoldable pub features_of : ℕ → Move
features_of x1 = pick (leb version_number x1 && leb x1 cancel_number) (says 0) (says 1)

-- ---- GET_INFO (Calls 6)
unfoldable pub info_of : ℕ → Move
info_of x1 = pick (eqb x1 0) NoteInfo (says 8)

-- ---- GET_INVENTORY (Calls 7)

-- n bytes from place i on, "lowest byte first"
unfoldable pub lowest_first : ℕ → List ℕ → ℕ → ℕ
lowest_first zero s i = 0
lowest_first (suc n) s i = get_or s i 0 + 256 * lowest_first n s (suc i)

abbrev pub word_of : List ℕ → ℕ → ℕ
word_of uuid i = lowest_first 8 uuid i

-- the four flags, from bit 0 on
abbrev pub flags_of : Component → Bool → ℕ
flags_of c pending = digit_of c.capable + 2 * digit_of pending + 4 * digit_of c.may_reset + 8 * digit_of c.optional

-- the halves of the UUID in X1 and X2, and the flags
unfoldable pub described_of : Component → Bool → Registers
described_of c pending =
    record { x0 = 0; x1 = word_of c.uuid 0; x2 = word_of c.uuid 8; x3 = flags_of c pending }

-- -7 goes before -8
unfoldable pub inventory_of : Record → ℕ → Move
inventory_of r x1 =
    pick r.informed
    (pick (ltb x1 r.board.components)
    (Return (described_of (numbered_of r.board x1) (is_pending r.pending x1)))
    (says 8))
    (says 7)

-- ---- PRIME (Calls 20)

-- the caller becomes held; where it resumes is kept only for a rendezvous with may_reset
unfoldable pub arrival_of : Call → Bool → Arrival
arrival_of call keeps =
    record { component = call.x1; cpu = call.cpu; entry = pick keeps call.x3 0; context = pick keeps call.x4 0 }

-- an id that it takes, else -7 (H)
unfoldable pub may_prime : Record → ℕ → Bool
may_prime r id = is_capable r.board id && is_pending r.pending id

-- then -3 by the image's version (H), and else it starts
unfoldable pub try_prime_of : Record → Call → Move
try_prime_of r call =
    pick (may_prime r call.x1)
    (pick (ltb (version_of r.version call.x1) (numbered_of r.board call.x1).svn) (says 3)
    (StartPrime (arrival_of call false)))
    (says 7)

-- "not the half-prepared one" (Calls 20): -7
unfoldable pub try_same_of : Record → Call → Move
try_same_of r call = pick (is_for r.state call.x1) (try_prime_of r call) (says 7)

abbrev pub prime_by : PrimeCell → Record → Call → Move
prime_by prime.Try r call = try_prime_of r call
prime_by prime.TrySame r call = try_same_of r call
prime_by (prime.Answers k) r call = says k
prime_by prime.NoCaller r call = no_caller

abbrev pub prime_of : Record → Call → Move
prime_of r call = prime_by (rule_of r.state).prime r call

-- ---- ACTIVATE (Calls 21 to 25)

-- X2 is the flags; with none above bit 0, skip is 1
abbrev pub skips : Call → Bool
skips call = eqb call.x2 1

-- flags that there are none of
abbrev pub other_flags : Call → Bool
other_flags call = ltb 1 call.x2

-- skip for an optional component and not in gathering, and always in alone and half-activated (H)
unfoldable pub skip_right : Component → State → Bool → Bool
skip_right c s skip = pick skip (pick (is_gathering s) false c.optional) (not (skips_rendezvous s))

-- with that, the state's id and no other flag; else -8
unfoldable pub fields_right : Record → Call → Bool
fields_right r call =
    is_for r.state call.x1
    && pick (other_flags call) false (skip_right (numbered_of r.board call.x1) r.state (skips call))

-- with this caller all powered CPUs are held
abbrev pub all_present : Record → ℕ → Bool
all_present r cpu = same_of (with_of r.held cpu) r.on

-- a rendezvous: the caller is held, and the last of the powered CPUs starts it (Calls 25)
unfoldable pub join_of : Record → Call → Move
join_of r call =
    let a = arrival_of call (may_reset_at r.board call.x1) in
    pick (all_present r call.cpu) (StartTogether a) (Gather a)

-- -8, then -10 (H), then -2, in document 01's order; then it starts alone with skip, or the caller joins
unfoldable pub try_activate_of : Record → Call → Move
try_activate_of r call =
    pick (fields_right r call)
    (pick (entry_right r.board call.x1 call.x3)
    (pick (is_alone r.state) (says 2)
    (pick (skips call) (StartAlone (arrival_of call false))
    (join_of r call)))
    (says 10))
    (says 8)

abbrev pub activate_by : ActivateCell → Record → Call → Move
activate_by activate.Try r call = try_activate_of r call
activate_by (activate.Answers k) r call = says k
activate_by activate.NoCaller r call = no_caller

abbrev pub activate_of : Record → Call → Move
activate_of r call = activate_by (rule_of r.state).activate r call

-- ---- CANCEL: the id counts only where the state has a component, and before the cell (Calls 26 and 27); in preparing "the state
-- becomes withdrawn" (request 3)
abbrev pub is_other_than : Option ℕ → ℕ → Bool
is_other_than None id = false
is_other_than (Some c) id = not (eqb c id)

abbrev pub is_other : State → ℕ → Bool
is_other s id = is_other_than (subject_of s) id

abbrev pub cancel_by : CancelCell → ℕ → Move
cancel_by cancel.ToIdle id = ToIdle
cancel_by cancel.Withdraw id = Withdraw id
cancel_by (cancel.Answers k) id = says k
cancel_by cancel.NoCaller id = no_caller

unfoldable pub cancel_of : Record → Call → Move
cancel_of r call = pick (is_other r.state call.x1) (says 8) (cancel_by (rule_of r.state).cancel call.x1)

-- ---- CPU_OFF: -3 also for the last CPU (Calls 29, H)
unfoldable pub off_free : Record → ℕ → Move
off_free r cpu = pick (same_of r.on (only_of cpu)) (says 3) (PowerOff cpu)

abbrev pub off_by : PowerCell → Record → ℕ → Move
off_by power.Free r cpu = off_free r cpu
off_by power.Frozen r cpu = says 3
off_by power.NoCaller r cpu = no_caller

abbrev pub off_of : Record → ℕ → Move
off_of r cpu = off_by (rule_of r.state).power r cpu

-- ---- CPU_ON: -2, -9, -4, and -6 (H), in this order (Calls 30)
abbrev pub wake_by : PowerCell → Call → Move
wake_by power.Free call = PowerOn (record { target = call.x1; entry = call.x2; context = call.x3 })
wake_by power.Frozen call = says 6
wake_by power.NoCaller call = no_caller

abbrev pub wake_of : State → Call → Move
wake_of s call = wake_by (rule_of s).power call

unfoldable pub on_of : Record → Call → Move
on_of r call =
    pick (leb r.board.cpus call.x1) (says 2)
    (pick (good_entry r.board.first r.board.last call.x2)
    (pick (has_of r.on call.x1) (says 4)
    (wake_of r.state call))
    (says 9))

-- ---- any call: by its function, and -1 where it has none (Calls 1 and 2)
abbrev pub function_of : Record → Call → Function → Move
function_of r call function.Version = returned 65536
function_of r call function.Features = features_of call.x1
function_of r call function.GetInfo = info_of call.x1
function_of r call function.GetInventory = inventory_of r call.x1
function_of r call function.Prime = prime_of r call
function_of r call function.Activate = activate_of r call
function_of r call function.Cancel = cancel_of r call
function_of r call function.CpuOff = off_of r call.cpu
function_of r call function.CpuOn = on_of r call

abbrev pub answer_by : Option Function → Record → Call → Move
answer_by (Some f) r call = function_of r call f
answer_by None r call = says 1

unfoldable pub answer_of : Record → Call → Move
answer_of r call = answer_by (decode_of (function_number call.x0)) r call

-- 2, 3, 4 (Events 11)
unfoldable pub call_of : Record → Call → Move
call_of r call =
    pick (leb r.board.cpus call.cpu) (Refuse NoSuchCpu)
    (pick (has_of r.on call.cpu)
    (pick (has_of r.held call.cpu) (Refuse CpuHeld)
    (answer_of r call))
    (Refuse CpuOff))
