-- What holds where a move is decided: one record of facts for each kind of move, shown along the rules (`decide-guard`, Guards.antt).
-- Assumes nothing.
use Rattle.std.specs.Prelude.{Some}
use Prim.Native.Nat.{ℕ, ◌^◌, ◌<◌, ◌≤◌}
use mathlib.Core.Path.{◌≡◌, sym, ap, ◌∙◌}
use mathlib.Core.Bool.{Bool, true, false}
use Rattle.codes.specs.Numbers.{function_number}
use Rattle.codes.specs.Codes.{is_prime_code}
use Rattle.codes.specs.declared.Call.{Call}
use Rattle.cpuset.specs.Set.{has_of, only_of, with_of, same_of}
use Rattle.board.specs.Description.{numbered_of, is_capable, may_reset_at, good_entry, entry_right}
use Rattle.board_record.specs.Record.{is_for, skips_rendezvous, is_alone, is_pending, version_of}
use Rattle.board_record.specs.WellFormed.{well_formed}
use Rattle.board_record.specs.declared.Record.{Record}
use Rattle.rules.specs.Statuses.{number_of}
use Rattle.rules.specs.Numbers.{decode_of}
use Rattle.rules.specs.Calls.{arrival_of}
use Rattle.rules.specs.Reports.{activate_allows}
use Rattle.rules.specs.declared.Arrival.{Arrival}
use Rattle.rules.specs.declared.Event.{Event}
use Rattle.rules.specs.declared.Event.TheVariants as event
use Rattle.rules.specs.declared.Image.{Image}
use Rattle.rules.specs.declared.Move.{Move}
use Rattle.rules.specs.declared.Move.TheVariants.{Refuse, Return, NoteInfo, StartPrime, Gather, StartTogether, StartAlone, ToIdle, Withdraw, PowerOff, PowerOn, EndPrime, EndWithdrawn, EndActivate, NoteImage}
use Rattle.rules.specs.declared.Refusal.{Refusal}
use Rattle.rules.specs.declared.Registers.{Registers}
use Rattle.rules.specs.declared.Report.{Report}
use Rattle.rules.specs.declared.Waking.{Waking}
use Rattle.rules.specs.declared.numbers.Function.{Function}
use Rattle.rules.specs.declared.numbers.Function.TheVariants as function
use Rattle.rules.proofs.States.{Primable, Priming, Gatherable, Skippable, Activating, Cancellable, Vacant, PowerFree, activating-subject}

-- refusal 9 is only for a record that is not well formed: in together no caller exists
abbrev pub Refuses : Record → Refusal → Type 0
Refuses r x = number_of x ≡ 9 → well_formed r ≡ false

-- the event is a call from a CPU that exists, is on and is not held
pub record Called (r : Record) (e : Event) : Type 0 where
  pub call : Call
  pub event : e ≡ event.Call call
  pub exists : call.cpu < r.board.cpus
  pub powered : has_of r.on call.cpu ≡ true
  pub free : has_of r.held call.cpu ≡ false

-- which function it asks for
abbrev pub Asks : Call → Function → Type 0
Asks call f = decode_of (function_number call.x0) ≡ Some f

-- the record stays; X0 is a word, a CANCEL that returned 0 found nothing to end, and no CPU_ON returned 0
pub record Returns (r : Record) (e : Event) (x : Registers) : Type 0 where
  pub by : Called r e
  pub word : x.x0 < 2 ^ 64
  pub cancelled : Asks by.call function.Cancel → x.x0 ≡ 0 → Vacant r.state
  pub switched : Asks by.call function.CpuOn → x.x0 ≡ 0 → ⊥

pub record NotesInfo (r : Record) (e : Event) : Type 0 where
  pub by : Called r e
  pub asks : Asks by.call function.GetInfo

pub record Primes (r : Record) (e : Event) (a : Arrival) : Type 0 where
  pub by : Called r e
  pub asks : Asks by.call function.Prime
  pub arrival : a ≡ arrival_of by.call false
  pub state : Primable r.state by.call.x1
  pub capable : is_capable r.board by.call.x1 ≡ true
  pub pending : is_pending r.pending by.call.x1 ≡ true
  pub enough : (numbered_of r.board by.call.x1).svn ≤ version_of r.version by.call.x1

-- an ACTIVATE without skip; all that are powered are held now, or not
pub record Joins (r : Record) (e : Event) (a : Arrival) (all : Bool) : Type 0 where
  pub by : Called r e
  pub asks : Asks by.call function.Activate
  pub arrival : a ≡ arrival_of by.call (may_reset_at r.board by.call.x1)
  pub state : Gatherable r.state by.call.x1
  pub flags : by.call.x2 ≡ 0
  pub entry : entry_right r.board by.call.x1 by.call.x3 ≡ true
  pub present : same_of (with_of r.held by.call.cpu) r.on ≡ all

pub record Skips (r : Record) (e : Event) (a : Arrival) : Type 0 where
  pub by : Called r e
  pub asks : Asks by.call function.Activate
  pub arrival : a ≡ arrival_of by.call false
  pub state : Skippable r.state by.call.x1
  pub flags : by.call.x2 ≡ 1
  pub optional : (numbered_of r.board by.call.x1).optional ≡ true

pub record GoesIdle (r : Record) (e : Event) : Type 0 where
  pub by : Called r e
  pub asks : Asks by.call function.Cancel
  pub state : Cancellable r.state by.call.x1

pub record Withdraws (r : Record) (e : Event) (id : ℕ) : Type 0 where
  pub by : Called r e
  pub asks : Asks by.call function.Cancel
  pub state : Priming r.state id false

pub record TurnsOff (r : Record) (e : Event) (cpu : ℕ) : Type 0 where
  pub by : Called r e
  pub asks : Asks by.call function.CpuOff
  pub caller : cpu ≡ by.call.cpu
  pub power : PowerFree r.state
  pub others : same_of r.on (only_of cpu) ≡ false

pub record TurnsOn (r : Record) (e : Event) (w : Waking) : Type 0 where
  pub by : Called r e
  pub asks : Asks by.call function.CpuOn
  pub target : w.target ≡ by.call.x1
  pub exists : w.target < r.board.cpus
  pub off : has_of r.on w.target ≡ false
  pub entry : good_entry r.board.first r.board.last w.entry ≡ true
  pub power : PowerFree r.state

pub record EndsPrime (r : Record) (e : Event) (p : Report) : Type 0 where
  pub event : e ≡ event.Prime p
  pub running : Priming r.state p.component false
  pub allowed : is_prime_code p.code ≡ true

pub record EndsWithdrawn (r : Record) (e : Event) : Type 0 where
  pub report : Report
  pub event : e ≡ event.Prime report
  pub running : Priming r.state report.component true
  pub allowed : is_prime_code report.code ≡ true

pub record EndsActivate (r : Record) (e : Event) (p : Report) : Type 0 where
  pub event : e ≡ event.Activate p
  pub running : Activating r.state p.component
  pub allowed : activate_allows (is_alone r.state) (may_reset_at r.board p.component) p.code ≡ true

pub record NotesImage (r : Record) (e : Event) (i : Image) : Type 0 where
  pub event : e ≡ event.Image i
  pub capable : is_capable r.board i.component ≡ true
  pub other : is_for r.state i.component ≡ false

abbrev pub Facts : Record → Event → Move → Type 0
Facts r e (Refuse x) = Refuses r x
Facts r e (Return x) = Returns r e x
Facts r e NoteInfo = NotesInfo r e
Facts r e (StartPrime a) = Primes r e a
Facts r e (Gather a) = Joins r e a false
Facts r e (StartTogether a) = Joins r e a true
Facts r e (StartAlone a) = Skips r e a
Facts r e ToIdle = GoesIdle r e
Facts r e (Withdraw id) = Withdraws r e id
Facts r e (PowerOff cpu) = TurnsOff r e cpu
Facts r e (PowerOn w) = TurnsOn r e w
Facts r e (EndPrime p) = EndsPrime r e p
Facts r e EndWithdrawn = EndsWithdrawn r e
Facts r e (EndActivate p) = EndsActivate r e p
Facts r e (NoteImage i) = NotesImage r e i

-- only an activation without rendezvous is called again
pub again_alone : (r : Record) (e : Event) (p : Report) → EndsActivate r e p → p.code ≡ 1 → skips_rendezvous r.state ≡ true
unfolding activate_allows
again_alone r e p g q =
    (activating-subject g.running).1 ∙ sym (ap (activate_allows (is_alone r.state) (may_reset_at r.board p.component)) q) ∙ g.allowed
