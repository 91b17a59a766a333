-- What is decided, in document 01's numbers: a refusal is the first of its table, and past these tests no call is refused (`Free`);
-- what is accepted is told as its kind of event is, by its move's facts. Assumes nothing.
use Rattle.std.specs.Prelude.{None, Option, Some}
use Prim.Native.Nat.{ℕ}
use mathlib.Core.Path.{◌≡◌, refl}
use mathlib.Core.Bool.{Bool, true, false, not, ◌&&◌}
use mathlib.Core.List.{[], ◌∷◌}
use lib.Dec.{eqb, leb, ltb}
use borrow.Author.Tests.{eq-eqb, eqb-false}
use Rattle.basics.specs.Choice.{pick}
use Rattle.basics.proofs.Choice.{pick-cases}
use Rattle.basics.specs.First.{first_of}
use Rattle.codes.specs.Numbers.{version_number, cancel_number, function_number}
use Rattle.codes.specs.Codes.{is_prime_code}
use Rattle.codes.specs.declared.Call.{Call}
use Rattle.cpuset.specs.Set.{has_of, only_of, with_of, same_of}
use Rattle.board.specs.Description.{numbered_of, is_capable, may_reset_at, good_entry, entry_right}
use Rattle.board_record.specs.Record.{is_for, holding_of, is_alone, is_withdrawn, version_of}
use Rattle.board_record.specs.WellFormed.{well_formed}
use Rattle.board_record.proofs.Clauses.{told, none_free}
use Rattle.board_record.specs.declared.Holding.TheVariants.{All}
use Rattle.board_record.specs.declared.Record.{Record}
use Rattle.rules.specs.Statuses.{cancelled_status, number_of}
use Rattle.rules.specs.Numbers.{decode_of}
use Rattle.rules.specs.Table.{rule_of}
use Rattle.rules.specs.Calls.{returned, no_caller, features_of, info_of, inventory_of, may_prime, try_prime_of, try_same_of, prime_by, skips, fields_right, join_of, try_activate_of, activate_by, is_other, cancel_by, cancel_of, off_free, off_by, wake_by, on_of, function_of, answer_by, answer_of, call_of}
use Rattle.rules.specs.Reports.{is_priming, is_activating, activate_allows, ending_of, prime_report_of, activate_report_of, image_of}
use Rattle.rules.specs.Decide.{event_of, decide_of}
use Rattle.rules.specs.Moves.{refused_with, told_as, status_of, activate_status, numbers_of, rows_for, event_rows, is_told, Decided}
use Rattle.rules.specs.declared.Event.{Event}
use Rattle.rules.specs.declared.Event.TheVariants as event
use Rattle.rules.specs.declared.Move.{Move}
use Rattle.rules.specs.declared.Move.TheVariants.{Refuse, Return, NoteInfo, StartPrime, Gather, StartTogether, StartAlone, ToIdle, Withdraw, PowerOff, PowerOn, EndPrime, EndWithdrawn, EndActivate, NoteImage}
use Rattle.rules.specs.declared.Refusal.{Refusal}
use Rattle.rules.specs.declared.Refusal.TheVariants.{NotWellFormed, TableShort, NoSuchCpu, CpuOff, CpuHeld, NoSuchJob, CodeNotAllowed, NotCapable, StateComponent}
use Rattle.rules.specs.declared.cells.PrimeCell.{PrimeCell}
use Rattle.rules.specs.declared.cells.PrimeCell.TheVariants as prime
use Rattle.rules.specs.declared.cells.ActivateCell.{ActivateCell}
use Rattle.rules.specs.declared.cells.ActivateCell.TheVariants as activate
use Rattle.rules.specs.declared.cells.CancelCell.{CancelCell}
use Rattle.rules.specs.declared.cells.CancelCell.TheVariants as cancel
use Rattle.rules.specs.declared.cells.PowerCell.{PowerCell}
use Rattle.rules.specs.declared.cells.PowerCell.TheVariants as power
use Rattle.rules.specs.declared.numbers.Function.{Function}
use Rattle.rules.specs.declared.numbers.Function.TheVariants as function
use Rattle.rules.proofs.States.{PrimeSays, ActivateSays, CancelSays, PowerSays, row-says, priming-is}
use Rattle.rules.proofs.Admitted.{admitted-first}
use Rattle.rules.proofs.Facts.{Facts}
use Rattle.rules.proofs.Guards.{decide-guard}

-- 0 is no refusal's number
pub number-some : (x : Refusal) → eqb (number_of x) 0 ≡ false
number-some NotWellFormed = refl
number-some TableShort = refl
number-some NoSuchCpu = refl
number-some CpuOff = refl
number-some CpuHeld = refl
number-some NoSuchJob = refl
number-some CodeNotAllowed = refl
number-some NotCapable = refl
number-some StateComponent = refl

-- ---- an accepted call is not refused: only where all are held is there no caller

record Free (m : Move) : Type 0 where
  none : (numbers_of m).refusal ≡ 0

free : {m : Move} → (numbers_of m).refusal ≡ 0 → Free m
free e = record { none = e }

-- by the test alone, whichever way it goes
either : (b : Bool) (x y : Move) → Free x → Free y → Free (pick b x y)
either b x y p q = pick-cases Free b x y (λ _. p) (λ _. q)

module _ (r : Record) (call : Call) (some-free : holding_of r.state ≡ All → ⊥) where
  nobody : holding_of r.state ≡ All → Free no_caller
  nobody h = absurd (some-free h)

  said : (x0 : ℕ) → Free (returned x0)
  unfolding returned told_as
  said x0 = free refl

  try-prime-free : Free (try_prime_of r call)
  unfolding try_prime_of told_as
  try-prime-free =
      either (may_prime r call.x1) _ _
      (either (ltb (version_of r.version call.x1) (numbered_of r.board call.x1).svn) _ _ (said _) (free refl)) (said _)

  prime-free : (x : PrimeCell) → PrimeSays x r.state call.x1 → Free (prime_by x r call)
  unfolding try_same_of
  prime-free prime.Try s = try-prime-free
  prime-free prime.TrySame s = either (is_for r.state call.x1) _ _ try-prime-free (said _)
  prime-free (prime.Answers k) s = said _
  prime-free prime.NoCaller s = nobody s

  join_free : Free (join_of r call)
  unfolding join_of told_as
  join_free = either (same_of (with_of r.held call.cpu) r.on) _ _ (free refl) (free refl)

  activate-free : (x : ActivateCell) → ActivateSays x r.state → Free (activate_by x r call)
  unfolding try_activate_of told_as
  activate-free activate.Try s =
      either (fields_right r call) _ _
      (either (entry_right r.board call.x1 call.x3) _ _
      (either (is_alone r.state) _ _ (said _) (either (skips call) _ _ (free refl) join_free)) (said _)) (said _)
  activate-free (activate.Answers k) s = said _
  activate-free activate.NoCaller s = nobody s

  cancel-free : (x : CancelCell) → CancelSays x r.state call.x1 → Free (cancel_by x call.x1)
  unfolding told_as
  cancel-free cancel.ToIdle s = free refl
  cancel-free cancel.Withdraw s = free refl
  cancel-free (cancel.Answers k) s = said _
  cancel-free cancel.NoCaller s = nobody s

  off-free : (x : PowerCell) → PowerSays x r.state → Free (off_by x r call.cpu)
  unfolding off_free told_as
  off-free power.Free s = either (same_of r.on (only_of call.cpu)) _ _ (said _) (free refl)
  off-free power.Frozen s = said _
  off-free power.NoCaller s = nobody s

  wake-free : (x : PowerCell) → PowerSays x r.state → Free (wake_by x call)
  unfolding told_as
  wake-free power.Free s = free refl
  wake-free power.Frozen s = said _
  wake-free power.NoCaller s = nobody s

  function-free : (f : Function) → Free (function_of r call f)
  unfolding features_of info_of inventory_of cancel_of on_of told_as
  function-free function.Version = said _
  function-free function.Features = either (leb version_number call.x1 && leb call.x1 cancel_number) _ _ (said _) (said _)
  function-free function.GetInfo = either (eqb call.x1 0) _ _ (free refl) (said _)
  function-free function.GetInventory = either r.informed _ _ (either (ltb call.x1 r.board.components) _ _ (free refl) (said _)) (said _)
  function-free function.Prime = prime-free (rule_of r.state).prime (row-says r.state call.x1).0
  function-free function.Activate = activate-free (rule_of r.state).activate (row-says r.state call.x1).1
  function-free function.Cancel = either (is_other r.state call.x1) _ _ (said _) (cancel-free (rule_of r.state).cancel (row-says r.state call.x1).2)
  function-free function.CpuOff = off-free (rule_of r.state).power (row-says r.state call.x1).3
  function-free function.CpuOn =
      either (leb r.board.cpus call.x1) _ _ (said _)
      (either (good_entry r.board.first r.board.last call.x2) _ _
      (either (has_of r.on call.x1) _ _ (said _) (wake-free (rule_of r.state).power (row-says r.state call.x1).3)) (said _))

  answer-free : (d : Option Function) → Free (answer_by d r call)
  answer-free (Some f) = function-free f
  answer-free None = said _

-- ---- the table: "The first that applies" (Events 20)

call-first : (absent on held : Bool) (m : Move) → (on ≡ true → held ≡ false → (numbers_of m).refusal ≡ 0)
    → (numbers_of (pick absent (Refuse NoSuchCpu) (pick on (pick held (Refuse CpuHeld) m) (Refuse CpuOff)))).refusal ≡ first_of ((2, absent) ∷ (3, not on) ∷ (4, held) ∷ [])
unfolding refused_with
call-first true on held m h = refl
call-first false false held m h = refl
call-first false true true m h = refl
call-first false true false m h = h refl refl

report-first : (running allowed : Bool) (m : Move) → (numbers_of m).refusal ≡ 0
    → (numbers_of (pick running (pick allowed m (Refuse CodeNotAllowed)) (Refuse NoSuchJob))).refusal ≡ first_of ((5, not running) ∷ (6, not allowed) ∷ [])
unfolding refused_with
report-first false allowed m f = refl
report-first true false m f = refl
report-first true true m f = f

image-first : (capable its : Bool) (m : Move) → (numbers_of m).refusal ≡ 0
    → (numbers_of (pick capable (pick its (Refuse StateComponent) m) (Refuse NotCapable))).refusal ≡ first_of ((7, not capable) ∷ (8, its) ∷ [])
unfolding refused_with
image-first false its m f = refl
image-first true true m f = refl
image-first true false m f = f

of-event : (r : Record) (e : Event) → well_formed r ≡ true → (numbers_of (event_of r e)).refusal ≡ first_of (rows_for r e)
unfolding call_of answer_of prime_report_of activate_report_of image_of told_as
of-event r (event.Call call) w =
    call-first (leb r.board.cpus call.cpu) (has_of r.on call.cpu) (has_of r.held call.cpu) _
    (λ on apart. (answer-free r call (λ all. none_free r (told r w) all call.cpu on apart) (decode_of (function_number call.x0))).none)
of-event r (event.Prime p) w =
    report-first (is_priming r.state p.component) (is_prime_code p.code) (ending_of r.state p) (either (is_withdrawn r.state) EndWithdrawn (EndPrime p) (free refl) (free refl)).none
of-event r (event.Activate p) w =
    report-first (is_activating r.state p.component) (activate_allows (is_alone r.state) (may_reset_at r.board p.component) p.code) (EndActivate p) refl
of-event r (event.Image i) w = image-first (is_capable r.board i.component) (is_for r.state i.component) (NoteImage i) refl

refusal-given : (r : Record) (e : Event) (entries contexts : ℕ) → (numbers_of (decide_of r e entries contexts)).refusal ≡ first_of (event_rows r e entries contexts)
unfolding decide_of refused_with
refusal-given r e entries contexts =
    admitted-first Refuse (λ (m : Move). (numbers_of m).refusal) (λ x. refl) r entries contexts (event_of r e) (rows_for r e) (of-event r e)

-- ---- a refusal comes with nothing else, and what is accepted is told

refused-only : (m : Move) → ((numbers_of m).refusal ≡ 0 → ⊥) → numbers_of m ≡ refused_with (numbers_of m).refusal
unfolding refused_with told_as
refused-only (Refuse x) d = refl
refused-only (Return x) d = absurd (d refl)
refused-only NoteInfo d = absurd (d refl)
refused-only (StartPrime a) d = absurd (d refl)
refused-only (Gather a) d = absurd (d refl)
refused-only (StartTogether a) d = absurd (d refl)
refused-only (StartAlone a) d = absurd (d refl)
refused-only ToIdle d = absurd (d refl)
refused-only (Withdraw id) d = absurd (d refl)
refused-only (PowerOff cpu) d = absurd (d refl)
refused-only (PowerOn w) d = absurd (d refl)
refused-only (EndPrime p) d = absurd (d refl)
refused-only EndWithdrawn d = absurd (d refl)
refused-only (EndActivate p) d = absurd (d refl)
refused-only (NoteImage i) d = absurd (d refl)

told-as : (r : Record) (e : Event) (m : Move) → Facts r e m → (numbers_of m).refusal ≡ 0 → is_told r.state e (numbers_of m) ≡ true
unfolding refused_with told_as
told-as r e (Refuse x) g z = absurd (eqb-false (number_of x) 0 (number-some x) z)
told-as r e (Return x) g z = rw g.by.event
told-as r e NoteInfo g z = rw g.by.event
told-as r e (StartPrime a) g z = rw g.by.event
told-as r e (Gather a) g z = rw g.by.event
told-as r e (StartTogether a) g z = rw g.by.event
told-as r e (StartAlone a) g z = rw g.by.event
told-as r e ToIdle g z = rw g.by.event
told-as r e (Withdraw id) g z = rw g.by.event
told-as r e (PowerOff cpu) g z = rw g.by.event
told-as r e (PowerOn w) g z = rw g.by.event
told-as r e (EndPrime p) g z = rw (g.event, priming-is g.running) (eq-eqb (status_of p.code) _ refl)
told-as r e EndWithdrawn g z = rw (g.event, priming-is g.running) (eq-eqb cancelled_status _ refl)
told-as r e (EndActivate p) g z = rw g.event (eq-eqb (activate_status p.code) _ refl)
told-as r e (NoteImage i) g z = rw g.event

pub decided : (r : Record) (e : Event) (entries contexts : ℕ) (m : Move) → m ≡ decide_of r e entries contexts → Decided r e entries contexts (numbers_of m)
decided r e entries contexts m q =
    let n = decide_of r e entries contexts in
    rw q (record {
      refusal = refusal-given r e entries contexts;
      nothing = refused-only n;
      told = told-as r e n (decide-guard r e entries contexts);
    })
