-- A move in document 01's numbers, and which refusal an event is given ("Events and what they answer"; the outcomes: "Packed
-- forms"). Assumes nothing.
use Rattle.std.specs.Prelude.{ℕ, ◌≡◌, Bool, true, not, ◌&&◌, ◌||◌, List, [], ◌∷◌, eqb, leb, ltb, Err, Ok, Result}
use Rattle.basics.specs.Choice.{pick}
use Rattle.basics.specs.Every.{one_of}
use Rattle.basics.specs.First.{Row, first_of}
use Rattle.codes.specs.Codes.{by_reset, is_prime_code}
use Rattle.codes.specs.Outcomes.{returned, held, prime_started, activation_started, gone, released, noted, call_outcomes}
use Rattle.cpuset.specs.Set.{has_of}
use Rattle.board.specs.Description.{is_capable, may_reset_at}
use Rattle.board_record.specs.Record.{is_for, is_alone, is_withdrawn}
use Rattle.board_record.specs.WellFormed.{well_formed}
use Rattle.board_record.specs.declared.Record.{Record}
use Rattle.board_record.specs.declared.State.{State}
use Rattle.rules.specs.Statuses.{minus_of, cancelled_status, number_of}
use Rattle.rules.specs.Reports.{is_priming, is_activating, activate_allows}
use Rattle.rules.specs.declared.Event.{Event}
use Rattle.rules.specs.declared.Event.TheVariants as event
use Rattle.rules.specs.declared.Move.{Move}
use Rattle.rules.specs.declared.Move.TheVariants.{Refuse, Return, NoteInfo, StartPrime, Gather, StartTogether, StartAlone, ToIdle, Withdraw, PowerOff, PowerOn, EndPrime, EndWithdrawn, EndActivate, NoteImage}
use Rattle.rules.specs.declared.Refusal.{Refusal}

-- ---- the number of its refusal, 0 where it is none; the outcome that its event has in the log, 0 for a refusal; and "Word 6"
-- (Packed 6)
pub record Numbers : Type 0 where
  pub refusal : ℕ
  pub outcome : ℕ
  pub given : ℕ

-- a refusal "comes with nothing else" (Events 21)
unfoldable pub refused_with : ℕ → Numbers
refused_with n = record { refusal = n; outcome = 0; given = 0 }

unfoldable pub told_as : ℕ → ℕ → Numbers
told_as outcome given = record { refusal = 0; outcome = outcome; given = given }

-- the X0 and X1 with which the held CPUs are released (Reports 2)
unfoldable pub status_of : ℕ → ℕ
status_of code = pick (eqb code 1) 0 (minus_of code)

abbrev pub again_of : ℕ → ℕ
again_of code = pick (eqb code 1) 1 0

-- by a prime report: in withdrawn "X0 = -11 and X1 = 0", whatever its code (request 3)
abbrev pub prime_status : State → ℕ → ℕ
prime_status s code = pick (is_withdrawn s) cancelled_status (status_of code)

abbrev pub prime_again : State → ℕ → ℕ
prime_again s code = pick (is_withdrawn s) 0 (again_of code)

-- by an activate report: a reset gives no X0 (Reports 6)
unfoldable pub activate_status : ℕ → ℕ
activate_status code = pick (eqb code by_reset) 0 (status_of code)

abbrev pub numbers_of : Move → Numbers
numbers_of (Refuse x) = refused_with (number_of x)
numbers_of (Return x) = told_as returned x.x0
numbers_of NoteInfo = told_as returned 0
numbers_of (StartPrime a) = told_as prime_started 0
numbers_of (Gather a) = told_as held 0
numbers_of (StartTogether a) = told_as activation_started 0
numbers_of (StartAlone a) = told_as activation_started 0
numbers_of ToIdle = told_as returned 0
numbers_of (Withdraw id) = told_as returned 0
numbers_of (PowerOff cpu) = told_as gone 0
numbers_of (PowerOn w) = told_as returned 0
numbers_of (EndPrime p) = told_as released (status_of p.code)
numbers_of EndWithdrawn = told_as released cancelled_status
numbers_of (EndActivate p) = told_as released (activate_status p.code)
numbers_of (NoteImage i) = told_as noted 0

-- of what comes before the event's own rules
abbrev pub refusal_of : Result Unit Refusal → ℕ
refusal_of (Ok tt) = 0
refusal_of (Err x) = number_of x

-- ---- the table of refusals (Events 8)

-- of calls (Events 11), of reports (Events 12) and of images (Events 13)
abbrev pub rows_for : Record → Event → List Row
rows_for r (event.Call call) = (2, leb r.board.cpus call.cpu) ∷ (3, not (has_of r.on call.cpu)) ∷ (4, has_of r.held call.cpu) ∷ []
rows_for r (event.Prime p) = (5, not (is_priming r.state p.component)) ∷ (6, not (is_prime_code p.code)) ∷ []
rows_for r (event.Activate p) =
    (5, not (is_activating r.state p.component))
    ∷ (6, not (activate_allows (is_alone r.state) (may_reset_at r.board p.component) p.code))
    ∷ []
rows_for r (event.Image i) = (7, not (is_capable r.board i.component)) ∷ (8, is_for r.state i.component) ∷ []

-- those of any event (Events 9 and 10), and the rows after them
abbrev pub admission_rows : Record → ℕ → ℕ → List Row → List Row
admission_rows r entries contexts rows =
    (9, not (well_formed r)) ∷ (1, ltb entries r.board.cpus || ltb contexts r.board.cpus) ∷ rows

abbrev pub event_rows : Record → Event → ℕ → ℕ → List Row
event_rows r e entries contexts = admission_rows r entries contexts (rows_for r e)

-- ---- what is accepted

-- which outcomes each event has (Packed 8); a report gives its status, of a withdrawn preparation -11
abbrev pub is_told : State → Event → Numbers → Bool
is_told s (event.Call call) m = one_of m.outcome call_outcomes
is_told s (event.Prime p) m = eqb m.outcome released && eqb m.given (prime_status s p.code)
is_told s (event.Activate p) m = eqb m.outcome released && eqb m.given (activate_status p.code)
is_told s (event.Image i) m = eqb m.outcome noted && eqb m.given 0

-- what an event calls for: "The first that applies" (Events 20) and nothing else, or it is told
pub record Decided (r : Record) (e : Event) (entries contexts : ℕ) (m : Numbers) : Type 0 where
  pub refusal : m.refusal ≡ first_of (event_rows r e entries contexts)
  pub nothing : (m.refusal ≡ 0 → ⊥) → m ≡ refused_with m.refusal
  pub told : m.refusal ≡ 0 → is_told r.state e m ≡ true
