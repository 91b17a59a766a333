-- What is shown of reasons (`shown` and `own-shown`, proofs/Shown.antt). Assumes nothing.
use Rattle.std.specs.Prelude.{ℕ, ◌<◌, ◌≤◌, ◌≡◌, true, false, List, ◌++◌, ◌↔◌, length, get_or, Err, Ok, Some}
use Rattle.basics.specs.First.{first_of, IsFirst}
use Rattle.cpuset.specs.Set.{has_of, without_of, less_of}
use Rattle.cpuset.specs.declared.CpuSet.{CpuSet}
use Rattle.board.specs.declared.Board.{Board}
use Rattle.board_record.specs.declared.Record.{Record}
use Rattle.log_book.specs.Log.{most_records, log_bytes}
use Rattle.rules.specs.Moves.{rows_for}
use Rattle.rules.specs.declared.Event.{Event}
use Rattle.rules.specs.declared.Event.TheVariants as event
use Rattle.rules.specs.declared.Refusal.{Refusal}
use Rattle.reader.specs.Starts.{starts_at, powered_at, held_at}
use Rattle.trace.specs.Run.{run, log_of, AllTyped}
use Rattle.trace.specs.Steady.{SomeCpu}
use Rattle.history.specs.Walk.{walked_of}
use Rattle.reason.specs.Reason.{call_of, Rule, reason_rows}
use Rattle.reason.specs.Explained.{outcome_at, called_of, explained_of}
use Rattle.reason.specs.Numbers.{answer_for}
use Rattle.reason.specs.declared.Activate.{Activate}
use Rattle.reason.specs.declared.Reason.{Reason}
use Rattle.reason.specs.declared.Reason.TheVariants.{Held, AllPresent}
use Rattle.reason.specs.declared.Unexplained.TheVariants as unexplained

-- the board's record where the walk ended
abbrev pub there : List ℕ → List ℕ → ℕ → Record
there board log place = (walked_of board log place).rec

-- no refusal comes: the walk gets to the place (so board and log read, and no record departs), and 2, 3 and 4 don't apply
pub record IsAsked (board log : List ℕ) (place : ℕ) (a : Activate) : Type 0 where
  pub agrees : (walked_of board log place).ended ≡ Ok tt
  pub caller : first_of (rows_for (there board log place) (event.Call (call_of a))) ≡ 0

-- the rules there, and what stands for one that there isn't
abbrev pub rules : List ℕ → List ℕ → ℕ → Activate → List Rule
rules board log place a = reason_rows (there board log place) a

abbrev pub past : Rule
past = (AllPresent, true)

-- a CPU is powered, not held and not the caller
pub record IsMissing (r : Record) (a : Activate) (cpu : ℕ) : Type 0 where
  pub powered : has_of r.on cpu ≡ true
  pub not_held : has_of r.held cpu ≡ false
  pub not_caller : cpu ≡ a.cpu → ⊥

-- ---- for any bytes, place and call
pub record Shown (board log : List ℕ) (place : ℕ) (a : Activate) : Type 0 where
  -- a rule's reason comes exactly when no refusal does and it is the first rule that applies
  pub exactly : (i : ℕ) → i < length (rules board log place a)
      → explained_of board log place a ≡ Ok (get_or (rules board log place a) i past).0 ↔ (IsAsked board log place a × IsFirst past (rules board log place a) i)
  -- the agent's answer there is the one that the reason names: its status, held, or started
  pub answer : (x : Reason) → explained_of board log place a ≡ Ok x → outcome_at (there board log place) a ≡ Ok (answer_for x)
  -- and a caller is refused as the agent refuses it
  pub refused : (x : Refusal) → explained_of board log place a ≡ Err (unexplained.Call x) → outcome_at (there board log place) a ≡ Err x
  -- a held call names exactly the CPUs that are missing, and somebody is
  pub missing : (s : CpuSet) → explained_of board log place a ≡ Ok (Held s) → (cpu : ℕ) → has_of s cpu ≡ true ↔ IsMissing (there board log place) a cpu
  pub somebody : (s : CpuSet) → explained_of board log place a ≡ Ok (Held s) → SomeCpu (λ cpu. has_of s cpu ≡ true)

-- ---- of the agent's own logs: any events es and more from a fresh board, registers of 64 bits and versions of 32, that leave no more
-- records than a log has; the log is that of all of them, and the place the one after es
pub record IsOwn (b : Board) (es more : List Event) : Type 0 where
  pub typed : AllTyped (es ++ more)
  pub few : length (log_of b (es ++ more)) ≤ most_records

abbrev pub own_log : Board → List Event → List Event → List ℕ
own_log b es more = log_bytes (log_of b (es ++ more))

abbrev pub own_place : Board → List Event → ℕ
own_place b es = length (log_of b es)

-- for every description that reads, of a board b
pub record Own (description : List ℕ) (b : Board) : Type 0 where
  -- no refusal comes but the caller's, so no 35: it is explained by the agent's own record there
  pub explained : (es more : List Event) → IsOwn b es more → (a : Activate)
      → explained_of description (own_log b es more) (own_place b es) a ≡ called_of (run b es) a
  -- the missing are those that the plain reader's powered and held sets give
  pub missing : (es more : List Event) → IsOwn b es more → (a : Activate) (s on held : CpuSet)
      → explained_of description (own_log b es more) (own_place b es) a ≡ Ok (Held s)
      → powered_at (own_log b es more) (own_place b es) ≡ Ok on → held_at (own_log b es more) (own_place b es) ≡ Ok held
      → s ≡ less_of (without_of on a.cpu) held
  -- "all present" comes exactly when the plain reader says that a rendezvous activation starts, and it says so of X1
  pub present : (es more : List Event) → IsOwn b es more → (a : Activate)
      → explained_of description (own_log b es more) (own_place b es) a ≡ Ok AllPresent
      ↔ starts_at description (own_log b es more) (own_place b es) (call_of a) ≡ Ok (Some a.x1)
  pub starts : (es more : List Event) → IsOwn b es more → (a : Activate) (c : ℕ)
      → starts_at description (own_log b es more) (own_place b es) (call_of a) ≡ Ok (Some c) → c ≡ a.x1
