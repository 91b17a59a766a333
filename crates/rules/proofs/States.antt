-- The states that the moves ask for, each kind with the cases that it has, and what they are: whom they hold, and what they
-- are about. All by cases of the state, and the table row by row (`row-says`). Assumes nothing.
use Rattle.std.specs.Prelude.{Some}
use Prim.Native.Nat.{ℕ}
use mathlib.Core.Path.{◌≡◌, refl}
use mathlib.Core.Bool.{Bool, true, false}
use mathlib.Core.Logic.{◌⊎◌, inl, inr}
use borrow.Author.Tests.{eqb-true, not-false}
use Rattle.basics.specs.Choice.{not-both}
use Rattle.board.specs.declared.Board.{Board}
use Rattle.board_record.specs.Record.{subject_of, is_for, holding_of, is_rendezvous, skips_rendezvous, is_gathering, is_alone, is_withdrawn}
use Rattle.board_record.specs.WellFormed.{keeps_entries}
use Rattle.board_record.specs.declared.Holding.TheVariants.{Nobody, One, All}
use Rattle.board_record.specs.declared.State.{State}
use Rattle.board_record.specs.declared.State.TheVariants.{Idle, Preparing, HalfPrepared, Ready, Gathering, Together, Alone, HalfActivated, Dead, Withdrawn}
use Rattle.rules.specs.Calls.{is_other}
use Rattle.rules.specs.Reports.{is_priming, is_activating}
use Rattle.rules.specs.Table.{rule_of}
use Rattle.rules.specs.declared.cells.PrimeCell.{PrimeCell}
use Rattle.rules.specs.declared.cells.PrimeCell.TheVariants as prime
use Rattle.rules.specs.declared.cells.ActivateCell.{ActivateCell}
use Rattle.rules.specs.declared.cells.ActivateCell.TheVariants as activate
use Rattle.rules.specs.declared.cells.CancelCell.{CancelCell}
use Rattle.rules.specs.declared.cells.CancelCell.TheVariants as cancel
use Rattle.rules.specs.declared.cells.PowerCell.{PowerCell}
use Rattle.rules.specs.declared.cells.PowerCell.TheVariants as power

-- ---- the states that the moves ask for

-- component id can be primed
pub data Primable : State → ℕ → Type 0 where
  primed-first : {id : ℕ} → Primable Idle id
  primed-again : {id : ℕ} → Primable (HalfPrepared id) id

-- a prime job is running for it, withdrawn or not
pub data Priming : State → ℕ → Bool → Type 0 where
  priming-now : {id : ℕ} → Priming (Preparing id) id false
  priming-withdrawn : {id : ℕ} → Priming (Withdrawn id) id true

-- ACTIVATE is tried
pub data Tried : State → Type 0 where
  tried-ready : {c : ℕ} → Tried (Ready c)
  tried-gathering : {c : ℕ} → Tried (Gathering c)
  tried-alone : {c : ℕ} → Tried (Alone c)
  tried-half-activated : {c : ℕ} → Tried (HalfActivated c)

-- CPUs gather for component id
pub data Gatherable : State → ℕ → Type 0 where
  first_one : {id : ℕ} → Gatherable (Ready id) id
  one-more : {id : ℕ} → Gatherable (Gathering id) id

-- an activation of it starts without rendezvous
pub data Skippable : State → ℕ → Type 0 where
  skipped-first : {id : ℕ} → Skippable (Ready id) id
  skipped-again : {id : ℕ} → Skippable (HalfActivated id) id

-- an activate job is running for it
pub data Activating : State → ℕ → Type 0 where
  activating-together : {id : ℕ} → Activating (Together id) id
  activating-alone : {id : ℕ} → Activating (Alone id) id

-- a CANCEL of it goes to idle
pub data Cancellable : State → ℕ → Type 0 where
  cancel-half-prepared : {id : ℕ} → Cancellable (HalfPrepared id) id
  cancel-ready : {id : ℕ} → Cancellable (Ready id) id
  cancel-gathering : {id : ℕ} → Cancellable (Gathering id) id
  cancel-half-activated : {id : ℕ} → Cancellable (HalfActivated id) id

-- a CANCEL finds nothing to end: there is no component, or it is withdrawn already
pub data Vacant : State → Type 0 where
  vacant-idle : Vacant Idle
  vacant-dead : Vacant Dead
  vacant-withdrawn : {c : ℕ} → Vacant (Withdrawn c)

-- power calls are free
pub data PowerFree : State → Type 0 where
  free-idle : PowerFree Idle
  free-preparing : {c : ℕ} → PowerFree (Preparing c)
  free-half-prepared : {c : ℕ} → PowerFree (HalfPrepared c)
  free-ready : {c : ℕ} → PowerFree (Ready c)
  free-dead : PowerFree Dead
  free-withdrawn : {c : ℕ} → PowerFree (Withdrawn c)

-- ---- what they are

-- a state rests that holds nobody and keeps no entries
abbrev pub Rests : Board → State → Type 0
Rests b s = (holding_of s ≡ Nobody) × (keeps_entries b s ≡ false)

pub prime-rests : {s : State} {id : ℕ} (b : Board) → Primable s id → Rests b s
prime-rests b primed-first = (refl, refl)
prime-rests b primed-again = (refl, refl)

pub skip-rests : {s : State} {id : ℕ} (b : Board) → Skippable s id → Rests b s
skip-rests b skipped-first = (refl, refl)
skip-rests b skipped-again = (refl, refl)

pub skip-subject : {s : State} {id : ℕ} → Skippable s id → subject_of s ≡ Some id
skip-subject skipped-first = refl
skip-subject skipped-again = refl

pub gather-subject : {s : State} {id : ℕ} → Gatherable s id → subject_of s ≡ Some id
gather-subject first_one = refl
gather-subject one-more = refl

pub priming-subject : {s : State} {id : ℕ} {withdrawn : Bool} → Priming s id withdrawn → subject_of s ≡ Some id
priming-subject priming-now = refl
priming-subject priming-withdrawn = refl

-- it holds one and keeps no entries
pub priming-holds : {s : State} {id : ℕ} {withdrawn : Bool} (b : Board) → Priming s id withdrawn → (holding_of s ≡ One) × (keeps_entries b s ≡ false)
priming-holds b priming-now = (refl, refl)
priming-holds b priming-withdrawn = (refl, refl)

-- which of the two it is
pub priming-is : {s : State} {id : ℕ} {withdrawn : Bool} → Priming s id withdrawn → is_withdrawn s ≡ withdrawn
priming-is priming-now = refl
priming-is priming-withdrawn = refl

pub activating-subject : {s : State} {id : ℕ} → Activating s id → (subject_of s ≡ Some id) × (skips_rendezvous s ≡ is_alone s)
activating-subject activating-together = (refl, refl)
activating-subject activating-alone = (refl, refl)

-- where power calls are free nobody is held for a rendezvous
pub free-apart : {s : State} → PowerFree s → is_rendezvous s ≡ false
free-apart free-idle = refl
free-apart free-preparing = refl
free-apart free-half-prepared = refl
free-apart free-ready = refl
free-apart free-dead = refl
free-apart free-withdrawn = refl

-- ---- what a test says of the state
no-job : {A : Type 0} → false ≡ true → A
no-job e = absurd (not-both e refl)

-- that of a report
pub jobs : (s : State) (id : ℕ) → (is_priming s id ≡ true → Priming s id (is_withdrawn s)) × (is_activating s id ≡ true → Activating s id)
jobs Idle id = (no-job, no-job)
jobs (Preparing c) id = (λ e. rw (eqb-true c id e) priming-now, no-job)
jobs (HalfPrepared c) id = (no-job, no-job)
jobs (Ready c) id = (no-job, no-job)
jobs (Gathering c) id = (no-job, no-job)
jobs (Together c) id = (no-job, λ e. rw (eqb-true c id e) activating-together)
jobs (Alone c) id = (no-job, λ e. rw (eqb-true c id e) activating-alone)
jobs (HalfActivated c) id = (no-job, no-job)
jobs Dead id = (no-job, no-job)
jobs (Withdrawn c) id = (λ e. rw (eqb-true c id e) priming-withdrawn, no-job)

-- those of an ACTIVATE that is tried, without skip and with it
pub gatherable : {s : State} (id : ℕ) → Tried s → is_for s id ≡ true → skips_rendezvous s ≡ false → Gatherable s id
gatherable id (tried-ready {c}) f n = rw (eqb-true c id f) first_one
gatherable id (tried-gathering {c}) f n = rw (eqb-true c id f) one-more
gatherable id tried-alone f n = absurd (not-both refl n)
gatherable id tried-half-activated f n = absurd (not-both refl n)

pub skippable : {s : State} (id : ℕ) → Tried s → is_for s id ≡ true → is_alone s ≡ false → is_gathering s ≡ false → Skippable s id
skippable id (tried-ready {c}) f a n = rw (eqb-true c id f) skipped-first
skippable id tried-gathering f a n = absurd (not-both refl n)
skippable id tried-alone f a n = absurd (not-both refl a)
skippable id (tried-half-activated {c}) f a n = rw (eqb-true c id f) skipped-again

-- ---- what a cell of the table says of the state, for a call about component id
abbrev pub PrimeSays : PrimeCell → State → ℕ → Type 0
PrimeSays prime.Try s id = Primable s id
PrimeSays prime.TrySame s id = is_for s id ≡ true → Primable s id
PrimeSays (prime.Answers k) s id = Unit
PrimeSays prime.NoCaller s id = holding_of s ≡ All

abbrev pub ActivateSays : ActivateCell → State → Type 0
ActivateSays activate.Try s = Tried s
ActivateSays (activate.Answers k) s = Unit
ActivateSays activate.NoCaller s = holding_of s ≡ All

abbrev pub CancelSays : CancelCell → State → ℕ → Type 0
CancelSays cancel.ToIdle s id = is_other s id ≡ false → Cancellable s id
CancelSays cancel.Withdraw s id = is_other s id ≡ false → Priming s id false
CancelSays (cancel.Answers k) s id = Vacant s ⊎ (k ≡ 2)
CancelSays cancel.NoCaller s id = holding_of s ≡ All

abbrev pub PowerSays : PowerCell → State → Type 0
PowerSays power.Free s = PowerFree s
PowerSays power.Frozen s = Unit
PowerSays power.NoCaller s = holding_of s ≡ All

-- | State | PRIME | ACTIVATE | CANCEL | OFF, ON |
pub row-says : (s : State) (id : ℕ)
    → PrimeSays (rule_of s).prime s id × ActivateSays (rule_of s).activate s × CancelSays (rule_of s).cancel s id × PowerSays (rule_of s).power s
row-says Idle id = (primed-first, tt, inl vacant-idle, free-idle)
row-says (Preparing c) id = (tt, tt, λ o. rw (eqb-true c id (not-false _ o)) priming-now, free-preparing)
row-says (HalfPrepared c) id =
    (λ e. rw (eqb-true c id e) primed-again, tt, λ o. rw (eqb-true c id (not-false _ o)) cancel-half-prepared, free-half-prepared)
row-says (Ready c) id = (tt, tried-ready, λ o. rw (eqb-true c id (not-false _ o)) cancel-ready, free-ready)
row-says (Gathering c) id = (tt, tried-gathering, λ o. rw (eqb-true c id (not-false _ o)) cancel-gathering, tt)
row-says (Together c) id = (refl, refl, refl, refl)
row-says (Alone c) id = (tt, tried-alone, inr refl, tt)
row-says (HalfActivated c) id =
    (tt, tried-half-activated, λ o. rw (eqb-true c id (not-false _ o)) cancel-half-activated, tt)
row-says Dead id = (tt, tt, inl vacant-dead, free-dead)
row-says (Withdrawn c) id = (tt, tt, inl vacant-withdrawn, free-withdrawn)
