-- The board's record (document 01, "The board and its record"): its states and how it starts. Assumes nothing.
use Rattle.std.specs.Prelude.{ℕ, Bool, true, false, List, [], ◌∷◌, eqb, length, get_or, replicate, None, Option, Some}
use Rattle.basics.specs.Every.{one_of}
use Rattle.cpuset.specs.Set.{none_of, only_of}
use Rattle.board.specs.Description.{most_components, most_cpus}
use Rattle.board.specs.declared.Board.{Board}
use Rattle.board_record.specs.declared.State.{State}
use Rattle.board_record.specs.declared.State.TheVariants.{Idle, Preparing, HalfPrepared, Ready, Gathering, Together, Alone, HalfActivated, Dead, Withdrawn}
use Rattle.board_record.specs.declared.Holding.{Holding}
use Rattle.board_record.specs.declared.Holding.TheVariants.{Nobody, One, Part, All}
use Rattle.board_record.specs.declared.Record.{Record}

-- "the state with its component" (Board 3; withdrawn: request 3)
abbrev pub subject_of : State → Option ℕ
subject_of Idle = None
subject_of (Preparing c) = Some c
subject_of (HalfPrepared c) = Some c
subject_of (Ready c) = Some c
subject_of (Gathering c) = Some c
subject_of (Together c) = Some c
subject_of (Alone c) = Some c
subject_of (HalfActivated c) = Some c
subject_of Dead = None
subject_of (Withdrawn c) = Some c

-- its number, 0 where there is none
abbrev pub about_number : Option ℕ → ℕ
about_number None = 0
about_number (Some c) = c

abbrev pub subject_number : State → ℕ
subject_number s = about_number (subject_of s)

abbrev pub is_about : Option ℕ → ℕ → Bool
is_about None id = false
is_about (Some c) id = eqb c id

-- the state's component is number id
abbrev pub is_for : State → ℕ → Bool
is_for s id = is_about (subject_of s) id

-- how many of the powered CPUs each state holds ("Held CPUs", Board 6; in withdrawn "as in preparing", request 3)
abbrev pub holding_of : State → Holding
holding_of Idle = Nobody
holding_of (Preparing c) = One
holding_of (HalfPrepared c) = Nobody
holding_of (Ready c) = Nobody
holding_of (Gathering c) = Part
holding_of (Together c) = All
holding_of (Alone c) = One
holding_of (HalfActivated c) = Nobody
holding_of Dead = Nobody
holding_of (Withdrawn c) = One

-- a state's place in document 01's table of rules, which is also its number for a host; first the places that rules ask
-- for by name
abbrev pub idle_place : ℕ
idle_place = 0

abbrev pub preparing_place : ℕ
preparing_place = 1

abbrev pub half_prepared_place : ℕ
half_prepared_place = 2

abbrev pub gathering_place : ℕ
gathering_place = 4

abbrev pub together_place : ℕ
together_place = 5

abbrev pub alone_place : ℕ
alone_place = 6

abbrev pub half_activated_place : ℕ
half_activated_place = 7

abbrev pub dead_place : ℕ
dead_place = 8

abbrev pub withdrawn_place : ℕ
withdrawn_place = 9

abbrev pub place_of : State → ℕ
place_of Idle = idle_place
place_of (Preparing c) = preparing_place
place_of (HalfPrepared c) = half_prepared_place
place_of (Ready c) = 3
place_of (Gathering c) = gathering_place
place_of (Together c) = together_place
place_of (Alone c) = alone_place
place_of (HalfActivated c) = half_activated_place
place_of Dead = dead_place
place_of (Withdrawn c) = withdrawn_place

-- the states in the order of that table, about component c where they have one
abbrev pub in_order : ℕ → List State
in_order c = Idle ∷ Preparing c ∷ HalfPrepared c ∷ Ready c ∷ Gathering c ∷ Together c ∷ Alone c ∷ HalfActivated c ∷ Dead ∷ Withdrawn c ∷ []

-- how many there are; a new state takes the next place, and those that are there keep theirs
abbrev pub state_count : ℕ
state_count = length (in_order 0)

-- a prime job is running, "withdrawn" (request 3) or not
abbrev pub has_prime_job : State → Bool
has_prime_job s = one_of (place_of s) (preparing_place ∷ withdrawn_place ∷ [])

-- and it was withdrawn
abbrev pub is_withdrawn : State → Bool
is_withdrawn s = eqb (place_of s) withdrawn_place

-- some of the powered CPUs are held for ACTIVATE, and not all
abbrev pub is_gathering : State → Bool
is_gathering s = eqb (place_of s) gathering_place

-- CPUs are held for a rendezvous: some of the powered ones, or all
abbrev pub for_rendezvous : Holding → Bool
for_rendezvous Nobody = false
for_rendezvous One = false
for_rendezvous Part = true
for_rendezvous All = true

abbrev pub is_rendezvous : State → Bool
is_rendezvous s = for_rendezvous (holding_of s)

-- an activation without rendezvous is running
abbrev pub is_alone : State → Bool
is_alone s = eqb (place_of s) alone_place

-- an activation without rendezvous began: it is running, or half done
abbrev pub skips_rendezvous : State → Bool
skips_rendezvous s = one_of (place_of s) (alone_place ∷ half_activated_place ∷ [])

-- whether component id has a pending image, and its version (Board 3)
abbrev pub is_pending : List Bool → ℕ → Bool
is_pending pending id = get_or pending id false

abbrev pub version_of : List ℕ → ℕ → ℕ
version_of version id = get_or version id 0

-- "Fresh" (Board 4)
unfoldable pub fresh_of : Board → Record
fresh_of b = record {
  board = b;
  pending = replicate most_components false;
  version = replicate most_components 0;
  state = Idle;
  on = only_of 0;
  held = none_of;
  entry = replicate most_cpus 0;
  context = replicate most_cpus 0;
  informed = false;
}
