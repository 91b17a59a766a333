-- What is computed of the states in order holds of every state. Assumes nothing.
use Prim.Native.Nat.{ℕ, ◌<◌}
use mathlib.Core.Path.{◌≡◌, refl, ap}
use mathlib.Core.Bool.{true}
use mathlib.Core.List.{List, map}
use lib.Dec.{ltb}
use lib.ListN.{get_or}
use borrow.Author.Tests.{ltb-true}
use Rattle.board_record.specs.Record.{place_of, in_order, state_count}
use Rattle.board_record.specs.declared.State.{State}
use Rattle.board_record.specs.declared.State.TheVariants.{Idle, Preparing, HalfPrepared, Ready, Gathering, Together, Alone, HalfActivated, Dead, Withdrawn}

-- two functions of a state that give the same for each of the states in order, whatever their component
module _ {A : Type 0} (f g : State → A) (same : (c : ℕ) → map f (in_order c) ≡ map g (in_order c)) where
  same-at : (c i : ℕ) → get_or (map f (in_order c)) i (f Idle) ≡ get_or (map g (in_order c)) i (f Idle)
  same-at c i = ap (λ (l : List A). get_or l i (f Idle)) (same c)

  -- give the same for every state: each is one of them, at its place
  pub every-state : (s : State) → f s ≡ g s
  every-state Idle = same-at 0 0
  every-state (Preparing c) = same-at c 1
  every-state (HalfPrepared c) = same-at c 2
  every-state (Ready c) = same-at c 3
  every-state (Gathering c) = same-at c 4
  every-state (Together c) = same-at c 5
  every-state (Alone c) = same-at c 6
  every-state (HalfActivated c) = same-at c 7
  every-state Dead = same-at 0 8
  every-state (Withdrawn c) = same-at c 9

-- each has a place in the table
pub place-below : (s : State) → place_of s < state_count
place-below s = ltb-true (place_of s) state_count (every-state (λ t. ltb (place_of t) state_count) (λ t. true) (λ c. refl) s)
