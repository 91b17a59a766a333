-- Records as numbers and back, each way undoing the other on what is well formed: flags by cases, states along their order, tables at
-- each place. Assumes nothing.
use Prim.Native.Nat.{ℕ, ◌<◌}
use mathlib.Core.Path.{◌≡◌, refl, ap, ◌∙◌}
use mathlib.Core.Bool.{Bool, true, false, ◌&&◌}
use mathlib.Core.List.{List}
use lib.Dec.{eqb, ltb}
use lib.ListN.{length, get_or}
use borrow.Author.Tests.{eq-eqb, eqb-true, leb-true, ltb-true, le-leb, lt-ltb}
use native.Mathlib.Omega.{arith}
use Rattle.basics.specs.Choice.{both, and_left, and_right}
use Rattle.basics.specs.Every.{all_below, all-at, all_of}
use Rattle.basics.specs.Places.{firsts, firsts_same, firsts-all, get_or-firsts}
use Rattle.board.specs.Description.{most_components, most_cpus, absent}
use Rattle.board.specs.Packed.{digit_of, flag_in}
use Rattle.board.specs.declared.Board.{Board}
use Rattle.board.specs.declared.Component.{Component}
use Rattle.board.proofs.Laws.{digit-fits, flag-digit, digit-flag}
use Rattle.board_record.specs.Record.{place_of, state_count, subject_number}
use Rattle.board_record.specs.declared.Record.{Record}
use Rattle.board_record.specs.declared.State.{State}
use Rattle.board_record.proofs.Clauses.{Sized}
use Rattle.board_record.proofs.States.{every-state, place-below}
use Rattle.flat.specs.Records.{is_flag, flat_flags, are_flags, state_in, is_state, flat_component, component_in, is_flat_component, absent_flat, flat_components, components_in, are_flat_components, flat_board, board_in, flat_with, flat_of, record_in, is_flat}
use Rattle.flat.specs.declared.FlatBoard.{FlatBoard}
use Rattle.flat.specs.declared.FlatComponent.{FlatComponent}
use Rattle.flat.specs.declared.FlatRecord.{FlatRecord}

-- ---- tables: what undoes itself at each place undoes itself
there_back : {A B : Type 0} (n : ℕ) (f : A → B) (g : B → A) (l : List A) (a : A) (b : B) → length l ≡ n
    → ((i : ℕ) → i < n → g (f (get_or l i a)) ≡ get_or l i a) → firsts n (λ i. g (get_or (firsts n (λ k. f (get_or l k a))) i b)) ≡ l
there_back n f g l a b e back =
    firsts_same n (λ i. g (get_or (firsts n (λ k. f (get_or l k a))) i b)) (λ i. get_or l i a)
    (λ i h. ap g (get_or-firsts (λ k. f (get_or l k a)) n i b h) ∙ back i h)
    ∙ firsts-all n l a e

-- ---- flags
flag_is : (b : Bool) → is_flag (digit_of b) ≡ true
flag_is b = le-leb (digit_of b) 1 (omega (arith, digit-fits b))

flag-there : (n : ℕ) → is_flag n ≡ true → digit_of (flag_in n) ≡ n
flag-there n e = digit-flag n (omega (arith, leb-true n 1 e))

-- ---- states
pub state-back : (s : State) → state_in (place_of s) (subject_number s) ≡ s
state-back = every-state (λ s. state_in (place_of s) (subject_number s)) (λ s. s) (λ c. refl)

state-is : (s : State) → is_state (place_of s) (subject_number s) ≡ true
state-is s = rw (lt-ltb (place_of s) state_count (place-below s), state-back s, eq-eqb (subject_number s) _ refl)

-- the place of the state at each place is that place: one test over the table
place-there : (c n : ℕ) → n < state_count → place_of (state_in n c) ≡ n
unfolding all_below
place-there c n h = eqb-true (place_of (state_in n c)) n (all-at state_count (λ i. eqb (place_of (state_in i c)) i) refl n h)

-- a number and a component are those of the state that they make
pub state-there : (n c : ℕ) → is_state n c ≡ true → (place_of (state_in n c) ≡ n) × (subject_number (state_in n c) ≡ c)
state-there n c e =
    let t = both (ltb n state_count) (eqb (subject_number (state_in n c)) c) e in
    (place-there c n (ltb-true n state_count t.0), eqb-true (subject_number (state_in n c)) c t.1)

-- ---- components and boards
pub component-back : (c : Component) → component_in (flat_component c) ≡ c
unfolding flat_component component_in
component-back c = rw (flag-digit c.capable, flag-digit c.may_reset, flag-digit c.optional)

component-is : (c : Component) → is_flat_component (flat_component c) ≡ true
unfolding flat_component
component-is c = rw (flag_is c.capable, flag_is c.may_reset, flag_is c.optional)

pub component-there : (c : FlatComponent) → is_flat_component c ≡ true → flat_component (component_in c) ≡ c
unfolding flat_component component_in
component-there c e =
    let two = and_right (is_flag c.capable) (is_flag c.may_reset && is_flag c.optional) e in
    rw (flag-there c.capable (and_left (is_flag c.capable) (is_flag c.may_reset && is_flag c.optional) e), flag-there c.may_reset (and_left (is_flag c.may_reset) (is_flag c.optional) two), flag-there c.optional (and_right (is_flag c.may_reset) (is_flag c.optional) two))

pub board-back : (b : Board) → length b.component ≡ most_components → board_in (flat_board b) ≡ b
unfolding board_in flat_board components_in flat_components
board-back b e =
    rw (there_back most_components flat_component component_in b.component absent absent_flat e (λ i h. component-back (get_or b.component i absent)))

pub board-there : (b : FlatBoard) → length b.component ≡ most_components → are_flat_components most_components b.component ≡ true → flat_board (board_in b) ≡ b
unfolding board_in flat_board components_in flat_components
board-there b e are =
    rw (there_back most_components component_in flat_component b.component absent_flat absent e (λ i h. component-there (get_or b.component i absent_flat) (all-at most_components _ are i h)))

-- ---- records: what their types say of their tables' lengths
pub record SizedFlat (f : FlatRecord) : Type 0 where
  pub components : length f.board.component ≡ most_components
  pub pending : length f.pending ≡ most_components
  pub version : length f.version ≡ most_components
  pub entry : length f.entry ≡ most_cpus
  pub context : length f.context ≡ most_cpus

module _ (r : Record) (components : length r.board.component ≡ most_components) (z : Sized r) where
  -- a record's numbers are a record's
  pub flat-is : is_flat (flat_of r) ≡ true
  unfolding is_flat flat_with flat_board flat_components
  flat-is =
      let cs : are_flat_components most_components (flat_components r.board.component) ≡ true
      = all_of most_components _ (λ i h. rw (get_or-firsts (λ k. flat_component (get_or r.board.component k absent)) most_components i absent_flat h) (component-is (get_or r.board.component i absent))) in
      let ps : are_flags (flat_flags r.pending) ≡ true
      = all_of most_components _ (λ i h. rw (get_or-firsts (λ k. digit_of (get_or r.pending k false)) most_components i 0 h) (flag_is (get_or r.pending i false))) in
      rw (cs, ps, state-is r.state, flag_is r.informed)

  -- and it is read back from them
  pub record-back : record_in (flat_of r) ≡ r
  unfolding record_in flat_with
  record-back =
      rw (board-back r.board components, there_back most_components digit_of flag_in r.pending false 0 z.pending (λ i h. flag-digit (get_or r.pending i false)), state-back r.state, flag-digit r.informed)

-- numbers that are a record's are its numbers
pub flat-there : (f : FlatRecord) → SizedFlat f → is_flat f ≡ true → flat_of (record_in f) ≡ f
unfolding is_flat record_in flat_with
flat-there f z e =
    let cs = are_flat_components most_components f.board.component in
    let ps = are_flags f.pending in
    let st = is_state f.state f.subject in
    let rest = and_right cs (ps && (st && is_flag f.informed)) e in
    let more = and_right ps (st && is_flag f.informed) rest in
    let s = state-there f.state f.subject (and_left st (is_flag f.informed) more) in
    rw (board-there f.board z.components (and_left cs (ps && (st && is_flag f.informed)) e), there_back most_components flag_in digit_of f.pending 0 false z.pending (λ i h. flag-there (get_or f.pending i 0) (all-at most_components _ (and_left ps (st && is_flag f.informed) rest) i h)), s.0, s.1, flag-there f.informed (and_right st (is_flag f.informed) more))
