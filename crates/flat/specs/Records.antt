-- A board's record as numbers, and back. A flag that is neither 0 nor 1, or a state that isn't one, makes it not well formed.
-- Assumes nothing.
use Rattle.std.specs.Prelude.{ℕ, min, Bool, false, ◌&&◌, List, [], eqb, leb, ltb, get_or, replicate}
use Rattle.basics.specs.Every.{all_below}
use Rattle.basics.specs.Places.{firsts}
use Rattle.cpuset.specs.Set.{none_of}
use Rattle.board.specs.Description.{most_components, most_cpus, uuid_bytes, absent}
use Rattle.board.specs.Packed.{digit_of, flag_in}
use Rattle.board.specs.declared.Board.{Board}
use Rattle.board.specs.declared.Component.{Component}
use Rattle.board_record.specs.Record.{place_of, in_order, state_count, subject_number}
use Rattle.board_record.specs.WellFormed.{well_formed}
use Rattle.board_record.specs.declared.Record.{Record}
use Rattle.board_record.specs.declared.State.{State}
use Rattle.board_record.specs.declared.State.TheVariants.{Dead}
use Rattle.flat.specs.declared.FlatBoard.{FlatBoard}
use Rattle.flat.specs.declared.FlatComponent.{FlatComponent}
use Rattle.flat.specs.declared.FlatRecord.{FlatRecord}

-- ---- flags
abbrev pub is_flag : ℕ → Bool
is_flag n = leb n 1

abbrev pub flat_flags : List Bool → List ℕ
flat_flags from = firsts most_components (λ i. digit_of (get_or from i false))

abbrev pub flags_in : List ℕ → List Bool
flags_in from = firsts most_components (λ i. flag_in (get_or from i 0))

abbrev pub are_flags : List ℕ → Bool
are_flags all = all_below most_components (λ i. is_flag (get_or all i 0))

-- ---- states: by their place in document 01's table of rules, from idle, 0, on; `is_state` asks that there is one
abbrev pub state_in : ℕ → ℕ → State
state_in n c = get_or (in_order c) n Dead

-- in idle and dead, which have none, it is 0
abbrev pub is_state : ℕ → ℕ → Bool
is_state n c = ltb n state_count && eqb (subject_number (state_in n c)) c

-- ---- components
unfoldable pub flat_component : Component → FlatComponent
flat_component c = record {
  uuid = c.uuid;
  svn = c.svn;
  capable = digit_of c.capable;
  may_reset = digit_of c.may_reset;
  optional = digit_of c.optional;
}

unfoldable pub component_in : FlatComponent → Component
component_in c = record {
  uuid = c.uuid;
  capable = flag_in c.capable;
  may_reset = flag_in c.may_reset;
  optional = flag_in c.optional;
  svn = c.svn;
}

abbrev pub is_flat_component : FlatComponent → Bool
is_flat_component c = is_flag c.capable && (is_flag c.may_reset && is_flag c.optional)

abbrev pub blank_flat : FlatComponent
blank_flat = record { uuid = replicate uuid_bytes 0; svn = 0; capable = 0; may_reset = 0; optional = 0 }

-- what a table reads as past its end, which no rule asks for
abbrev pub absent_flat : FlatComponent
absent_flat = record { uuid = []; svn = 0; capable = 0; may_reset = 0; optional = 0 }

unfoldable pub flat_components : List Component → List FlatComponent
flat_components from = firsts most_components (λ i. flat_component (get_or from i absent))

unfoldable pub components_in : List FlatComponent → List Component
components_in from = firsts most_components (λ i. component_in (get_or from i absent_flat))

-- the first n of them
abbrev pub are_flat_components : ℕ → List FlatComponent → Bool
are_flat_components n all = all_below n (λ i. is_flat_component (get_or all i absent_flat))

-- ---- boards and records
unfoldable pub flat_board : Board → FlatBoard
flat_board b = record {
  components = b.components;
  cpus = b.cpus;
  first = b.first;
  last = b.last;
  component = flat_components b.component;
}

unfoldable pub board_in : FlatBoard → Board
board_in b = record {
  components = b.components;
  cpus = b.cpus;
  first = b.first;
  last = b.last;
  component = components_in b.component;
}

-- every flag within the count is 0 or 1; of a count above the limit, every flag of the table
unfoldable pub has_flags : FlatBoard → Bool
has_flags b = are_flat_components (min b.components most_components) b.component

-- a record with its board's numbers
unfoldable pub flat_with : FlatBoard → Record → FlatRecord
flat_with b r = record {
  board = b;
  pending = flat_flags r.pending;
  version = r.version;
  state = place_of r.state;
  subject = subject_number r.state;
  on = r.on;
  held = r.held;
  entry = r.entry;
  context = r.context;
  informed = digit_of r.informed;
}

abbrev pub flat_of : Record → FlatRecord
flat_of r = flat_with (flat_board r.board) r

unfoldable pub record_in : FlatRecord → Record
record_in f = record {
  board = board_in f.board;
  pending = flags_in f.pending;
  version = f.version;
  state = state_in f.state f.subject;
  on = f.on;
  held = f.held;
  entry = f.entry;
  context = f.context;
  informed = flag_in f.informed;
}

-- every flag is 0 or 1, and the state is one
unfoldable pub is_flat : FlatRecord → Bool
is_flat f =
    are_flat_components most_components f.board.component
    && (are_flags f.pending
    && (is_state f.state f.subject
    && is_flag f.informed))

-- the well-formed records among those of numbers
abbrev pub flat_stands : FlatRecord → Bool
flat_stands f = is_flat f && well_formed (record_in f)

-- what comes with a refusal
unfoldable pub zero_record : FlatRecord
zero_record = record {
  board = record { components = 0; cpus = 0; first = 0; last = 0; component = replicate most_components blank_flat };
  pending = replicate most_components 0;
  version = replicate most_components 0;
  state = 0;
  subject = 0;
  on = none_of;
  held = none_of;
  entry = replicate most_cpus 0;
  context = replicate most_cpus 0;
  informed = 0;
}
