-- The board description (document 01, "The board and its record"), which entries are good ("Calls"), and when a description is
-- refused ("Events and what they answer"). Assumes nothing.
use Rattle.std.specs.Prelude.{ℕ, ◌+◌, ◌-◌, ◌%◌, ◌≤◌, Bool, true, false, not, ◌&&◌, List, [], eqb, leb, ltb, get_or, replicate, Err, Ok, Result}
use Rattle.basics.specs.Choice.{pick}
use Rattle.basics.specs.Every.{all_below}
use Rattle.board.specs.declared.Component.{Component}
use Rattle.board.specs.declared.Board.{Board}
use Rattle.board.specs.declared.Refusal.{Refusal}
use Rattle.board.specs.declared.Refusal.TheVariants.{TooShort, TooLong, ReservedBit, FirstAboveLast, OptionalMayReset, UuidTwice, CountOutside, NoRoom}

-- the limits of both counts, and the bytes of a UUID (Board 1 and 2)
abbrev pub most_components : ℕ
most_components = 32

abbrev pub most_cpus : ℕ
most_cpus = 64

abbrev pub uuid_bytes : ℕ
uuid_bytes = 16

-- what stands in the table past the count
abbrev pub blank : Component
blank = record { uuid = replicate uuid_bytes 0; capable = false; may_reset = false; optional = false; svn = 0 }

-- a board of zeros, which none is
abbrev pub blank_board : Board
blank_board = record { components = 0; cpus = 0; first = 0; last = 0; component = replicate most_components blank }

-- what the table reads as past its end, which no rule asks for
abbrev pub absent : Component
absent = record { uuid = []; capable = false; may_reset = false; optional = false; svn = 0 }

abbrev pub component_of : Board → ℕ → Component
component_of b i = get_or b.component i absent

-- component number i, and a blank where the table has no such place
unfoldable pub numbered_of : Board → ℕ → Component
numbered_of b i = pick (ltb i most_components) (component_of b i) blank

-- the board has component id, and it is capable
abbrev pub capable_at : ℕ → ℕ → Component → Bool
capable_at components id c = ltb id components && c.capable

unfoldable pub is_capable : Board → ℕ → Bool
is_capable b id = capable_at b.components id (numbered_of b id)

abbrev pub may_reset_at : Board → ℕ → Bool
may_reset_at b id = (numbered_of b id).may_reset

-- two UUIDs are the same, byte for byte
abbrev pub same_at : List ℕ → List ℕ → ℕ → Bool
same_at u v k = eqb (get_or u k 0) (get_or v k 0)

abbrev pub same_uuid : List ℕ → List ℕ → Bool
same_uuid u v = all_below uuid_bytes (same_at u v)

-- blank "past a count" (Board 5)
abbrev pub is_blank : Component → Bool
is_blank c =
    same_uuid c.uuid blank.uuid && (not c.capable && (not c.may_reset && (not c.optional && eqb c.svn 0)))

abbrev pub blank_past : Board → Bool
blank_past b = all_below (most_components - b.components) (λ j. is_blank (component_of b (b.components + j)))

-- "a multiple of 4" (Calls 22), from the first address to the last
unfoldable pub good_entry : ℕ → ℕ → ℕ → Bool
good_entry first last entry = eqb (entry % 4) 0 && (leb first entry && leb entry last)

-- what ACTIVATE asks of X3 (Calls 22, H) and the log's reader too (Packed 15); without may_reset any is right
unfoldable pub entry_right : Board → ℕ → ℕ → Bool
entry_right b id entry = pick (may_reset_at b id) (good_entry b.first b.last entry) true

-- ---- the refusals that a description itself calls for

-- a refusal where the test fails, else what comes next
abbrev pub unless : {A : Type 0} → Bool → A → A → A
unless ok refused next = pick ok next refused

-- 26: both counts
unfoldable pub within_limit : ℕ → ℕ → Bool
within_limit n most = leb 1 n && leb n most

abbrev pub counts_of : Board → Bool
counts_of b = within_limit b.components most_components && within_limit b.cpus most_cpus

-- the same as facts
pub record Counted (b : Board) : Type 0 where
  pub some_components : 1 ≤ b.components
  pub few_components : b.components ≤ most_components
  pub some_cpus : 1 ≤ b.cpus
  pub few_cpus : b.cpus ≤ most_cpus

-- 24: optional with may_reset, at place i and at every place
abbrev pub parted_of : Component → Bool
parted_of c = not (c.optional && c.may_reset)

abbrev pub parted : List Component → ℕ → Bool
parted cs i = parted_of (get_or cs i absent)

abbrev pub apart : Board → Bool
apart b = all_below b.components (parted b.component)

-- 25: UUID twice: at no place stands a UUID that a place before it has
abbrev pub unlike : List Component → ℕ → ℕ → Bool
unlike cs i j = not (same_uuid (get_or cs j absent).uuid (get_or cs i absent).uuid)

abbrev pub unseen : List Component → ℕ → Bool
unseen cs i = all_below i (unlike cs i)

abbrev pub distinct : Board → Bool
distinct b = all_below b.components (unseen b.component)

-- 23, 24, 25: the range, then the flags, then the UUIDs
unfoldable pub judged_of : Board → Result Unit Refusal
judged_of b =
    unless (leb b.first b.last) (Err FirstAboveLast)
    (unless (apart b) (Err OptionalMayReset)
    (unless (distinct b) (Err UuidTwice)
    (Ok tt)))

-- document 01's number of each refusal
abbrev pub number_of : Refusal → ℕ
number_of TooShort = 20
number_of TooLong = 21
number_of ReservedBit = 22
number_of FirstAboveLast = 23
number_of OptionalMayReset = 24
number_of UuidTwice = 25
number_of CountOutside = 26
number_of NoRoom = 27
