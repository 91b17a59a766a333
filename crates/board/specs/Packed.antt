-- The packed form of a board description (document 01, "Packed forms, most significant bit first"), and its refusals ("Events and
-- what they answer"). Assumes nothing.
use Rattle.std.specs.Prelude.{ℕ, ◌+◌, ◌-◌, ◌*◌, ◌^◌, ◌<◌, ◌≡◌, Bool, true, false, ◌&&◌, List, [], ◌∷◌, ◌++◌, eqb, leb, ltb, length, Err, Ok, Result}
use Rattle.basics.specs.Choice.{pick}
use Rattle.basics.specs.Every.{all_below}
use Rattle.basics.specs.Places.{firsts, table, in_turn}
use Rattle.bitfield.specs.Bits.{AreBytes, value_at, bytes, put}
use Rattle.bitfield.specs.Layout.{field_of, join}
use Rattle.board.specs.Description.{most_components, uuid_bytes, blank, blank_board, component_of, unless, counts_of, judged_of, blank_past}
use Rattle.board.specs.declared.Component.{Component}
use Rattle.board.specs.declared.Board.{Board}
use Rattle.board.specs.declared.Refusal.{Refusal}
use Rattle.board.specs.declared.Refusal.TheVariants.{TooShort, TooLong, ReservedBit, CountOutside, NoRoom}

-- the head (Packed 1): both counts less 1, zero, and the two ends of the range
abbrev pub head_widths : List ℕ
head_widths = 5 ∷ 6 ∷ 5 ∷ 64 ∷ 64 ∷ []

-- "then per component" (Packed 1): what follows the UUID
abbrev pub tail_widths : List ℕ
tail_widths = 1 ∷ 1 ∷ 1 ∷ 5 ∷ 32 ∷ []

-- how long it is (Packed 2)
abbrev pub head_length : ℕ
head_length = 18

abbrev pub tail_length : ℕ
tail_length = 5

abbrev pub component_length : ℕ
component_length = uuid_bytes + tail_length

abbrev pub length_of : ℕ → ℕ
length_of n = head_length + component_length * n

-- the first bit of component i
abbrev pub start_of : ℕ → ℕ
start_of i = 8 * length_of i

-- a flag as a binary digit, and back
abbrev pub digit_of : Bool → ℕ
digit_of true = 1
digit_of false = 0

abbrev pub flag_in : ℕ → Bool
flag_in n = eqb n 1

-- ---- what bytes say

-- field k of the head: 0 components, 1 CPUs, 2 zero, 3 first, 4 last
abbrev pub head_field : List ℕ → ℕ → ℕ
head_field s k = field_of head_widths k 0 s

abbrev pub components_in : List ℕ → ℕ
components_in s = head_field s 0 + 1

abbrev pub uuid_at : List ℕ → ℕ → List ℕ
uuid_at s at = firsts uuid_bytes (λ j. value_at s (at + 8 * j) 8)

-- field k of what follows the UUID of the component that starts at bit `at`: 0 capable, 1 may_reset, 2 optional, 3 zero, 4 SVN
abbrev pub tail_field : List ℕ → ℕ → ℕ → ℕ
tail_field s at k = field_of tail_widths k (at + 8 * uuid_bytes) s

abbrev pub flag_at : List ℕ → ℕ → ℕ → Bool
flag_at s at k = flag_in (tail_field s at k)

unfoldable pub component_at : List ℕ → ℕ → Component
component_at s at =
    record { uuid = uuid_at s at; capable = flag_at s at 0; may_reset = flag_at s at 1; optional = flag_at s at 2; svn = tail_field s at 4 }

-- the components within the count, and blanks past it
abbrev pub components_at : List ℕ → ℕ → List Component
components_at s n = table most_components blank n (λ i. component_at s (start_of i))

unfoldable pub board_at : List ℕ → Board
board_at s =
    record { components = components_in s; cpus = head_field s 1 + 1; first = head_field s 3; last = head_field s 4; component = components_at s (components_in s) }

-- ---- reading

-- every zero bit of the head and of each component is 0
abbrev pub zero_at : List ℕ → ℕ → Bool
zero_at s i = eqb (tail_field s (start_of i) 3) 0

unfoldable pub reserved_clear : List ℕ → ℕ → Bool
reserved_clear s n = eqb (head_field s 2) 0 && all_below n (zero_at s)

-- 20, 21, 22: fewer bytes than the counts call for, more of them, a zero bit that is set
unfoldable pub shape_of : List ℕ → Result Unit Refusal
shape_of s =
    unless (leb 2 (length s)) (Err TooShort)
    (unless (leb (length_of (components_in s)) (length s)) (Err TooShort)
    (unless (leb (length s) (length_of (components_in s))) (Err TooLong)
    (unless (reserved_clear s (components_in s)) (Err ReservedBit)
    (Ok tt))))

-- a refusal comes with nothing else
abbrev pub settle : Result Unit Refusal → Result Board Refusal → Result Board Refusal
settle (Ok tt) r = r
settle (Err x) r = Err x

unfoldable pub read_of : List ℕ → Result Board Refusal
read_of s = settle (shape_of s) (settle (judged_of (board_at s)) (Ok (board_at s)))

-- the board that was read; zeros, which no board is, where there is none
abbrev pub board_in : Result Board Refusal → Board
board_in (Ok b) = b
board_in (Err x) = blank_board

-- ---- writing

-- the flags as three binary digits
abbrev pub flags_number : Component → ℕ
flags_number c = digit_of c.capable * 4 + digit_of c.may_reset * 2 + digit_of c.optional

abbrev pub head_values : Board → List ℕ
head_values b = (b.components - 1) ∷ (b.cpus - 1) ∷ 0 ∷ b.first ∷ b.last ∷ []

abbrev pub tail_values : Component → List ℕ
tail_values c = digit_of c.capable ∷ digit_of c.may_reset ∷ digit_of c.optional ∷ 0 ∷ c.svn ∷ []

unfoldable pub head_bytes : Board → List ℕ
head_bytes b = bytes head_length (join head_widths (head_values b))

unfoldable pub component_bytes : Component → List ℕ
component_bytes c = c.uuid ++ bytes tail_length (join tail_widths (tail_values c))

abbrev pub bytes_at : Board → ℕ → List ℕ
bytes_at b i = component_bytes (component_of b i)

-- a description ends where its counts end
unfoldable pub bytes_of : Board → List ℕ
bytes_of b = head_bytes b ++ in_turn b.components (bytes_at b)

-- 26, 23, 24, 25
unfoldable pub writable_of : Board → Result Unit Refusal
writable_of b = unless (counts_of b) (Err CountOutside) (judged_of b)

abbrev pub is_kept : Result Unit Refusal → Bool
is_kept (Ok tt) = true
is_kept (Err x) = false

abbrev pub is_writable : Board → Bool
is_writable b = is_kept (writable_of b)

-- what a well-formed record asks of its board: the rules of a description, and blanks past its count
unfoldable pub board_stands : Board → Bool
board_stands b = is_writable b && blank_past b

-- 27 last
abbrev pub put_by : Result Unit Refusal → ℕ → ℕ → Result ℕ Refusal
put_by (Err x) room n = Err x
put_by (Ok tt) room n = pick (ltb room n) (Err NoRoom) (Ok n)

unfoldable pub put_of : ℕ → Board → Result ℕ Refusal
put_of room b = put_by (writable_of b) room (length_of b.components)

-- how many bytes were written
abbrev pub length_in : Result ℕ Refusal → ℕ
length_in (Ok n) = n
length_in (Err x) = 0

-- the part that was written, empty with a refusal
abbrev pub part_by : Result ℕ Refusal → Board → List ℕ
part_by (Ok n) b = bytes_of b
part_by (Err x) b = []

abbrev pub part_of : List ℕ → Board → List ℕ
part_of d b = part_by (put_of (length d) b) b

-- the buffer after it (Packed 11)
abbrev pub buffer_of : List ℕ → Board → List ℕ
buffer_of d b = put d 0 (part_of d b)

-- ---- what reads back

-- what the types of a component's fields say of their values
pub record Typed (c : Component) : Type 0 where
  pub long : length c.uuid ≡ uuid_bytes
  pub bytes : AreBytes c.uuid
  pub svn : c.svn < 2 ^ 32

abbrev pub EachTyped : Board → ℕ → Type 0
EachTyped b n = (i : ℕ) → i < n → Typed (component_of b i)

-- the same of a board, within its count
pub record Described (b : Board) : Type 0 where
  pub first : b.first < 2 ^ 64
  pub last : b.last < 2 ^ 64
  pub each : EachTyped b b.components

abbrev pub DescribedIf : Result ℕ Refusal → Board → Type 0
DescribedIf (Ok n) b = Described b
DescribedIf (Err x) b = Unit

-- a board with blanks past its count
abbrev pub trimmed : Board → Board
trimmed b =
    record { components = b.components; cpus = b.cpus; first = b.first; last = b.last; component = table most_components blank b.components (component_of b) }

-- a description that was written reads back as written
abbrev pub ReadsBack : Result ℕ Refusal → Board → Type 0
ReadsBack (Ok n) b = read_of (bytes_of b) ≡ Ok (trimmed b)
ReadsBack (Err x) b = Unit

-- a description that was read is the one byte form of what it says
abbrev pub WritesBack : Result Board Refusal → List ℕ → Type 0
WritesBack (Ok b) s = bytes_of b ≡ s
WritesBack (Err x) s = Unit
