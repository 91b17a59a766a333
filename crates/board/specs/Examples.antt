-- Document 01's bench examples of the board (marked P), and each refusal of a reader and a writer once: one claim over one
-- list. Assumes nothing.
use Rattle.std.specs.Prelude.{ℕ, ◌+◌, ◌≡◌, refl, Bool, true, false, List, [], ◌∷◌, ◌++◌, eqb, length, get_or, take, set, replicate, Err, Ok, Result}
use Rattle.basics.specs.Every.{all_below, all_hold}
use Rattle.basics.specs.Places.{firsts, in_turn}
use Rattle.bitfield.specs.Bits.{bit_at, value_at, bytes, put}
use Rattle.bitfield.specs.Layout.{join}
use Rattle.board.specs.Description.{blank, within_limit, judged_of, number_of}
use Rattle.board.specs.Packed.{component_at, board_at, reserved_clear, shape_of, read_of, board_in, head_bytes, component_bytes, bytes_of, writable_of, put_of, buffer_of, part_of}
use Rattle.board.specs.Numbers.{refusal_of}
use Rattle.board.specs.declared.Component.{Component}
use Rattle.board.specs.declared.Board.{Board}
use Rattle.board.specs.declared.Refusal.{Refusal}

-- a component whose UUID bytes are k, k + 1, ..
abbrev part : ℕ → Bool → Bool → Component
part k reset optional = record { uuid = firsts 16 (λ j. k + j); capable = true; may_reset = reset; optional = optional; svn = 5 }

abbrev board : ℕ → ℕ → ℕ → List Component → Board
board n cpus last cs = record { components = n; cpus = cpus; first = 0x1000; last = last; component = cs ++ replicate 30 blank }

abbrev two : Board
two = board 2 4 0x1FFF (part 0 true false ∷ part 16 false true ∷ [])

-- 0 for an accepted description, else the number of its refusal
abbrev reading : List ℕ → ℕ
reading s = refusal_of (read_of s)

abbrev writing : ℕ → Board → ℕ
writing room b = by (put_of room b)
  where
    by : Result ℕ Refusal → ℕ
    by (Ok n) = n
    by (Err x) = number_of x

unfoldable pub examples : List Bool
unfolding all_below firsts in_turn bit_at value_at bytes put join within_limit judged_of component_at board_at reserved_clear shape_of read_of head_bytes component_bytes bytes_of writable_of put_of
examples =
    -- Bench 13: a board's first bytes and its length
    eqb (get_or (bytes_of two) 0 0) 0x08
    ∷ eqb (get_or (bytes_of two) 1 0) 0x60
    ∷ eqb (length (bytes_of two)) 60
    ∷ eqb (reading (bytes_of two)) 0
    ∷ eqb (board_in (read_of (bytes_of two))).cpus 4
    ∷ eqb (reading []) 20
    ∷ eqb (reading (8 ∷ [])) 20
    ∷ eqb (reading (take 59 (bytes_of two))) 20
    ∷ eqb (reading (bytes_of two ++ 0 ∷ [])) 21
    ∷ eqb (reading (set (bytes_of two) 1 0x61)) 22
    ∷ eqb (reading (set (bytes_of two) 55 0x30)) 22
    ∷ eqb (reading (bytes_of (board 2 4 0xFFF (part 0 true false ∷ part 16 false true ∷ [])))) 23
    ∷ eqb (reading (bytes_of (board 2 4 0x1FFF (part 0 true false ∷ part 16 true true ∷ [])))) 24
    ∷ eqb (reading (bytes_of (board 2 4 0x1FFF (part 0 true false ∷ part 0 false true ∷ [])))) 25
    ∷ eqb (writing 60 two) 60
    ∷ eqb (writing 59 two) 27
    ∷ eqb (writing 60 (board 0 4 0xFFF [])) 26
    ∷ eqb (writing 60 (board 2 65 0xFFF (part 0 true true ∷ part 0 true true ∷ []))) 26
    ∷ eqb (writing 59 (board 2 4 0xFFF (part 0 true true ∷ part 0 true true ∷ []))) 23
    ∷ eqb (writing 59 (board 2 4 0x1FFF (part 0 true true ∷ part 0 true true ∷ []))) 24
    ∷ eqb (writing 59 (board 2 4 0x1FFF (part 0 true false ∷ part 0 true false ∷ []))) 25
    -- a flaw past the count is no flaw
    ∷ eqb (writing 39 (board 1 4 0x1FFF (part 0 true false ∷ part 0 true true ∷ []))) 39
    -- the part written, and a byte past it that stays; nothing where there is no room
    ∷ eqb (length (part_of (replicate 61 7) two)) 60
    ∷ eqb (get_or (buffer_of (replicate 61 7) two) 60 0) 7
    ∷ eqb (length (part_of (replicate 59 7) two)) 0
    ∷ []

pub examples-hold : all_hold examples ≡ true
unfolding all_hold examples
examples-hold = refl
