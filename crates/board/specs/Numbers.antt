-- What reading and writing a board answer, in document 01's numbers ("Events and what they answer"). Assumes nothing.
use Rattle.std.specs.Prelude.{ℕ, not, ◌&&◌, List, [], ◌∷◌, ◌++◌, leb, ltb, length, Err, Ok, Result}
use Rattle.basics.specs.First.{Row}
use Rattle.board.specs.Description.{counts_of, apart, distinct, number_of}
use Rattle.board.specs.Packed.{length_of, components_in, reserved_clear, board_at}
use Rattle.board.specs.declared.Board.{Board}
use Rattle.board.specs.declared.Refusal.{Refusal}

-- the number of the refusal, 0 where there is none; how many bytes were written is `length_in`
abbrev pub refusal_of : {A : Type 0} → Result A Refusal → ℕ
refusal_of (Ok x) = 0
refusal_of (Err x) = number_of x

-- what a description itself is refused for (Events 15)
abbrev pub board_rows : Board → List Row
board_rows b = (23, not (leb b.first b.last)) ∷ (24, not (apart b)) ∷ (25, not (distinct b)) ∷ []

-- before that its bytes (Events 14 and 15)
abbrev pub read_rows : List ℕ → List Row
read_rows s =
    (20, not (leb 2 (length s) && leb (length_of (components_in s)) (length s)))
    ∷ (21, not (leb (length s) (length_of (components_in s))))
    ∷ (22, not (reserved_clear s (components_in s)))
    ∷ board_rows (board_at s)

-- the writer's own (Events 19), first and last (Events 22)
abbrev pub put_rows : ℕ → Board → List Row
put_rows room b = (26, not (counts_of b)) ∷ (board_rows b ++ (27, ltb room (length_of b.components)) ∷ [])
