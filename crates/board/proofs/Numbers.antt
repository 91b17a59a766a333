-- The refusal of a reading or writing is the first of document 01's table that applies: case by case, up to the first test that fails.
-- Assumes nothing.
use Rattle.std.specs.Prelude.{Err, Ok, Result}
use Prim.Native.Nat.{ℕ}
use mathlib.Core.Path.{◌≡◌, refl, ap, ◌∙◌}
use mathlib.Core.Bool.{Bool, true, false, not, ◌&&◌}
use mathlib.Core.List.{List, [], ◌∷◌}
use lib.Dec.{eqb, leb, ltb}
use lib.ListN.{length}
use Rattle.basics.specs.Choice.{pick}
use Rattle.basics.specs.First.{first_of}
use Rattle.board.specs.Description.{unless, counts_of, apart, distinct, judged_of, number_of}
use Rattle.board.specs.Packed.{length_of, components_in, reserved_clear, board_at, shape_of, settle, read_of, writable_of, put_by, put_of}
use Rattle.board.specs.Numbers.{refusal_of, read_rows, put_rows}
use Rattle.board.specs.declared.Board.{Board}
use Rattle.board.specs.declared.Refusal.{Refusal}
use Rattle.board.specs.declared.Refusal.TheVariants.{TooShort, TooLong, ReservedBit, FirstAboveLast, OptionalMayReset, UuidTwice, CountOutside, NoRoom}

-- 0 is no refusal's number
pub number-some : (x : Refusal) → eqb (number_of x) 0 ≡ false
number-some TooShort = refl
number-some TooLong = refl
number-some ReservedBit = refl
number-some FirstAboveLast = refl
number-some OptionalMayReset = refl
number-some UuidTwice = refl
number-some CountOutside = refl
number-some NoRoom = refl

-- the rules of a description itself, test by test
abbrev by_tests : Bool → Bool → Bool → Result Unit Refusal
by_tests range flags uuids = unless range (Err FirstAboveLast) (unless flags (Err OptionalMayReset) (unless uuids (Err UuidTwice) (Ok tt)))

read_first : (two long short clear range flags uuids : Bool) (b : Board)
    → refusal_of (settle (unless two (Err TooShort) (unless long (Err TooShort) (unless short (Err TooLong) (unless clear (Err ReservedBit) (Ok tt))))) (settle (by_tests range flags uuids) (Ok b)))
    ≡ first_of ((20, not (two && long)) ∷ (21, not short) ∷ (22, not clear) ∷ (23, not range) ∷ (24, not flags) ∷ (25, not uuids) ∷ [])
read_first false long short clear range flags uuids b = refl
read_first true false short clear range flags uuids b = refl
read_first true true false clear range flags uuids b = refl
read_first true true true false range flags uuids b = refl
read_first true true true true false flags uuids b = refl
read_first true true true true true false uuids b = refl
read_first true true true true true true false b = refl
read_first true true true true true true true b = refl

-- of what a reading gives
pub read-given : (s : List ℕ) (x : Result Board Refusal) → x ≡ read_of s → refusal_of x ≡ first_of (read_rows s)
unfolding read_of shape_of judged_of
read-given s x e =
    let n = components_in s in
    let b = board_at s in
    ap refusal_of e
    ∙ read_first (leb 2 (length s)) (leb (length_of n) (length s)) (leb (length s) (length_of n)) (reserved_clear s n) (leb b.first b.last) (apart b) (distinct b) b

put_first : (counts range flags uuids : Bool) (room n : ℕ)
    → refusal_of (put_by (unless counts (Err CountOutside) (by_tests range flags uuids)) room n)
    ≡ first_of ((26, not counts) ∷ (23, not range) ∷ (24, not flags) ∷ (25, not uuids) ∷ (27, ltb room n) ∷ [])
put_first false range flags uuids room n = refl
put_first true false flags uuids room n = refl
put_first true true false uuids room n = refl
put_first true true true false room n = refl
put_first true true true true room n = go (ltb room n)
  where
    go : (full : Bool) → refusal_of (pick full (Err NoRoom) (Ok n)) ≡ first_of ((27, full) ∷ [])
    go true = refl
    go false = refl

pub put-given : (room : ℕ) (b : Board) (w : Result ℕ Refusal) → w ≡ put_of room b → refusal_of w ≡ first_of (put_rows room b)
unfolding put_of writable_of judged_of
put-given room b w e =
    ap refusal_of e ∙ put_first (counts_of b) (leb b.first b.last) (apart b) (distinct b) room (length_of b.components)

pub ruleset puts = (put-given)

pub ruleset gives = (read-given)
