-- Every CPU of a board has room in a set, and a fresh record is well formed: by computing, and clause by clause. Assumes nothing.
use Prim.Native.Nat.{ℕ, ◌≤◌}
use mathlib.Core.Path.{◌≡◌, refl}
use mathlib.Core.Bool.{true, false}
use native.Mathlib.Omega.{arith}
use lib.Dec.{eqb, ltb}
use lib.ListN.{replicate}
use borrow.Author.Tests.{eqb-true, lt-ltb}
use Rattle.basics.specs.Choice.{by, and_right}
use Rattle.basics.specs.Every.{all_below}
use Rattle.cpuset.specs.Set.{room, none_of, only_of, below_of, same_of}
use Rattle.cpuset.specs.Laws.{has-only, has-below, set-only, same-eq, within-of}
use Rattle.board.specs.Description.{most_components, most_cpus}
use Rattle.board.specs.Packed.{board_stands}
use Rattle.board.specs.declared.Board.{Board}
use Rattle.board.proofs.Laws.{stands-counted}
use Rattle.board_record.proofs.Clauses.{Sized, entries-zero}
use Rattle.board_record.specs.Record.{fresh_of}
use Rattle.board_record.specs.WellFormed.{powered_stand, image_stands, images_stand, state_stands, held_stand, work_stands, rest_stands, well_formed}

pub room_most : room ≡ most_cpus
unfolding room
room_most = refl

only-some : same_of (only_of 0) none_of ≡ false
unfolding same_of only_of none_of all_below
only-some = refl

powered : (cpus : ℕ) → 1 ≤ cpus → powered_stand cpus (only_of 0) ≡ true
unfolding powered_stand
powered cpus h =
    rw only-some (within-of (only_of 0) (below_of cpus) (set-only 0) (λ j l p.
    let e = eqb-true 0 j (and_right (ltb 0 room) (eqb 0 j) (by (has-only 0 j) p)) in
    rw (has-below cpus j, lt-ltb j room l) (lt-ltb j cpus (omega arith))))

images : (b : Board) → images_stand b (replicate most_components false) (replicate most_components 0) ≡ true
unfolding images_stand image_stands all_below
images b = refl

pub fresh-stands : (b : Board) → board_stands b ≡ true → well_formed (fresh_of b) ≡ true
unfolding well_formed rest_stands work_stands fresh_of state_stands held_stand
fresh-stands b e =
    rw (e, powered b.cpus (stands-counted b e).some_cpus, images b, same-eq none_of none_of refl, entries-zero b.first b.last)

pub fresh-sized : (b : Board) → Sized (fresh_of b)
unfolding fresh_of
fresh-sized b = record { pending = refl; version = refl; entry = refl; context = refl }
