-- Three writes in a row are one (`put_three`), and it is of the head's bytes (`head-bytes`), since each value fits its field.
use Prim.Native.Nat.{◌*◌}
use native.Mathlib.Omega.{arith}
use Rattle.bitfield.specs.Layout.{Fit}
use Rattle.bitfield.proofs.Laws.{length-bytes, put_three}
use Rattle.board.specs.Packed.{head_widths, head_values}
use Rattle.board.proofs.Laws.{counts_number, head-bytes}
use borrow.Author.Rules.{rules}
use Rattle.board.proofs.writing.put_head.Goals as goal
use Rattle.board.proofs.writing.put_head.Goals.{Start}

fit : (c : Start) → Fit head_widths (head_values c.args.b.now)
fit c = search rules

pub returns : goal.returns
returns c =
    let b = c.args.b.now in
    let x = length-bytes 2 (counts_number b * 32) in
    let y = length-bytes 8 b.first in
    let z = length-bytes 8 b.last in
    rw (head-bytes b (fit (goal.at.returns c).Start))
    (put_three _ _ _ _ _ _ _ _ _ _ c.put_number.ensures c.put_number-2.ensures c.put_number-3.ensures (omega arith) (omega arith) (omega arith))
