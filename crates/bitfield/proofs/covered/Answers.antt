-- The number of the covering bytes, cut at both ends (`value-cut`).
use native.Mathlib.Omega.{arith}
use native.Mathlib.Nat.{zero-add}
use mathlib.Core.Path.{◌∙◌}
use Rattle.bitfield.proofs.ByBytes.{value-cut}
use Rattle.bitfield.proofs.covered.Goals as goal

pub returns : goal.returns
returns c =
    let a = c.args in
    c.last_bits.ensures ∙ value-cut a.s.now 0 a.off a.width _ _ _ (omega arith) c.number.ensures ∙ rw zero-add
