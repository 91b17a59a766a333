-- Bytes turned twice are the upper ones of a word (`swapped-back`).
use native.Mathlib.Omega.{arith}
use Rattle.bitfield.proofs.ByBytes.{swapped-back}
use Rattle.bitfield.proofs.number.Goals as goal

pub returns : goal.returns
returns c =
    swapped-back c.args.s.now _ _ (λ i. (c.type_inv.s i).fits) (omega arith) c.backwards.ensures c.swap_bytes.ensures (omega arith)
