-- What is copied are a word's last bytes (`last-bytes`).
use mathlib.Core.Path.{◌∙◌}
use native.Mathlib.Omega.{arith}
use Rattle.bitfield.proofs.ByBytes.{last-bytes}
use Rattle.bitfield.proofs.put_bytes.Goals as goal

pub returns : goal.returns
returns c = c.copy_from_slice.ensures.after ∙ last-bytes _ _ c.args.v (omega arith) c.to_be_bytes.ensures
