use Rattle.std.proofs.Common.{false, rules, get_or}
use Rattle.board.specs.Packed.{digit_of}
use Rattle.flat.proofs.Lists.{filled}
use Rattle.flat.proofs.records.flat_flags.Goals as goal

pub returns : goal.returns
returns c = filled _ (λ i. digit_of (get_or c.args.from i false)) _ 0 _ _ c.from_fn.ensures.items (λ j y q h k. (search rules, search rules))
