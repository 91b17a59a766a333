use Rattle.std.proofs.Common.{false, rules, get_or}
use Rattle.board.specs.Packed.{flag_in}
use Rattle.flat.proofs.Lists.{filled}
use Rattle.flat.proofs.records.flags.Goals as goal

pub returns : goal.returns
returns c = filled _ (λ i. flag_in (get_or c.args.from i 0)) _ false _ _ c.from_fn.ensures.items (λ j y q h k. (search rules, search rules))
