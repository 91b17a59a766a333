use Rattle.std.proofs.Common.{rules, get_or}
use Rattle.board.specs.Description.{absent}
use Rattle.flat.specs.Records.{component_in, absent_flat, components_in}
use Rattle.flat.proofs.Lists.{filled}
use Rattle.flat.proofs.records.components.Goals as goal

pub returns : goal.returns
unfolding components_in
returns c = filled _ (λ i. component_in (get_or c.args.from.now i absent_flat)) _ absent _ _ c.from_fn.ensures.items (λ j y q h k. (search rules, search rules))
