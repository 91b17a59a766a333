use Rattle.std.proofs.Common.{rules, get_or}
use Rattle.board.specs.Description.{absent}
use Rattle.flat.specs.Records.{flat_component, absent_flat, flat_components}
use Rattle.flat.proofs.Lists.{filled}
use Rattle.flat.proofs.records.flat_components.Goals as goal

pub returns : goal.returns
unfolding flat_components
returns c = filled _ (λ i. flat_component (get_or c.args.from.now i absent)) _ absent_flat _ _ c.from_fn.ensures.items (λ j y q h k. (search rules, search rules))
