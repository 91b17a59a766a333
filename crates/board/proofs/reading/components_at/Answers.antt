-- By the loop's invariant: the first i places of the table are read and the rest are blank; at the end i is n.
use Rattle.std.proofs.Common.{arith}
use Rattle.std.proofs.lemmas.List.{take_rest}
use Rattle.basics.specs.Places.{firsts, table_more}
use Rattle.board.specs.Description.{most_components, blank}
use Rattle.board.proofs.Lists.{component_from}
use Rattle.board.proofs.reading.components_at.Goals as goal

pub loop-i-init : goal.loop-i-init
unfolding firsts
loop-i-init c = rw c.blank_component-all.ensures

pub loop-i-preserved : goal.loop-i-preserved
loop-i-preserved c =
    let l = c.loop-i in
    rw (l.invariant, c.component_at.ensures, take_rest, component_from) (table_more _ most_components blank l.i (omega arith))
