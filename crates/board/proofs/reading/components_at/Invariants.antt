-- By the loop's invariant: the first i places of the table are read and the rest are blank; at the end i is n.
use Rattle.std.proofs.Common.{◌≡◌}
use Rattle.basics.specs.Places.{table}
use Rattle.board.specs.Description.{most_components, blank}
use Rattle.board.specs.Packed.{start_of, component_at}
use Rattle.board.proofs.reading.components_at.Given as goal

abbrev pub invariant-loop-i : goal.invariant-loop-i
invariant-loop-i l = l.all ≡ table most_components blank l.i (λ k. component_at l.s (start_of k))
