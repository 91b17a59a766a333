-- By the loop's invariant: what the reader comes to with the rest of the delivery is what the first one comes to with all of it; each turn
-- is a call of the page's own loop (`going-record`), and the last one ends it.
use Rattle.std.proofs.Common.{length}
use Rattle.deliveries.proofs.Host.{Going}
use Rattle.lead.proofs.deliver.Given as goal

abbrev pub invariant-loop-rest : goal.invariant-loop-rest
invariant-loop-rest g l = Going l.fn.first l.delivery l.lead l.rest

abbrev pub decreases-loop-rest : goal.decreases-loop-rest
decreases-loop-rest g l = length l.rest
