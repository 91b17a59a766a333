-- By the loop's invariant: some bytes lead to the reader; an open one that takes a byte more has room for less (`room-less`), so it ends.
use Rattle.deliveries.proofs.Host.{Fed, room}
use Rattle.lead.proofs.main.Given as goal

abbrev pub invariant-loop-rt : goal.invariant-loop-rt
invariant-loop-rt l = Fed l.lead

abbrev pub decreases-loop-rt : goal.decreases-loop-rt
decreases-loop-rt l = room l.lead
