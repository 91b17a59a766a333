-- By the loop's invariant: the table is as it was, written at these CPUs among the first i; the places left, if any, lie past its end.
use mathlib.Core.Path.{◌≡◌}
use lib.ListN.{length}
use Rattle.cpuset.specs.Set.{has_of}
use Rattle.agent.specs.Step.{written}
use Rattle.agent.proofs.tables.fill.Given as goal

abbrev pub invariant-loop-i : goal.invariant-loop-i
invariant-loop-i l = (length l.table ≡ length l.initial.table) × (l.table ≡ written l.i (has_of l.cpus) l.from l.initial.table)
