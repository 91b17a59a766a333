-- By the loop's invariant: the first UUIDs differ and their marks are met; an unmet mark's UUID is new, and a met one's is looked for.
use Rattle.std.proofs.Common.{◌≡◌, true}
use Rattle.basics.specs.Every.{all_below}
use Rattle.board.specs.Description.{unseen}
use Rattle.board.proofs.Marks.{Met}
use Rattle.board.proofs.rules.is_distinct.Given as goal

abbrev pub invariant-loop-i : goal.invariant-loop-i
invariant-loop-i l = (all_below l.i (unseen l.components) ≡ true) × Met l.components l.i l.met
