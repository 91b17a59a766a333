-- By the loop's invariant: p is what is prepared at place k, and the next p follows (`prepared-next`); that is what `line` asks.
use Rattle.std.proofs.Common.{◌≡◌}
use Rattle.log_book.specs.Log.{past_of}
use Rattle.log_book.specs.Prepared.{prepared_of}
use Rattle.replay.proofs.lines.Given as goal

abbrev pub invariant-loop-k : goal.invariant-loop-k
invariant-loop-k g l = l.p ≡ prepared_of (past_of l.log l.k)
