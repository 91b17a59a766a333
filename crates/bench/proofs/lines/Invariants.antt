-- By the loop's invariant: the record is that replayed to place k, and the story that of the k records before it; so each turn is `turn_at`.
use Rattle.std.proofs.Common.{◌≡◌}
use Rattle.log_book.specs.Log.{past_of}
use Rattle.reader.specs.Story.{story_of}
use Rattle.trace.specs.Turn.{replayed_to}
use Rattle.bench.proofs.lines.Given as goal

abbrev pub invariant-loop-k : goal.invariant-loop-k
invariant-loop-k g l = record {
  replayed : l.rec ≡ replayed_to l.b l.log l.k;
  told : l.story ≡ story_of (past_of l.log l.k);
}
