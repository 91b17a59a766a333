-- What `prepared_next` answers is what is prepared one record later, since the log has no more records than a log may.
use Rattle.std.specs.Prelude.{Ok}
use Rattle.std.proofs.Common.{◌≡◌, ℕ, ◌+◌, ◌<◌, List, arith}
use Rattle.log_book.specs.Log.{record_at, said, past_of, checked_of}
use Rattle.log_book.specs.Prepared.{prepared_of, next_of}
use Rattle.log_book.proofs.Laws.{checked-sound}
use Rattle.log_book.proofs.Walk.{prepared-next}
use Rattle.replay.proofs.lines.Goals as goal

next : (s : List ℕ) (n k : ℕ) → checked_of s 0 ≡ Ok n → k < n → next_of (prepared_of (past_of s k)) (said (record_at s k)) ≡ prepared_of (past_of s (k + 1))
next s n k checked within = prepared-next s k (omega (arith, (checked-sound s 0 n checked).few))

pub line-requires-in-loop-k : goal.line-requires-in-loop-k
line-requires-in-loop-k g c = let later = next _ _ _ c.requires c.loop-k-test.true in cc

pub loop-k-preserved : goal.loop-k-preserved
loop-k-preserved g c = let later = next _ _ _ c.requires c.loop-k-test.true in cc
