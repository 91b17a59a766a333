-- Each public function's promise leaves one outcome. Assumes nothing.
use Rattle.basics.proofs.Pin.{OneOutcome, same, just}
use Rattle.bitfield.proofs.read.Kinds as read-kinds
use Rattle.bitfield.proofs.read.Reads as read-reads
use Rattle.bitfield.proofs.value.Kinds as value-kinds
use Rattle.bitfield.proofs.value.Reads as value-reads
use Rattle.bitfield.proofs.write.Kinds as write-kinds
use Rattle.bitfield.proofs.write.Reads as write-reads

pub read-pinned : OneOutcome 1 read-kinds.ps read-kinds.r read-reads.Post
read-pinned κs a z z' ws ws' p q = just p q

pub value-pinned : OneOutcome 1 value-kinds.ps value-kinds.r value-reads.Post
value-pinned κs a z z' ws ws' p q = just p q

pub write-pinned : OneOutcome 1 write-kinds.ps write-kinds.r write-reads.Post
write-pinned κs a z z' ws ws' p q = (same p.0 q.0, λ i. (same p.1 q.1 i, (tt, (tt, (tt, tt)))))
