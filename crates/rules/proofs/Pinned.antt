-- Each public function's promise leaves one outcome. Assumes nothing.
use Rattle.basics.proofs.Pin.{OneOutcome, just}
use Rattle.rules.proofs.U64FromRefusal.from.Kinds as from-kinds
use Rattle.rules.proofs.U64FromRefusal.from.Reads as from-reads
use Rattle.rules.proofs.minus.Kinds as minus-kinds
use Rattle.rules.proofs.minus.Reads as minus-reads
use Rattle.rules.proofs.admit.Kinds as admit-kinds
use Rattle.rules.proofs.admit.Reads as admit-reads
use Rattle.rules.proofs.decide.Kinds as decide-kinds
use Rattle.rules.proofs.decide.Reads as decide-reads

pub from-refusal-pinned : OneOutcome 0 from-kinds.ps from-kinds.r from-reads.Post
from-refusal-pinned κs a z z' ws ws' p q = just p q

pub minus-pinned : OneOutcome 0 minus-kinds.ps minus-kinds.r minus-reads.Post
minus-pinned κs a z z' ws ws' p q = just p q

pub admit-pinned : OneOutcome 0 admit-kinds.ps admit-kinds.r admit-reads.Post
admit-pinned κs a z z' ws ws' p q = just p.0 q.0

pub decide-pinned : OneOutcome 0 decide-kinds.ps decide-kinds.r decide-reads.Post
decide-pinned κs a z z' ws ws' p q = just p.0 q.0
