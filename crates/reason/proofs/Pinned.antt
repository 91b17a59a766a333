-- Each public function's promise leaves one outcome. Assumes nothing.
use Rattle.basics.proofs.Pin.{OneOutcome, just}
use Rattle.reason.proofs.explain.Kinds as explain-kinds
use Rattle.reason.proofs.explain.Reads as explain-reads
use Rattle.reason.proofs.Reason.number.Kinds as number-kinds
use Rattle.reason.proofs.Reason.number.Reads as number-reads
use Rattle.reason.proofs.Reason.component.Kinds as component-kinds
use Rattle.reason.proofs.Reason.component.Reads as component-reads
use Rattle.reason.proofs.Reason.missing.Kinds as missing-kinds
use Rattle.reason.proofs.Reason.missing.Reads as missing-reads
use Rattle.reason.proofs.UnexplainedFromStop.from.Kinds as from-stop-kinds
use Rattle.reason.proofs.UnexplainedFromStop.from.Reads as from-stop-reads
use Rattle.reason.proofs.UnexplainedFromRefusal.from.Kinds as from-refusal-kinds
use Rattle.reason.proofs.UnexplainedFromRefusal.from.Reads as from-refusal-reads

pub from-stop-pinned : OneOutcome 0 from-stop-kinds.ps from-stop-kinds.r from-stop-reads.Post
from-stop-pinned κs a z z' ws ws' p q = just p q

pub from-refusal-pinned : OneOutcome 0 from-refusal-kinds.ps from-refusal-kinds.r from-refusal-reads.Post
from-refusal-pinned κs a z z' ws ws' p q = just p q

pub explain-pinned : OneOutcome 2 explain-kinds.ps explain-kinds.r explain-reads.Post
explain-pinned κs a z z' ws ws' p q = just p.0 q.0

pub number-pinned : OneOutcome 0 number-kinds.ps number-kinds.r number-reads.Post
number-pinned κs a z z' ws ws' p q = just p q

pub component-pinned : OneOutcome 0 component-kinds.ps component-kinds.r component-reads.Post
component-pinned κs a z z' ws ws' p q = just p q

pub missing-pinned : OneOutcome 0 missing-kinds.ps missing-kinds.r missing-reads.Post
missing-pinned κs a z z' ws ws' p q = just p q
