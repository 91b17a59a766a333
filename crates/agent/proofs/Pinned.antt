-- Each public function's promise leaves one outcome. Assumes nothing.
use Rattle.basics.proofs.Pin.{OneOutcome, same, just}
use Rattle.agent.proofs.Caller.outcome.Kinds as caller-number-kinds
use Rattle.agent.proofs.Caller.outcome.Reads as caller-number-reads
use Rattle.agent.proofs.Caller.returned.Kinds as returned-kinds
use Rattle.agent.proofs.Caller.returned.Reads as returned-reads
use Rattle.agent.proofs.Release.number.Kinds as release-number-kinds
use Rattle.agent.proofs.Release.number.Reads as release-number-reads
use Rattle.agent.proofs.Release.freed.Kinds as freed-by-kinds
use Rattle.agent.proofs.Release.freed.Reads as freed-by-reads
use Rattle.agent.proofs.step.Kinds as step-kinds
use Rattle.agent.proofs.step.Reads as step-reads

pub outcome-pinned : OneOutcome 0 caller-number-kinds.ps caller-number-kinds.r caller-number-reads.Post
outcome-pinned κs a z z' ws ws' p q = just p q

pub returned-pinned : OneOutcome 0 returned-kinds.ps returned-kinds.r returned-reads.Post
returned-pinned κs a z z' ws ws' p q = just p q

pub number-pinned : OneOutcome 0 release-number-kinds.ps release-number-kinds.r release-number-reads.Post
number-pinned κs a z z' ws ws' p q = just p q

pub freed-pinned : OneOutcome 0 freed-by-kinds.ps freed-by-kinds.r freed-by-reads.Post
freed-pinned κs a z z' ws ws' p q = just p q

pub step-pinned : OneOutcome 2 step-kinds.ps step-kinds.r step-reads.Post
step-pinned κs a z z' ws ws' p q = (same p.0 q.0, λ i. (tt, (tt, (same p.1.0 q.1.0 i, (same p.1.1.0 q.1.1.0 i, tt)))))
