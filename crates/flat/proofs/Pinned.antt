-- Each public function's promise leaves one outcome: any two that it allows are both what it names. Assumes nothing.
use Rattle.basics.proofs.Pin.{OneOutcome, same, just}
use Rattle.flat.proofs.abi.Kinds as abi-kinds
use Rattle.flat.proofs.abi.Reads as abi-reads
use Rattle.flat.proofs.describe.Kinds as describe-kinds
use Rattle.flat.proofs.describe.Reads as describe-reads
use Rattle.flat.proofs.fresh.Kinds as fresh-kinds
use Rattle.flat.proofs.fresh.Reads as fresh-reads
use Rattle.flat.proofs.step.Kinds as step-kinds
use Rattle.flat.proofs.step.Reads as step-reads
use Rattle.flat.proofs.log.Kinds as log-kinds
use Rattle.flat.proofs.log.Reads as log-reads
use Rattle.flat.proofs.read_record.Kinds as read-record-kinds
use Rattle.flat.proofs.read_record.Reads as read-record-reads
use Rattle.flat.proofs.prepared.Kinds as prepared-kinds
use Rattle.flat.proofs.prepared.Reads as prepared-reads
use Rattle.flat.proofs.starts.Kinds as starts-kinds
use Rattle.flat.proofs.starts.Reads as starts-reads
use Rattle.flat.proofs.powered.Kinds as powered-kinds
use Rattle.flat.proofs.powered.Reads as powered-reads
use Rattle.flat.proofs.held.Kinds as held-kinds
use Rattle.flat.proofs.held.Reads as held_reads
use Rattle.flat.proofs.why.Kinds as why-kinds
use Rattle.flat.proofs.why.Reads as why-reads
use Rattle.flat.proofs.lead_open.Kinds as lead-open-kinds
use Rattle.flat.proofs.lead_open.Reads as lead-open-reads
use Rattle.flat.proofs.lead_take.Kinds as lead-take-kinds
use Rattle.flat.proofs.lead_take.Reads as lead-take-reads
use Rattle.flat.proofs.lead_close.Kinds as lead-close-kinds
use Rattle.flat.proofs.lead_close.Reads as lead-close-reads
use Rattle.flat.proofs.records.FlatComponentFromComponent.from.Kinds as from-component-kinds
use Rattle.flat.proofs.records.FlatComponentFromComponent.from.Reads as from-component-reads
use Rattle.flat.proofs.records.ComponentFromFlatComponent.from.Kinds as from-flatcomponent-kinds
use Rattle.flat.proofs.records.ComponentFromFlatComponent.from.Reads as from-flatcomponent-reads
use Rattle.flat.proofs.records.FlatBoardFromBoard.from.Kinds as from-board-kinds
use Rattle.flat.proofs.records.FlatBoardFromBoard.from.Reads as from-board-reads
use Rattle.flat.proofs.records.BoardFromFlatBoard.from.Kinds as from-flatboard-kinds
use Rattle.flat.proofs.records.BoardFromFlatBoard.from.Reads as from-flatboard-reads
use Rattle.flat.proofs.records.FlatRecordFromRecord.from.Kinds as from-record-kinds
use Rattle.flat.proofs.records.FlatRecordFromRecord.from.Reads as from-record-reads
use Rattle.flat.proofs.records.RecordFromFlatRecord.from.Kinds as from-flatrecord-kinds
use Rattle.flat.proofs.records.RecordFromFlatRecord.from.Reads as from-flatrecord-reads
use Rattle.flat.proofs.leads.FlatLeadFromLead.from.Kinds as from-lead-kinds
use Rattle.flat.proofs.leads.FlatLeadFromLead.from.Reads as from-lead-reads
use Rattle.flat.proofs.leads.LeadFromFlatLead.from.Kinds as from-flatlead-kinds
use Rattle.flat.proofs.leads.LeadFromFlatLead.from.Reads as from-flatlead-reads

pub abi-pinned : OneOutcome 0 abi-kinds.ps abi-kinds.r abi-reads.Post
abi-pinned κs a z z' ws ws' p q = just p q

pub describe-pinned : OneOutcome 1 describe-kinds.ps describe-kinds.r describe-reads.Post
describe-pinned κs a z z' ws ws' p q = (same p.0 q.0, λ i. (same p.1 q.1 i, (tt, tt)))

pub fresh-pinned : OneOutcome 1 fresh-kinds.ps fresh-kinds.r fresh-reads.Post
fresh-pinned κs a z z' ws ws' p q = just p q

pub step-pinned : OneOutcome 2 step-kinds.ps step-kinds.r step-reads.Post
step-pinned κs a z z' ws ws' p q = (same p.0 q.0, λ i. (tt, (tt, (same p.1.0 q.1.0 i, (same p.1.1 q.1.1 i, tt)))))

pub log-pinned : OneOutcome 1 log-kinds.ps log-kinds.r log-reads.Post
log-pinned κs a z z' ws ws' p q = (same p.0 q.0, λ i. (same p.1 q.1 i, (tt, (tt, tt))))

pub read-record-pinned : OneOutcome 1 read-record-kinds.ps read-record-kinds.r read-record-reads.Post
read-record-pinned κs a z z' ws ws' p q = just p q

pub prepared-pinned : OneOutcome 1 prepared-kinds.ps prepared-kinds.r prepared-reads.Post
prepared-pinned κs a z z' ws ws' p q = just p q

pub starts-pinned : OneOutcome 2 starts-kinds.ps starts-kinds.r starts-reads.Post
starts-pinned κs a z z' ws ws' p q = just p q

pub powered-pinned : OneOutcome 1 powered-kinds.ps powered-kinds.r powered-reads.Post
powered-pinned κs a z z' ws ws' p q = just p q

pub held-pinned : OneOutcome 1 held-kinds.ps held-kinds.r held_reads.Post
held-pinned κs a z z' ws ws' p q = just p q

pub why-pinned : OneOutcome 2 why-kinds.ps why-kinds.r why-reads.Post
why-pinned κs a z z' ws ws' p q = just p q

pub lead-open-pinned : OneOutcome 0 lead-open-kinds.ps lead-open-kinds.r lead-open-reads.Post
lead-open-pinned κs a z z' ws ws' p q = just p q

pub lead-take-pinned : OneOutcome 1 lead-take-kinds.ps lead-take-kinds.r lead-take-reads.Post
lead-take-pinned κs a z z' ws ws' p q = just p q

pub lead-close-pinned : OneOutcome 0 lead-close-kinds.ps lead-close-kinds.r lead-close-reads.Post
lead-close-pinned κs a z z' ws ws' p q = just p q

pub from-component-pinned : OneOutcome 0 from-component-kinds.ps from-component-kinds.r from-component-reads.Post
from-component-pinned κs a z z' ws ws' p q = just p q

pub from-flatcomponent-pinned : OneOutcome 0 from-flatcomponent-kinds.ps from-flatcomponent-kinds.r from-flatcomponent-reads.Post
from-flatcomponent-pinned κs a z z' ws ws' p q = just p q

pub from-board-pinned : OneOutcome 0 from-board-kinds.ps from-board-kinds.r from-board-reads.Post
from-board-pinned κs a z z' ws ws' p q = just p q

pub from-flatboard-pinned : OneOutcome 0 from-flatboard-kinds.ps from-flatboard-kinds.r from-flatboard-reads.Post
from-flatboard-pinned κs a z z' ws ws' p q = just p q

pub from-record-pinned : OneOutcome 0 from-record-kinds.ps from-record-kinds.r from-record-reads.Post
from-record-pinned κs a z z' ws ws' p q = just p q

pub from-flatrecord-pinned : OneOutcome 0 from-flatrecord-kinds.ps from-flatrecord-kinds.r from-flatrecord-reads.Post
from-flatrecord-pinned κs a z z' ws ws' p q = just p q

pub from-lead-pinned : OneOutcome 0 from-lead-kinds.ps from-lead-kinds.r from-lead-reads.Post
from-lead-pinned κs a z z' ws ws' p q = just p q

pub from-flatlead-pinned : OneOutcome 0 from-flatlead-kinds.ps from-flatlead-kinds.r from-flatlead-reads.Post
from-flatlead-pinned κs a z z' ws ws' p q = just p q
