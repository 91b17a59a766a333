-- Each public function's promise leaves one outcome: any two that it allows are both what it names. Assumes nothing.
use seplogic.Ra.Ura.{Ura}
use base.Logic.{SProp, id⊢}
use prog.Memory.{Memory}
use prog.Routine.{Routine}
use types.Logic.{Logic}
use contract.Monad.{Fun}
use Rattle.basics.proofs.Pin.{OneOutcome, OneWalked, gathered, of-both, same, just}
use Rattle.monitor.specs.contracts.lfa_step as lfa-step
use Rattle.monitor.proofs.lfa_abi.Kinds as lfa-abi-kinds
use Rattle.monitor.proofs.lfa_abi.Reads as lfa-abi-reads
use Rattle.monitor.proofs.lfa_describe.Kinds as lfa-describe-kinds
use Rattle.monitor.proofs.lfa_describe.Reads as lfa-describe-reads
use Rattle.monitor.proofs.lfa_fresh.Kinds as lfa-fresh-kinds
use Rattle.monitor.proofs.lfa_fresh.Reads as lfa-fresh-reads
use Rattle.monitor.proofs.lfa_log.Kinds as lfa-log-kinds
use Rattle.monitor.proofs.lfa_log.Reads as lfa-log-reads
use Rattle.monitor.proofs.lfa_read_record.Kinds as lfa-read-record-kinds
use Rattle.monitor.proofs.lfa_read_record.Reads as lfa-read-record-reads
use Rattle.monitor.proofs.lfa_prepared.Kinds as lfa-prepared-kinds
use Rattle.monitor.proofs.lfa_prepared.Reads as lfa-prepared-reads
use Rattle.monitor.proofs.lfa_starts.Kinds as lfa-starts-kinds
use Rattle.monitor.proofs.lfa_starts.Reads as lfa-starts-reads
use Rattle.monitor.proofs.lfa_powered.Kinds as lfa-powered-kinds
use Rattle.monitor.proofs.lfa_powered.Reads as lfa-powered-reads
use Rattle.monitor.proofs.lfa_held.Kinds as lfa-held-kinds
use Rattle.monitor.proofs.lfa_held.Reads as lfa-held-reads
use Rattle.monitor.proofs.lfa_why.Kinds as lfa-why-kinds
use Rattle.monitor.proofs.lfa_why.Reads as lfa-why-reads
use Rattle.monitor.proofs.lfa_lead_open.Kinds as lfa-lead-open-kinds
use Rattle.monitor.proofs.lfa_lead_open.Reads as lfa-lead-open-reads
use Rattle.monitor.proofs.lfa_lead_take.Kinds as lfa-lead-take-kinds
use Rattle.monitor.proofs.lfa_lead_take.Reads as lfa-lead-take-reads
use Rattle.monitor.proofs.lfa_lead_close.Kinds as lfa-lead-close-kinds
use Rattle.monitor.proofs.lfa_lead_close.Reads as lfa-lead-close-reads

pub lfa-abi-pinned : OneOutcome 0 lfa-abi-kinds.ps lfa-abi-kinds.r lfa-abi-reads.Post
lfa-abi-pinned κs a z z' ws ws' p q = just p q

pub lfa-describe-pinned : OneOutcome 1 lfa-describe-kinds.ps lfa-describe-kinds.r lfa-describe-reads.Post
lfa-describe-pinned κs a z z' ws ws' p q = (same p.0 q.0, λ i. (same p.1 q.1 i, (tt, tt)))

pub lfa-fresh-pinned : OneOutcome 1 lfa-fresh-kinds.ps lfa-fresh-kinds.r lfa-fresh-reads.Post
lfa-fresh-pinned κs a z z' ws ws' p q = just p q

pub lfa-log-pinned : OneOutcome 1 lfa-log-kinds.ps lfa-log-kinds.r lfa-log-reads.Post
lfa-log-pinned κs a z z' ws ws' p q = (same p.0 q.0, λ i. (same p.1 q.1 i, (tt, (tt, tt))))

pub lfa-read-record-pinned : OneOutcome 1 lfa-read-record-kinds.ps lfa-read-record-kinds.r lfa-read-record-reads.Post
lfa-read-record-pinned κs a z z' ws ws' p q = just p q

pub lfa-prepared-pinned : OneOutcome 1 lfa-prepared-kinds.ps lfa-prepared-kinds.r lfa-prepared-reads.Post
lfa-prepared-pinned κs a z z' ws ws' p q = just p q

pub lfa-starts-pinned : OneOutcome 2 lfa-starts-kinds.ps lfa-starts-kinds.r lfa-starts-reads.Post
lfa-starts-pinned κs a z z' ws ws' p q = just p q

pub lfa-powered-pinned : OneOutcome 1 lfa-powered-kinds.ps lfa-powered-kinds.r lfa-powered-reads.Post
lfa-powered-pinned κs a z z' ws ws' p q = just p q

pub lfa-held-pinned : OneOutcome 1 lfa-held-kinds.ps lfa-held-kinds.r lfa-held-reads.Post
lfa-held-pinned κs a z z' ws ws' p q = just p q

pub lfa-why-pinned : OneOutcome 2 lfa-why-kinds.ps lfa-why-kinds.r lfa-why-reads.Post
lfa-why-pinned κs a z z' ws ws' p q = just p q

pub lfa-lead-open-pinned : OneOutcome 0 lfa-lead-open-kinds.ps lfa-lead-open-kinds.r lfa-lead-open-reads.Post
lfa-lead-open-pinned κs a z z' ws ws' p q = just p q

pub lfa-lead-take-pinned : OneOutcome 1 lfa-lead-take-kinds.ps lfa-lead-take-kinds.r lfa-lead-take-reads.Post
lfa-lead-take-pinned κs a z z' ws ws' p q = just p q

pub lfa-lead-close-pinned : OneOutcome 0 lfa-lead-close-kinds.ps lfa-lead-close-kinds.r lfa-lead-close-reads.Post
lfa-lead-close-pinned κs a z z' ws ws' p q = just p q

pub lfa-step-pinned : {M : Type 1} {𝓤 : Ura M} (𝓛 : Logic 𝓤) (mem : Memory → SProp 𝓤) (run : Routine → Fun 𝓤) → OneWalked 𝓤 lfa-step.ended (lfa-step.clauses 𝓛 mem run)
lfa-step-pinned {𝓤 = 𝓤} 𝓛 mem run κs a g g' z z' ws ws' P =
    of-both 𝓤 (gathered 𝓤 (gathered 𝓤 (gathered 𝓤 (id⊢ 𝓤 _)))) (gathered 𝓤 (gathered 𝓤 (gathered 𝓤 (id⊢ 𝓤 _))))
    (λ p q. (same p.0 q.0, λ i. (same p.1.0 q.1.0 i, (tt, (same p.1.1.0 q.1.1.0 i, (same p.1.1.1 q.1.1.1 i, tt))))))
