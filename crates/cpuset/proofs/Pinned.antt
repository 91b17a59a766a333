-- Each public function's promise leaves one outcome: any two that it allows are both what it names. Assumes nothing.
use Rattle.basics.proofs.Pin.{OneOutcome, just}
use Rattle.cpuset.proofs.CpuSet.none.Kinds as none-kinds
use Rattle.cpuset.proofs.CpuSet.none.Reads as none_reads
use Rattle.cpuset.proofs.CpuSet.has.Kinds as has-kinds
use Rattle.cpuset.proofs.CpuSet.has.Reads as has-reads
use Rattle.cpuset.proofs.CpuSet.only.Kinds as only-kinds
use Rattle.cpuset.proofs.CpuSet.only.Reads as only-reads
use Rattle.cpuset.proofs.CpuSet.with.Kinds as with-kinds
use Rattle.cpuset.proofs.CpuSet.with.Reads as with-reads
use Rattle.cpuset.proofs.CpuSet.without.Kinds as without-kinds
use Rattle.cpuset.proofs.CpuSet.without.Reads as without-reads
use Rattle.cpuset.proofs.CpuSet.union.Kinds as union-kinds
use Rattle.cpuset.proofs.CpuSet.union.Reads as union-reads
use Rattle.cpuset.proofs.CpuSet.less.Kinds as less-kinds
use Rattle.cpuset.proofs.CpuSet.less.Reads as less-reads
use Rattle.cpuset.proofs.CpuSet.same.Kinds as same-kinds
use Rattle.cpuset.proofs.CpuSet.same.Reads as same_Reads
use Rattle.cpuset.proofs.CpuSet.is_none.Kinds as is-none-kinds
use Rattle.cpuset.proofs.CpuSet.is_none.Reads as is-none-reads
use Rattle.cpuset.proofs.CpuSet.below.Kinds as below-kinds
use Rattle.cpuset.proofs.CpuSet.below.Reads as below-reads
use Rattle.cpuset.proofs.CpuSet.within.Kinds as within-kinds
use Rattle.cpuset.proofs.CpuSet.within.Reads as within-reads
use Rattle.cpuset.proofs.CpuSet.count.Kinds as count-kinds
use Rattle.cpuset.proofs.CpuSet.count.Reads as count-reads

pub none-pinned : OneOutcome 0 none-kinds.ps none-kinds.r none_reads.Post
none-pinned κs a z z' ws ws' p q = just p q

pub has-pinned : OneOutcome 0 has-kinds.ps has-kinds.r has-reads.Post
has-pinned κs a z z' ws ws' p q = just p q

pub only-pinned : OneOutcome 0 only-kinds.ps only-kinds.r only-reads.Post
only-pinned κs a z z' ws ws' p q = just p q

pub with-pinned : OneOutcome 0 with-kinds.ps with-kinds.r with-reads.Post
with-pinned κs a z z' ws ws' p q = just p q

pub without-pinned : OneOutcome 0 without-kinds.ps without-kinds.r without-reads.Post
without-pinned κs a z z' ws ws' p q = just p q

pub union-pinned : OneOutcome 0 union-kinds.ps union-kinds.r union-reads.Post
union-pinned κs a z z' ws ws' p q = just p q

pub less-pinned : OneOutcome 0 less-kinds.ps less-kinds.r less-reads.Post
less-pinned κs a z z' ws ws' p q = just p q

pub same-pinned : OneOutcome 0 same-kinds.ps same-kinds.r same_Reads.Post
same-pinned κs a z z' ws ws' p q = just p q

pub is-none-pinned : OneOutcome 0 is-none-kinds.ps is-none-kinds.r is-none-reads.Post
is-none-pinned κs a z z' ws ws' p q = just p q

pub below-pinned : OneOutcome 0 below-kinds.ps below-kinds.r below-reads.Post
below-pinned κs a z z' ws ws' p q = just p q

pub within-pinned : OneOutcome 0 within-kinds.ps within-kinds.r within-reads.Post
within-pinned κs a z z' ws ws' p q = just p q

pub count-pinned : OneOutcome 0 count-kinds.ps count-kinds.r count-reads.Post
count-pinned κs a z z' ws ws' p q = just p q
