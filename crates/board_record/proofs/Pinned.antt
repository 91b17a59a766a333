-- Each public function's promise leaves one outcome: any two that it allows are both what it names. Assumes nothing.
use Rattle.basics.proofs.Pin.{OneOutcome, just}
use Rattle.board_record.proofs.Record.fresh.Kinds as fresh-kinds
use Rattle.board_record.proofs.Record.fresh.Reads as fresh-reads
use Rattle.board_record.proofs.State.subject.Kinds as subject-of-kinds
use Rattle.board_record.proofs.State.subject.Reads as subject-of-reads
use Rattle.board_record.proofs.State.subject_number.Kinds as subject-number-kinds
use Rattle.board_record.proofs.State.subject_number.Reads as subject-number-reads
use Rattle.board_record.proofs.State.is_gathering.Kinds as is-gathering-kinds
use Rattle.board_record.proofs.State.is_gathering.Reads as is-gathering-reads
use Rattle.board_record.proofs.State.skips_rendezvous.Kinds as skips-rendezvous-kinds
use Rattle.board_record.proofs.State.skips_rendezvous.Reads as skips-rendezvous-reads
use Rattle.board_record.proofs.State.is_alone.Kinds as is-alone-kinds
use Rattle.board_record.proofs.State.is_alone.Reads as is-alone-reads
use Rattle.board_record.proofs.State.place.Kinds as place-of-kinds
use Rattle.board_record.proofs.State.place.Reads as place-of-reads
use Rattle.board_record.proofs.State.is_for.Kinds as is-for-kinds
use Rattle.board_record.proofs.State.is_for.Reads as is-for-reads
use Rattle.board_record.proofs.is_pending.Kinds as is-pending-kinds
use Rattle.board_record.proofs.is_pending.Reads as is-pending-reads
use Rattle.board_record.proofs.version_of.Kinds as version-of-kinds
use Rattle.board_record.proofs.version_of.Reads as version-of-reads
use Rattle.board_record.proofs.Record.is_well_formed.Kinds as is-well-formed-kinds
use Rattle.board_record.proofs.Record.is_well_formed.Reads as is-well-formed-reads

pub fresh-pinned : OneOutcome 0 fresh-kinds.ps fresh-kinds.r fresh-reads.Post
fresh-pinned κs a z z' ws ws' p q = just p q

pub subject-pinned : OneOutcome 0 subject-of-kinds.ps subject-of-kinds.r subject-of-reads.Post
subject-pinned κs a z z' ws ws' p q = just p q

pub subject-number-pinned : OneOutcome 0 subject-number-kinds.ps subject-number-kinds.r subject-number-reads.Post
subject-number-pinned κs a z z' ws ws' p q = just p q

pub is-gathering-pinned : OneOutcome 0 is-gathering-kinds.ps is-gathering-kinds.r is-gathering-reads.Post
is-gathering-pinned κs a z z' ws ws' p q = just p q

pub skips-rendezvous-pinned : OneOutcome 0 skips-rendezvous-kinds.ps skips-rendezvous-kinds.r skips-rendezvous-reads.Post
skips-rendezvous-pinned κs a z z' ws ws' p q = just p q

pub is-alone-pinned : OneOutcome 0 is-alone-kinds.ps is-alone-kinds.r is-alone-reads.Post
is-alone-pinned κs a z z' ws ws' p q = just p q

pub place-pinned : OneOutcome 0 place-of-kinds.ps place-of-kinds.r place-of-reads.Post
place-pinned κs a z z' ws ws' p q = just p q

pub is-for-pinned : OneOutcome 0 is-for-kinds.ps is-for-kinds.r is-for-reads.Post
is-for-pinned κs a z z' ws ws' p q = just p q

pub is-pending-pinned : OneOutcome 0 is-pending-kinds.ps is-pending-kinds.r is-pending-reads.Post
is-pending-pinned κs a z z' ws ws' p q = just p q

pub version-of-pinned : OneOutcome 0 version-of-kinds.ps version-of-kinds.r version-of-reads.Post
version-of-pinned κs a z z' ws ws' p q = just p q

pub is-well-formed-pinned : OneOutcome 0 is-well-formed-kinds.ps is-well-formed-kinds.r is-well-formed-reads.Post
is-well-formed-pinned κs a z z' ws ws' p q = just p q
