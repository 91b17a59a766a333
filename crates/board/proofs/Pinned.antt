-- Each public function's promise leaves one outcome: any two that it allows are both what it names. Assumes nothing.
use mathlib.Core.Path.{refl}
use Rattle.basics.proofs.Pin.{OneBy, OneOutcome, OneMutPart, same, just, both}
use Rattle.board.proofs.U64FromRefusal.from.Kinds as from-kinds
use Rattle.board.proofs.U64FromRefusal.from.Reads as from-reads
use Rattle.board.proofs.Board.blank.Kinds as blank-kinds
use Rattle.board.proofs.Board.blank.Reads as blank-reads
use Rattle.board.proofs.digit.Kinds as digit-kinds
use Rattle.board.proofs.digit.Reads as digit-reads
use Rattle.board.proofs.good_entry.Kinds as good-entry-kinds
use Rattle.board.proofs.good_entry.Reads as good-entry-reads
use Rattle.board.proofs.Board.numbered.Kinds as numbered-kinds
use Rattle.board.proofs.Board.numbered.Reads as numbered-reads
use Rattle.board.proofs.Board.is_capable.Kinds as is-capable-kinds
use Rattle.board.proofs.Board.is_capable.Reads as is-capable-reads
use Rattle.board.proofs.Board.may_reset.Kinds as may-reset-kinds
use Rattle.board.proofs.Board.may_reset.Reads as may-reset-reads
use Rattle.board.proofs.Board.is_entry_right.Kinds as is-entry-right-kinds
use Rattle.board.proofs.Board.is_entry_right.Reads as is-entry-right-reads
use Rattle.board.proofs.Board.is_well_formed.Kinds as is-well-formed-kinds
use Rattle.board.proofs.Board.is_well_formed.Reads as is-well-formed-reads
use Rattle.board.proofs.read_board.Kinds as read-board-kinds
use Rattle.board.proofs.read_board.Reads as read-board-reads
use Rattle.board.proofs.put_board.Kinds as put-board-kinds
use Rattle.board.proofs.put_board.Reads as put-board-reads
use Rattle.board.proofs.write_board.Kinds as write-board-kinds
use Rattle.board.proofs.write_board.Reads as write-board-reads

pub from-refusal-pinned : OneOutcome 0 from-kinds.ps from-kinds.r from-reads.Post
from-refusal-pinned κs a z z' ws ws' p q = just p q

pub blank-pinned : OneOutcome 0 blank-kinds.ps blank-kinds.r blank-reads.Post
blank-pinned κs a z z' ws ws' p q = just p q

pub digit-pinned : OneOutcome 0 digit-kinds.ps digit-kinds.r digit-reads.Post
digit-pinned κs a z z' ws ws' p q = just p.0 q.0

pub good-entry-pinned : OneOutcome 0 good-entry-kinds.ps good-entry-kinds.r good-entry-reads.Post
good-entry-pinned κs a z z' ws ws' p q = just p q

pub numbered-pinned : OneOutcome 0 numbered-kinds.ps numbered-kinds.r numbered-reads.Post
numbered-pinned κs a z z' ws ws' p q = just p q

pub is-capable-pinned : OneOutcome 0 is-capable-kinds.ps is-capable-kinds.r is-capable-reads.Post
is-capable-pinned κs a z z' ws ws' p q = just p q

pub may-reset-pinned : OneOutcome 0 may-reset-kinds.ps may-reset-kinds.r may-reset-reads.Post
may-reset-pinned κs a z z' ws ws' p q = just p q

pub is-entry-right-pinned : OneOutcome 0 is-entry-right-kinds.ps is-entry-right-kinds.r is-entry-right-reads.Post
is-entry-right-pinned κs a z z' ws ws' p q = just p q

pub is-well-formed-pinned : OneOutcome 0 is-well-formed-kinds.ps is-well-formed-kinds.r is-well-formed-reads.Post
is-well-formed-pinned κs a z z' ws ws' p q = just p q

pub read-board-pinned : OneOutcome 1 read-board-kinds.ps read-board-kinds.r read-board-reads.Post
read-board-pinned κs a z z' ws ws' p q = just p.0 q.0

pub put-board-pinned : OneOutcome 1 put-board-kinds.ps put-board-kinds.r put-board-reads.Post
put-board-pinned κs a z z' ws ws' p q = (same p.0 q.0, λ i. (same p.1.0 q.1.0 i, (tt, tt)))

-- the part is pinned; the buffer is spent, so nothing can be said of the bytes past it (docs/DECISIONS.md, "Pins")
pub write-board-pinned : OneBy 1 write-board-kinds.ps write-board-kinds.r (λ κs. OneMutPart) write-board-reads.Post
write-board-pinned κs a z z' ws ws' p q = (both p q, refl)
