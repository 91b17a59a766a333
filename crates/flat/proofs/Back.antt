-- What a host writes through the library it reads back through it: a refusal's number is never 0, so the writer took it, and then the
-- round trips of boards and of log records say it. Assumes nothing.
use Rattle.std.specs.Prelude.{Err, Ok, Result}
use Prim.Native.Nat.{ℕ}
use mathlib.Core.Path.{◌≡◌, refl, ap, ap₂, ◌∙◌}
use mathlib.Core.Bool.{Bool, true, false}
use native.Mathlib.Omega.{arith}
use mathlib.Core.List.{List}
use lib.Dec.{ltb}
use lib.ListN.{length, take}
use borrow.Author.Tests.{eqb-false, ltb-false}
use Rattle.basics.specs.Choice.{never}
use Rattle.board.specs.Description.{number_of as board_number}
use Rattle.board.specs.Packed.{Described, trimmed, length_of, bytes_of, writable_of, part_of, put_of as put_board, buffer_of as board_buffer}
use Rattle.board.proofs.Laws.{length-description, part-written}
use Rattle.board.proofs.Numbers.{number-some as board-some}
use Rattle.board.proofs.Round.{reads-back}
use Rattle.board_record.specs.Record.{fresh_of}
use Rattle.log_record.specs.Packed.{record_bytes, put_of}
use Rattle.log_record.specs.Rules.{number_of}
use Rattle.log_record.proofs.Numbers.{number-some}
use Rattle.log_record.proofs.Round.{put_reads}
use Rattle.flat.specs.Answers.{logged_in}
use Rattle.flat.specs.Calls.{described_of, description_of, fresh_in, read_in, written_of, buffer_of}
use Rattle.flat.specs.Records.{has_flags, board_in, flat_of}
use Rattle.flat.specs.declared.FlatAnswer.{FlatAnswer}
use Rattle.flat.specs.declared.FlatBoard.{FlatBoard}
use Rattle.flat.specs.declared.FlatEvent.{FlatEvent}
use Rattle.board.specs.declared.Refusal.{Refusal}
use Rattle.log_record.specs.declared.Refusal.{Refusal as LogRecordRefusal}

-- the log record of an answer, as it was logged
pub logged-reads : (d : List ℕ) (e : FlatEvent) (a : FlatAnswer) → (written_of (length d) e a).refusal ≡ 0
    → read_in (buffer_of d e a) ≡ record { refusal = 0; bytes = record_bytes; rec = logged_in e a }
unfolding read_in written_of buffer_of
logged-reads d e a h = go (put_of (length d) (logged_in e a)) refl
  where
    go : (w : Result ℕ LogRecordRefusal) → put_of (length d) (logged_in e a) ≡ w → read_in (buffer_of d e a) ≡ record { refusal = 0; bytes = record_bytes; rec = logged_in e a }
    go (Ok n) q = rw (put_reads d (logged_in e a) n q)
    go (Err x) q = absurd (eqb-false (number_of x) 0 (number-some x) (rw q at h))

-- a board's description: from as many bytes of the buffer as were written a fresh record of that board is made
module _ (d : List ℕ) (f : FlatBoard) (typed : Described (board_in f)) where
  abbrev Fresh : Type 0
  Fresh = fresh_in (take (described_of (length d) f).bytes (description_of d f)) ≡ record { refusal = 0; rec = flat_of (fresh_of (trimmed (board_in f))) }

  -- what was written, where the writer takes it and there is room
  part-of : writable_of (board_in f) ≡ Ok tt → ltb (length d) (length_of (board_in f).components) ≡ false
      → take (length_of (board_in f).components) (board_buffer d (board_in f)) ≡ bytes_of (board_in f)
  unfolding put_board
  part-of q u =
      let part : part_of d (board_in f) ≡ bytes_of (board_in f) = rw (q, u) in
      let long = length-description (board_in f) typed.each in
      part-written d (board_in f) (length_of (board_in f).components) (rw part long) (ltb-false (length d) (length_of (board_in f).components) u) ∙ part

  pub described-fresh : (described_of (length d) f).refusal ≡ 0 → Fresh
  unfolding described_of description_of fresh_in put_board
  described-fresh = go (has_flags f) refl (writable_of (board_in f)) refl (ltb (length d) (length_of (board_in f).components)) refl
    where
      go : (a : Bool) → has_flags f ≡ a → (v : Result Unit Refusal) → writable_of (board_in f) ≡ v → (t : Bool) → ltb (length d) (length_of (board_in f).components) ≡ t → (described_of (length d) f).refusal ≡ 0 → Fresh
      go false p v q t u h = let same : ◌≡◌ {A = ℕ} 22 0 = rw p at h in never (omega arith)
      go true p (Err x) q t u h = absurd (eqb-false (board_number x) 0 (board-some x) (rw (p, q) at h))
      go true p (Ok tt) q true u h = let same : ◌≡◌ {A = ℕ} 27 0 = rw (p, q, u) at h in never (omega arith)
      go true p (Ok tt) q false u h =
          let bytes : (described_of (length d) f).bytes ≡ length_of (board_in f).components = rw (p, q, u) in
          let buffer : description_of d f ≡ board_buffer d (board_in f) = rw p in
          ap fresh_in (ap₂ (λ (n : ℕ) (l : List ℕ). take n l) bytes buffer ∙ part-of q u) ∙ rw (reads-back (board_in f) typed q)
