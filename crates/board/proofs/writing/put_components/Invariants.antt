-- By the loop's invariant: the first i components are written in a row behind the head, and each fits its fields; at the end all are.
use Rattle.bitfield.proofs.Laws.{Strung}
use Rattle.board.specs.Packed.{head_length, component_length, bytes_at, EachTyped}
use Rattle.board.proofs.writing.put_components.Given as goal

abbrev pub invariant-loop-i : goal.invariant-loop-i
invariant-loop-i l = Strung l.initial.buf head_length component_length (bytes_at l.b) l.i l.buf × EachTyped l.b l.i
