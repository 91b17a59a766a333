-- By the loop's invariant: the first i components are written in a row behind the head, and each fits its fields; at the end all are.
use Rattle.std.proofs.Common.{◌≡◌, ◌<◌, length, arith, rules}
use Rattle.std.proofs.lemmas.List.{get_or-take, length-take-le}
use Rattle.bitfield.proofs.Laws.{strung-none, strung-more}
use Rattle.board.specs.Packed.{head_length, component_length, bytes_at, Typed}
use Rattle.board.specs.Description.{most_components, absent, component_of}
use Rattle.board.proofs.Laws.{typed_long}
use borrow.Author.Count.{below_more}
use Rattle.board.proofs.writing.put_components.Goals as goal

pub loop-i-init : goal.loop-i-init
loop-i-init c = (strung-none _ head_length component_length _, λ j l. absurd (omega arith))

pub loop-i-preserved : goal.loop-i-preserved
loop-i-preserved c =
    let l = c.loop-i in
    let b = c.args.b.now in
    let full : length b.component ≡ most_components = search rules in
    let few = length-take-le b.components b.component (omega arith) in
    let h : l.i < b.components = omega arith in
    let at = get_or-take b.components b.component l.i absent h in
    let new : Typed (component_of b l.i) = rw at at c.put_component.ensures.typed in
    let now = rw at at c.put_component.ensures.buf_after in
    (strung-more c.args.buf.now head_length component_length (bytes_at b) l.i l.buf _ l.invariant.0 (typed_long _ new) now (omega arith), below_more (λ k. Typed (component_of b k)) l.i l.invariant.1 new)
