use Rattle.board.proofs.Laws.{all-written}
use borrow.Author.Rules.{rules}
use Rattle.board.proofs.writing.put_writable.Goals as goal

pub returns : goal.returns
returns c =
    let each = c.put_components.ensures.each_typed in
    let w = all-written c.args.buf.now c.args.b.now _ _ c.if-buf-n.false c.put_head.ensures c.put_components.ensures.buf_after each in
    record { value = w.0; buf_after = w.1.0; part_length = w.1.1; described_if = record { first = search rules; last = search rules; each = each } }
