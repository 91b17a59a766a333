-- By the loop's invariant: the first UUIDs differ and their marks are met; an unmet mark's UUID is new, and a met one's is looked for.
use Rattle.std.proofs.Common.{◌≡◌, ◌∙◌, sym, true, arith}
use Rattle.basics.specs.Choice.{by}
use Rattle.basics.specs.Every.{all_none, all_more, all-fails}
use Rattle.board.specs.Description.{unseen}
use Rattle.board.proofs.Lists.{unseen_before}
use Rattle.board.proofs.Marks.{met-none, met-more, unmet-unseen}
use Rattle.board.proofs.rules.is_distinct.Goals as goal
use Rattle.board.proofs.rules.is_distinct.Goals.{else-met-m-via-then-met-m+else-not-is_unseen, else-met-m-via-else-met-m}

pub loop-i-init : goal.loop-i-init
loop-i-init c = (all_none _, met-none _)

pub returns-then-not-is_unseen : goal.returns-then-not-is_unseen
returns-then-not-is_unseen c =
    let cs = c.args.components.now in
    all-fails _ (unseen cs) c.loop-i.i c.loop-i-test.true (sym (unseen_before cs c.loop-i.i (omega arith)) ∙ by c.is_unseen.ensures c.if-not-is_unseen.true)

pub loop-i-preserved : goal.loop-i-preserved
loop-i-preserved c =
    let l = c.loop-i in
    let cs = c.args.components.now in
    let new : unseen cs l.i ≡ true =
    elim c.else-met-m.branch [
      | else-met-m-via-then-met-m+else-not-is_unseen w ↦ sym (unseen_before cs l.i (omega arith)) ∙ by w.is_unseen.ensures w.if-not-is_unseen.false
      | else-met-m-via-else-met-m w ↦ unmet-unseen l.invariant.1 (rw c.mark-m.ensures at w.if-met-m.false)
    ] in
    (all_more (unseen cs) l.i l.invariant.0 new, rw c.mark-m.ensures (met-more l.invariant.1))
