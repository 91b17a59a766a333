-- What was read in a turn has a byte at least.
use Rattle.std.proofs.Common.{arith, sym, subst}
use Rattle.basics.specs.Choice.{by}
use Rattle.deliveries.proofs.Host.{Fed, fed-start, fed-more, room-less}
use Rattle.lead.proofs.main.Goals as goal

pub loop-rt-init : goal.loop-rt-init
loop-rt-init c = subst Fed (sym c.open-lead.ensures) fed-start

pub loop-rt-smaller : goal.loop-rt-smaller
loop-rt-smaller c =
    rw c.in_ok-lead.ensures
    (room-less _ _ c.loop-rt.invariant (by c.is_open.ensures c.loop-rt-test.true) (omega (arith, c.in-Ok.ensures.bound.1, c.if-n-eq0.false)))

pub loop-rt-preserved : goal.loop-rt-preserved
loop-rt-preserved c = subst Fed (sym c.in_ok-lead.ensures) (fed-more _ _ c.loop-rt.invariant)
