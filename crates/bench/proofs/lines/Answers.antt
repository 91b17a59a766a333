-- What a turn shows is `turn_at` of its place, and what it leaves is what was replayed and told one record later.
use Rattle.std.proofs.Common.{ap, ◌∙◌}
use Rattle.log_book.specs.Log.{past_of}
use Rattle.reader.proofs.Laws.{story-on}
use Rattle.trace.specs.Turn.{replayed_to}
use Rattle.trace.specs.declared.Turn.{Turn}
use Rattle.trace.proofs.Turns.{turned-at, replayed-on}
use Rattle.bench.proofs.lines.Goals as goal

pub loop-k-init : goal.loop-k-init
unfolding replayed_to past_of
loop-k-init g c = record { replayed = c.fresh-rec.ensures; told = c.opening-story.ensures }

pub line-requires : goal.line-requires
line-requires g c =
    (c.said_at-r.ensures, turned-at _ _ _ _ _ _ _ c.loop-k.invariant.replayed c.loop-k.invariant.told c.said_at-r.ensures c.turned-t.ensures.value)

pub loop-k-preserved : goal.loop-k-preserved
loop-k-preserved g c =
    let turn = turned-at _ _ _ _ _ _ _ c.loop-k.invariant.replayed c.loop-k.invariant.told c.said_at-r.ensures c.turned-t.ensures.value in
    let told = rw (c.loop-k.invariant.told, c.said_at-r.ensures) at c.told-story.ensures in
    record { replayed = ap (λ (x : Turn). x.agent.rec) turn ∙ replayed-on _ _ _; told = told ∙ story-on _ _ }
