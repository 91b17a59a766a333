-- Where the walk got to the place and where not: `explained_of` then computes to what is returned, and the numbers follow (`explains`).
use Rattle.std.proofs.Common.{sym, ◌∙◌}
use Rattle.std.proofs.lemmas.Result.{err_from_is_err_and}
use Rattle.basics.specs.Choice.{and_so}
use Rattle.reason.specs.Explained.{explained_of}
use Rattle.reason.proofs.Numbers.{explains}
use Rattle.reason.proofs.explain.Goals as goal

pub returns : goal.returns
unfolding explained_of
returns c = let facts = and_so (explains _ _ _ _) (rw (sym c.walk_to-walked.ensures.value, c.in_ok-walked.was) c.called.ensures) in record { value = facts.0; explains = facts.1 }

pub returns-in_err-walked : goal.returns-in_err-walked
unfolding explained_of
returns-in_err-walked c =
    let p = err_from_is_err_and c.from_residual.result c.from_residual.ensures.1 in
    let facts = and_so (explains _ _ _ _) (rw (p.1, p.2, sym c.walk_to-walked.ensures.value, c.in_err-walked.was)) in record { value = facts.0; explains = facts.1 }
