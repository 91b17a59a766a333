use Rattle.std.proofs.Common.{◌≡◌, sum, rules}
use Rattle.std.proofs.iter.runs.Sources.{sums}
use Rattle.board.proofs.Lists.{sum_of_bytes}
use Rattle.board.proofs.rules.mark.Goals as goal

pub sum-sum-requires-clause-fits : goal.sum-sum-requires-clause-fits
sum-sum-requires-clause-fits c = search (rules, sums)

pub returns : goal.returns
returns c =
    let e : c.sum-sum.result ≡ sum c.args.uuid.now = search (rules, sums) in
    rw (e, sum_of_bytes c.args.uuid.now c.told-uuid)
