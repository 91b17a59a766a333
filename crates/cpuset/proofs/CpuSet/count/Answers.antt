-- A word's set bits are the members. Assumes nothing.
use native.Mathlib.Omega.{arith}
use borrow.Author.Rules.{rules}
use Rattle.cpuset.specs.Set.{Set}
use Rattle.cpuset.specs.Laws.{count-words}
use Rattle.cpuset.proofs.CpuSet.count.Goals as goal

pub returns : goal.returns
unfolding Set
returns c = omega (arith, c.from.ensures, count-words c.args.self (search rules))
