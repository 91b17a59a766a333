-- `CpuSet::below` meets its contract: n ones for an n that there is room for, and ones throughout for any other. Assumes nothing.
use Prim.Native.Nat.{◌-◌, min}
use mathlib.Core.Path.{◌≡◌}
use native.Mathlib.Omega.{arith}
use lib.Pow.{pow_pos}
use Rattle.cpuset.specs.Words.{one_shl}
use Rattle.cpuset.specs.Set.{below_of}
use Rattle.cpuset.proofs.CpuSet.below.Goals as goal

pub overflow_sub-result : goal.overflow_sub-result
overflow_sub-result c = rw (one_shl c.args.n (omega arith)) (pow_pos _)

pub returns-then-n-lt-ROOM : goal.returns-then-n-lt-ROOM
unfolding below_of
returns-then-n-lt-ROOM c =
    let n = c.args.n in
    let low : min (n - 0) 64 ≡ n = omega arith in
    rw (one_shl n (omega arith), low)

pub returns-else-n-lt-ROOM : goal.returns-else-n-lt-ROOM
unfolding below_of
returns-else-n-lt-ROOM c =
    let high : min (c.args.n - 0) 64 ≡ 64 = omega arith in
    rw high
