-- `CpuSet::only` meets its contract: one bit for a number that there is room for, and nothing for any other. Assumes nothing.
use Prim.Native.Nat.{◌/◌, ◌%◌}
use mathlib.Core.Path.{◌≡◌, sym, ◌∙◌}
use native.Mathlib.Omega.{arith}
use Rattle.cpuset.specs.Words.{one_shl}
use Rattle.cpuset.specs.Set.{room, only_of}
use Rattle.cpuset.specs.Laws.{only_out}
use Rattle.cpuset.proofs.CpuSet.only.Goals as goal

pub returns-then-i-lt-ROOM : goal.returns-then-i-lt-ROOM
unfolding only_of
returns-then-i-lt-ROOM c =
    let i = c.args.i in
    let q : i / 64 ≡ 0 = omega arith in
    let r : i % 64 ≡ i = omega arith in
    rw (one_shl i (omega arith), q, r)

pub returns-else-i-lt-ROOM : goal.returns-else-i-lt-ROOM
unfolding room
returns-else-i-lt-ROOM c = c.none.ensures ∙ sym (only_out _ c.if-i-lt-ROOM.false)
