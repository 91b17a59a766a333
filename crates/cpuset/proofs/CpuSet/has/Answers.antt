-- The bit of a number that there is room for, and no other is a member. Assumes nothing.
use mathlib.Core.Path.{sym, ◌∙◌}
use mathlib.Core.List.{[]}
use native.Mathlib.Omega.{arith}
use borrow.Author.Tests.{le-ltb}
use Rattle.cpuset.specs.Bit.{bit}
use Rattle.cpuset.specs.Words.{member-first}
use Rattle.cpuset.specs.Set.{room, has_of}
use Rattle.cpuset.specs.Laws.{has-out}
use Rattle.cpuset.proofs.CpuSet.has.Goals as goal

pub returns-then-i-lt-ROOM : goal.returns-then-i-lt-ROOM
unfolding has_of bit
returns-then-i-lt-ROOM c = sym (member-first _ [] c.args.i (omega arith))

pub returns-else-i-lt-ROOM : goal.returns-else-i-lt-ROOM
unfolding room
returns-else-i-lt-ROOM c = le-ltb _ _ c.if-i-lt-ROOM.false ∙ sym (has-out _ _ c.if-i-lt-ROOM.false)
