-- By the loop's invariant: v is what the bytes so far write, all of them digits; past 64 bits it stays, since more digits write no less.
use mathlib.Core.Path.{◌≡◌}
use mathlib.Core.Bool.{true}
use Prim.Native.Nat.{◌^◌, ◌≤◌, ◌<◌}
use lib.ListN.{length, take}
use Rattle.basics.specs.Every.{all_below}
use Rattle.given.specs.Numerals.{is_digit_at, value_of}
use Rattle.given.proofs.digits.written.Given as goal

abbrev pub invariant-loop-b : goal.invariant-loop-b
invariant-loop-b l = (l.b-index ≤ length l.s) × ((l.v ≡ value_of l.base (take l.b-index l.s)) × ((l.v < 2 ^ 64) × (all_below l.b-index (is_digit_at l.base l.s) ≡ true)))
