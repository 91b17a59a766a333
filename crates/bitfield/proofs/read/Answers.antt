-- A value that is read inside is that of `field_at`, by the byte and the bit of it at which the field begins.
use Rattle.std.specs.Prelude.{Some}
use native.Mathlib.Omega.{arith}
use mathlib.Core.Path.{◌≡◌}
use Prim.Native.Nat.{ℕ, ◌+◌, ◌-◌, ◌*◌, ◌/◌, ◌%◌, ◌≤◌}
use mathlib.Core.List.{List}
use lib.ListN.{length, take, drop}
use borrow.Author.Tests.{le-leb}
use Rattle.bitfield.specs.Bits.{widest, value_at, field_at}
use Rattle.bitfield.proofs.ByBytes.{value-part}
use Rattle.bitfield.proofs.read.Goals as goal

-- a value that was read from a byte and a bit of it on
inside_is : (s : List ℕ) (at w v : ℕ) → let m = (at % 8 + w + 7) / 8 in w ≤ widest → at / 8 + m ≤ length s → v ≡ value_at (take (at / 8 + m - at / 8) (drop (at / 8) s)) (at % 8) w → Some v ≡ field_at s at w
inside_is s at w v h g e =
    let m = (at % 8 + w + 7) / 8 in
    let n : at / 8 + m - at / 8 ≡ m = omega arith in
    let p : 8 * (at / 8) + at % 8 ≡ at = omega arith in
    let f : value_at (take m (drop (at / 8) s)) (at % 8) w ≡ value_at s (8 * (at / 8) + at % 8) w = value-part s (at / 8) m (at % 8) w g (omega arith) in
    let i : at + w ≤ 8 * length s = omega arith in
    simp (le-leb _ _ h, le-leb _ _ i, e, n, f, p)

pub returns-then-off-width-gt-WIDEST : goal.returns-then-off-width-gt-WIDEST
returns-then-off-width-gt-WIDEST c = inside_is _ c.args.at _ _ (omega arith) (omega arith) c.joined.ensures

pub returns : goal.returns
returns c = inside_is _ c.args.at _ _ (omega arith) (omega arith) c.covered.ensures
