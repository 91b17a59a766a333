-- By the loop's invariant: v is what the bytes so far write, all of them digits; past 64 bits it stays, since more digits write no less.
use native.Mathlib.Omega.{arith}
use mathlib.Core.Path.{◌≡◌, refl}
use Prim.Native.Nat.{◌+◌, ◌*◌, ◌^◌, ◌<◌, ◌≤◌}
use borrow.Author.Tests.{lt-ltb}
use lib.ListN.{get_or, length, take}
use Rattle.basics.specs.Every.{all_none, all_more}
use Rattle.given.specs.Numerals.{digit_of, is_digit_at, value_of}
use Rattle.given.proofs.Laws.{value-more, value-front, stays, passes, of-no-digit, of-too-large, of_number}
use Rattle.given.proofs.digits.written.Goals as goal
use Rattle.given.proofs.digits.written.Goals.{After-digit-d, Else-v-d, then-d-base-via-then-d-base, then-d-base-via-else-d-base+then-v-d}

pub loop-b-init : goal.loop-b-init
unfolding value_of
loop-b-init c = (omega arith, (refl, (omega arith, all_none _)))

-- what a turn makes
turned : (c : After-digit-d) → c.loop-b.v * c.args.base + c.digit-d.result ≡ value_of c.args.base (take (c.loop-b.b-index + 1) c.args.s.now)
turned c =
    let l = c.loop-b in
    let a = c.args in
    value-more a.base a.s.now l.b-index _ _ (omega arith) l.invariant.1.0 c.digit-d.ensures

-- and that it fits, where the test says so
fitting : (c : Else-v-d) → c.loop-b.v * c.args.base + c.digit-d.result < 2 ^ 64
fitting c = omega (arith, stays _ _ _ _ c.if-v-d.false (omega arith) (omega arith))

pub returns-then-d-base : goal.returns-then-d-base
returns-then-d-base c =
    let a = c.args in
    let s = a.s.now in
    let i = c.loop-b.b-index in
    let within : i < length s = omega arith in
    let front : value_of a.base (take (i + 1) s) ≤ value_of a.base s = value-front a.base s (i + 1) (omega arith) in
    let made = turned (goal.at.returns-then-d-base c).After-digit-d in
    elim c.then-d-base.branch [
      | then-d-base-via-then-d-base w ↦ of-no-digit a.base s i within (rw c.digit-d.ensures at w.if-d-base.true)
      | then-d-base-via-else-d-base+then-v-d w ↦ of-too-large a.base s (omega (arith, passes _ _ _ _ w.if-v-d.true (omega arith) (omega (arith, w.if-d-base.false)), made, front))
    ]

pub loop-b-preserved : goal.loop-b-preserved
loop-b-preserved c =
    let a = c.args in
    let digit : digit_of (get_or a.s.now c.loop-b.b-index 0) < a.base = omega (arith, c.digit-d.ensures) in
    (omega arith, (turned (goal.at.loop-b-preserved c).After-digit-d, (fitting c, all_more (is_digit_at a.base a.s.now) _ c.loop-b.invariant.1.1.1 (lt-ltb _ _ digit))))

pub returns : goal.returns
returns c =
    let l = c.loop-b in
    let a = c.args in
    let some : 0 < length a.s.now = grind arith in
    of_number a.base a.s.now l.b-index _ some (omega arith) l.invariant.1.0 (omega arith) l.invariant.1.1.1
