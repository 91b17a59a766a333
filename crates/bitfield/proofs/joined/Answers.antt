-- The bits that the first eight bytes have of the field and those of the ninth are its two parts.
use native.Mathlib.Omega.{arith}
use native.Mathlib.Nat.{zero-add}
use mathlib.Core.Path.{◌≡◌, sym, ◌∙◌}
use Prim.Native.Nat.{◌+◌, ◌*◌, ◌-◌, ◌/◌, ◌%◌, ◌^◌}
use Rattle.bitfield.specs.Bits.{value_at, widest, widest_bytes}
use Rattle.bitfield.proofs.Laws.{value-fits, value-top}
use Rattle.bitfield.proofs.ByBytes.{value-take, value_low, value-joined}
use Rattle.bitfield.proofs.joined.Goals as goal
use Rattle.bitfield.proofs.joined.Goals.{After-from}

-- the two parts are the field
whole : (c : After-from) → let a = c.args in let rest = a.off + a.width - widest in c.last_bits-first.result * 2 ^ rest % 2 ^ widest + c.from.result / 2 ^ (8 - rest) ≡ value_at a.s.now a.off a.width
whole c =
    let a = c.args in
    let s = a.s.now in
    let rest = a.off + a.width - widest in
    let word : c.number.result ≡ value_at s 0 widest = c.number.ensures ∙ value-take s widest_bytes (omega arith) in
    let first : c.last_bits-first.result ≡ value_at s a.off (a.width - rest) = c.last_bits-first.ensures ∙ value_low s 0 a.off (a.width - rest) _ _ (omega arith) word ∙ rw zero-add in
    let next : a.off + (a.width - rest) ≡ 8 * widest_bytes = omega arith in
    let last : c.from.result / 2 ^ (8 - rest) ≡ value_at s (a.off + (a.width - rest)) rest = rw (c.from.ensures, next) (sym (value-top s widest_bytes rest (c.type_inv.s _).fits (omega arith))) in
    let e : a.width - rest + rest ≡ a.width = omega arith in
    rw (first, last) (value-joined s a.off (a.width - rest) rest (omega arith) ∙ rw e)

pub overflow_add-result : goal.overflow_add-result
overflow_add-result c =
    let a = c.args in
    omega (arith, whole c, value-fits a.s.now a.off a.width (omega arith))

pub returns : goal.returns
returns c = whole c
