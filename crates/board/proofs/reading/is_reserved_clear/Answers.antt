-- The head's bits first, then those of each component, as they stand in the bytes from its first on.
use Rattle.std.proofs.Common.{ℕ, ◌-◌, ◌≡◌, ◌∙◌, sym, ap, Bool, true, nat_eq, length, take, drop, eq-eqb, refl, arith, rules, tests}
use Rattle.std.specs.List.{list_all, range_with_len}
use Rattle.std.proofs.lemmas.List.{take_rest}
use Rattle.std.proofs.lemmas.Iterator.{YieldsList-from_range}
use Rattle.std.proofs.lemmas.Iterator.Search.{all_from_yields_List}
use Rattle.basics.specs.Every.{all_same}
use Rattle.bitfield.specs.Bits.{value_at}
use Rattle.board.specs.Packed.{head_field, length_of, zero_at, reserved_clear}
use Rattle.board.proofs.Lists.{all_counted, tail_from}
use Rattle.board.proofs.reading.is_reserved_clear.Goals as goal

pub returns-then-field-eq0 : goal.returns-then-field-eq0
unfolding reserved_clear
returns-then-field-eq0 c =
    let s = c.args.s.now in
    let n = c.args.n in
    let clear : ℕ → Bool = λ i. nat_eq (value_at (take (length s - length_of i) (drop (length_of i) s)) 131 5) 0 in
    let e : c.all.result ≡ list_all clear (range_with_len 0 n) =
    all_from_yields_List clear _ _ c.all.result c.all.ensures.ran (YieldsList-from_range 0 n n refl (omega arith)) (λ x b q k. search (rules, tests)) in
    let head : nat_eq (head_field s 2) 0 ≡ true = eq-eqb _ _ (sym c.field.ensures ∙ c.if-field-eq0.true) in
    let each = all_same n clear (zero_at s) (λ i h. rw take_rest (ap (λ (v : ℕ). nat_eq v 0) (tail_from s (length_of i) 3))) in
    rw head (e ∙ all_counted clear n ∙ each)
