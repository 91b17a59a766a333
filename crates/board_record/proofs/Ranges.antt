-- A test at each number of a range, as an iterator makes it, is the test below the range's end. Assumes nothing.
use Rattle.std.proofs.Common.{ℕ, zero, suc, ◌≡◌, refl, sym, ap, ◌∙◌, Bool, [], ◌∷◌, ◌++◌, map, add-one, arith}
use Rattle.std.proofs.Math.Bool.{and-true}
use Rattle.std.specs.List.{list_all, range_with_len}
use Rattle.std.proofs.lemmas.List.Folds.{list_all-append, list_all-map}
use Rattle.std.proofs.lemmas.List.FromFn.{map-range_with_len_more}
use Rattle.basics.specs.Every.{all_below}

pub all_range : (n : ℕ) (f : ℕ → Bool) → list_all f (range_with_len 0 n) ≡ all_below n f
unfolding all_below
all_range zero f = refl
all_range (suc n) f =
    let id = λ (t : Bool). t in
    let more : map f (range_with_len 0 (suc n)) ≡ map f (range_with_len 0 n) ++ f n ∷ [] = rw add-one at (map-range_with_len_more f 0 n n (omega arith)) in
    sym (list_all-map id f (range_with_len 0 (suc n)))
    ∙ (ap (list_all id) more
    ∙ (list_all-append id (map f (range_with_len 0 n)) (f n ∷ [])
    ∙ rw (list_all-map id f (range_with_len 0 n), all_range n f, and-true (f n))))
