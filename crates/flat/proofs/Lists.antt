-- A test at every place of a table is the same test of each of its items; and a table of what a function gives of each item. Assumes nothing.
use Rattle.std.proofs.Common.{ℕ, zero, suc, ◌+◌, ◌≤◌, ◌<◌, ◌≡◌, sym, subst, ◌∙◌, List, length, get_or, take, arith, ext_get_or}
use Rattle.std.specs.Array.{IsFromFnResult, IsFromFnResultFrom}
use Rattle.std.specs.Fn.{Called}
use Rattle.std.specs.List.{list_all}
use denote.Param.Members.{Mut}
use Rattle.basics.specs.Places.{firsts, length-firsts, get_or-firsts}
use Rattle.board.specs.Description.{most_components}
use Rattle.board.proofs.Lists.{all_front, all_listed}
use Rattle.flat.specs.Records.{is_flag, is_flat_component, absent_flat, are_flat_components, are_flags}
use Rattle.flat.specs.declared.FlatComponent.{FlatComponent}

pub are_flat_front : (xs : List FlatComponent) (n : ℕ) → n ≤ length xs → list_all is_flat_component (take n xs) ≡ are_flat_components n xs
are_flat_front xs n h = all_front is_flat_component xs n absent_flat h

pub are_flat_whole : (xs : List FlatComponent) → length xs ≡ most_components → list_all is_flat_component xs ≡ are_flat_components most_components xs
are_flat_whole xs e = all_listed is_flat_component xs most_components absent_flat e

pub are_flags_whole : (xs : List ℕ) → length xs ≡ most_components → list_all is_flag xs ≡ are_flags xs
are_flags_whole xs e = all_listed is_flag xs most_components 0 e

-- what calls at each place in turn made, of a closure that stays as it is
module _ {F B : Type 0} (g : Mut F (ℕ × Unit {0}) B) (f : ℕ → B) (k : F) (e : B) where
  filled_at : (ys : List B) (i n : ℕ) → ((j : ℕ) (y : B) (q : F) → j < i + n → Called g k (j, tt) y q → (y ≡ f j) × (q ≡ k))
      → IsFromFnResultFrom g k ys i n → (j : ℕ) → j < n → get_or ys (i + j) e ≡ f (i + j)
  filled_at ys i zero gives m j l = elim l [ ]
  filled_at ys i (suc n) gives m j l =
      let t = gives i m.1 m.0 (omega arith) m.3 in
      let at : get_or ys i e ≡ f i = m.2.1 e ∙ t.0 in
      let rest : IsFromFnResultFrom g k ys (i + 1) n = subst (λ (q : F). IsFromFnResultFrom g q ys (i + 1) n) t.1 m.4 in
      go at (filled_at ys (i + 1) n (λ j y q h. gives j y q (omega arith)) rest) j l
    where
      go : get_or ys i e ≡ f i → ((j : ℕ) → j < n → get_or ys (i + 1 + j) e ≡ f (i + 1 + j)) → (j : ℕ) → j < suc n → get_or ys (i + j) e ≡ f (i + j)
      go at rest zero l = let same : i + 0 ≡ i = omega arith in rw same at
      go at rest (suc j) l = let same : i + suc j ≡ i + 1 + j = omega arith in rw same (rest j (omega arith))

  pub filled : (ys : List B) (n : ℕ) → IsFromFnResult g k ys n → ((j : ℕ) (y : B) (q : F) → j < n → Called g k (j, tt) y q → (y ≡ f j) × (q ≡ k)) → ys ≡ firsts n f
  filled ys n m gives =
      ext_get_or e ys (firsts n f) (m.long ∙ sym (length-firsts f n))
      (λ j h. let l : j < n = omega (arith, m.long) in let zero-first : 0 + j ≡ j = omega arith in (rw zero-first at (filled_at ys 0 n (λ j y q h. gives j y q (omega arith)) m.each j l)) ∙ sym (get_or-firsts f n j e l))
