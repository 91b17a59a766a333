-- The first row that applies gives the answer, and the answer says which row is the first. Assumes nothing.
use Rattle.std.specs.Prelude.{ℕ, zero, suc, ◌<◌, ◌≡◌, refl, true, List, [], ◌∷◌, length, get_or}
use Rattle.std.proofs.Common.{sym, ap, subst, ◌∙◌, arith, not-suc-le-zero, le_of_suc-le-suc}
use Rattle.basics.specs.First.{RowOf, first_in, IsFirst, first_found}
use Rattle.basics.proofs.Choice.{yes, no}

module _ {A : Type 0} (past : RowOf A) where
  -- and so it gives the answer
  pub first-given : (other : A) (rows : List (RowOf A)) (i : ℕ) → IsFirst past rows i → first_in other rows ≡ (get_or rows i past).0
  first-given other [] i f = absurd (not-suc-le-zero f.there)
  first-given other (row ∷ rows) zero f = sym (yes _ f.applies refl)
  first-given other (row ∷ rows) (suc i) f =
      sym (no _ (f.none_before zero (omega arith)) refl)
      ∙ first-given other rows i (record { there = le_of_suc-le-suc f.there; applies = f.applies; none_before = λ j l. f.none_before (suc j) (omega arith) })

  -- where a key tells the answers of the rows apart, and one applies, the row that has the given answer's key is the first
  pub first-known : (key : A → ℕ) (other : A) (rows : List (RowOf A))
      → ((i j : ℕ) → i < length rows → j < length rows → key (get_or rows i past).0 ≡ key (get_or rows j past).0 → i ≡ j)
      → (n : ℕ) → n < length rows → (get_or rows n past).1 ≡ true
      → (i : ℕ) → i < length rows → key (first_in other rows) ≡ key (get_or rows i past).0 → IsFirst past rows i
  first-known key other rows apart n l h i k e =
      let f = first_found past rows n l h in
      subst (IsFirst past rows) (apart f.at i f.first.there k (ap key (sym (first-given other rows f.at f.first)) ∙ e)) f.first
