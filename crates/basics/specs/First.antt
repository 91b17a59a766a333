-- A table of answers, each with its test, as document 01's of refusals ("The first that applies", Events 20), and what it is for
-- one of them to be the first. Assumes nothing.
use Rattle.std.specs.Prelude.{ℕ, zero, suc, ◌<◌, ◌≡◌, refl, Bool, true, false, List, [], ◌∷◌, length, get_or}
use Rattle.std.proofs.Common.{arith, not-suc-le-zero, le_of_suc-le-suc}
use Rattle.basics.specs.Choice.{pick}

-- an answer, and whether it applies
abbrev pub RowOf : Type 0 → Type 0
RowOf A = A × Bool

-- the first answer that applies; another where none does
abbrev pub first_in : {A : Type 0} → A → List (RowOf A) → A
first_in other [] = other
first_in other (row ∷ rows) = pick row.1 row.0 (first_in other rows)

-- of numbers: 0 where none applies
abbrev pub Row : Type 0
Row = RowOf ℕ

abbrev pub first_of : List Row → ℕ
first_of rows = first_in 0 rows

-- ---- row i is the first that applies; `past` stands for a row that there isn't
pub record IsFirst {A : Type 0} (past : RowOf A) (rows : List (RowOf A)) (i : ℕ) : Type 0 where
  pub there : i < length rows
  pub applies : (get_or rows i past).1 ≡ true
  pub none_before : (j : ℕ) → j < i → (get_or rows j past).1 ≡ false

module _ {A : Type 0} (past : RowOf A) where
  -- where a row applies, one is the first
  pub record Some-first (rows : List (RowOf A)) : Type 0 where
    pub at : ℕ
    pub first : IsFirst past rows at

  first-later : (row : RowOf A) (rows : List (RowOf A)) → row.1 ≡ false → Some-first rows → Some-first (row ∷ rows)
  first-later row rows e f = record { at = suc f.at; first = record { there = omega (arith, f.first.there); applies = f.first.applies; none_before = none } }
    where
      none : (j : ℕ) → j < suc f.at → (get_or (row ∷ rows) j past).1 ≡ false
      none zero k = e
      none (suc j) k = f.first.none_before j (le_of_suc-le-suc k)

  first-here : (row : RowOf A) (rows : List (RowOf A)) → row.1 ≡ true → Some-first (row ∷ rows)
  first-here row rows e = record { at = zero; first = record { there = omega arith; applies = e; none_before = λ j u. absurd (not-suc-le-zero u) } }

  first-of : (row : RowOf A) (rows : List (RowOf A)) → (row.1 ≡ false → Some-first rows) → (t : Bool) → row.1 ≡ t → Some-first (row ∷ rows)
  first-of row rows on true e = first-here row rows e
  first-of row rows on false e = first-later row rows e (on e)

  pub first_found : (rows : List (RowOf A)) (n : ℕ) → n < length rows → (get_or rows n past).1 ≡ true → Some-first rows
  first_found [] n l h = absurd (not-suc-le-zero l)
  first_found (row ∷ rows) zero l h = first-here row rows h
  first_found (row ∷ rows) (suc n) l h = first-of row rows (λ e. first_found rows n (le_of_suc-le-suc l) h) row.1 refl
