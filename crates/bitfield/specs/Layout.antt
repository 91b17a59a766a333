-- A layout is the list of its fields' widths. Its fields' values in bytes, and the number that values write. Assumes nothing.
use Rattle.std.specs.Prelude.{ℕ, ◌+◌, ◌*◌, ◌^◌, ◌<◌, List, [], ◌∷◌, get_or, take}
use Rattle.bitfield.specs.Bits.{value_at}

-- the bits of a layout
abbrev pub total : List ℕ → ℕ
total [] = 0
total (w ∷ ws) = w + total ws

-- the values of the fields of widths ws from bit `at` on
unfoldable pub fields : List ℕ → ℕ → List ℕ → List ℕ
fields [] at s = []
fields (w ∷ ws) at s = value_at s at w ∷ fields ws (at + w) s

-- the number that values side by side write
unfoldable pub join : List ℕ → List ℕ → ℕ
join [] vs = 0
join (w ∷ ws) [] = 0
join (w ∷ ws) (v ∷ vs) = v * 2 ^ total ws + join ws vs

-- each value fits its width, and there are as many values as widths
abbrev pub Fit : List ℕ → List ℕ → Type 0
Fit [] [] = Unit
Fit [] (v ∷ vs) = ⊥
Fit (w ∷ ws) [] = ⊥
Fit (w ∷ ws) (v ∷ vs) = (v < 2 ^ w) × Fit ws vs

-- field k of a layout that starts at bit `at`
abbrev pub field_of : List ℕ → ℕ → ℕ → List ℕ → ℕ
field_of ws k at s = value_at s (at + total (take k ws)) (get_or ws k 0)
