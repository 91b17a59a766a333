-- How much of a buffer a file that was read takes. Assumes nothing.
use Rattle.std.specs.Prelude.{◌≡◌, ℕ, ◌≤◌, List, length, take, Option, IfSome, None, Some}

-- the first n of a buffer's bytes are n bytes
abbrev pub IsPrefixLen : ℕ → List ℕ → Type 0
IsPrefixLen n buf = (n ≤ length buf) × (n ≡ length (take n buf))

-- the bytes that were read are at the buffer's start
abbrev pub IsIn : Option ℕ → List ℕ → Type 0
IsIn (Some n) buf = IsPrefixLen n buf
IsIn None buf = Unit

-- what was read is what the input had, as far as the buffer goes, where that is known
abbrev pub HasRead : Option (List ℕ) → Option ℕ → List ℕ → Type 0
HasRead known (Some n) buf = IfSome known (λ xs. take n buf ≡ take (length buf) xs)
HasRead known None buf = Unit
