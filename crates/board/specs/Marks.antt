-- A mark of a UUID: no rule of the document, only a way to tell UUIDs apart. Assumes nothing.
use Rattle.std.specs.Prelude.{ℕ, zero, suc, ◌+◌, ◌%◌, List, get_or}
use Rattle.board.specs.Description.{uuid_bytes}

abbrev pub marks : ℕ
marks = 1024

-- the sum of the first n bytes
unfoldable pub sum_of : ℕ → List ℕ → ℕ
sum_of zero u = 0
sum_of (suc n) u = sum_of n u + get_or u n 0

abbrev pub mark_of : List ℕ → ℕ
mark_of u = sum_of uuid_bytes u % marks
