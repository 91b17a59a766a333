-- The number that a word says. Assumes nothing.
use Rattle.std.specs.Prelude.{ℕ, ◌+◌, ◌-◌, ◌*◌, ◌^◌, Bool, ◌&&◌, List, [], ◌∷◌, eqb, leb, ltb, length, get_or, drop, None, Option, Some}
use Prim.Native.Char.{Char, code}
use Rattle.basics.specs.Choice.{pick}
use Rattle.basics.specs.Every.{all_below}

-- a byte is one of the characters from the first to the last
abbrev pub is_from : Char → Char → ℕ → Bool
is_from first last b = leb (code first) b && leb b (code last)

-- what a byte is as a digit; 16, which is none in base 10 or 16, for any other
unfoldable pub digit_of : ℕ → ℕ
digit_of b =
    pick (is_from "0" "9" b) (b - code "0")
    (pick (is_from "a" "f" b) (b - code "a" + 10)
    (pick (is_from "A" "F" b) (b - code "A" + 10) 16))

-- the byte at i is a digit in the base
abbrev pub is_digit_at : ℕ → List ℕ → ℕ → Bool
is_digit_at base s i = ltb (digit_of (get_or s i 0)) base

-- the number that digits write in a base, the first the most significant
unfoldable pub value_of : ℕ → List ℕ → ℕ
value_of base [] = 0
value_of base (b ∷ s) = digit_of b * base ^ length s + value_of base s

-- at least one digit and nothing else, and the number has 64 bits
unfoldable pub is_number : ℕ → List ℕ → Bool
is_number base s = ltb 0 (length s) && all_below (length s) (is_digit_at base s) && ltb (value_of base s) (2 ^ 64)

unfoldable pub written_in : ℕ → List ℕ → Option ℕ
written_in base s = pick (is_number base s) (Some (value_of base s)) None

-- a word opens with `0x`
unfoldable pub is_hex : List ℕ → Bool
is_hex word = eqb (get_or word 0 0) (code "0") && eqb (get_or word 1 0) (code "x")

-- what a word says: after `0x` in base 16, else in base 10
unfoldable pub numeral_of : List ℕ → Option ℕ
numeral_of word = pick (is_hex word) (written_in 16 (drop 2 word)) (written_in 10 word)
