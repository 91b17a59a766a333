-- Words, and the numbers that they say: one claim over one list. Assumes nothing.
use Rattle.std.specs.Prelude.{ℕ, ◌-◌, ◌^◌, ◌≡◌, refl, Bool, true, false, List, [], ◌∷◌, eqb, None, Option, Some}
use Prim.Native.Char.{code}
use Prim.Native.String.{String, len, char_at}
use Rattle.basics.specs.Every.{all_below, all_hold}
use Rattle.basics.specs.Places.{firsts}
use Rattle.given.specs.Numerals.{digit_of, value_of, is_number, written_in, is_hex, numeral_of}

abbrev is_this : ℕ → Option ℕ → Bool
is_this n (Some m) = eqb m n
is_this n None = false

abbrev is_none : Option ℕ → Bool
is_none (Some m) = false
is_none None = true

-- a text's bytes, in ASCII
abbrev bytes : String → List ℕ
bytes text = firsts (len text) (λ i. code (char_at text i))

-- a word says n, or no number
abbrev says : String → ℕ → Bool
says word n = is_this n (numeral_of (bytes word))

abbrev says_none : String → Bool
says_none word = is_none (numeral_of (bytes word))

unfoldable pub examples : List Bool
unfolding firsts all_below digit_of value_of is_number written_in is_hex numeral_of
examples =
    says "0" 0
    ∷ says "00" 0
    ∷ says "1024" 1024
    ∷ says "18446744073709551615" (2 ^ 64 - 1)
    ∷ says_none "18446744073709551616"
    ∷ says "000000000000000000000000000000000000000018446744073709551615" (2 ^ 64 - 1)
    ∷ says "0x0" 0
    ∷ says "0xc40002E5" 0xC40002E5
    ∷ says "0xffffffffffffffff" (2 ^ 64 - 1)
    ∷ says "0xFfFfFfFfFfFfFfFf" (2 ^ 64 - 1)
    ∷ says_none "0x10000000000000000"
    ∷ says "0x0000000000000000000000000000000000000001" 1
    ∷ says_none "0x"
    ∷ says_none ""
    ∷ says_none "0X1"
    ∷ says_none "-1"
    ∷ says_none "+1"
    ∷ says_none " 1"
    ∷ says_none "1 "
    ∷ says_none "12a"
    ∷ says_none "0x1g"
    ∷ []

pub examples-hold : all_hold examples ≡ true
unfolding all_hold examples
examples-hold = refl
