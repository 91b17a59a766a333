-- What a field of a slice of bytes is, and what writing whole bytes does, most significant bit first
-- (document 01, "Packed forms, most significant bit first"). Assumes nothing.
use Rattle.std.specs.Prelude.{ℕ, zero, suc, ◌+◌, ◌-◌, ◌*◌, ◌/◌, ◌%◌, ◌^◌, ◌<◌, Bool, false, List, [], ◌∷◌, ◌++◌, length, get_or, take, drop, leb, None, Option, Some}
use Rattle.basics.specs.Choice.{pick}

-- the widest field, in bits and in bytes: a word
abbrev pub widest : ℕ
widest = 64

abbrev pub widest_bytes : ℕ
widest_bytes = 8

-- what a slice of bytes holds
abbrev pub AreBytes : List ℕ → Type 0
AreBytes s = (i : ℕ) → get_or s i 0 < 256

-- bit p of the bytes s, 0 or 1; bit 0 is the first byte's most significant
unfoldable pub bit_at : List ℕ → ℕ → ℕ
bit_at s p = get_or s (p / 8) 0 / 2 ^ (7 - p % 8) % 2

-- the number that the w bits from bit `at` on write, the first the most significant
unfoldable pub value_at : List ℕ → ℕ → ℕ → ℕ
value_at s at zero = 0
value_at s at (suc w) = value_at s at w * 2 + bit_at s (at + w)

-- that number, where the field is at most a word and all its bits lie in s
abbrev pub field_at : List ℕ → ℕ → ℕ → Option ℕ
field_at s at w = pick (leb w widest) (pick (leb (at + w) (8 * length s)) (Some (value_at s at w)) None) None

-- a field's value, 0 where it is outside
abbrev pub value_in : Option ℕ → ℕ
value_in (Some v) = v
value_in None = 0

-- the n bytes that write x, the most significant first
unfoldable pub bytes : ℕ → ℕ → List ℕ
bytes zero x = []
bytes (suc n) x = x / 2 ^ (8 * n) % 256 ∷ bytes n x

-- d with the elements l in place of those from index k on
unfoldable pub put : List ℕ → ℕ → List ℕ → List ℕ
put d k l = take k d ++ l ++ drop (k + length l) d

-- n bytes from byte k on lie in s, and are at most a word's
unfoldable pub room_for : List ℕ → ℕ → ℕ → Bool
room_for s k n = pick (leb n widest_bytes) (leb (k + n) (length s)) false

-- s with x written in them, or as it was
unfoldable pub written : List ℕ → ℕ → ℕ → ℕ → List ℕ
written s k n x = pick (room_for s k n) (put s k (bytes n x)) s
