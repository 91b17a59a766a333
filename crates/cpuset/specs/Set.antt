-- A set of CPU numbers: what each function gives. Assumes nothing.
use Rattle.std.specs.Prelude.{ℕ, ◌*◌, Bool, List, [], ◌∷◌, eqb, get_or}
use Rattle.std.specs.Int.Bits.{bit_or}
use Rattle.basics.specs.Every.{all_below}
use Rattle.cpuset.specs.Bit.{bit_less}
use Rattle.cpuset.specs.Tally.{tally}
use Rattle.cpuset.specs.Words.{member, Words, only_in, below_in}
use Rattle.cpuset.specs.declared.CpuSet.{CpuSet}

-- how many words a set has; to widen it, edit this number, `words` and `of`, which name the fields, and the code
abbrev pub word_count : ℕ
word_count = 1

abbrev pub words : CpuSet → List ℕ
words s = s.bits ∷ []

abbrev pub of : (ℕ → ℕ) → CpuSet
of f = record { bits = f 0 }

-- how many numbers there is room for: a member is below it
unfoldable pub room : ℕ
room = word_count * 64

-- word k of a set, and 0 past its words
abbrev pub word : CpuSet → ℕ → ℕ
word s k = get_or (words s) k 0

-- what the type gives every set of a program, that each word is below 2 ^ 64: `search rules` shows it under `unfolding Set`
unfoldable pub Set : CpuSet → Type 0
Set s = Words (words s)

unfoldable pub has_of : CpuSet → ℕ → Bool
has_of s i = member (words s) i

unfoldable pub none_of : CpuSet
none_of = of (λ k. 0)

unfoldable pub only_of : ℕ → CpuSet
only_of i = of (only_in i)

unfoldable pub union_of : CpuSet → CpuSet → CpuSet
union_of s t = of (λ k. bit_or (word s k) (word t k))

unfoldable pub less_of : CpuSet → CpuSet → CpuSet
less_of s t = of (λ k. bit_less (word s k) (word t k))

-- `with` and `without` are the two above with a set of one number
abbrev pub with_of : CpuSet → ℕ → CpuSet
with_of s i = union_of s (only_of i)

abbrev pub without_of : CpuSet → ℕ → CpuSet
without_of s i = less_of s (only_of i)

unfoldable pub below_of : ℕ → CpuSet
below_of n = of (below_in n)

-- each word of the one is the other's
unfoldable pub same_of : CpuSet → CpuSet → Bool
same_of s t = all_below word_count (λ k. eqb (word s k) (word t k))

-- nothing is left of s without t
abbrev pub within_of : CpuSet → CpuSet → Bool
within_of s t = same_of (less_of s t) none_of

-- how many numbers are members
unfoldable pub count_of : CpuSet → ℕ
count_of s = tally room (has_of s)
