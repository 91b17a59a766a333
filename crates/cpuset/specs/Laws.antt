-- The laws by which clients go: a set is what `has_of` says of it at each number. Assumes nothing.
use Rattle.std.specs.Prelude.{ℕ, ◌+◌, ◌/◌, ◌%◌, ◌^◌, ◌<◌, ◌≤◌, ◌≡◌, refl, Bool, true, false, not, ◌&&◌, ◌||◌, List, ltb, eqb, get_or}
use Rattle.std.proofs.Common.{sym, ap, ◌∙◌, lt_of_le_of_lt, lit<, ext_get_or, lt-ltb, le-ltb, eqb-true, eq-eqb, ne_eqb}
use Rattle.std.proofs.Math.Bool.{and-false, and-true, or-false, or-true}
use Rattle.std.specs.Int.Bits.{bit_or}
use Rattle.std.proofs.lemmas.Nat.{or_lt, xor_lt, and_le_l}
use Rattle.std.proofs.lemmas.Bool.{not-false, not-true}
use Rattle.basics.specs.Choice.{not-both, refuted}
use Rattle.basics.specs.Every.{all-at, all_of, all-not}
use Rattle.basics.specs.Order.{lt-cases, eq-cases}
use Rattle.basics.specs.Places.{firsts, get_or-firsts}
use Rattle.cpuset.specs.Bit.{bit, bit-zero, bit-or, bit_less, bit-less, less_none}
use Rattle.cpuset.specs.Tally.{tally-none, tally-more}
use Rattle.cpuset.specs.Words.{member-firsts, member-out, words-firsts, words-at, words_of, same-words, tally-words, total, only_in, bit-only, only-fits, below_in, bit_below, below-fits}
use Rattle.cpuset.specs.Set.{word_count, words, of, room, word, Set, has_of, none_of, only_of, union_of, less_of, with_of, without_of, below_of, same_of, within_of, count_of}
use Rattle.cpuset.specs.declared.CpuSet.{CpuSet}

-- ---- the members
pub has-out : (s : CpuSet) (j : ℕ) → room ≤ j → has_of s j ≡ false
unfolding room has_of
has-out s j l = member-out (words s) j l

pub has_room : (s : CpuSet) (j : ℕ) → has_of s j ≡ true → j < room
has_room s j h = lt-cases j room (λ l. l) (λ l. absurd (not-both h (has-out s j l)))

-- a set that is made word by word
has-of : (f : ℕ → ℕ) (j : ℕ) → has_of (of f) j ≡ (ltb j room && bit (f (j / 64)) (j % 64))
unfolding room has_of firsts
has-of f j = member-firsts word_count f j

-- a set that is made of two others' words
module _ (op : ℕ → ℕ → ℕ) (g : Bool → Bool → Bool) (law : (a b j : ℕ) → bit (op a b) j ≡ g (bit a j) (bit b j))
    (none : g false false ≡ false) where
  has_both : (s t : CpuSet) (j : ℕ) → has_of (of (λ k. op (word s k) (word t k))) j ≡ g (has_of s j) (has_of t j)
  unfolding has_of
  has_both s t j =
      has-of (λ k. op (word s k) (word t k)) j
      ∙ lt-cases j room
      (λ l. rw (lt-ltb j room l) (law (word s (j / 64)) (word t (j / 64)) (j % 64)))
      (λ l. rw (le-ltb j room l, has-out s j l, has-out t j l) (sym none))

pub has-none : (j : ℕ) → has_of none_of j ≡ false
unfolding none_of
has-none j = rw (has-of (λ k. 0) j, bit-zero (j % 64)) (and-false (ltb j room))

pub has-only : (i j : ℕ) → has_of (only_of i) j ≡ (ltb i room && eqb i j)
unfolding only_of
has-only i j = rw (has-of (only_in i) j, bit-only i j) (go (eqb i j) refl)
  where
    go : (b : Bool) → eqb i j ≡ b → (ltb j room && b) ≡ (ltb i room && b)
    go true e = rw (eqb-true i j e)
    go false e = and-false (ltb j room) ∙ sym (and-false (ltb i room))

pub has-union : (s t : CpuSet) (j : ℕ) → has_of (union_of s t) j ≡ (has_of s j || has_of t j)
unfolding union_of
has-union s t j = has_both bit_or (λ p q. p || q) bit-or refl s t j

pub has-less : (s t : CpuSet) (j : ℕ) → has_of (less_of s t) j ≡ (has_of s j && not (has_of t j))
unfolding less_of
has-less s t j = has_both bit_less (λ p q. p && not q) bit-less refl s t j

pub has-with : (s : CpuSet) (i j : ℕ) → has_of (with_of s i) j ≡ (has_of s j || ltb i room && eqb i j)
has-with s i j = rw (has-union, has-only)

pub has-without : (s : CpuSet) (i j : ℕ) → has_of (without_of s i) j ≡ (has_of s j && not (ltb i room && eqb i j))
has-without s i j = rw (has-less, has-only)

pub has-below : (n j : ℕ) → has_of (below_of n) j ≡ (ltb j room && ltb j n)
unfolding below_of
has-below n j = rw (has-of (below_in n) j, bit_below n j)

-- ---- what the functions give are sets again
set-of : (f : ℕ → ℕ) → ((k : ℕ) → f k < 2 ^ 64) → Set (of f)
unfolding Set firsts
set-of f h = words-firsts word_count f h

word_fits : (s : CpuSet) → Set s → (k : ℕ) → word s k < 2 ^ 64
unfolding Set
word_fits s p k = words-at (words s) p k

pub set-none : Set none_of
unfolding none_of
set-none = set-of (λ k. 0) (λ k. lit< tt)

pub set-only : (i : ℕ) → Set (only_of i)
unfolding only_of
set-only i = set-of (only_in i) (only-fits i)

pub set-union : (s t : CpuSet) → Set s → Set t → Set (union_of s t)
unfolding union_of
set-union s t p q = set-of _ (λ k. or_lt 64 (word s k) (word t k) (word_fits s p k) (word_fits t q k))

pub set-less : (s t : CpuSet) → Set s → Set (less_of s t)
unfolding less_of
set-less s t p =
    set-of _ (λ k. let h = word_fits s p k in xor_lt 64 (word s k) _ h (lt_of_le_of_lt (and_le_l (word s k) (word t k)) h))

pub set-with : (s : CpuSet) (i : ℕ) → Set s → Set (with_of s i)
set-with s i p = set-union s (only_of i) p (set-only i)

pub set-without : (s : CpuSet) (i : ℕ) → Set s → Set (without_of s i)
set-without s i p = set-less s (only_of i) p

pub set_below : (n : ℕ) → Set (below_of n)
unfolding below_of
set_below n = set-of (below_in n) (below-fits n)

-- ---- equal sets
by-words : (s t : CpuSet) → words s ≡ words t → s ≡ t
by-words s t e = ap (λ (ws : List ℕ). of (λ k. get_or ws k 0)) e

pub same-members : (s t : CpuSet) → Set s → Set t → ((j : ℕ) → j < room → has_of s j ≡ has_of t j) → s ≡ t
unfolding Set room has_of
same-members s t p q h = by-words s t (same-words (words s) (words t) refl p q h)

pub same-is : (s t : CpuSet) → same_of s t ≡ true → s ≡ t
unfolding same_of
same-is s t e =
    by-words s t (ext_get_or 0 (words s) (words t) refl λ k l. eqb-true (word s k) (word t k) (all-at word_count _ e k l))

pub same-eq : (s t : CpuSet) → s ≡ t → same_of s t ≡ true
unfolding same_of
same-eq s t e = all_of word_count _ λ k l. eq-eqb (word s k) (word t k) (ap (λ (u : CpuSet). word u k) e)

pub none_has : (s : CpuSet) → same_of s none_of ≡ true → (j : ℕ) → has_of s j ≡ false
none_has s e j = rw (same-is s none_of e) (has-none j)

pub none-of : (s : CpuSet) → Set s → ((j : ℕ) → j < room → has_of s j ≡ false) → same_of s none_of ≡ true
none-of s p h = same-eq s none_of (same-members s none_of p set-none λ j l. h j l ∙ sym (has-none j))

-- a set that is not empty has a member
pub record Member (s : CpuSet) : Type 0 where
  pub at : ℕ
  pub has : has_of s at ≡ true

pub some-has : (s : CpuSet) → Set s → same_of s none_of ≡ false → Member s
some-has s p e =
    let f = all-not room (λ j. not (has_of s j)) (refuted _ (λ h. not-both (none-of s p (λ j l. not-true (has_of s j) (all-at room _ h j l))) e)) in
    record { at = f.at; has = not-false (has_of s f.at) f.fails }

pub within_has : (s t : CpuSet) → within_of s t ≡ true → (j : ℕ) → has_of s j ≡ true → has_of t j ≡ true
within_has s t e j h =
    not-false (has_of t j) (ap (λ (b : Bool). b && not (has_of t j)) (sym h) ∙ sym (has-less s t j) ∙ none_has (less_of s t) e j)

pub within-of : (s t : CpuSet) → Set s → ((j : ℕ) → j < room → has_of s j ≡ true → has_of t j ≡ true) → within_of s t ≡ true
within-of s t p h = none-of (less_of s t) (set-less s t p) λ j l. has-less s t j ∙ left (has_of s j) (has_of t j) (h j l)
  where
    left : (a b : Bool) → (a ≡ true → b ≡ true) → (a && not b) ≡ false
    left true b f = rw (f refl)
    left false b f = refl

-- nobody more
pub union-none : (s : CpuSet) → Set s → union_of s none_of ≡ s
union-none s p =
    same-members (union_of s none_of) s (set-union s none_of p set-none) p (λ j l. rw (has-union, has-none) (or-false (has_of s j)))

pub none-union : (s : CpuSet) → Set s → union_of none_of s ≡ s
none-union s p = same-members (union_of none_of s) s (set-union none_of s set-none p) p (λ j l. rw (has-union, has-none))

-- ---- one member more or less
only_self : (i : ℕ) → i < room → has_of (only_of i) i ≡ true
only_self i l = rw (has-only, lt-ltb i room l, eq-eqb i i refl)

only-other : (i j : ℕ) → (j ≡ i → ⊥) → has_of (only_of i) j ≡ false
only-other i j d = rw (has-only, ne_eqb i j (λ e. d (sym e))) (and-false (ltb i room))

pub with-self : (s : CpuSet) (i : ℕ) → i < room → has_of (with_of s i) i ≡ true
with-self s i l = rw (has-union, only_self i l) (or-true (has_of s i))

pub with-other : (s : CpuSet) (i j : ℕ) → (j ≡ i → ⊥) → has_of (with_of s i) j ≡ has_of s j
with-other s i j d = rw (has-union, only-other i j d) (or-false (has_of s j))

pub without_other : (s : CpuSet) (i j : ℕ) → (j ≡ i → ⊥) → has_of (without_of s i) j ≡ has_of s j
without_other s i j d = rw (has-less, only-other i j d) (and-true (has_of s j))

pub with-some : (s : CpuSet) (i : ℕ) → i < room → same_of (with_of s i) none_of ≡ false
with-some s i l = refuted (same_of (with_of s i) none_of) (λ e. not-both (with-self s i l) (none_has (with_of s i) e i))

pub without-self : (s : CpuSet) (i : ℕ) → has_of (without_of s i) i ≡ false
without-self s i = lt-cases i room (λ l. rw (has-less, only_self i l) (and-false (has_of s i))) (has-out (without_of s i) i)

-- without one that is not the only one
pub without-some : (s : CpuSet) (i : ℕ) → Set s → has_of s i ≡ true → same_of s (only_of i) ≡ false → same_of (without_of s i) none_of ≡ false
without-some s i p h o =
    refuted (same_of (without_of s i) none_of) λ e.
    not-both (same-eq s (only_of i) (same-members s (only_of i) p (set-only i) λ j l. eq-cases j i (self j) (far e j))) o
  where
    self : (j : ℕ) → j ≡ i → has_of s j ≡ has_of (only_of i) j
    self j q = rw (q, h) (sym (only_self i (has_room s i h)))

    far : same_of (without_of s i) none_of ≡ true → (j : ℕ) → (j ≡ i → ⊥) → has_of s j ≡ has_of (only_of i) j
    far e j d = sym (without_other s i j d) ∙ none_has (without_of s i) e j ∙ sym (only-other i j d)

-- ---- within a set

-- what lies within a set is a set
word_of : (f : ℕ → ℕ) (k : ℕ) → k < word_count → word (of f) k ≡ f k
unfolding firsts
word_of f k l = get_or-firsts f word_count k 0 l

pub set-within : (s t : CpuSet) → Set t → within_of s t ≡ true → Set s
unfolding Set less_of none_of
set-within s t q e =
    words_of (words s) λ k l.
    let w : bit_less (word s k) (word t k) ≡ 0 =
    sym (word_of (λ i. bit_less (word s i) (word t i)) k l) ∙ ap (λ (u : CpuSet). word u k) (same-is (less_of s t) none_of e) ∙ word_of (λ i. 0) k l in
    lt_of_le_of_lt (less_none (word s k) (word t k) w) (words-at (words t) q k)

pub with-within : (s t : CpuSet) (i : ℕ) → Set t → within_of s t ≡ true → has_of t i ≡ true → within_of (with_of s i) t ≡ true
with-within s t i p w h =
    within-of (with_of s i) t (set-with s i (set-within s t p w)) λ j l q.
    eq-cases j i (λ e. ap (has_of t) e ∙ h) (λ d. within_has s t w j (sym (with-other s i j d) ∙ q))

pub only_out : (i : ℕ) → room ≤ i → only_of i ≡ none_of
only_out i l = same-members (only_of i) none_of (set-only i) set-none λ j m. rw (has-only, has-none, le-ltb i room l)

-- ---- the number of members
pub count_none : count_of none_of ≡ 0
unfolding count_of
count_none = tally-none room (has_of none_of) has-none

pub count-with : (s : CpuSet) (i : ℕ) → i < room → has_of s i ≡ false → count_of (with_of s i) ≡ count_of s + 1
unfolding count_of
count-with s i l h =
    tally-more room (has_of s) (has_of (with_of s i)) i l h (with-self s i l) (λ j d. sym (with-other s i j d))

-- what the code counts is that
pub count-words : (s : CpuSet) → Set s → count_of s ≡ total (words s)
unfolding count_of room has_of Set
count-words s p = tally-words (words s) p
