-- A list by its places: f 0, f 1, .. up to a count, and the laws of a loop that fills one. Assumes nothing.
use Prim.Native.Nat.{ℕ, zero, suc, ◌+◌, ◌-◌, ◌*◌, ◌<◌, ◌≤◌}
use Rattle.std.specs.Prelude.{◌≡◌, length, get_or, take, drop, set, replicate}
use Rattle.std.proofs.Math.Path.{refl, sym, ap}
use Rattle.std.proofs.Common.{◌∙◌, length-drop, take-suc, get_or-drop, get_or-append-add, take-add, drop-drop, ext_get_or}
use mathlib.Core.List.{List, [], ◌∷◌, ◌++◌, append_assoc, append-nil}
use native.Mathlib.Omega.{arith}
use Rattle.std.proofs.Math.Numerals.{add-one}
use Rattle.std.proofs.Math.Nat.{mul-suc}
use Rattle.std.proofs.Math.ListN.{length-append, get_or-append}
use Rattle.std.proofs.lemmas.List.{length-replicate, get_or-replicate, set_at}
use Rattle.std.proofs.Math.Seq.{get_or_at}
use Rattle.basics.specs.Order.{last-cases}

-- f 0 to f (n - 1)
unfoldable pub firsts : {A : Type 0} → ℕ → (ℕ → A) → List A
firsts zero f = []
firsts (suc n) f = firsts n f ++ f n ∷ []

-- the same in a table of m places, with z past the count
abbrev pub table : {A : Type 0} → ℕ → A → ℕ → (ℕ → A) → List A
table m z n f = firsts n f ++ replicate (m - n) z

-- f 0, f 1, .. up to a count, one after another
unfoldable pub in_turn : {A : Type 0} → ℕ → (ℕ → List A) → List A
in_turn zero f = []
in_turn (suc n) f = in_turn n f ++ f n

module _ {A : Type 0} (f : ℕ → A) where
  pub length-firsts : (n : ℕ) → length (firsts n f) ≡ n
  unfolding firsts
  length-firsts zero = refl
  length-firsts (suc n) = omega (arith, length-append (firsts n f) (f n ∷ []), length-firsts n)

  pub get_or-firsts : (n i : ℕ) (d : A) → i < n → get_or (firsts n f) i d ≡ f i
  unfolding firsts
  get_or-firsts zero i d l = absurd (omega arith)
  get_or-firsts (suc n) i d l =
      last-cases l (λ e. get_or_at (firsts n f) (f n) [] d i (length-firsts n ∙ sym e) ∙ ap f (sym e))
      (λ h. get_or-append (firsts n f) (f n ∷ []) d i (omega (arith, length-firsts n)) ∙ get_or-firsts n i d h)

  firsts_more : (n : ℕ) → firsts (n + 1) f ≡ firsts n f ++ f n ∷ []
  unfolding firsts
  firsts_more n = rw add-one

  -- a turn filled one place more
  pub table_more : (m : ℕ) (z : A) (n : ℕ) → n < m → set (table m z n f) n (f n) ≡ table m z (n + 1) f
  table_more m z n h =
      let e : m - n ≡ suc (m - (n + 1)) = omega arith in
      rw (e, firsts_more, append_assoc) (set_at (firsts n f) z (replicate (m - (n + 1)) z) (f n) n (length-firsts n))

  -- and the last turn filled the table
  pub table-full : (m : ℕ) (z : A) → table m z m f ≡ firsts m f
  table-full m z = let e : m - m ≡ 0 = omega arith in rw (e, append-nil)

  pub length-table : (m : ℕ) (z : A) (n : ℕ) → n ≤ m → length (table m z n f) ≡ m
  length-table m z n h = omega (arith, length-append (firsts n f) (replicate (m - n) z), length-firsts n, length-replicate (m - n) z)

  pub get_or-table : (m : ℕ) (z : A) (n i : ℕ) (d : A) → i < n → get_or (table m z n f) i d ≡ f i
  get_or-table m z n i d l =
      get_or-append (firsts n f) (replicate (m - n) z) d i (omega (arith, length-firsts n)) ∙ get_or-firsts n i d l

  -- past the count
  pub get_or-past : (m : ℕ) (z : A) (n j : ℕ) (d : A) → j < m - n → get_or (table m z n f) (n + j) d ≡ z
  get_or-past m z n j d l =
      ap (λ (k : ℕ). get_or (table m z n f) (k + j) d) (sym (length-firsts n))
      ∙ get_or-append-add (firsts n f) (replicate (m - n) z) j d
      ∙ get_or-replicate (m - n) j z d l

pub firsts_same : {A : Type 0} (n : ℕ) (f g : ℕ → A) → ((i : ℕ) → i < n → f i ≡ g i) → firsts n f ≡ firsts n g
unfolding firsts
firsts_same zero f g h = refl
firsts_same (suc n) f g h = rw (firsts_same n f g (λ i l. h i (omega arith)), h n (omega arith))

-- the first place, and the others
pub firsts-front : {A : Type 0} (n : ℕ) (f : ℕ → A) → firsts (suc n) f ≡ f 0 ∷ firsts n (λ i. f (suc i))
unfolding firsts
firsts-front zero f = refl
firsts-front (suc n) f = rw (firsts-front n f)

-- the places of a part of a list
pub firsts-part : {A : Type 0} (n k : ℕ) (s : List A) (d : A) → k + n ≤ length s → firsts n (λ i. get_or s (k + i) d) ≡ take n (drop k s)
unfolding firsts
firsts-part zero k s d h = refl
firsts-part (suc n) k s d h =
    rw (firsts-part n k s d (omega arith), take-suc (drop k s) n d (omega (arith, length-drop k s)), get_or-drop)

-- and of a whole one
pub firsts-all : {A : Type 0} (n : ℕ) (s : List A) (d : A) → length s ≡ n → firsts n (λ i. get_or s i d) ≡ s
firsts-all {A} n s d e =
    let f : ℕ → A = λ i. get_or s i d in
    let l = length-firsts f n in
    ext_get_or d (firsts n f) s (l ∙ sym e) (λ i h. get_or-firsts f n i d (omega arith))

module _ {A : Type 0} (f : ℕ → List A) where
  pub in_turn-more : (n : ℕ) → in_turn (n + 1) f ≡ in_turn n f ++ f n
  unfolding in_turn
  in_turn-more n = rw add-one

  pub length-in_turn : (m n : ℕ) → ((i : ℕ) → i < n → length (f i) ≡ m) → length (in_turn n f) ≡ m * n
  unfolding in_turn
  length-in_turn m zero h = omega arith
  length-in_turn m (suc n) h =
      omega (arith, length-append (in_turn n f) (f n), length-in_turn m n (λ i l. h i (omega arith)), h n (omega arith), mul-suc m n)

-- the first part, and the others
pub in_turn-front : {A : Type 0} (n : ℕ) (f : ℕ → List A) → in_turn (suc n) f ≡ f 0 ++ in_turn n (λ i. f (suc i))
unfolding in_turn
in_turn-front zero f = sym (append-nil (f 0))
in_turn-front (suc n) f = rw (in_turn-front n f, append_assoc)

pub in_turn-same : {A : Type 0} (n : ℕ) (f g : ℕ → List A) → ((i : ℕ) → i < n → f i ≡ g i) → in_turn n f ≡ in_turn n g
unfolding in_turn
in_turn-same zero f g h = refl
in_turn-same (suc n) f g h = rw (in_turn-same n f g (λ i l. h i (omega arith)), h n (omega arith))

-- the parts of m elements each from index k on, one after another, are the list from there on
pub in_turn-parts : {A : Type 0} (m n k : ℕ) (s : List A) → in_turn n (λ i. take m (drop (k + m * i) s)) ≡ take (m * n) (drop k s)
unfolding in_turn
in_turn-parts m zero k s = let e : m * 0 ≡ 0 = omega arith in rw e
in_turn-parts m (suc n) k s = rw (in_turn-parts m n k s, mul-suc, take-add, drop-drop)
