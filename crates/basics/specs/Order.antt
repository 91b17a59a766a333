-- The cases of an order between two numbers. Assumes nothing.
use Rattle.std.specs.Prelude.{ℕ, suc, ◌<◌, ◌≤◌, ◌≡◌, refl, Bool, true, false, ltb, eqb}
use Rattle.std.proofs.Common.{⊎_elim, le_of_suc-le-suc, eq-or-lt_of_le, ltb-true, ltb-false, eqb-true, lt-ltb, le-ltb}
use Rattle.std.proofs.lemmas.Bool.{eqb-false}

pub lt-cases : {C : Type 0} (a b : ℕ) → (a < b → C) → (b ≤ a → C) → C
lt-cases {C} a b f g = go (ltb a b) refl
  where
    go : (t : Bool) → ltb a b ≡ t → C
    go true e = f (ltb-true a b e)
    go false e = g (ltb-false a b e)

pub eq-cases : {C : Type 0} (a b : ℕ) → (a ≡ b → C) → ((a ≡ b → ⊥) → C) → C
eq-cases {C} a b f g = go (eqb a b) refl
  where
    go : (t : Bool) → eqb a b ≡ t → C
    go true e = f (eqb-true a b e)
    go false e = g (eqb-false a b e)

-- a number below n + 1 is n or below n
pub last-cases : {C : Type 0} {i n : ℕ} → i < suc n → (i ≡ n → C) → (i < n → C) → C
last-cases l f g = ⊎_elim f g (eq-or-lt_of_le (le_of_suc-le-suc l))

-- two tests of one fact
pub same-ltb : (a b c d : ℕ) → (a < b → c < d) → (b ≤ a → d ≤ c) → ltb a b ≡ ltb c d
same-ltb a b c d f g =
    lt-cases a b (λ l. rw (lt-ltb a b l, lt-ltb c d (f l))) (λ l. rw (le-ltb a b l, le-ltb c d (g l)))
