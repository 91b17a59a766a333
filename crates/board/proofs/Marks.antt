-- The same UUID has the same mark, byte by byte; so where its mark was not met, a UUID was not either. Assumes nothing.
use Prim.Native.Nat.{ℕ, zero, suc, ◌+◌, ◌<◌}
use mathlib.Core.Path.{◌≡◌, refl, ap, ◌∙◌}
use mathlib.Core.Bool.{Bool, true, false, not}
use mathlib.Core.List.{List}
use native.Mathlib.Omega.{arith}
use lib.ListN.{length, get_or, set, replicate, length-set, length-replicate}
use lib.Seq.{get_or-set_same, get_or-set_other}
use borrow.Author.Tests.{eqb-true}
use Rattle.basics.specs.Choice.{not-both, refuted}
use Rattle.basics.specs.Order.{eq-cases}
use Rattle.basics.specs.Every.{all_below, all_none, all_more, all-at, all_of}
use Rattle.board.specs.Description.{uuid_bytes, absent, same_at, same_uuid, unlike, unseen}
use Rattle.board.specs.Marks.{marks, sum_of, mark_of}
use Rattle.board.specs.declared.Component.{Component}

sum_same : (u v : List ℕ) (n : ℕ) → ((k : ℕ) → k < n → same_at u v k ≡ true) → sum_of n u ≡ sum_of n v
unfolding sum_of
sum_same u v zero h = refl
sum_same u v (suc n) h = rw (sum_same u v n (λ k l. h k (omega arith)), eqb-true (get_or u n 0) (get_or v n 0) (h n (omega arith)))

pub mark-same : (u v : List ℕ) → same_uuid u v ≡ true → mark_of u ≡ mark_of v
mark-same u v e = rw (sum_same u v uuid_bytes (all-at uuid_bytes (same_at u v) e))

-- the mark of the UUID at place j, and whether it was met
abbrev pub mark_at : List Component → ℕ → ℕ
mark_at cs j = mark_of (get_or cs j absent).uuid

abbrev pub is_met : List Bool → List Component → ℕ → Bool
is_met met cs j = get_or met (mark_at cs j) false

-- the marks of the places before i were met
pub record Met (cs : List Component) (i : ℕ) (met : List Bool) : Type 0 where
  pub long : length met ≡ marks
  pub each : all_below i (is_met met cs) ≡ true

pub met-none : (cs : List Component) → Met cs 0 (replicate marks false)
met-none cs = record { long = length-replicate marks false; each = all_none _ }

module _ {cs : List Component} {i : ℕ} {met : List Bool} (w : Met cs i met) where
  -- where its mark was not met, no place before has the UUID
  pub unmet-unseen : is_met met cs i ≡ false → unseen cs i ≡ true
  unmet-unseen q =
      all_of i (unlike cs i)
      (λ j l. ap not (refuted _
      (λ e. not-both (all-at i (is_met met cs) w.each j l) (ap (λ (m : ℕ). get_or met m false) (mark-same _ _ e) ∙ q))))

  -- a turn set one more, and those met stay so
  pub met-more : Met cs (i + 1) (set met (mark_at cs i) true)
  met-more =
      record {
        long = rw length-set w.long;
        each = all_more _ i (all_of i _ (λ j l. kept (mark_at cs j) (all-at i (is_met met cs) w.each j l))) new;
      }
    where
      new : is_met (set met (mark_at cs i) true) cs i ≡ true
      new = get_or-set_same met (mark_at cs i) true false (omega arith)

      kept : (m : ℕ) → get_or met m false ≡ true → get_or (set met (mark_at cs i) true) m false ≡ true
      kept m h = eq-cases m (mark_at cs i) (λ q. rw q new) (λ q. get_or-set_other met (mark_at cs i) m true false q ∙ h)
