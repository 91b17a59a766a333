-- What keeps each clause of a well-formed record: the held CPUs by how they are held, tables place by place, the state by a report's code.
-- Assumes nothing.
use Rattle.std.specs.Prelude.{None, Option, Some}
use Prim.Native.Nat.{ℕ, ◌<◌}
use mathlib.Core.Path.{◌≡◌, refl}
use mathlib.Core.Bool.{Bool, true, false, ◌&&◌}
use mathlib.Core.List.{List}
use native.Mathlib.Omega.{arith}
use lib.Dec.{eqb, leb}
use lib.ListN.{length, get_or, set}
use lib.Seq.{get_or-set_same, get_or-set_other}
use borrow.Author.Tests.{eqb-true, eqb-false}
use Rattle.basics.specs.Choice.{pick, not-both, and_left, and_right, or_cases}
use Rattle.basics.proofs.Choice.{pick-cases}
use Rattle.basics.specs.Every.{all_below, all-at, all_of}
use Rattle.basics.specs.Order.{eq-cases}
use Rattle.codes.specs.Codes.{by_reset}
use Rattle.cpuset.specs.Set.{Set, room, has_of, none_of, with_of, within_of, count_of}
use Rattle.cpuset.specs.Laws.{has_room, has-none, same-is, count_none, count-with, with-self, with-other, with-within}
use Rattle.cpuset.specs.declared.CpuSet.{CpuSet}
use Rattle.board.specs.Description.{may_reset_at, good_entry}
use Rattle.board.specs.declared.Board.{Board}
use Rattle.board.specs.declared.Component.{Component}
use Rattle.board_record.specs.Record.{subject_of, is_about, for_rendezvous}
use Rattle.board_record.specs.WellFormed.{subject_stands, stands_by, held_by, held_stand, keepers_of, entry_stands}
use Rattle.board_record.specs.declared.Holding.{Holding}
use Rattle.board_record.specs.declared.Holding.TheVariants.{Nobody, One, Part, All}
use Rattle.board_record.specs.declared.State.{State}
use Rattle.board_record.specs.declared.State.TheVariants.{Idle, HalfPrepared, Ready, HalfActivated, Dead}
use Rattle.rules.specs.declared.Report.{Report}
use Rattle.rules.proofs.States.{Gatherable, first_one, one-more}
use Rattle.agent.specs.Perform.{after_prime, after_activate, is_done}

-- ---- the held CPUs

-- the one that is held alone
pub one-held : (on : CpuSet) (i : ℕ) → Set on → has_of on i ≡ true → within_of none_of on ≡ true
    → (within_of (with_of none_of i) on && eqb (count_of (with_of none_of i)) 1) ≡ true
one-held on i s h w =
    rw (with-within none_of on i s w h, count-with none_of i (has_room on i h) (has-none i), count_none)

-- where nobody is held for a rendezvous, those who are held stand whoever else is powered
pub apart-held : (h : Holding) (on on' held : CpuSet) → for_rendezvous h ≡ false → held_by h on held ≡ true → within_of held on' ≡ true → held_by h on' held ≡ true
apart-held Nobody on on' held f e w = e
apart-held One on on' held f e w = rw w (and_right (within_of held on) (eqb (count_of held) 1) e)
apart-held Part on on' held f e w = absurd (not-both refl f)
apart-held All on on' held f e w = absurd (not-both refl f)

-- ---- two tables with a test at each place: one place is written, and the test of every other place stays
pub places-put : {A B : Type 0} (n : ℕ) (test test' : ℕ → A → B → Bool) (dx : A) (dy : B) (xs : List A) (ys : List B) (i : ℕ) (x : A) (y : B)
    → length xs ≡ n → length ys ≡ n → ((j : ℕ) → (j ≡ i → ⊥) → (a : A) (b : B) → test' j a b ≡ test j a b) → test' i x y ≡ true
    → all_below n (λ j. test j (get_or xs j dx) (get_or ys j dy)) ≡ true
    → all_below n (λ j. test' j (get_or (set xs i x) j dx) (get_or (set ys i y) j dy)) ≡ true
places-put n test test' dx dy xs ys i x y p q others here before =
    all_of n _ λ j l. eq-cases j i (at j l)
    (λ d. rw (get_or-set_other xs i j x dx d, get_or-set_other ys i j y dy d, others j d (get_or xs j dx) (get_or ys j dy)) (all-at n _ before j l))
  where
    at : (j : ℕ) → j < n → j ≡ i → test' j (get_or (set xs i x) j dx) (get_or (set ys i y) j dy) ≡ true
    at j l e = rw (e, get_or-set_same xs i x dx (omega arith), get_or-set_same ys i y dy (omega arith)) here

-- ---- the entries of the held CPUs

-- with may_reset those that are kept are those that are held, and the caller; without it nobody is
pub joined-others : (reset : Bool) (held : CpuSet) (i j : ℕ) → (j ≡ i → ⊥) → has_of (pick reset (with_of held i) none_of) j ≡ has_of (pick reset held none_of) j
joined-others true held i j d = with-other held i j d
joined-others false held i j d = refl

pub joined-entry : (reset : Bool) (first last : ℕ) (held : CpuSet) (i entry context : ℕ) → i < room → pick reset (good_entry first last entry) true ≡ true
    → entry_stands first last (has_of (pick reset (with_of held i) none_of) i) (pick reset entry 0) (pick reset context 0) ≡ true
unfolding entry_stands
joined-entry true first last held i entry context l g = rw (with-self held i l) g
joined-entry false first last held i entry context l g = rw (has-none i)

-- those that gathered with may_reset are those that are held
pub gather-kept : {s : State} {id : ℕ} (b : Board) (on held : CpuSet) → Gatherable s id → held_stand s on held ≡ true
    → keepers_of b s held ≡ pick (may_reset_at b id) held none_of
unfolding held_stand
gather-kept b on held (first_one {id}) h =
    rw (same-is held none_of h) (pick-cases (λ (s : CpuSet). none_of ≡ s) (may_reset_at b id) none_of none_of (λ t. refl) (λ t. refl))
gather-kept b on held one-more h = refl

-- ---- the state's component

-- it stands with or without rendezvous, if only an optional one is without
pub subject-as : (c : Component) (alone alone' pending : Bool) (version : ℕ) → pick alone' c.optional true ≡ true
    → subject_stands c alone pending version ≡ true → subject_stands c alone' pending version ≡ true
unfolding subject_stands
subject-as c alone alone' pending version o e =
    let p = and_left pending _ e in
    let q = and_left (leb c.svn version) _ (and_right pending _ e) in
    rw (p, q) o

pub subject-optional : (c : Component) (alone pending : Bool) (version : ℕ) → subject_stands c alone pending version ≡ true → alone ≡ true → c.optional ≡ true
unfolding subject_stands
subject-optional c alone pending version e a =
    let h : pick alone c.optional true ≡ true = and_right (leb c.svn version) _ (and_right pending _ e) in rw a at h

-- an image of another component leaves the state's as it was
pub other-image : (b : Board) (pending : List Bool) (version : List ℕ) (alone : Bool) (s : Option ℕ) (i : ℕ) (now : Bool) (v : ℕ) → is_about s i ≡ false
    → stands_by b pending version alone s ≡ true → stands_by b (set pending i now) (set version i v) alone s ≡ true
other-image b pending version alone None i now v o e = refl
other-image b pending version alone (Some c) i now v o e =
    let d = eqb-false c i o in rw (get_or-set_other pending i c now false d, get_or-set_other version i c v 0 d) e

-- ---- the state after a report, by its code
module _ (P : State → Type 0) (p : Report) where
  pub prime-ends : (p.code ≡ 0 → P (Ready p.component)) → (p.code ≡ 1 → P (HalfPrepared p.component))
      → (eqb p.code 0 ≡ false → eqb p.code 1 ≡ false → P Idle) → P (after_prime p)
  unfolding after_prime
  prime-ends done again failed =
      pick-cases P (eqb p.code 0) _ _ (λ t. done (eqb-true p.code 0 t))
      (λ t. pick-cases P (eqb p.code 1) _ _ (λ u. again (eqb-true p.code 1 u)) (failed t))

  pub activate-ends : (p.code ≡ 1 → P (HalfActivated p.component)) → (p.code ≡ 2 → P (Ready p.component))
      → (eqb p.code 1 ≡ false → eqb p.code 2 ≡ false → P Dead × P Idle) → P (after_activate p)
  unfolding after_activate
  activate-ends again postponed ended =
      pick-cases P (eqb p.code 1) _ _ (λ t. again (eqb-true p.code 1 t))
      (λ t. pick-cases P (eqb p.code 2) _ _ (λ u. postponed (eqb-true p.code 2 u))
      (λ u. pick-cases P (eqb p.code 5) _ _ (λ v. (ended t u).0) (λ v. (ended t u).1)))

-- a done activation leaves the state idle
pub done-idle : (p : Report) → is_done p.code ≡ true → subject_of (after_activate p) ≡ None
unfolding is_done after_activate
done-idle p d = or_cases (eqb p.code 0) (eqb p.code by_reset) d (λ t. rw (eqb-true p.code 0 t)) (λ t. rw (eqb-true p.code by_reset t))
