-- What a well-formed record tells, fact by fact, and how it is shown: the test is a conjunction of clauses, and all follows from them.
-- Assumes nothing.
use Rattle.std.specs.Prelude.{Some}
use Prim.Native.Nat.{ℕ, ◌<◌}
use mathlib.Core.Path.{◌≡◌, ap, ◌∙◌}
use mathlib.Core.Bool.{true, false, not}
use native.Mathlib.Omega.{arith}
use lib.Dec.{eqb}
use lib.ListN.{length, replicate, get_or-replicate, get_or-eq_default}
use Rattle.basics.specs.Choice.{not-both, and_left, and_right, both}
use Rattle.basics.specs.Every.{all-at, all_of}
use Rattle.basics.specs.Order.{lt-cases}
use Rattle.cpuset.specs.Set.{Set, has_of, none_of, below_of, same_of, within_of, count_of}
use Rattle.cpuset.specs.Laws.{has-none, set-none, set_below, set-within, same-is, within-of}
use Rattle.cpuset.specs.declared.CpuSet.{CpuSet}
use Rattle.board.specs.Description.{most_components, most_cpus}
use Rattle.board.specs.Packed.{board_stands}
use Rattle.board.proofs.Laws.{capable-exists}
use Rattle.board_record.specs.Record.{subject_of, holding_of, is_pending}
use Rattle.board_record.specs.WellFormed.{powered_stand, image_stands, images_stand, subject_stands, state_stands, held_by, held_stand, keepers_of, entry_stands, entries_stand, work_stands, rest_stands, well_formed}
use Rattle.board_record.specs.declared.Record.{Record}
use Rattle.board_record.specs.declared.State.{State}
use Rattle.board_record.specs.declared.Holding.{Holding}
use Rattle.board_record.specs.declared.Holding.TheVariants.{Nobody, One, Part, All}

-- the clauses, each a fact
pub record WellFormed (r : Record) : Type 0 where
  pub board : board_stands r.board ≡ true
  pub powered : powered_stand r.board.cpus r.on ≡ true
  pub images : images_stand r.board r.pending r.version ≡ true
  pub state : state_stands r.board r.pending r.version r.state ≡ true
  pub held : held_stand r.state r.on r.held ≡ true
  pub entries : entries_stand r.board.first r.board.last (keepers_of r.board r.state r.held) r.entry r.context ≡ true

pub told : (r : Record) → well_formed r ≡ true → WellFormed r
unfolding well_formed rest_stands work_stands
told r e =
    let a = both (board_stands r.board) _ e in
    let b = both (powered_stand r.board.cpus r.on) _ a.1 in
    let c = both (images_stand r.board r.pending r.version) _ b.1 in
    let d = both (state_stands r.board r.pending r.version r.state) _ c.1 in
    let f = both (held_stand r.state r.on r.held) _ d.1 in
    record { board = a.0; powered = b.0; images = c.0; state = d.0; held = f.0; entries = f.1 }

pub shown : (r : Record) → WellFormed r → well_formed r ≡ true
unfolding well_formed rest_stands work_stands
shown r w = rw (w.board, w.powered, w.images, w.state, w.held, w.entries)

-- what the types of a record's tables say of their lengths
pub record Sized (r : Record) : Type 0 where
  pub pending : length r.pending ≡ most_components
  pub version : length r.version ≡ most_components
  pub entry : length r.entry ≡ most_cpus
  pub context : length r.context ≡ most_cpus

-- ---- the powered and the held CPUs
pub powered-within : (cpus : ℕ) (on : CpuSet) → powered_stand cpus on ≡ true → within_of on (below_of cpus) ≡ true
unfolding powered_stand
powered-within cpus on e = and_right (not (same_of on none_of)) (within_of on (below_of cpus)) e

pub powered-set : (cpus : ℕ) (on : CpuSet) → powered_stand cpus on ≡ true → Set on
powered-set cpus on e = set-within on (below_of cpus) (set_below cpus) (powered-within cpus on e)

-- whoever is held is powered
held-by : (h : Holding) (on held : CpuSet) → Set on → held_by h on held ≡ true → within_of held on ≡ true
held-by Nobody on held s e =
    rw (same-is held none_of e) (within-of none_of on set-none (λ j l p. absurd (none j p)))
  where
    none : (j : ℕ) → has_of none_of j ≡ true → ⊥
    none j p = not-both p (has-none j)
held-by One on held s e = and_left (within_of held on) (eqb (count_of held) 1) e
held-by Part on held s e = and_right (not (same_of held on)) _ (and_right (not (same_of held none_of)) _ e)
held-by All on held s e = rw (same-is held on e) (within-of on on s (λ j l p. p))

pub held-within : (s : State) (on held : CpuSet) → Set on → held_stand s on held ≡ true → within_of held on ≡ true
unfolding held_stand
held-within s on held p e = held-by (holding_of s) on held p e

-- ---- where nothing is kept, nothing stands in the tables
pub entries-zero : (first last : ℕ) → entries_stand first last none_of (replicate most_cpus 0) (replicate most_cpus 0) ≡ true
unfolding entries_stand entry_stands
entries-zero first last = all_of most_cpus _ (λ i l. rw (has-none i, get_or-replicate {A = ℕ} most_cpus i 0 0 l))

-- ---- of a whole record
module _ (r : Record) (w : WellFormed r) where
  pub on-set : Set r.on
  on-set = powered-set r.board.cpus r.on w.powered

  pub held_on : within_of r.held r.on ≡ true
  held_on = held-within r.state r.on r.held on-set w.held

  pub held-set : Set r.held
  held-set = set-within r.held r.on on-set held_on

  -- where all are held, no powered CPU is free
  pub none_free : holding_of r.state ≡ All → (cpu : ℕ) → has_of r.on cpu ≡ true → has_of r.held cpu ≡ false → ⊥
  unfolding held_stand
  none_free h cpu on free =
      let all : same_of r.held r.on ≡ true = rw h at w.held in
      not-both (ap (λ (s : CpuSet). has_of s cpu) (same-is r.held r.on all) ∙ on) free

  -- in a state that holds nobody
  pub held_none : holding_of r.state ≡ Nobody → r.held ≡ none_of
  unfolding held_stand
  held_none h = same-is r.held none_of (rw h at w.held)

  -- the state's component is pending, so it is one of the board's
  pub subject-exists : Sized r → (c : ℕ) → subject_of r.state ≡ Some c → c < r.board.components
  unfolding state_stands subject_stands images_stand image_stands
  subject-exists z c q =
      let pending : is_pending r.pending c ≡ true = and_left (is_pending r.pending c) _ (rw q at w.state) in
      let l = lt-cases c most_components (λ h. h) (λ h. absurd (not-both pending (get_or-eq_default r.pending false (omega (arith, z.pending))))) in
      capable-exists r.board c (rw pending at (all-at most_components _ w.images c l))
