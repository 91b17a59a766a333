-- How a loop writes a table at the places that a test says, and what it then holds: by induction on the places looked at. Assumes nothing.
use Prim.Native.Nat.{ℕ, zero, suc, ◌+◌, ◌<◌, ◌≤◌, min}
use mathlib.Core.Path.{◌≡◌, refl, sym, ◌∙◌}
use mathlib.Core.Bool.{Bool, true, false}
use mathlib.Core.List.{List}
use native.Mathlib.Numerals.{add-one}
use native.Mathlib.Nat.{not-suc-le-zero}
use native.Mathlib.Omega.{arith}
use lib.Seq.{set_out, get_or-set_same, get_or-set_other}
use lib.ListN.{length, get_or, set, length-set}
use Rattle.basics.specs.Choice.{pick}
use Rattle.basics.proofs.Choice.{yes, no, pick-cases}
use Rattle.basics.specs.Order.{lt-cases, last-cases}
use Rattle.cpuset.specs.Set.{has_of, none_of, same_of}
use Rattle.cpuset.specs.Laws.{has-out, none_has}
use Rattle.cpuset.specs.declared.CpuSet.{CpuSet}
use Rattle.board.specs.Description.{most_cpus}
use Rattle.board_record.proofs.Laws.{room_most}
use Rattle.agent.specs.Step.{written, filled}

-- a place past a table's end is not written
pub ruleset outside = (set_out)

-- ---- the loop: no place, a place more, the end
pub written_none : (f : ℕ → Bool) (from table : List ℕ) → table ≡ written 0 f from table
unfolding written
written_none f from table = refl

pub written-yes : (i : ℕ) (f : ℕ → Bool) (from table now : List ℕ) → now ≡ written i f from table → f i ≡ true → set now i (get_or from i 0) ≡ written (i + 1) f from table
unfolding written
written-yes i f from table now e t = rw (add-one i, t, e)

pub written-no : (i : ℕ) (f : ℕ → Bool) (from table now : List ℕ) → now ≡ written i f from table → f i ≡ false → now ≡ written (i + 1) f from table
unfolding written
written-no i f from table now e t = rw (add-one i, t, e)

written-length : (n : ℕ) (f : ℕ → Bool) (from table : List ℕ) → length (written n f from table) ≡ length table
unfolding written
written-length zero f from table = refl
written-length (suc n) f from table =
    let e = written-length n f from table in
    pick-cases (λ (l : List ℕ). length l ≡ length table) (f n) _ _ (λ t. length-set (written n f from table) n _ ∙ e) (λ t. e)

-- past the table's end nothing is written
written-past : (n i : ℕ) (f : ℕ → Bool) (from table : List ℕ) → min (length table) n ≤ i → i ≤ n → written i f from table ≡ written n f from table
unfolding written
written-past zero i f from table l h = let e : i ≡ 0 = omega arith in rw e
written-past (suc n) i f from table l h =
    last-cases {i = i} {n = suc n} (omega arith) (λ e. rw e)
    (λ m.
    let p = written-past n i f from table (omega arith) (omega arith) in
    pick-cases (λ t. written i f from table ≡ t) (f n) _ _
    (λ t. p ∙ sym (set_out (written n f from table) n _ (omega (arith, written-length n f from table))))
    (λ t. p))

pub written-end : (n i : ℕ) (f : ℕ → Bool) (from table now : List ℕ) → min (length table) n ≤ i → i ≤ n → now ≡ written i f from table → now ≡ written n f from table
written-end n i f from table now l h e = e ∙ written-past n i f from table l h

pub written-nobody : (n : ℕ) (f : ℕ → Bool) (from table : List ℕ) → ((i : ℕ) → f i ≡ false) → written n f from table ≡ table
unfolding written
written-nobody zero f from table h = refl
written-nobody (suc n) f from table h = rw (h n) (written-nobody n f from table h)

-- what a turn of the loop needs
pub ruleset turns = (written_none, written-yes, written-no, length-set)

-- where nobody resumes a table stays
pub stays : (cpus : CpuSet) (from table : List ℕ) → same_of cpus none_of ≡ true → filled cpus from table ≡ table
stays cpus from table e = written-nobody most_cpus (has_of cpus) from table (none_has cpus e)

-- ---- what a client reads: the places from n on stay, and those below n are written or stay as f says
written-far : (n : ℕ) (f : ℕ → Bool) (from table : List ℕ) (k : ℕ) → n ≤ k → get_or (written n f from table) k 0 ≡ get_or table k 0
unfolding written
written-far zero f from table k h = refl
written-far (suc n) f from table k h =
    let e = written-far n f from table k (omega arith) in
    pick-cases (λ l. get_or l k 0 ≡ get_or table k 0) (f n) _ _
    (λ t. get_or-set_other (written n f from table) n k _ 0 (λ q. omega arith) ∙ e)
    (λ t. e)

written_at : (n : ℕ) (f : ℕ → Bool) (from table : List ℕ) (k : ℕ) → k < n → k < length table → get_or (written n f from table) k 0 ≡ pick (f k) (get_or from k 0) (get_or table k 0)
unfolding written
written_at zero f from table k h b = absurd (not-suc-le-zero h)
written_at (suc n) f from table k h b =
    pick-cases (λ l. get_or l k 0 ≡ pick (f k) (get_or from k 0) (get_or table k 0)) (f n) _ _
    (λ t. last-cases h
    (λ q. rw q (yes _ t (get_or-set_same (written n f from table) n _ 0 (omega (arith, written-length n f from table)))))
    (λ l. get_or-set_other (written n f from table) n k _ 0 (λ q. omega arith) ∙ written_at n f from table k l b))
    (λ t. last-cases h (λ q. rw q (no _ t (written-far n f from table n (omega arith)))) (λ l. written_at n f from table k l b))

-- in a resume table each place holds what its resuming CPU is given, or what it held
pub filled_at : (cpus : CpuSet) (from table : List ℕ) (k : ℕ) → k < length table
    → get_or (filled cpus from table) k 0 ≡ pick (has_of cpus k) (get_or from k 0) (get_or table k 0)
filled_at cpus from table k l =
    lt-cases k most_cpus (λ h. written_at most_cpus (has_of cpus) from table k h l)
    (λ h. no _ (has-out cpus k (omega (arith, room_most))) (written-far most_cpus (has_of cpus) from table k h))
