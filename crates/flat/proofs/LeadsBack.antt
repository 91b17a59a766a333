-- Readers as numbers and back: every reader comes back from its numbers, and numbers that are a reader's are those of the one that they
-- make. So the functions over numbers go as those over readers, and where a reader stays its numbers do. Assumes nothing.
use Rattle.std.specs.Prelude.{Err, Ok, Result}
use Prim.Native.Nat.{ℕ}
use mathlib.Core.Path.{◌≡◌, refl, sym, ap, ◌∙◌}
use mathlib.Core.Bool.{Bool, true, false}
use mathlib.Core.List.{List, []}
use lib.Dec.{eqb}
use borrow.Author.Tests.{eqb-true}
use Rattle.basics.specs.Choice.{pick, not-both}
use Rattle.log_record.specs.Rules.{number_of}
use Rattle.log_record.specs.declared.Refusal.{Refusal as LogRefusal}
use Rattle.log_record.specs.declared.Refusal.TheVariants.{TooShort, UnusedBit, Unknown, OutsideLimits, NoRoom}
use Rattle.log_book.specs.Log.{flaw}
use Rattle.deliveries.specs.Lead.{refusal_stands, standing_stands, is_lead}
use Rattle.deliveries.specs.Taken.{taken_of, closing_of}
use Rattle.deliveries.specs.declared.Standing.{Standing}
use Rattle.deliveries.specs.declared.Standing.TheVariants.{Open, Closed, Refused}
use Rattle.deliveries.specs.declared.Refusal.{Refusal}
use Rattle.deliveries.specs.declared.Refusal.TheVariants.{NoReader, AfterClose, Log}
use Rattle.deliveries.specs.declared.Lead.{Lead}
use Rattle.deliveries.proofs.Laws.{picked, lead-stands}
use Rattle.deliveries.proofs.Again.{never-37}
use Rattle.flat.specs.Leads.{standing_number, standing_refusal, standing_place, flat_lead, refusal_in, nobodys, standing_in, lead_in, lead_after, taken_by, closed_by, taken_in, closed_in}
use Rattle.flat.specs.declared.FlatLead.{FlatLead}

-- ---- every reader comes back

refusal-back : (x : LogRefusal) → refusal_in (number_of x) ≡ x
refusal-back TooShort = refl
refusal-back UnusedBit = refl
refusal-back Unknown = refl
refusal-back OutsideLimits = refl
refusal-back NoRoom = refl

standing-back : (s : Standing) → standing_in (standing_number s) (standing_refusal s) (standing_place s) ≡ s
unfolding standing_in
standing-back Open = refl
standing-back Closed = refl
standing-back (Refused f) = ap (λ (x : LogRefusal). Refused (flaw x f.place)) (refusal-back f.refusal)

pub lead-back : (l : Lead) → lead_in (flat_lead l) ≡ l
unfolding lead_in flat_lead
lead-back l = rw (standing-back l.standing)

-- ---- and so do the numbers that are a reader's

-- of the numbers that a reader can have been refused with
refusal-there : (n records place : ℕ) → refusal_stands (refusal_in n) records place ≡ true → number_of (refusal_in n) ≡ n
refusal-there n records place =
    go (eqb n 30) (eqb n 31) (eqb n 32) (eqb n 33) (λ e. sym (eqb-true n 30 e)) (λ e. sym (eqb-true n 31 e)) (λ e. sym (eqb-true n 32 e)) (λ e. sym (eqb-true n 33 e))
  where
    among : Bool → Bool → Bool → Bool → LogRefusal
    among a b c d = pick a TooShort (pick b UnusedBit (pick c Unknown (pick d OutsideLimits NoRoom)))

    go : (a b c d : Bool) → (a ≡ true → 30 ≡ n) → (b ≡ true → 31 ≡ n) → (c ≡ true → 32 ≡ n) → (d ≡ true → 33 ≡ n) → refusal_stands (among a b c d) records place ≡ true → number_of (among a b c d) ≡ n
    go true b c d p q r s e = p refl
    go false true c d p q r s e = q refl
    go false false true d p q r s e = r refl
    go false false false true p q r s e = s refl
    go false false false false p q r s e = absurd (not-both e refl)

-- the three numbers of a standing, where a reader stands so
record There (n refusal place : ℕ) (s : Standing) : Type 0 where
  pub number : standing_number s ≡ n
  pub refused : standing_refusal s ≡ refusal
  pub at : standing_place s ≡ place

standing-there : (n refusal place records kept : ℕ) → standing_stands (standing_in n refusal place) records kept ≡ true → There n refusal place (standing_in n refusal place)
unfolding standing_in
standing-there n refusal place records kept e =
    go (eqb n 2) (eqb refusal 0) (eqb place 0) (eqb n 0) (eqb n 1) (eqb-true n 2) (eqb-true refusal 0) (eqb-true place 0) (eqb-true n 0) (eqb-true n 1) e
  where
    no_one : (b : Bool) → pick b false false ≡ true → ⊥
    no_one true q = not-both q refl
    no_one false q = not-both q refl

    by-refusal : standing_stands (Refused (flaw (refusal_in refusal) place)) records kept ≡ true → n ≡ 2 → There n refusal place (Refused (flaw (refusal_in refusal) place))
    by-refusal q k = record { number = sym k; refused = refusal-there refusal records place (picked (eqb kept 0) _ q).1; at = refl }

    go : (two none first zero one : Bool) → (two ≡ true → n ≡ 2) → (none ≡ true → refusal ≡ 0) → (first ≡ true → place ≡ 0) → (zero ≡ true → n ≡ 0) → (one ≡ true → n ≡ 1)
        → let s = pick two (Refused (flaw (refusal_in refusal) place)) (pick none (pick first (pick zero Open (pick one Closed nobodys)) nobodys) nobodys) in
        standing_stands s records kept ≡ true → There n refusal place s
    go true none first zero one a b c d f q = by-refusal q (a refl)
    go false false first zero one a b c d f q = absurd (no_one (eqb kept 0) q)
    go false true false zero one a b c d f q = absurd (no_one (eqb kept 0) q)
    go false true true true one a b c d f q = record { number = sym (d refl); refused = sym (b refl); at = sym (c refl) }
    go false true true false true a b c d f q = record { number = sym (f refl); refused = sym (b refl); at = sym (c refl) }
    go false true true false false a b c d f q = absurd (no_one (eqb kept 0) q)

pub lead-there : (f : FlatLead) → is_lead (lead_in f) ≡ true → flat_lead (lead_in f) ≡ f
unfolding lead_in flat_lead
lead-there f e =
    let t = standing-there f.standing f.refusal f.place f.records f.length (lead-stands (lead_in f) e) in
    rw (t.number, t.refused, t.at)

-- ---- the functions go with it: 37 is for what is no reader alone

after-known : {A : Type 0} (r : Result A Refusal) (f : FlatLead) (l : Lead) → (r ≡ Err NoReader → ⊥) → lead_after r f l ≡ flat_lead l
after-known (Ok x) f l k = refl
after-known (Err NoReader) f l k = absurd (k refl)
after-known (Err AfterClose) f l k = refl
after-known (Err (Log x)) f l k = refl

module _ (f : FlatLead) where
  -- numbers that are a reader's become those of the reader after it
  module _ (e : is_lead (lead_in f) ≡ true) where
    pub taken-crosses : (d : List ℕ) → (taken_in f d).lead ≡ flat_lead (taken_of (lead_in f) d).lead
    unfolding taken_in taken_by
    taken-crosses d = after-known (taken_of (lead_in f) d).given f (taken_of (lead_in f) d).lead (never-37 (lead_in f) e d).0

    pub closing-crosses : (closed_in f).lead ≡ flat_lead (closing_of (lead_in f)).lead
    unfolding closed_in closed_by
    closing-crosses = after-known (closing_of (lead_in f)).ending f (closing_of (lead_in f)).lead (never-37 (lead_in f) e []).1

  -- and numbers stay where the reader that they make does, or are none's
  pub taken-stays : (d : List ℕ) → (taken_of (lead_in f) d).lead ≡ lead_in f → (taken_in f d).lead ≡ f
  unfolding taken_in taken_by taken_of
  taken-stays d h = go (is_lead (lead_in f)) refl
    where
      go : (b : Bool) → is_lead (lead_in f) ≡ b → (taken_in f d).lead ≡ f
      go true e = taken-crosses e d ∙ ap flat_lead h ∙ lead-there f e
      go false e = rw e

  pub closing-stays : (closing_of (lead_in f)).lead ≡ lead_in f → (closed_in f).lead ≡ f
  unfolding closed_in closed_by closing_of
  closing-stays h = go (is_lead (lead_in f)) refl
    where
      go : (b : Bool) → is_lead (lead_in f) ≡ b → (closed_in f).lead ≡ f
      go true e = closing-crosses e ∙ ap flat_lead h ∙ lead-there f e
      go false e = rw e
