-- The step on numbers is the agent's step through the conversion, by the two tests that it makes; so the agent's theorems hold of it.
-- An answer's numbers say all of it, by cases. Assumes nothing.
use Rattle.std.specs.Prelude.{Err, None, Ok, Option, Result, Some}
use Prim.Native.Nat.{ℕ}
use mathlib.Core.Path.{◌≡◌, refl, sym, ap, ◌∙◌}
use mathlib.Core.Bool.{Bool, true, false}
use mathlib.Core.List.{List}
use lib.Dec.{eqb, ltb}
use lib.ListN.{length, get_or}
use borrow.Author.Tests.{eqb-true}
use native.Mathlib.Omega.{arith}
use Rattle.basics.specs.Choice.{pick, refuted, and_left, and_right}
use Rattle.basics.proofs.Choice.{pick-cases}
use Rattle.basics.specs.Places.{length-firsts}
use Rattle.board.specs.Description.{most_components}
use Rattle.board.specs.Packed.{flag_in, read_of}
use Rattle.board.proofs.Round.{read-stands, read-long}
use Rattle.board.specs.declared.Board.{Board}
use Rattle.board_record.specs.Record.{fresh_of}
use Rattle.board_record.specs.WellFormed.{well_formed}
use Rattle.board_record.specs.declared.Record.{Record}
use Rattle.board_record.proofs.Clauses.{Sized}
use Rattle.board_record.proofs.Laws.{fresh-stands, fresh-sized}
use Rattle.rules.specs.Decide.{decide_of}
use Rattle.rules.specs.Statuses.{number_of}
use Rattle.rules.specs.declared.Event.{Event}
use Rattle.rules.specs.declared.Refusal.{Refusal}
use Rattle.rules.specs.declared.Refusal.TheVariants.{NotWellFormed, TableShort, NoSuchCpu, CpuOff, CpuHeld, NoSuchJob, CodeNotAllowed, NotCapable, StateComponent}
use Rattle.agent.specs.Perform.{refused_of}
use Rattle.agent.specs.Step as agent
use Rattle.agent.specs.Numbers.{outcome_of, returned_of, release_number, freed_by, refused_with, accepted_with}
use Rattle.agent.specs.declared.Answer.{Answer}
use Rattle.agent.specs.declared.Caller.{Caller}
use Rattle.agent.specs.declared.Caller.TheVariants as caller
use Rattle.agent.specs.declared.Release.{Release}
use Rattle.agent.specs.declared.Release.TheVariants as release
use Rattle.agent.specs.declared.Stepped.{Stepped}
use Rattle.agent.proofs.Kept.{step_kept}
use Rattle.agent.proofs.Stays.{step-board}
use Rattle.agent.proofs.Refused.{refused-stays, never-nine}
use Rattle.log_book.specs.Log.{blank}
use Rattle.trace.specs.Logged.{logged_of}
use Rattle.flat.specs.Answers.{event_in, answer_by, refused_answer, answer_of, caller_in, release_in, accepted_in, logged_in}
use Rattle.flat.specs.Calls.{fresh_in, no_event, kept_with, through_of, step_of, entries_of, contexts_of}
use Rattle.flat.specs.Records.{flat_with, flat_of, flat_board, board_in, record_in, is_flat, flat_stands, are_flat_components, component_in, absent_flat, components_in}
use Rattle.flat.specs.declared.FlatAnswer.{FlatAnswer}
use Rattle.flat.specs.declared.FlatBoard.{FlatBoard}
use Rattle.flat.specs.declared.FlatEvent.{FlatEvent}
use Rattle.flat.specs.declared.FlatRecord.{FlatRecord}
use Rattle.flat.specs.declared.FlatStepped.{FlatStepped}
use Rattle.flat.proofs.Inverse.{SizedFlat, board-there, flat-is, record-back, flat-there}

-- ---- answers: read back from their numbers, so that nothing is lost in them
caller-back : (c : Caller) → caller_in (outcome_of c) (returned_of c) ≡ c
caller-back caller.Nothing = refl
caller-back (caller.Returned x) = refl
caller-back caller.Held = refl
caller-back caller.PrimeStarted = refl
caller-back caller.ActivationStarted = refl
caller-back caller.Gone = refl

release-back : (l : Release) → release_in (release_number l) (freed_by l) ≡ l
release-back release.Nobody = refl
release-back (release.Returned f) = refl
release-back (release.Resumed s) = refl

pub accepted-back : (a : Answer) → accepted_in (answer_by (accepted_with a)) ≡ a
unfolding accepted_in answer_by accepted_with
accepted-back a = rw (caller-back a.caller, release-back a.release)

-- the refusal of a number; of another than these nine, 9
abbrev pub refusal_in : ℕ → Refusal
refusal_in n =
    pick (eqb n 1) TableShort
    (pick (eqb n 2) NoSuchCpu
    (pick (eqb n 3) CpuOff
    (pick (eqb n 4) CpuHeld
    (pick (eqb n 5) NoSuchJob
    (pick (eqb n 6) CodeNotAllowed
    (pick (eqb n 7) NotCapable
    (pick (eqb n 8) StateComponent
    NotWellFormed)))))))

abbrev pub outcome_in : FlatAnswer → Result Answer Refusal
outcome_in a = pick (eqb a.refusal 0) (Ok (accepted_in a)) (Err (refusal_in a.refusal))

refused-back : (x : Refusal) → outcome_in (refused_answer (number_of x)) ≡ Err x
unfolding answer_by refused_with
refused-back NotWellFormed = refl
refused-back TableShort = refl
refused-back NoSuchCpu = refl
refused-back CpuOff = refl
refused-back CpuHeld = refl
refused-back NoSuchJob = refl
refused-back CodeNotAllowed = refl
refused-back NotCapable = refl
refused-back StateComponent = refl

accepted-whole : (a : Answer) → outcome_in (answer_by (accepted_with a)) ≡ Ok a
unfolding answer_by accepted_with
accepted-whole a = ap Ok (accepted-back a)

pub outcome-back : (o : Result Answer Refusal) → outcome_in (answer_of o) ≡ o
outcome-back (Err x) = refused-back x
outcome-back (Ok a) = accepted-whole a

-- an accepted answer has no refusal
accepted-none : (a : Answer) → (answer_by (accepted_with a)).refusal ≡ 0
unfolding answer_by accepted_with
accepted-none a = refl

-- ---- one event
module _ (f : FlatRecord) (flat : is_flat f ≡ true) (e : FlatEvent) (known : Event) (is : event_in e ≡ Some known) (n m : ℕ) where
  abbrev own : Stepped
  own = agent.step_of (record_in f) known n m

  pub step_through : step_of f e n m ≡ through_of f own
  unfolding step_of
  step_through = rw (flat, is)

  -- the board's numbers stay, and are those of the agent's next record
  board-stays : SizedFlat f → f.board ≡ flat_board own.rec.board
  unfolding is_flat record_in
  board-stays z =
      sym (ap flat_board (step-board (record_in f) known n m) ∙ board-there f.board z.components (and_left (are_flat_components most_components f.board.component) _ flat))

  -- the next record is the agent's through the conversion, and so is the answer
  pub record-through : SizedFlat f → (step_of f e n m).rec ≡ flat_of own.rec
  unfolding through_of
  record-through z = ap (λ (s : FlatStepped). s.rec) step_through ∙ ap (λ (b : FlatBoard). flat_with b own.rec) (board-stays z)

  pub answer-through : (step_of f e n m).answer ≡ answer_of own.outcome
  unfolding through_of
  answer-through = ap (λ (s : FlatStepped). s.answer) step_through

  -- and an accepted event's log record is the agent's
  pub logged-through : (a : Answer) → own.outcome ≡ Ok a → logged_in e (step_of f e n m).answer ≡ logged_of known a
  unfolding logged_in answer_by accepted_with
  logged-through a o =
      let said : (step_of f e n m).answer ≡ answer_by (accepted_with a) = answer-through ∙ ap answer_of o in
      rw (said, accepted-none a, is) (ap (logged_of known) (accepted-back a))

-- the tables too
module _ (f : FlatRecord) (flat : is_flat f ≡ true) (e : FlatEvent) (known : Event) (is : event_in e ≡ Some known) (entries contexts : List ℕ) where
  pub entries-through : entries_of f e entries contexts ≡ agent.entries_of (record_in f) known entries contexts
  unfolding entries_of
  entries-through = rw (flat, is)

  pub contexts-through : contexts_of f e entries contexts ≡ agent.contexts_of (record_in f) known entries contexts
  unfolding contexts_of
  contexts-through = rw (flat, is)

-- a refused event leaves no log record
pub refused-unlogged : (e : FlatEvent) (a : FlatAnswer) → (a.refusal ≡ 0 → ⊥) → logged_in e a ≡ blank
unfolding logged_in
refused-unlogged e a h = let no : eqb a.refusal 0 ≡ false = refuted (eqb a.refusal 0) (λ q. h (eqb-true a.refusal 0 q)) in rw no

-- ---- a refused event changes nothing
module _ (f : FlatRecord) (z : SizedFlat f) (e : FlatEvent) (entries contexts : List ℕ) where
  abbrev next : FlatStepped
  next = step_of f e (length entries) (length contexts)

  abbrev Stays : Type 0
  Stays = (next.rec ≡ f) × (entries_of f e entries contexts ≡ entries) × (contexts_of f e entries contexts ≡ contexts)

  none_stays : is_flat f ≡ false → Stays
  unfolding step_of entries_of contexts_of kept_with
  none_stays flat = (rw flat, rw flat, rw flat)

  module _ (flat : is_flat f ≡ true) where
    unknown-stays : event_in e ≡ None → Stays
    unfolding step_of entries_of contexts_of kept_with
    unknown-stays is = (rw (flat, is), rw (flat, is), rw (flat, is))

    known-stays : (known : Event) → event_in e ≡ Some known → (next.answer.refusal ≡ 0 → ⊥)
        → (o : Result Answer Refusal) → (agent.step_of (record_in f) known (length entries) (length contexts)).outcome ≡ o → Stays
    known-stays known is h (Err x) q =
        let stays = refused-stays (record_in f) known entries contexts x q in
        (record-through f flat e known is (length entries) (length contexts) z ∙ ap flat_of stays.0 ∙ flat-there f z flat, entries-through f flat e known is entries contexts ∙ stays.1, contexts-through f flat e known is entries contexts ∙ stays.2)
    known-stays known is h (Ok a) q =
        absurd (h (ap (λ (y : FlatAnswer). y.refusal) (answer-through f flat e known is (length entries) (length contexts) ∙ ap answer_of q) ∙ accepted-none a))

  pub flat-stays : (next.answer.refusal ≡ 0 → ⊥) → Stays
  flat-stays h = go (is_flat f) refl (event_in e) refl
    where
      go : (b : Bool) → is_flat f ≡ b → (r : Option Event) → event_in e ≡ r → Stays
      go false flat r is = none_stays flat
      go true flat None is = unknown-stays flat is
      go true flat (Some known) is = known-stays flat known is h (agent.step_of (record_in f) known (length entries) (length contexts)).outcome refl

-- ---- refusal 9 is for what is not well formed, and for nothing else
nine-only : (x : Refusal) → (refused_answer (number_of x)).refusal ≡ 9 → x ≡ NotWellFormed
unfolding answer_by refused_with
nine-only x e = let same : Err x ≡ Err NotWellFormed = sym (refused-back x) ∙ ap (λ (n : ℕ). outcome_in (refused_answer n)) e in cc

ill-formed : (r : Record) (e : Event) (n m : ℕ) → well_formed r ≡ false → (agent.step_of r e n m).outcome ≡ Err NotWellFormed
unfolding agent.step_of decide_of refused_of
ill-formed r e n m w = rw w

stands-aside : (f : FlatRecord) (e : FlatEvent) (n m : ℕ) → is_flat f ≡ false → (step_of f e n m).answer.refusal ≡ 9
unfolding step_of kept_with answer_by refused_with
stands-aside f e n m flat = rw flat

-- of an event that is none of the four
module _ (f : FlatRecord) (flat : is_flat f ≡ true) (e : FlatEvent) (is : event_in e ≡ None) (n m : ℕ) where
  none-refusal : (step_of f e n m).answer.refusal ≡ no_event (record_in f) n m
  unfolding step_of kept_with answer_by refused_with
  none-refusal = rw (flat, is)

  none-given : well_formed (record_in f) ≡ false → (step_of f e n m).answer.refusal ≡ 9
  unfolding no_event
  none-given w = none-refusal ∙ rw w

  none-when : well_formed (record_in f) ≡ true → (step_of f e n m).answer.refusal ≡ 9 → ⊥
  unfolding no_event
  none-when w h =
      pick-cases (λ (k : ℕ). k ≡ 9 → ⊥) (ltb n (record_in f).board.cpus) _ _ (λ _ q. omega arith)
      (λ _. pick-cases (λ (k : ℕ). k ≡ 9 → ⊥) (ltb m (record_in f).board.cpus) _ _ (λ _ q. omega arith) (λ _ q. omega arith))
      (rw w at (sym none-refusal ∙ h))

-- and of one that is
module _ (f : FlatRecord) (flat : is_flat f ≡ true) (e : FlatEvent) (known : Event) (is : event_in e ≡ Some known) (n m : ℕ) where
  agents-refusal : (o : Result Answer Refusal) → (agent.step_of (record_in f) known n m).outcome ≡ o → (step_of f e n m).answer.refusal ≡ (answer_of o).refusal
  agents-refusal o q = ap (λ (y : FlatAnswer). y.refusal) (answer-through f flat e known is n m ∙ ap answer_of q)

  known-given : well_formed (record_in f) ≡ false → (step_of f e n m).answer.refusal ≡ 9
  unfolding answer_by refused_with
  known-given w = agents-refusal (Err NotWellFormed) (ill-formed (record_in f) known n m w)

  known-when : well_formed (record_in f) ≡ true → (step_of f e n m).answer.refusal ≡ 9
      → (o : Result Answer Refusal) → (agent.step_of (record_in f) known n m).outcome ≡ o → ⊥
  known-when w h (Err x) q =
      never-nine (record_in f) known n m w (q ∙ ap Err (nine-only x (sym (agents-refusal (Err x) q) ∙ h)))
  known-when w h (Ok a) q = let none = accepted-none a in let same = agents-refusal (Ok a) q in omega arith

module _ (f : FlatRecord) (e : FlatEvent) (n m : ℕ) where
  pub nine-given : flat_stands f ≡ false → (step_of f e n m).answer.refusal ≡ 9
  nine-given h = go (is_flat f) refl (event_in e) refl
    where
      go : (b : Bool) → is_flat f ≡ b → (r : Option Event) → event_in e ≡ r → (step_of f e n m).answer.refusal ≡ 9
      go false flat r is = stands-aside f e n m flat
      go true flat None is = none-given f flat e is n m (rw flat at h)
      go true flat (Some known) is = known-given f flat e known is n m (rw flat at h)

  pub nine-when : (step_of f e n m).answer.refusal ≡ 9 → flat_stands f ≡ false
  nine-when h = refuted (flat_stands f) (λ s. go (and_left (is_flat f) _ s) (and_right (is_flat f) (well_formed (record_in f)) s) (event_in e) refl)
    where
      go : is_flat f ≡ true → well_formed (record_in f) ≡ true → (r : Option Event) → event_in e ≡ r → ⊥
      go flat w None is = none-when f flat e is n m w h
      go flat w (Some known) is = known-when f flat e known is n m w h (agent.step_of (record_in f) known n m).outcome refl

-- ---- every event keeps well-formed numbers well formed
read-sized : (f : FlatRecord) → SizedFlat f → Sized (record_in f)
unfolding record_in
read-sized f z = record {
  pending = length-firsts (λ i. flag_in (get_or f.pending i 0)) most_components;
  version = z.version;
  entry = z.entry;
  context = z.context;
}

read-components : (f : FlatRecord) → length (record_in f).board.component ≡ most_components
unfolding record_in board_in components_in
read-components f = length-firsts (λ i. component_in (get_or f.board.component i absent_flat)) most_components

-- the numbers of a well-formed record are well formed
pub flat-stands : (r : Record) → length r.board.component ≡ most_components → Sized r → well_formed r ≡ true → flat_stands (flat_of r) ≡ true
flat-stands r components z w = rw (flat-is r components z, record-back r components z, w)

module _ (f : FlatRecord) (z : SizedFlat f) (stands : flat_stands f ≡ true) (e : FlatEvent) (n m : ℕ) where
  known_kept : (known : Event) → event_in e ≡ Some known → flat_stands (step_of f e n m).rec ≡ true
  known_kept known is =
      let flat = and_left (is_flat f) (well_formed (record_in f)) stands in
      let kept = step_kept (record_in f) known n m (and_right (is_flat f) (well_formed (record_in f)) stands) (read-sized f z) in
      let same = step-board (record_in f) known n m in
      let long = ap (λ (b : Board). length b.component) same ∙ read-components f in
      ap flat_stands (record-through f flat e known is n m z) ∙ flat-stands (agent.step_of (record_in f) known n m).rec long kept.1 kept.0

  none_kept : event_in e ≡ None → (step_of f e n m).rec ≡ f
  unfolding step_of kept_with
  none_kept is = rw (and_left (is_flat f) (well_formed (record_in f)) stands, is)

  pub flat-kept : flat_stands (step_of f e n m).rec ≡ true
  flat-kept = go (event_in e) refl
    where
      go : (r : Option Event) → event_in e ≡ r → flat_stands (step_of f e n m).rec ≡ true
      go None is = ap flat_stands (none_kept is) ∙ stands
      go (Some known) is = known_kept known is

-- ---- a board's description that reads gives well-formed numbers
pub fresh-flat : (description : List ℕ) (b : Board) → read_of description ≡ Ok b
    → ((fresh_in description).refusal ≡ 0) × (flat_stands (fresh_in description).rec ≡ true)
unfolding fresh_in fresh_of
fresh-flat description b reads =
    let stands = fresh-stands b (read-stands description b reads) in
    (rw reads, rw reads (flat-stands (fresh_of b) (read-long description b reads) (fresh-sized b) stands))
