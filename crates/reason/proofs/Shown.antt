-- The theorem page (specs/Shown.antt): the rows' reasons are told apart by their numbers (`apart`), the agent's answer is the reason's
-- (Answered.antt), the missing are told by membership, and of own logs the walk is the run (history's Own.antt). Assumes nothing.
use Rattle.std.specs.Prelude.{Err, None, Ok, Result, Some}
use Prim.Native.Nat.{ℕ, ◌<◌, ◌≤◌}
use mathlib.Core.Path.{◌≡◌, refl, sym, ap, subst, ◌∙◌}
use mathlib.Core.Bool.{Bool, true, false, not}
use mathlib.Core.List.{List, [], ◌∷◌, ◌++◌, map}
use mathlib.Core.Logic.{◌↔◌}
use native.Mathlib.Omega.{arith}
use lib.Dec.{eqb, leb}
use lib.ListN.{length, get_or, get_or-map}
use borrow.Author.Tests.{eqb-true, eqb-false, eq-eqb, not-true}
use Rattle.basics.specs.Choice.{pick, refuted, not-both, both, never}
use Rattle.basics.specs.Every.{all_below, all-at}
use Rattle.basics.specs.First.{first_of, IsFirst}
use Rattle.basics.proofs.First.{first-given, first-known}
use Rattle.cpuset.specs.Set.{has_of, none_of, without_of, less_of, same_of}
use Rattle.cpuset.specs.Laws.{has-less, set-less, set-without, some-has, without-self, without_other}
use Rattle.cpuset.specs.declared.CpuSet.{CpuSet}
use Rattle.board.specs.Packed.{read_of}
use Rattle.board.specs.declared.Board.{Board}
use Rattle.board_record.specs.WellFormed.{well_formed}
use Rattle.board_record.specs.declared.Record.{Record}
use Rattle.board_record.proofs.Clauses.{told, on-set, held_on}
use Rattle.log_book.specs.Log.{most_records, log_bytes}
use Rattle.rules.specs.Moves.{rows_for}
use Rattle.rules.specs.declared.Event.{Event}
use Rattle.rules.specs.declared.Event.TheVariants as event
use Rattle.rules.specs.declared.Refusal.{Refusal}
use Rattle.rules.specs.Statuses.{number_of as call_number}
use Rattle.rules.proofs.Moves.{number-some}
use Rattle.agent.specs.Numbers.{refused_with, accepted_with}
use Rattle.agent.specs.Step.{step_of, stepped}
use Rattle.agent.specs.declared.Answer.{Answer}
use Rattle.reader.specs.Starts.{starts_at, powered_at, held_at}
use Rattle.trace.specs.Run.{run, log_of, AllTyped, started_in, agent_starts}
use Rattle.trace.specs.Steady.{SomeCpu}
use Rattle.trace.proofs.Agreed.{all-present}
use Rattle.trace.proofs.Demand.{demand-3}
use Rattle.history.specs.Walk.{walked_of}
use Rattle.history.specs.declared.Walked.{Walked}
use Rattle.history.proofs.Kept.{walked-kept}
use Rattle.history.proofs.Own.{own-walked}
use Rattle.reason.specs.Reason.{call_of, missing_of, Rule, reason_rows, reason_of}
use Rattle.reason.specs.Explained.{called_by, outcome_at, called_of, explained_by, explained_of}
use Rattle.reason.specs.Numbers.{number_of, answer_for}
use Rattle.reason.specs.Shown.{IsAsked, past, IsMissing, Shown, Own}
use Rattle.reason.specs.declared.Activate.{Activate}
use Rattle.reason.specs.declared.Reason.{Reason}
use Rattle.reason.specs.declared.Reason.TheVariants.{Held, AllPresent}
use Rattle.reason.proofs.Answered.{started_by, accepted-fits}
use Rattle.reason.proofs.Numbers.{outcome-number}
use Rattle.history.specs.declared.Stop.TheVariants as stop
use Rattle.reason.specs.declared.Unexplained.TheVariants as unexplained
use Rattle.history.specs.declared.Stop.{Stop}

-- ---- the reasons of two rules are never the same: their numbers differ, by one test over all pairs of rows
key_of : Rule → ℕ
key_of x = number_of x.0

-- the rows of the last two rules: somebody is missing, and nobody is
abbrev held_row : ℕ
held_row = 13

abbrev present_row : ℕ
present_row = 14

module _ (r : Record) (a : Activate) where
  abbrev rows : List Rule
  rows = reason_rows r a

  abbrev keys : List ℕ
  keys = map key_of rows

  told-apart : all_below (length rows) (λ i. all_below (length rows) (λ j. pick (eqb (get_or keys i (key_of past)) (get_or keys j (key_of past))) (eqb i j) true)) ≡ true
  unfolding all_below key_of
  told-apart = refl

  key-at : (i : ℕ) → get_or keys i (key_of past) ≡ number_of (get_or rows i past).0
  unfolding key_of
  key-at i = get_or-map key_of rows i past

  apart : (i j : ℕ) → i < length rows → j < length rows → number_of (get_or rows i past).0 ≡ number_of (get_or rows j past).0 → i ≡ j
  apart i j k l q =
      let t = all-at (length rows) _ (all-at (length rows) _ told-apart i k) j l in
      eqb-true i j (rw (eq-eqb (get_or keys i (key_of past)) (get_or keys j (key_of past)) (key-at i ∙ q ∙ sym (key-at j))) at t)

  -- which rule gave the reason
  rule-of : (i : ℕ) → i < length rows → number_of (reason_of r a) ≡ number_of (get_or rows i past).0 → IsFirst past rows i
  unfolding reason_of
  rule-of i l e = first-known past number_of AllPresent rows apart present_row (omega arith) refl i l e

  -- ---- what is given where a reason is
  record Given (e : Result Unit Stop) (x : Reason) : Type 0 where
    agrees : e ≡ Ok tt
    answer : Answer
    accepted : outcome_at r a ≡ Ok answer
    reason : reason_of r a ≡ x

  given_by : (x : Reason) (o : Result Answer Refusal) → outcome_at r a ≡ o → called_by o (reason_of r a) ≡ Ok x → Given (Ok tt) x
  given_by x (Err y) q h = never cc
  given_by x (Ok w) q h = record { agrees = refl; answer = w; accepted = q; reason = cc }

  given : (x : Reason) (e : Result Unit Stop) → explained_by e r a ≡ Ok x → Given e x
  unfolding called_of
  given x (Ok tt) h = given_by x (outcome_at r a) refl h
  given x (Err (stop.Departs d)) h = never cc
  given x (Err (stop.Board y)) h = never cc
  given x (Err (stop.Log f)) h = never cc

  refused-by : (x : Refusal) (o : Result Answer Refusal) → outcome_at r a ≡ o → called_by o (reason_of r a) ≡ Err (unexplained.Call x) → outcome_at r a ≡ Err x
  refused-by x (Err y) q h = q ∙ cc
  refused-by x (Ok w) q h = never cc

  refused : (x : Refusal) (e : Result Unit Stop) → explained_by e r a ≡ Err (unexplained.Call x) → outcome_at r a ≡ Err x
  unfolding called_of
  refused x (Ok tt) h = refused-by x (outcome_at r a) refl h
  refused x (Err (stop.Departs d)) h = never cc
  refused x (Err (stop.Board y)) h = never cc
  refused x (Err (stop.Log f)) h = never cc

  -- and it is given where no refusal is
  taken : well_formed r ≡ true → first_of (rows_for r (event.Call (call_of a))) ≡ 0 → (o : Result Answer Refusal) → outcome_at r a ≡ o → (x : Reason) → called_by o x ≡ Ok x
  unfolding refused_with
  taken w z (Err y) q x = absurd (eqb-false (call_number y) 0 (number-some y) (outcome-number r w a (Err y) q ∙ z))
  taken w z (Ok t) q x = refl

  -- ---- the agent's answer
  answered : (x : Reason) (e : Result Unit Stop) → Given e x → outcome_at r a ≡ Ok (answer_for x)
  unfolding step_of
  answered x e g = (accepted-fits r a g.answer g.accepted).outcome ∙ ap (λ (y : Reason). Ok (answer_for y)) g.reason

  -- ---- the missing
  held-rule : (s : CpuSet) → reason_of r a ≡ Held s → IsFirst past rows held_row
  held-rule s q = rule-of held_row (omega arith) (ap number_of q)

  held-set : (s : CpuSet) → reason_of r a ≡ Held s → s ≡ missing_of r a.cpu
  unfolding reason_of
  held-set s q = let h = first-given past AllPresent rows held_row (held-rule s q) in cc

  is-missing : (cpu : ℕ) → has_of (missing_of r a.cpu) cpu ≡ true ↔ IsMissing r a cpu
  unfolding missing_of
  is-missing cpu = (to, from)
    where
      to : has_of (less_of (without_of r.on a.cpu) r.held) cpu ≡ true → IsMissing r a cpu
      to h =
          let t = both (has_of (without_of r.on a.cpu) cpu) (not (has_of r.held cpu)) (sym (has-less (without_of r.on a.cpu) r.held cpu) ∙ h) in
          let other : cpu ≡ a.cpu → ⊥ = λ q. not-both t.0 (ap (has_of (without_of r.on a.cpu)) q ∙ without-self r.on a.cpu) in
          record { powered = sym (without_other r.on a.cpu cpu other) ∙ t.0; not_held = not-true (has_of r.held cpu) t.1; not_caller = other }

      from : IsMissing r a cpu → has_of (less_of (without_of r.on a.cpu) r.held) cpu ≡ true
      from m = rw (has-less, without_other r.on a.cpu cpu m.not_caller, m.powered, m.not_held)

  -- the caller is powered, so were nobody missing, all would be present
  caller-on : first_of (rows_for r (event.Call (call_of a))) ≡ 0 → has_of r.on a.cpu ≡ true
  unfolding call_of
  caller-on z = go (leb r.board.cpus a.cpu) (has_of r.on a.cpu) z
    where
      go : (absent on : Bool) → first_of ((2, absent) ∷ (3, not on) ∷ (4, has_of r.held a.cpu) ∷ []) ≡ 0 → on ≡ true
      go true on q = absurd (omega (arith, q))
      go false true q = refl
      go false false q = absurd (omega (arith, q))

  somebody : well_formed r ≡ true → has_of r.on a.cpu ≡ true → (s : CpuSet) → reason_of r a ≡ Held s → SomeCpu (λ cpu. has_of s cpu ≡ true)
  unfolding missing_of
  somebody w p s q =
      let on = on-set r (told r w) in
      let someone : same_of (missing_of r a.cpu) none_of ≡ false =
      refuted _ (λ e. not-both (all-present r.on r.held a.cpu on (held_on r (told r w)) p e) (not-true _ (held-rule s q).applies)) in
      let m = some-has (missing_of r a.cpu) (set-less (without_of r.on a.cpu) r.held (set-without r.on a.cpu on)) someone in
      record { cpu = m.at; so = ap (λ (t : CpuSet). has_of t m.at) (held-set s q) ∙ m.has }

  -- ---- all present: where the agent starts a rendezvous activation, it is of X1, and this is the reason
  starting : (w : Answer) → outcome_at r a ≡ Ok w → agent_starts r (call_of a) ≡ started_by (reason_of r a) a.x1
  unfolding agent_starts step_of
  starting w q = (accepted-fits r a w q).starts

  present-by : (c : ℕ) (t : Bool) → eqb (number_of (reason_of r a)) (number_of AllPresent) ≡ t → pick t (Some a.x1) None ≡ Some c → (reason_of r a ≡ AllPresent) × (c ≡ a.x1)
  unfolding reason_of
  present-by c false e q = never cc
  present-by c true e q = (first-given past AllPresent rows present_row (rule-of present_row (omega arith) (eqb-true (number_of (reason_of r a)) (number_of AllPresent) e)), cc)

  started : (c : ℕ) (o : Result Answer Refusal) → outcome_at r a ≡ o → agent_starts r (call_of a) ≡ Some c → (called_by o (reason_of r a) ≡ Ok AllPresent) × (c ≡ a.x1)
  unfolding agent_starts
  started c (Err x) q s = let n = sym s ∙ ap (λ (y : Result Answer Refusal). started_in y (stepped r (event.Call (call_of a))).rec.state) q in never cc
  started c (Ok w) q s =
      let p = present-by c (eqb (number_of (reason_of r a)) (number_of AllPresent)) refl (sym (starting w q) ∙ s) in (ap Ok p.0, p.1)

-- ---- for any bytes, place and call
module _ (board log : List ℕ) (place : ℕ) (a : Activate) where
  abbrev w : Walked
  w = walked_of board log place

  abbrev r : Record
  r = w.rec

  gave : (x : Reason) → explained_of board log place a ≡ Ok x → Given r a w.ended x
  unfolding explained_of
  gave x h = given r a x w.ended h

  module _ (x : Reason) (g : Given r a w.ended x) where
    stands : well_formed r ≡ true
    stands = (walked-kept board log place g.agrees).0

    unrefused : first_of (rows_for r (event.Call (call_of a))) ≡ 0
    unfolding accepted_with
    unrefused = sym (outcome-number r stands a (Ok g.answer) g.accepted)

  comes : (i : ℕ) → i < length (rows r a) → Given r a w.ended (get_or (rows r a) i past).0 → IsAsked board log place a × IsFirst past (rows r a) i
  comes i l g = (record { agrees = g.agrees; caller = unrefused _ g }, rule-of r a i l (ap number_of g.reason))

  made : (i : ℕ) → IsAsked board log place a → IsFirst past (rows r a) i → explained_of board log place a ≡ Ok (get_or (rows r a) i past).0
  unfolding explained_of called_of reason_of
  made i q f =
      ap (λ (e : Result Unit Stop). explained_by e r a) q.agrees
      ∙ taken r a (walked-kept board log place q.agrees).0 q.caller (outcome_at r a) refl (reason_of r a)
      ∙ ap Ok (first-given past AllPresent (rows r a) i f)

  not-called : (x : Refusal) → explained_of board log place a ≡ Err (unexplained.Call x) → outcome_at r a ≡ Err x
  unfolding explained_of
  not-called x h = refused r a x w.ended h

  pub shown : Shown board log place a
  shown = record {
    exactly = λ i l. (λ h. comes i l (gave _ h), λ f. made i f.0 f.1);
    answer = λ x h. answered r a x w.ended (gave x h);
    refused = not-called;
    missing = λ s h cpu. subst (λ (t : CpuSet). has_of t cpu ≡ true ↔ IsMissing r a cpu) (sym (held-set r a s (gave (Held s) h).reason)) (is-missing r a cpu);
    somebody = λ s h. let g = gave (Held s) h in somebody r a (stands _ g) (caller-on r a (unrefused _ g)) s g.reason;
  }

-- ---- of the agent's own logs
module _ (description : List ℕ) (b : Board) (reads : read_of description ≡ Ok b) (es more : List Event) (a : Activate)
    (typed : AllTyped (es ++ more)) (few : length (log_of b (es ++ more)) ≤ most_records) where
  abbrev log : List ℕ
  log = log_bytes (log_of b (es ++ more))

  abbrev place : ℕ
  place = length (log_of b es)

  abbrev own : Record
  own = run b es

  own-explained : explained_of description log place a ≡ called_of own a
  unfolding explained_of
  own-explained = ap (λ (x : Walked). explained_by x.ended x.rec a) (own-walked description b reads es more typed few)

  own-given : (x : Reason) → explained_of description log place a ≡ Ok x → Given own a (Ok tt) x
  unfolding called_of
  own-given x h = given own a x (Ok tt) (sym own-explained ∙ h)

  reader-says : starts_at description log place (call_of a) ≡ Ok (agent_starts own (call_of a))
  reader-says = (demand-3 description b reads).agree_at es more typed few (call_of a)

  says-start : (c : ℕ) → starts_at description log place (call_of a) ≡ Ok (Some c) → agent_starts own (call_of a) ≡ Some c
  says-start c q = let same = sym reader-says ∙ q in cc

  own-started : (c : ℕ) → starts_at description log place (call_of a) ≡ Ok (Some c) → (explained_of description log place a ≡ Ok AllPresent) × (c ≡ a.x1)
  unfolding called_of
  own-started c q = let s = started own a c (outcome_at own a) refl (says-start c q) in (own-explained ∙ s.0, s.1)

  own-present : explained_of description log place a ≡ Ok AllPresent → starts_at description log place (call_of a) ≡ Ok (Some a.x1)
  own-present h =
      let g = own-given AllPresent h in
      reader-says ∙ ap Ok (starting own a g.answer g.accepted ∙ ap (λ (x : Reason). started_by x a.x1) g.reason)

  own-missing : (s on held : CpuSet) → explained_of description log place a ≡ Ok (Held s) → powered_at log place ≡ Ok on → held_at log place ≡ Ok held
      → s ≡ less_of (without_of on a.cpu) held
  unfolding missing_of
  own-missing s on held h p q =
      let d = demand-3 description b reads in
      let same-on : own.on ≡ on = let e = sym (d.powered es more typed few) ∙ p in cc in
      let same-held : own.held ≡ held = let e = sym (d.held es more typed few) ∙ q in cc in
      held-set own a s (own-given (Held s) h).reason ∙ rw (same-on, same-held)

pub own-shown : (description : List ℕ) (b : Board) → read_of description ≡ Ok b → Own description b
own-shown description b reads = record {
  explained = λ es more o a. own-explained description b reads es more a o.typed o.few;
  missing = λ es more o a. own-missing description b reads es more a o.typed o.few;
  present = λ es more o a. (
    own-present description b reads es more a o.typed o.few,
    λ q. (own-started description b reads es more a o.typed o.few a.x1 q).0,
  );
  starts = λ es more o a c q. (own-started description b reads es more a o.typed o.few c q).1;
}
