-- The reason and the agent's answer agree: on the tests that `try_activate_of` and the rows share, by cases (`tried`); then state by
-- state (`activated`); and of an accepted call, since the agent's rules lead to ACTIVATE's (`accepted-fits`). Assumes nothing.
use Rattle.std.specs.Prelude.{None, Ok, Option, Some}
use Prim.Native.Nat.{ℕ}
use mathlib.Core.Path.{◌≡◌, refl, sym, ap, subst, ◌∙◌}
use mathlib.Core.Bool.{Bool, true, false, not, ◌&&◌}
use mathlib.Core.List.{[], ◌∷◌, ◌++◌}
use lib.Dec.{eqb, leb, ltb}
use Rattle.basics.specs.Choice.{pick, never}
use Rattle.basics.specs.First.{first_in}
use Rattle.cpuset.specs.Set.{has_of, with_of, same_of}
use Rattle.cpuset.specs.declared.CpuSet.{CpuSet}
use Rattle.board.specs.Description.{most_cpus, numbered_of, may_reset_at, entry_right}
use Rattle.board_record.specs.Record.{subject_number, is_for, is_gathering, is_alone, skips_rendezvous}
use Rattle.board_record.specs.WellFormed.{well_formed}
use Rattle.board_record.specs.declared.Record.{Record}
use Rattle.board_record.specs.declared.State.{State}
use Rattle.board_record.specs.declared.State.TheVariants.{Idle, Preparing, HalfPrepared, Ready, Gathering, Together, Alone, HalfActivated, Dead, Withdrawn}
use Rattle.rules.specs.Calls.{returned, says, arrival_of, skip_right, fields_right, join_of, try_activate_of, activate_by, activate_of, answer_of, call_of as call_rules}
use Rattle.rules.specs.Decide.{decide_of}
use Rattle.rules.specs.Numbers.{decode_of}
use Rattle.rules.specs.Table.{rule_of}
use Rattle.rules.specs.declared.Arrival.{Arrival}
use Rattle.rules.specs.declared.Event.TheVariants as event
use Rattle.rules.specs.declared.Move.{Move}
use Rattle.rules.specs.declared.Move.TheVariants.{Refuse, StartTogether, StartAlone, Gather}
use Rattle.rules.specs.declared.Refusal.TheVariants.{NotWellFormed, TableShort, NoSuchCpu, CpuOff, CpuHeld}
use Rattle.agent.specs.Perform.{refused_of, accepted_of, joined_of, perform_of}
use Rattle.agent.specs.Step.{step_of}
use Rattle.agent.specs.declared.Answer.{Answer}
use Rattle.trace.specs.Run.{started_in}
use Rattle.reason.specs.Reason.{call_of, missing_of, state_rows, ask_rows, skip_rows, answer_rows, join_rows, reason_of}
use Rattle.reason.specs.Explained.{outcome_at}
use Rattle.reason.specs.Numbers.{number_of, answer_for}
use Rattle.reason.specs.declared.Activate.{Activate}
use Rattle.reason.specs.declared.Reason.{Reason}
use Rattle.reason.specs.declared.Reason.TheVariants.{HalfPrepared, OtherComponent, OtherFlags, NotOptional, SkipInGathering, NoSkip, BadEntry, BeingActivated, Skipped, Held, AllPresent}

-- only "all present" is the start of a rendezvous activation
abbrev pub started_by : Reason → ℕ → Option ℕ
started_by x c = pick (eqb (number_of x) (number_of AllPresent)) (Some c) None

module _ (r : Record) (a : Activate) where
  -- a move does what a reason names
  pub record Fits (m : Move) (x : Reason) : Type 0 where
    pub outcome : (perform_of r m).outcome ≡ Ok (answer_for x)
    pub starts : started_in (perform_of r m).outcome (perform_of r m).rec.state ≡ started_by x a.x1

  -- on the tests that the rules and the rows share
  by_tests : (mine over skip optional gathering begun entry alone all : Bool) (c : ℕ) (s : CpuSet) (first joins : Arrival) → joins.component ≡ a.x1
      → Fits
      (pick (mine && pick over false (pick skip (pick gathering false optional) (not begun)))
      (pick entry (pick alone (says 2) (pick skip (StartAlone first) (pick all (StartTogether joins) (Gather joins)))) (says 10))
      (says 8))
      (first_in AllPresent
      ((OtherComponent c, not mine)
      ∷ (OtherFlags, over)
      ∷ (NotOptional, skip && not optional)
      ∷ (SkipInGathering, skip && gathering)
      ∷ (NoSkip, not skip && begun)
      ∷ (BadEntry, not entry)
      ∷ (BeingActivated c, alone)
      ∷ (Skipped, skip)
      ∷ (Held s, not all)
      ∷ (AllPresent, true)
      ∷ []))
  unfolding returned accepted_of joined_of
  by_tests false over skip optional gathering begun entry alone all c s first joins q = record { outcome = refl; starts = refl }
  by_tests true true skip optional gathering begun entry alone all c s first joins q = record { outcome = refl; starts = refl }
  by_tests true false true false true begun entry alone all c s first joins q = record { outcome = refl; starts = refl }
  by_tests true false true false false begun entry alone all c s first joins q = record { outcome = refl; starts = refl }
  by_tests true false true true true begun entry alone all c s first joins q = record { outcome = refl; starts = refl }
  by_tests true false true true false begun false alone all c s first joins q = record { outcome = refl; starts = refl }
  by_tests true false true true false begun true true all c s first joins q = record { outcome = refl; starts = refl }
  by_tests true false true true false begun true false all c s first joins q = record { outcome = refl; starts = refl }
  by_tests true false false optional gathering true entry alone all c s first joins q = record { outcome = refl; starts = refl }
  by_tests true false false optional gathering false false alone all c s first joins q = record { outcome = refl; starts = refl }
  by_tests true false false optional gathering false true true all c s first joins q = record { outcome = refl; starts = refl }
  by_tests true false false optional gathering false true false true c s first joins q = record { outcome = refl; starts = ap Some q }
  by_tests true false false optional gathering false true false false c s first joins q = record { outcome = refl; starts = refl }

  tried : Fits (try_activate_of r (call_of a)) (first_in AllPresent (ask_rows r a ++ (skip_rows r a ++ (answer_rows r a ++ join_rows r a))))
  unfolding try_activate_of fields_right skip_right join_of arrival_of call_of
  tried =
      by_tests (is_for r.state a.x1) (ltb 1 a.x2) (eqb a.x2 1) (numbered_of r.board a.x1).optional (is_gathering r.state)
      (skips_rendezvous r.state) (entry_right r.board a.x1 a.x3) (is_alone r.state) (same_of (with_of r.held a.cpu) r.on)
      (subject_number r.state) (missing_of r a.cpu) (arrival_of (call_of a) false) (arrival_of (call_of a) (may_reset_at r.board a.x1)) refl

  -- in each state; in together no caller exists
  activated : (s : State) (w : Answer) → (perform_of r (activate_by (rule_of s).activate r (call_of a))).outcome ≡ Ok w
      → Fits (activate_by (rule_of s).activate r (call_of a)) (first_in AllPresent (state_rows s ++ (ask_rows r a ++ (skip_rows r a ++ (answer_rows r a ++ join_rows r a)))))
  unfolding returned accepted_of refused_of
  activated Idle w h = record { outcome = refl; starts = refl }
  activated (Preparing c) w h = record { outcome = refl; starts = refl }
  activated (HalfPrepared c) w h = record { outcome = refl; starts = refl }
  activated (Ready c) w h = tried
  activated (Gathering c) w h = tried
  activated (Together c) w h = never cc
  activated (Alone c) w h = tried
  activated (HalfActivated c) w h = tried
  activated Dead w h = record { outcome = refl; starts = refl }
  activated (Withdrawn c) w h = record { outcome = refl; starts = refl }

  -- an accepted call's rules are its function's
  let-in : (stands short-1 short-2 absent on held : Bool) (m : Move) (w : Answer)
      → (perform_of r (pick stands (pick short-1 (Refuse TableShort) (pick short-2 (Refuse TableShort) (pick absent (Refuse NoSuchCpu) (pick on (pick held (Refuse CpuHeld) m) (Refuse CpuOff))))) (Refuse NotWellFormed))).outcome ≡ Ok w
      → pick stands (pick short-1 (Refuse TableShort) (pick short-2 (Refuse TableShort) (pick absent (Refuse NoSuchCpu) (pick on (pick held (Refuse CpuHeld) m) (Refuse CpuOff))))) (Refuse NotWellFormed) ≡ m
  unfolding refused_of
  let-in false short-1 short-2 absent on held m w h = never cc
  let-in true true short-2 absent on held m w h = never cc
  let-in true false true absent on held m w h = never cc
  let-in true false false true on held m w h = never cc
  let-in true false false false false held m w h = never cc
  let-in true false false false true true m w h = never cc
  let-in true false false false true false m w h = refl

  decided : (w : Answer) → outcome_at r a ≡ Ok w → decide_of r (event.Call (call_of a)) most_cpus most_cpus ≡ activate_of r (call_of a)
  unfolding step_of decide_of call_rules answer_of decode_of call_of
  decided w h =
      let-in (well_formed r) (ltb most_cpus r.board.cpus) (ltb most_cpus r.board.cpus) (leb r.board.cpus a.cpu) (has_of r.on a.cpu) (has_of r.held a.cpu) (activate_of r (call_of a)) w h

  pub accepted-fits : (w : Answer) → outcome_at r a ≡ Ok w → Fits (decide_of r (event.Call (call_of a)) most_cpus most_cpus) (reason_of r a)
  unfolding step_of reason_of
  accepted-fits w h =
      let d = decided w h in
      subst (λ (m : Move). Fits m (reason_of r a)) (sym d) (activated r.state w (sym (ap (λ (m : Move). (perform_of r m).outcome) d) ∙ h))
