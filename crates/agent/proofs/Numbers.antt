-- What an event answers in document 01's numbers: move by move what the move's own numbers say, and these go by the table. Assumes nothing.
use Rattle.std.specs.Prelude.{Err, Ok, Result}
use Prim.Native.Nat.{ℕ}
use mathlib.Core.Path.{◌≡◌, refl, sym, ◌∙◌}
use mathlib.Core.Bool.{Bool, true, false}
use lib.Dec.{eqb}
use borrow.Author.Tests.{eqb-false, ne_eqb}
use Rattle.basics.specs.Choice.{pick}
use Rattle.basics.specs.Every.{one_of}
use Rattle.basics.specs.Order.{eq-cases}
use Rattle.codes.specs.Codes.{by_reset}
use Rattle.codes.specs.Outcomes.{released, call_outcomes}
use Rattle.cpuset.specs.declared.CpuSet.{CpuSet}
use Rattle.board_record.specs.declared.Record.{Record}
use Rattle.rules.specs.Statuses.{minus_of, number_of}
use Rattle.rules.specs.Decide.{decide_of}
use Rattle.rules.specs.Moves as moves
use Rattle.rules.specs.Moves.{told_as, status_of, activate_status, again_of, numbers_of}
use Rattle.rules.specs.declared.Event.{Event}
use Rattle.rules.specs.declared.Move.{Move}
use Rattle.rules.specs.declared.Move.TheVariants as move
use Rattle.rules.proofs.Facts.{Facts}
use Rattle.rules.proofs.Guards.{decide-guard}
use Rattle.rules.proofs.Moves.{number-some, decided}
use Rattle.rules.proofs.States.{priming-is}
use Rattle.agent.specs.Perform.{refused_of, accepted_of, freed_of, reported_of, released_of, perform_of}
use Rattle.agent.specs.Step.{step_of}
use Rattle.agent.specs.Numbers.{with_status, freed_by, Said, refused_with, accepted_with, said_of, released_with, release_for, Parts, Answers}
use Rattle.agent.specs.declared.Caller.TheVariants as caller
use Rattle.agent.specs.declared.Release.TheVariants as release
use Rattle.agent.specs.declared.Answer.{Answer}
use Rattle.rules.specs.declared.Refusal.{Refusal}

-- ---- what a move answers is what its own numbers say: its refusal, its outcome where that is a call's, and X0 that is given
pub record Agrees (s : Said) (m : moves.Numbers) : Type 0 where
  pub refusal : s.refusal ≡ m.refusal
  pub caller : s.caller ≡ pick (one_of m.outcome call_outcomes) m.outcome 0
  pub given : m.given ≡ pick (eqb m.outcome released) s.freed.x0 s.returned.x0

reported-status : (held : CpuSet) (code : ℕ) → status_of code ≡ (freed_by (reported_of held code)).x0
unfolding status_of reported_of
reported-status held code = go (eqb code 1)
  where
    go : (again : Bool) → pick again 0 (minus_of code) ≡ (freed_by (pick again (freed_of held 0 1) (freed_of held (minus_of code) 0))).x0
    go true = refl
    go false = refl

released-status : (held : CpuSet) (code : ℕ) → activate_status code ≡ (freed_by (released_of held code)).x0
unfolding activate_status released_of
released-status held code = go (eqb code by_reset)
  where
    go : (reset : Bool) → pick reset 0 (status_of code) ≡ (freed_by (pick reset (release.Resumed held) (reported_of held code))).x0
    go true = refl
    go false = reported-status held code

pub performed-says : (r : Record) (m : Move) → Agrees (said_of (perform_of r m).outcome) (numbers_of m)
unfolding refused_of accepted_of refused_with accepted_with moves.refused_with told_as
performed-says r (move.Refuse x) = record { refusal = refl; caller = refl; given = refl }
performed-says r (move.Return x) = record { refusal = refl; caller = refl; given = refl }
performed-says r move.NoteInfo = record { refusal = refl; caller = refl; given = refl }
performed-says r (move.StartPrime a) = record { refusal = refl; caller = refl; given = refl }
performed-says r (move.Gather a) = record { refusal = refl; caller = refl; given = refl }
performed-says r (move.StartTogether a) = record { refusal = refl; caller = refl; given = refl }
performed-says r (move.StartAlone a) = record { refusal = refl; caller = refl; given = refl }
performed-says r move.ToIdle = record { refusal = refl; caller = refl; given = refl }
performed-says r (move.Withdraw id) = record { refusal = refl; caller = refl; given = refl }
performed-says r (move.PowerOff cpu) = record { refusal = refl; caller = refl; given = refl }
performed-says r (move.PowerOn w) = record { refusal = refl; caller = refl; given = refl }
performed-says r (move.EndPrime p) = record { refusal = refl; caller = refl; given = reported-status r.held p.code }
performed-says r move.EndWithdrawn = record { refusal = refl; caller = refl; given = refl }
performed-says r (move.EndActivate p) = record { refusal = refl; caller = refl; given = released-status r.held p.code }
performed-says r (move.NoteImage i) = record { refusal = refl; caller = refl; given = refl }

-- ---- what is accepted has its parts

prime-said : (held : CpuSet) (code : ℕ) → said_of (Ok (record { caller = caller.Nothing; release = reported_of held code })) ≡ released_with with_status held (status_of code) (again_of code)
unfolding status_of reported_of accepted_with released_with
prime-said held code = go (eqb code 1)
  where
    go : (again : Bool) → accepted_with (record { caller = caller.Nothing; release = pick again (freed_of held 0 1) (freed_of held (minus_of code) 0) }) ≡ released_with with_status held (pick again 0 (minus_of code)) (pick again 1 0)
    go true = refl
    go false = refl

activate-said : (held : CpuSet) (code : ℕ) → said_of (Ok (record { caller = caller.Nothing; release = released_of held code })) ≡ released_with (release_for code) held (activate_status code) (again_of code)
unfolding activate_status released_of accepted_with released_with
activate-said held code = eq-cases code by_reset (λ q. rw q) (λ d. rw (ne_eqb code by_reset d) (prime-said held code))

parts_said : (r : Record) (e : Event) (m : Move) → Facts r e m → (numbers_of m).refusal ≡ 0 → Parts r e (said_of (perform_of r m).outcome)
unfolding accepted_of accepted_with released_with moves.refused_with
parts_said r e (move.Refuse x) g z = absurd (eqb-false (number_of x) 0 (number-some x) z)
parts_said r e (move.Return x) g z = rw g.by.event
parts_said r e move.NoteInfo g z = rw g.by.event
parts_said r e (move.StartPrime a) g z = rw g.by.event
parts_said r e (move.Gather a) g z = rw g.by.event
parts_said r e (move.StartTogether a) g z = rw g.by.event
parts_said r e (move.StartAlone a) g z = rw g.by.event
parts_said r e move.ToIdle g z = rw g.by.event
parts_said r e (move.Withdraw id) g z = rw g.by.event
parts_said r e (move.PowerOff cpu) g z = rw g.by.event
parts_said r e (move.PowerOn w) g z = rw g.by.event
parts_said r e (move.EndPrime p) g z = rw (g.event, priming-is g.running) (prime-said r.held p.code)
parts_said r e move.EndWithdrawn g z = rw (g.event, priming-is g.running)
parts_said r e (move.EndActivate p) g z = rw g.event (activate-said r.held p.code)
parts_said r e (move.NoteImage i) g z = rw g.event

refused-only : (o : Result Answer Refusal) → ((said_of o).refusal ≡ 0 → ⊥) → said_of o ≡ refused_with (said_of o).refusal
unfolding refused_with accepted_with
refused-only (Err x) d = refl
refused-only (Ok a) d = absurd (d refl)

pub step-answers : (r : Record) (e : Event) (entries contexts : ℕ) → Answers r e entries contexts (said_of (step_of r e entries contexts).outcome)
unfolding step_of
step-answers r e entries contexts =
    let m = decide_of r e entries contexts in
    let a = performed-says r m in
    let d = decided r e entries contexts m refl in
    record {
      refusal = a.refusal ∙ d.refusal;
      nothing = refused-only (perform_of r m).outcome;
      parts = λ z. parts_said r e m (decide-guard r e entries contexts) (sym a.refusal ∙ z);
    }
