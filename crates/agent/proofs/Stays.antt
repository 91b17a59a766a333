-- No event changes the board, nor the powered CPUs where power calls are frozen: move by move; the facts of both power moves say free.
-- Assumes nothing.
use Prim.Native.Nat.{ℕ}
use mathlib.Core.Path.{◌≡◌, refl, ◌∙◌}
use mathlib.Core.List.{List, [], ◌∷◌}
use mathlib.Core.Logic.{◌⊎◌, inl, inr, ⊎_elim}
use Rattle.basics.proofs.Choice.{pick-cases}
use Rattle.board.specs.Description.{most_cpus}
use Rattle.board_record.specs.declared.Record.{Record}
use Rattle.rules.specs.Decide.{decide_of}
use Rattle.rules.specs.declared.Event.{Event}
use Rattle.rules.specs.declared.Move.{Move}
use Rattle.rules.specs.declared.Move.TheVariants as move
use Rattle.rules.proofs.Facts.{Facts}
use Rattle.rules.proofs.Guards.{decide-guard}
use Rattle.rules.proofs.States.{PowerFree}
use Rattle.agent.specs.Perform.{refused_of, accepted_of, informed_of, imaged_of, joined_of, settled_of, withdrawn_of, powered_of, is_done, ended_of, perform_of}
use Rattle.agent.specs.Step.{step_of, stepped, after}

-- the board stays; and so do the powered CPUs, or else power calls are free and the state stays
pub record Stays (r next : Record) : Type 0 where
  pub board : next.board ≡ r.board
  pub powered : (next.on ≡ r.on) ⊎ (PowerFree r.state × (next.state ≡ r.state))

performed-stays : (r : Record) (e : Event) (m : Move) → Facts r e m → Stays r (perform_of r m).rec
unfolding refused_of accepted_of informed_of imaged_of joined_of settled_of withdrawn_of powered_of ended_of
performed-stays r e (move.Refuse x) g = record { board = refl; powered = inl refl }
performed-stays r e (move.Return x) g = record { board = refl; powered = inl refl }
performed-stays r e move.NoteInfo g = record { board = refl; powered = inl refl }
performed-stays r e (move.StartPrime a) g = record { board = refl; powered = inl refl }
performed-stays r e (move.Gather a) g = record { board = refl; powered = inl refl }
performed-stays r e (move.StartTogether a) g = record { board = refl; powered = inl refl }
performed-stays r e (move.StartAlone a) g = record { board = refl; powered = inl refl }
performed-stays r e move.ToIdle g = record { board = refl; powered = inl refl }
performed-stays r e (move.Withdraw id) g = record { board = refl; powered = inl refl }
performed-stays r e (move.PowerOff cpu) g = record { board = refl; powered = inr (g.power, refl) }
performed-stays r e (move.PowerOn x) g = record { board = refl; powered = inr (g.power, refl) }
performed-stays r e (move.EndPrime p) g = record { board = refl; powered = inl refl }
performed-stays r e move.EndWithdrawn g = record { board = refl; powered = inl refl }
performed-stays r e (move.EndActivate p) g =
    pick-cases (Stays r) (is_done p.code) _ _ (λ t. record { board = refl; powered = inl refl }) (λ t. record { board = refl; powered = inl refl })
performed-stays r e (move.NoteImage i) g = record { board = refl; powered = inl refl }

module _ (r : Record) (e : Event) (entries contexts : ℕ) where
  pub step_stays : Stays r (step_of r e entries contexts).rec
  unfolding step_of
  step_stays = performed-stays r e (decide_of r e entries contexts) (decide-guard r e entries contexts)

  pub step-board : (step_of r e entries contexts).rec.board ≡ r.board
  step-board = step_stays.board

  -- Arm, 1.1.1: the active CPUs stay the same while a component is activated, with rendezvous or without
  pub frozen-stays : (PowerFree r.state → ⊥) → (step_of r e entries contexts).rec.on ≡ r.on
  frozen-stays h = ⊎_elim (λ q. q) (λ l. absurd (h l.0)) step_stays.powered

pub after-board : (es : List Event) (r : Record) → (after r es).board ≡ r.board
after-board [] r = refl
after-board (e ∷ es) r = after-board es (stepped r e).rec ∙ step-board r e most_cpus most_cpus
