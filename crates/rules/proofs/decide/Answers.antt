-- Going on from an admission is what is decided; the numbers follow from that (`decided`).
use Rattle.std.specs.Prelude.{Err, Ok, Result}
use Prim.Native.Nat.{ℕ}
use mathlib.Core.Path.{◌≡◌, refl, sym, ◌∙◌}
use Rattle.basics.specs.Choice.{and_so}
use Rattle.board_record.specs.declared.Record.{Record}
use Rattle.rules.specs.Decide.{admission_of, event_of, decide_of}
use Rattle.rules.specs.Moves.{numbers_of, Decided}
use Rattle.rules.specs.declared.Event.{Event}
use Rattle.rules.specs.declared.Move.{Move}
use Rattle.rules.specs.declared.Move.TheVariants.{Refuse}
use Rattle.rules.proofs.Admitted.{onward, goes_on}
use Rattle.rules.proofs.Moves.{decided}
use Rattle.rules.proofs.decide.Goals as goal
use Rattle.rules.specs.declared.Refusal.{Refusal}

decided-by : (r : Record) (e : Event) (entries contexts : ℕ) (a : Result Unit Refusal) → a ≡ admission_of r entries contexts → (z : Move) → z ≡ onward Refuse (event_of r e) a
    → (z ≡ decide_of r e entries contexts) × Decided r e entries contexts (numbers_of z)
unfolding decide_of
decided-by r e entries contexts a q z p = and_so (decided r e entries contexts) (p ∙ goes_on Refuse (event_of r e) r entries contexts a q)

pub returns-in-Err : goal.returns-in-Err
returns-in-Err c = let facts = decided-by _ _ _ _ (Err _) (sym c.in-Err.is ∙ c.admit.ensures.value) _ refl in record { value = facts.0; decided = facts.1 }

pub returns-in-Ok : goal.returns-in-Ok
returns-in-Ok c = let facts = decided-by _ _ _ _ (Ok tt) (sym c.in-Ok.is ∙ c.admit.ensures.value) _ c.by_event.ensures in record { value = facts.0; decided = facts.1 }
