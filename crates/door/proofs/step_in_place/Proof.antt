-- `step_in_place` meets its contract: it is a door over `agent::step`, by the walk of crates/walks. That what the walk shows is what is
-- promised is `shown`, and `answers` for the numbers. Assumes nothing.
use Rattle.std.specs.Prelude.{Result}
use Prim.Native.Nat.{ℕ}
use mathlib.Core.Path.{◌≡◌, refl, sym, subst}
use mathlib.Core.List.{[], ◌∷◌}
use lib.ListN.{length, get_or}
use mir.Syntax.{ty_bool}
use base.Logic.{emp}
use denote.Param.Laws.{copy_told}
use contract.Monad.{fact_i}
use Rattle.basics.proofs.Walk.{stands}
use Rattle.walks.proofs.InPlace.{Door, shown, in_place}
use Rattle.agent.specs.Step.{step_of, entries_of, contexts_of}
use Rattle.agent.specs.Numbers.{said_of, Answers}
use Rattle.agent.specs.declared.Stepped.{Stepped}
use Rattle.agent.proofs.Numbers.{step-answers}
use Rattle.board_record.specs.declared.Record.{Record}
use Rattle.board_record.specs.contracts.Record as Lent
use Rattle.board_record.proofs.Record.TheLaws as LentLaws
use Rattle.rules.specs.declared.Event.{Event}
use Rattle.rules.specs.contracts.Event as Given
use Rattle.rules.proofs.Event.TheLaws as GivenLaws
use Rattle.agent.specs.contracts.Answer as Told
use Rattle.agent.proofs.Answer.TheLaws as ToldLaws
use Rattle.rules.specs.contracts.Refusal as Why
use Rattle.rules.proofs.Refusal.TheLaws as WhyLaws
use Rattle.std.specs.contracts.result.Result as Either
use Rattle.std.proofs.result.Result.TheLaws as EitherLaws
use Rattle.agent.specs.contracts.Stepped as Pair
use Rattle.agent.proofs.step.Symbol as step
use Rattle.agent.proofs.step.Met as step_thm
use Rattle.door.specs.contracts.step_in_place.Key.{name as #door·step-in-place}
use Rattle.door.specs.contracts.step_in_place as door
use Rattle.door.proofs.step_in_place.Statement as stated
use Rattle.door.proofs.step_in_place.Code as code
use Rattle.agent.specs.declared.Answer.{Answer}
use Rattle.rules.specs.declared.Refusal.{Refusal}

abbrev the-door : Door
the-door = record {
  rec = record { field = Lent.the_field; laws = LentLaws.the_field_laws; pure = LentLaws.the_field_plain; mir = LentLaws.mir; layout = refl };
  event = record { field = Given.the_field; laws = GivenLaws.the_field_laws; pure = GivenLaws.the_field_plain; mir = GivenLaws.mir; layout = refl };
  answer = record { field = Either.the_field Told.the_row Why.the_row; laws = EitherLaws.the_field_laws Told.the_row Why.the_row ToldLaws.the_row_laws WhyLaws.the_row_laws (copy_told Told.the_row ToldLaws.the_row_copy) (copy_told Why.the_row WhyLaws.the_row_copy); pure = EitherLaws.the_field_plain Told.the_row Why.the_row ToldLaws.the_row_plain WhyLaws.the_row_plain; mir = get_or (Either.the_field Told.the_row Why.the_row).row.mir 0 ty_bool; layout = refl };
  Pair = Stepped;
  pair-name = (Pair.the_type).name;
  next = λ s. s.rec;
  said = λ s. s.outcome;
  pair_one = (Pair.the_type).to_one;
  step = step.name;
  step_of = step_of;
  entries_of = entries_of;
  contexts_of = contexts_of;
  more = λ h e n m r. Answers h e n m (said_of r.outcome) ∷ [];
}

-- what the step answers in document 01's numbers
answers : (h : Record) (e : Event) (n m : ℕ) (o : Result Answer Refusal) → o ≡ (step_of h e n m).outcome → Answers h e n m (said_of o)
answers h e n m o q = subst (λ (x : Result Answer Refusal). Answers h e n m (said_of x)) (sym q) (step-answers h e n m)

pub step_in_place_spec : {M : Type 1} → stated.statement M
step_in_place_spec 𝓤 𝓛 𝓜 𝓡 wired = in_place the-door 𝓛 𝓜 𝓡 (door.clauses 𝓛 𝓜.mem 𝓡.returns)
    (λ κs a g n ws does. shown the-door 𝓤 does (stands 𝓤 does.contexts (fact_i 𝓤 _ (emp 𝓤) (answers a.0.now a.1.0 (length a.1.1.0.now) (length a.1.1.1.0.now) n does.answered))))
    𝓡.env #door·step-in-place (code.unfolded 𝓤 𝓛.H 𝓜 𝓡 wired) (𝓡.env step.name) refl (step_thm.met 𝓤 𝓛 𝓜 𝓡 (code.calls-agent::step 𝓡.env wired))
