-- `lfa_step` meets its contract: it is a door over `flat::step`, by the walk of crates/walks. That what the walk shows is what is
-- promised is `shown`. Assumes nothing.
use mathlib.Core.Path.{refl}
use mathlib.Core.List.{[]}
use base.Logic.{emp}
use contract.Monad.{fact_i}
use Rattle.walks.proofs.InPlace.{Door, shown, in_place}
use Rattle.flat.specs.Calls.{step_of, entries_of, contexts_of}
use Rattle.flat.specs.declared.FlatStepped.{FlatStepped}
use Rattle.flat.specs.contracts.FlatRecord as Record
use Rattle.flat.proofs.FlatRecord.TheLaws as RecordLaws
use Rattle.flat.specs.contracts.FlatEvent as Event
use Rattle.flat.proofs.FlatEvent.TheLaws as EventLaws
use Rattle.flat.specs.contracts.FlatAnswer as Answer
use Rattle.flat.proofs.FlatAnswer.TheLaws as AnswerLaws
use Rattle.flat.specs.contracts.FlatStepped as Pair
use Rattle.flat.proofs.step.Symbol as step
use Rattle.flat.proofs.step.Met as step_thm
use Rattle.monitor.specs.contracts.lfa_step.Key.{name as #monitor·lfa-step}
use Rattle.monitor.specs.contracts.lfa_step as lfa-step
use Rattle.monitor.proofs.lfa_step.Statement as stated
use Rattle.monitor.proofs.lfa_step.Code as code

abbrev the-door : Door
the-door = record {
  rec = record { field = Record.the_field; laws = RecordLaws.the_field_laws; pure = RecordLaws.the_field_plain; mir = RecordLaws.mir; layout = refl };
  event = record { field = Event.the_field; laws = EventLaws.the_field_laws; pure = EventLaws.the_field_plain; mir = EventLaws.mir; layout = refl };
  answer = record { field = Answer.the_field; laws = AnswerLaws.the_field_laws; pure = AnswerLaws.the_field_plain; mir = AnswerLaws.mir; layout = refl };
  Pair = FlatStepped;
  pair-name = (Pair.the_type).name;
  next = λ s. s.rec;
  said = λ s. s.answer;
  pair_one = (Pair.the_type).to_one;
  step = step.name;
  step_of = step_of;
  entries_of = entries_of;
  contexts_of = contexts_of;
  more = λ h e n m r. [];
}

pub lfa_step_spec : {M : Type 1} → stated.statement M
lfa_step_spec 𝓤 𝓛 𝓜 𝓡 wired = in_place the-door 𝓛 𝓜 𝓡 (lfa-step.clauses 𝓛 𝓜.mem 𝓡.returns) (λ κs a g n ws does. shown the-door 𝓤 does (fact_i 𝓤 _ (emp 𝓤) does.contexts))
    𝓡.env #monitor·lfa-step (code.unfolded 𝓤 𝓛.H 𝓜 𝓡 wired) (𝓡.env step.name) refl (step_thm.met 𝓤 𝓛 𝓜 𝓡 (code.calls-flat::step 𝓡.env wired))
