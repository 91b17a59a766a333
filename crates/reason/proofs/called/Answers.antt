-- What the agent answers says which of the two it is (`told`); the reason is what `ruling::reason` promises.
use Rattle.std.specs.Prelude.{Ok, Err, Result}
use Rattle.std.proofs.lemmas.Result.{err_from_is_err_and}
use mathlib.Core.Path.{◌≡◌, sym, ap, ◌∙◌}
use Rattle.board_record.specs.declared.Record.{Record}
use Rattle.codes.specs.declared.Call.{Call}
use Rattle.rules.specs.declared.Event.TheVariants as event
use Rattle.agent.specs.Step.{stepped}
use Rattle.agent.specs.declared.Stepped.{Stepped}
use Rattle.reason.specs.Reason.{call_of, reason_of}
use Rattle.reason.specs.Explained.{called_by, called_of}
use Rattle.reason.specs.declared.Activate.{Activate}
use Rattle.reason.proofs.called.Goals as goal
use Rattle.agent.specs.declared.Answer.{Answer}
use Rattle.rules.specs.declared.Refusal.{Refusal}
use Rattle.reason.specs.declared.Reason.{Reason}
use Rattle.reason.specs.declared.Unexplained.{Unexplained}

told : (r : Record) (a : Activate) (call : Call) (s : Stepped) (o : Result Answer Refusal) (e : Result Reason Unexplained) → call ≡ call_of a → s ≡ stepped r (event.Call call) → s.outcome ≡ o
    → e ≡ called_by o (reason_of r a) → e ≡ called_of r a
unfolding called_of
told r a call s o e p q h f = f ∙ ap (λ (x : Result Answer Refusal). called_by x (reason_of r a)) (sym h ∙ ap (λ (x : Stepped). x.outcome) (q ∙ ap (λ (y : Call). stepped r (event.Call y)) p))

pub returns-in_err-after : goal.returns-in_err-after
returns-in_err-after c =
    let p = err_from_is_err_and c.from_residual.result c.from_residual.ensures.1 in
    told _ _ _ _ _ _ c.call.ensures c.step-after.ensures.value c.in_err-after.was (p.1 ∙ ap Err p.2)

pub returns : goal.returns
returns c = told _ _ _ _ _ _ c.call.ensures c.step-after.ensures.value c.in_ok-after.was (ap Ok c.reason.ensures)
