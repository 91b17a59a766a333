-- A call is one with all that is left of the delivery; where it gives a record, some of that was used, and the next turn has the rest.
use Rattle.std.specs.Prelude.{None, Ok, Some}
use Rattle.std.proofs.Common.{◌≡◌, ℕ, ◌-◌, ◌<◌, List, length, take, drop, length-drop, arith, sym, ap, subst, ◌∙◌, rules}
use lib.Seq.{take_all}
use Rattle.log_record.specs.declared.LogRecord.{LogRecord}
use Rattle.deliveries.specs.Taken.{taken_of}
use Rattle.deliveries.specs.declared.Lead.{Lead}
use Rattle.deliveries.specs.declared.Taken.{Taken}
use Rattle.deliveries.proofs.Readers.{uses}
use Rattle.deliveries.proofs.Host.{Going, going-record, going-nothing, going-refused, going_done}
use Rattle.lead.proofs.deliver.Goals as goal

-- the reader l is handed what is left, and t is its answer: the next turn has the rest of that
module _ (first : Lead) (d : List ℕ) (l : Lead) (left : List ℕ) (going : Going first d l left) where
  abbrev onward : Taken → Type 0
  onward t = let rest = take (length left - t.used) (drop t.used left) in (length rest < length left) × Going first d t.lead rest

  turned : (t : Taken) → t ≡ taken_of l left → (r : LogRecord) → t.given ≡ Ok (Some r) → onward t
  turned t called r e =
      let given : (taken_of l left).given ≡ Ok (Some r) = ap (λ (x : Taken). x.given) (sym called) ∙ e in
      let n : ℕ = (taken_of l left).used in
      let used = (uses l left).some r given in
      subst onward (sym called)
      (rw (take_all (length left - n) (drop n left) (omega (arith, length-drop n left)))
      (omega (arith, used.0, used.1, length-drop n left), going-record first d l left going r given))

pub returns-in-Ok-None : goal.returns-in-Ok-None
returns-in-Ok-None g c =
    let inner = rw c.in-Ok-None.is at c.in-Ok-None.field-0-is in
    let h : c.take-taken.result.given ≡ Ok None = c.in-Ok-None.is ∙ ap Ok inner in
    rw c.take-taken.ensures.value (going-nothing _ _ _ _ c.loop-rest.invariant (rw c.take-taken.ensures.value at h))

pub returns-in-Err : goal.returns-in-Err
returns-in-Err g c =
    rw c.take-taken.ensures.value (going-refused _ _ _ _ c.loop-rest.invariant _ (rw c.take-taken.ensures.value at c.in-Err.is))

pub loop-rest-smaller : goal.loop-rest-smaller
loop-rest-smaller g c =
    let inner = rw c.in-Ok-Some.is at c.in-Ok-Some.field-0-is in
    let h : c.take-taken.result.given ≡ Ok (Some c.in-Ok-Some.r) = c.in-Ok-Some.is ∙ ap Ok inner in
    (turned _ _ _ _ c.loop-rest.invariant _ c.take-taken.ensures.value _ h).0

pub loop-rest-preserved : goal.loop-rest-preserved
loop-rest-preserved g c =
    let inner = rw c.in-Ok-Some.is at c.in-Ok-Some.field-0-is in
    let h : c.take-taken.result.given ≡ Ok (Some c.in-Ok-Some.r) = c.in-Ok-Some.is ∙ ap Ok inner in
    (turned _ _ _ _ c.loop-rest.invariant _ c.take-taken.ensures.value _ h).1

pub returns : goal.returns
returns g c = going_done _ _ _ _ c.loop-rest.invariant (search rules)
