-- The public function's promise leaves one outcome. Assumes nothing.
use seplogic.Ra.Ura.{Ura}
use base.Logic.{SProp, id⊢}
use prog.Memory.{Memory}
use prog.Routine.{Routine}
use types.Logic.{Logic}
use contract.Monad.{Fun}
use Rattle.basics.proofs.Pin.{OneWalked, gathered, of-both, same}
use Rattle.door.specs.contracts.step_in_place as step-in-place

pub step-in-place-pinned : {M : Type 1} {𝓤 : Ura M} (𝓛 : Logic 𝓤) (mem : Memory → SProp 𝓤) (run : Routine → Fun 𝓤) → OneWalked 𝓤 step-in-place.ended (step-in-place.clauses 𝓛 mem run)
step-in-place-pinned {𝓤 = 𝓤} 𝓛 mem run κs a g g' z z' ws ws' P =
    of-both 𝓤 (gathered 𝓤 (gathered 𝓤 (gathered 𝓤 (gathered 𝓤 (id⊢ 𝓤 _))))) (gathered 𝓤 (gathered 𝓤 (gathered 𝓤 (gathered 𝓤 (id⊢ 𝓤 _)))))
    (λ p q. (same p.0 q.0, λ i. (same p.1.0 q.1.0 i, (tt, (same p.1.1.0 q.1.1.0 i, (same p.1.1.1.0 q.1.1.1.0 i, tt))))))
