-- What walks by hand share. Assumes nothing.
use seplogic.Ra.Ura.{Ura}
use base.Logic.{SProp, ent, sep, emp, via, comm∗, emp∗, mono_l}
use contract.Monad.{fact, fact_i}

-- a fact that is shown beside what is shown
pub stands : {M : Type 1} (𝓤 : Ura M) {φ : Type 0} {Q : SProp 𝓤} → φ → ent 𝓤 (emp 𝓤) Q → ent 𝓤 (emp 𝓤) (sep 𝓤 (fact 𝓤 φ) Q)
stands 𝓤 {φ} {Q} f h = via 𝓤 (sep 𝓤 (emp 𝓤) Q) (via 𝓤 Q h (emp∗ 𝓤 Q)) (mono_l 𝓤 Q (fact_i 𝓤 φ (emp 𝓤) f))

-- what is shown beside what is owned
pub beside : {M : Type 1} (𝓤 : Ura M) (P : SProp 𝓤) {Q : SProp 𝓤} → ent 𝓤 (emp 𝓤) Q → ent 𝓤 P (sep 𝓤 P Q)
beside 𝓤 P {Q} h = via 𝓤 (sep 𝓤 (emp 𝓤) P) (emp∗ 𝓤 P) (via 𝓤 (sep 𝓤 Q P) (mono_l 𝓤 P h) (comm∗ 𝓤 Q P))
