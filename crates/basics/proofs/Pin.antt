-- Two outcomes that a promise allows are one, since each is what the promise names (`same`); of a walk, by its facts (`of-both`).
-- A promise that leaves one outcome: any two results, with any two last values of what the function was lent, that its
-- generated contract allows for the same arguments are equal; parts of a lent buffer, up to their ghost names. Each crate's
-- proofs/Pinned.antt says so of its public functions. Assumes nothing.
use Prim.Native.Nat.{ℕ}
use mathlib.Core.Path.{◌≡◌, refl, sym, ◌∙◌}
use mathlib.Core.List.{List}
use seplogic.Ra.Ura.{Ura}
use base.Logic.{SProp, ent, sep, via, fst∗, snd∗}
use contract.Lifetimes.{Lfts}
use contract.Monad.{fact, fact_i, fact_use, fact_mono}
use borrow.Fn.Kinds.{Out, ParamKind, ResultKind, Dens, res_t, ended_of}
use denote.Ref.{Bor, MutBor}
use denote.Triple.Entry.{Args, Res}
use denote.Triple.Clauses.{Ended, Clauses, Lasts, at_exit}

-- `Same` says when two results are one
abbrev pub OneBy : (n : ℕ) (ps : List (ParamKind n)) (r : ResultKind n) → ((κs : Lfts n) → (res_t r κs).Denot → (res_t r κs).Denot → Type 0) → Out n ps r → Type 0
OneBy n ps r Same P =
    (κs : Lfts n) (a : Dens κs ps) (z z' : (res_t r κs).Denot) (ws ws' : Lasts (ended_of n ps r) κs a)
    → P κs a z (at_exit (ended_of n ps r) κs a ws) → P κs a z' (at_exit (ended_of n ps r) κs a ws') → Same κs z z' × (ws ≡ ws')

abbrev pub OneOutcome : (n : ℕ) (ps : List (ParamKind n)) (r : ResultKind n) → Out n ps r → Type 0
OneOutcome n ps r P = OneBy n ps r (λ κs z z'. z ≡ z') P

-- two parts of a lent buffer: they hold the same and lie at one place of memory. All else that a reference value has is the ghost
-- name under which a proof tracks what it holds: it is new with each part, so no promise can say it, and no program has it
abbrev pub OnePart : {X : Type 0} → Bor X → Bor X → Type 0
OnePart p q = (p.now ≡ q.now) × (p.ref_ptr ≡ q.ref_ptr)

-- the same of parts that may be written to
abbrev pub OneMutPart : {X : Type 0} → MutBor X → MutBor X → Type 0
OneMutPart p q = (p.now ≡ q.now) × (p.ref_ptr ≡ q.ref_ptr)

-- the same of a function that is proved by a walk, whose contract has no plain reading: whatever entails the generated
-- `ensures` of two outcomes entails that they are one
abbrev pub WalkedBy : {M : Type 1} (𝓤 : Ura M) (T : Ended) → ((κs : Lfts T.signature.lifetimes) → Res T.signature κs → Res T.signature κs → Type 0) → Clauses 𝓤 T → Type 2
WalkedBy 𝓤 T Same c =
    (κs : Lfts T.signature.lifetimes) (a : Args T.signature κs) (g g' : (c κs a).ghost) (z z' : Res T.signature κs) (ws ws' : Lasts T κs a) (P : SProp 𝓤)
    → ent 𝓤 P ((c κs a).ensures g z (at_exit T κs a ws)) → ent 𝓤 P ((c κs a).ensures g' z' (at_exit T κs a ws')) → ent 𝓤 P (fact 𝓤 (Same κs z z' × (ws ≡ ws')))

abbrev pub OneWalked : {M : Type 1} (𝓤 : Ura M) (T : Ended) → Clauses 𝓤 T → Type 2
OneWalked 𝓤 T c = WalkedBy 𝓤 T (λ κs z z'. z ≡ z') c

-- facts one beside the other, as several `ensures` are, are one fact
pub gathered : {M : Type 1} (𝓤 : Ura M) {φ ψ : Type 0} {Q : SProp 𝓤} → ent 𝓤 Q (fact 𝓤 ψ) → ent 𝓤 (sep 𝓤 (fact 𝓤 φ) Q) (fact 𝓤 (φ × ψ))
gathered 𝓤 {φ} {ψ} {Q} h =
    fact_use 𝓤 φ (fst∗ 𝓤 (fact 𝓤 φ) Q) (λ f. via 𝓤 Q (snd∗ 𝓤 (fact 𝓤 φ) Q) (via 𝓤 (fact 𝓤 ψ) h (fact_mono 𝓤 ψ (φ × ψ) (λ s. (f, s)))))

-- what follows of the facts of both outcomes
pub of-both : {M : Type 1} (𝓤 : Ura M) {P R R' : SProp 𝓤} {φ ψ χ : Type 0} → ent 𝓤 R (fact 𝓤 φ) → ent 𝓤 R' (fact 𝓤 ψ) → (φ → ψ → χ) → ent 𝓤 P R → ent 𝓤 P R' → ent 𝓤 P (fact 𝓤 χ)
of-both 𝓤 {P} {R} {R'} {φ} {ψ} {χ} r r' k p q = fact_use 𝓤 φ (via 𝓤 R p r) (λ f. fact_use 𝓤 ψ (via 𝓤 R' q r') (λ s. fact_i 𝓤 χ P (k f s)))

-- both are what the promise names
pub same {ℓ} : {A : Type ℓ} {x y d : A} → x ≡ d → y ≡ d → x ≡ y
same p q = p ∙ sym q

-- the same of a function that changes nothing it is lent
pub just {ℓ} : {A B : Type ℓ} {x y d : A} {w : B} → x ≡ d → y ≡ d → (x ≡ y) × (w ≡ w)
just p q = (same p q, refl)

-- the same of two things that the promise names
pub both {ℓ} : {A B : Type ℓ} {x y d : A} {u v e : B} → (x ≡ d) × (u ≡ e) → (y ≡ d) × (v ≡ e) → (x ≡ y) × (u ≡ v)
both p q = (same p.0 q.0, same p.1 q.1)
