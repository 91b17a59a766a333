-- The walk of a door, over any types: the record's borrow is opened, and closed at what the step returned; the tables' are given up.
-- A door copies the record that it is lent to a step, stores the record that the step returns, and returns the step's answer:
--     let s = STEP(*rec, e, entries, contexts);  *rec = s.rec;  s.answer
-- It promises of the lent record, the answer and the two tables what the step promises by value. The tables' borrows are given up to
-- the step for good, at their own lifetimes, shares and ghost names (`gave_slice`): what it says of the last lists is what is said of
-- them here. Of the step the walk knows only that it meets its contract. Assumes nothing.
use mathlib.Core.Path.{◌≡◌, refl, ap, subst}
use Prim.Native.Nat.{ℕ, zero, ◌+◌}
use mathlib.Core.List.{[], ◌∷◌, ◌++◌, List}
use lib.ListN.{length}
use seplogic.Ra.Ura.{Ura}
use base.Fraction.{full_share}
use mir.Syntax.{Callee, Sym, Ty, ty_int, ty_ref, ty_struct, tnil, tcons, w64, mut, named, erased, Lifetime, deref, field, place, copy, rv_opd, addr_of, aggregate, Body as Code, seq, assign, call, return, value_local, Local, local, Fn}
use lib.Dec.{T as Holds}
use mir.Val.{Val, vptr, vstruct, of_list, has_ty, WT}
use base.Logic.{SProp, ent, sep, emp, via, fst∗, id⊢}
use base.Fml.{Fml, GName, Lft, Share, ftrue, fsep, flft, fobs, fbor, fat}
use prog.Memory.{up, align, size}
use prog.Model.{Model}
use prog.Routine.{Routine, Env}
use prog.Wp.{Calls, Loops, WpFn, Tables, Closed}
use types.Logic.{Logic, sem}
use contract.Monad.{fact}
use contract.Lifetimes.{Lfts}
use contract.Running.{Running, tables, tables_of}
use types.Kit.{Go, ‵, raw, ◌⊛◌, some, later, ◌$◌, ◌∵◌, !, qed, by, move, keep, drop, use1, use3, split, join, pick, fsplit, fsplit3, fjoin, fjoin3, feq_i, feq_l, suffices, frame, await, done}
use types.Run.{look_raw, store_raw, stop, hop, fld, from, load, addr, of_opd, and_then, no_more, assigns, returns, enter}
use types.ByLocal.{alloc_all, pass_all, free_all, look_at, look_in_at, get, get_in, through, sets, lands_as}
use types.Part.{agg, whole, sub, Part}
use types.Hole.{Holey}
use types.SemTy.{Arr, Body}
use sound.WpLaws.{FmC, fm_of, WpFn-mono}
use denote.Exit.{yes}
use denote.RattleType.{RattleType, Denots, owns}
use denote.Laws.{Is, Typed, Spells, valss, shows}
use denote.Memory.{mem, pointee}
use denote.Builtin.{u64}
use denote.Slice.{slice_ty, slice_val, mut_slice_vals, mut_slice_Tells, MutSlice, Room, finally}
use denote.Ref.{MutBor, MutRef, mut_vals, mut_Tells}
use denote.Signature.{plain, mut_ref_to, mut_slice_of}
use denote.Steps.{only, opens, closes, owned, peeks, heard, nothing}
use denote.Struct.Field.{Field, rows}
use denote.Struct.Recorded.{Recorded}
use denote.Struct.Struct.{to_tys, Shape, Struct, AreAll, tells_all, Struct-Tells, Struct-Lawful}
use denote.Struct.Steps.{spelt}
use denote.Struct.Laws as LL
use denote.Triple.Statement.{Contract, Triple}
use denote.Triple.Call.{calls_at}
use denote.Triple.Entry.{Args, on_entry}
use denote.Triple.Spec.{Meets, triple_of}
use denote.Triple.Table.{entered, cited}
use denote.Triple.Walked.{Stays, stay_ref, stay_none, gave_slice, walk_of, on_exit, AllGo, Goes-none, Goes-ref, Goes-gave_slice, ends_at, walked, walk_Meets}
use denote.Triple.Clauses.{Ended, Clauses, Lasts, closing, ensured, lasts, at_exit}
use Rattle.basics.proofs.Walk.{stands, beside}
use Rattle.walks.proofs.Plain as P
use Rattle.walks.proofs.Plain.{Plain}

-- facts one beside the other, as several `ensures` are; of them the walk needs the first
abbrev pub facts : {M : Type 1} (𝓤 : Ura M) → Type 0 → List (Type 0) → SProp 𝓤
facts 𝓤 φ [] = fact 𝓤 φ
facts 𝓤 φ (ψ ∷ ψs) = sep 𝓤 (fact 𝓤 φ) (facts 𝓤 ψ ψs)

first-fact : {M : Type 1} (𝓤 : Ura M) {φ : Type 0} (ψs : List (Type 0)) → ent 𝓤 (facts 𝓤 φ ψs) (fact 𝓤 φ)
first-fact 𝓤 {φ} [] = id⊢ 𝓤 (fact 𝓤 φ)
first-fact 𝓤 {φ} (ψ ∷ ψs) = fst∗ 𝓤 (fact 𝓤 φ) (facts 𝓤 ψ ψs)

-- a record and an answer as the fields of a struct
abbrev pub laid : (R N : Plain) → R.field.Value → N.field.Value → R.field.row.Denot × (N.field.row.Denot × Unit {0})
laid R N x y = (R.field.into x, (N.field.into y, tt))

-- what a door is made of: the types of its record, event and answer; what the step returns, a struct of the next record and the
-- answer; and the step, with what it does by value and to the two tables, and what more it says of its result
pub record Door : Type 2 where
  pub rec : Plain
  pub event : Plain
  pub answer : Plain
  pub Pair : Type 0
  pub pair-name : Sym
  pub next : Pair → rec.field.Value
  pub said : Pair → answer.field.Value
  pub pair_one : (x y : Pair) → laid rec answer (next x) (said x) ≡ laid rec answer (next y) (said y) → x ≡ y
  pub step : Callee
  pub step_of : rec.field.Value → event.field.Value → ℕ → ℕ → Pair
  pub entries_of : rec.field.Value → event.field.Value → List ℕ → List ℕ → List ℕ
  pub contexts_of : rec.field.Value → event.field.Value → List ℕ → List ℕ → List ℕ
  pub more : rec.field.Value → event.field.Value → ℕ → ℕ → Pair → List (Type 0)

-- what a door does: its answer n, the record z that it leaves and the last tables, by the step
pub record Does (D : Door) (h : D.rec.field.Value) (e : D.event.field.Value) (ys₁ ys₂ : List ℕ) (n : D.answer.field.Value) (z : D.rec.field.Value) (zs₁ zs₂ : List ℕ) : Type 0 where
  pub answered : n ≡ D.said (D.step_of h e (length ys₁) (length ys₂))
  pub stored : z ≡ D.next (D.step_of h e (length ys₁) (length ys₂))
  pub entries : zs₁ ≡ D.entries_of h e ys₁ ys₂
  pub contexts : zs₂ ≡ D.contexts_of h e ys₁ ys₂

module _ (D : Door) where
  -- ---- the rows of the record, the event and the answer, and their values' machine values
  abbrev R : RattleType
  R = P.row D.rec

  abbrev E : RattleType
  E = P.row D.event

  abbrev N : RattleType
  N = P.row D.answer

  abbrev rec-val : R.Denot → Val
  rec-val = P.val D.rec

  abbrev e-val : E.Denot → Val
  e-val = P.val D.event

  abbrev ans-val : N.Denot → Val
  ans-val = P.val D.answer

  -- ---- what the step returns: its machine value is a struct of two, and each part's relation holds
  abbrev pair-parts : List Field
  pair-parts = D.rec.field ∷ D.answer.field ∷ []

  abbrev pair-laws : LL.Lawss pair-parts
  pair-laws = (D.rec.laws, (D.answer.laws, tt))

  abbrev pair-shape : Shape
  pair-shape = record { name = D.pair-name; args = []; types = []; fields = rows pair-parts }

  abbrev pair-spells : Spells (rows pair-parts)
  pair-spells = LL.spells pair-parts pair-laws

  abbrev pair-to : D.Pair → Denots (rows pair-parts)
  pair-to r = laid D.rec D.answer (D.next r) (D.said r)

  abbrev S : RattleType
  S = Recorded (Struct pair-shape) D.Pair pair-to D.pair_one

  abbrev pair-mir : Ty
  pair-mir = ty_struct D.pair-name (tcons D.rec.mir (tcons D.answer.mir tnil))

  abbrev pair-val : D.Pair → Val
  pair-val r = vstruct (of_list (rec-val (D.next r) ∷ ans-val (D.said r) ∷ []))

  pair-tells : (r : D.Pair) (v : Val) → Is S r (v ∷ []) → v ≡ pair-val r
  pair-tells r v is = ap only (Struct-Tells pair-shape pair-spells (LL.tellss pair-parts pair-laws) (pair-to r) _ is)

  parts : (r : D.Pair) (v : Val) → Is S r (v ∷ []) → Is R (D.next r) (rec-val (D.next r) ∷ []) × Is N (D.said r) (ans-val (D.said r) ∷ [])
  parts r v is =
      let owed : AreAll (rows pair-parts) (pair-to r) (valss (rows pair-parts) pair-spells (pair-to r)) =
      subst (AreAll (rows pair-parts) (pair-to r)) (tells_all (rows pair-parts) pair-spells (LL.tellss pair-parts pair-laws) (pair-to r) is.0 is.1.1) is.1.1 in
      (owed.0, owed.1.0)

  -- where the two parts lie
  abbrev at_next : ℕ
  at_next = up (align D.rec.mir) zero

  abbrev at-said : ℕ
  at-said = up (align D.answer.mir) (at_next + size D.rec.mir)

  -- ---- the code
  abbrev table : Lifetime → Ty
  table ℓ = slice_ty (ty_ref ℓ mut (ty_int w64))

  abbrev the-locals : List Local
  the-locals =
      local D.answer.mir value_local
      ∷ local (ty_ref (named 0) mut (pointee R.written)) value_local
      ∷ local D.event.mir value_local
      ∷ local (table (named 1)) value_local
      ∷ local (table (named 2)) value_local
      ∷ local pair-mir value_local
      ∷ local D.rec.mir value_local
      ∷ local (ty_ref erased mut (ty_int w64)) value_local
      ∷ local (table erased) value_local
      ∷ local (ty_ref erased mut (ty_int w64)) value_local
      ∷ local (table erased) value_local
      ∷ local D.rec.mir value_local
      ∷ []

  abbrev the-body : Code
  the-body =
      seq (assign (place 6 []) (rv_opd (copy (place 1 (deref D.rec.mir ∷ [])))))
      (seq (assign (place 7 []) (addr_of (place 3 (field 0 ∷ deref (ty_int w64) ∷ []))))
      (seq (assign (place 8 []) (aggregate (copy (place 7 []) ∷ copy (place 3 (field 1 ∷ [])) ∷ [])))
      (seq (assign (place 9 []) (addr_of (place 4 (field 0 ∷ deref (ty_int w64) ∷ []))))
      (seq (assign (place 10 []) (aggregate (copy (place 9 []) ∷ copy (place 4 (field 1 ∷ [])) ∷ [])))
      (seq (call D.step (copy (place 6 []) ∷ copy (place 2 []) ∷ copy (place 8 []) ∷ copy (place 10 []) ∷ []) (place 5 []))
      (seq (assign (place 11 []) (rv_opd (copy (place 5 (field 0 ∷ [])))))
      (seq (assign (place 1 (deref D.rec.mir ∷ [])) (rv_opd (copy (place 11 []))))
      (seq (assign (place 0 []) (rv_opd (copy (place 5 (field 1 ∷ []))))) return))))))))

  abbrev pub function : Fn
  function = record { lifetimes = 3; outlives = []; ty_params = []; givens = 0; params = 4; locals = the-locals; body = the-body }

  -- ---- the signatures of the step and of the door, and what is had of the door's parameters at exit
  abbrev pub stepping : Ended
  stepping = record {
    signature = record {
      lifetimes = 2;
      outlives = [];
      params = plain (λ _. R) ∷ plain (λ _. E) ∷ mut_slice_of (0 ∷ []) tt (plain (λ _. u64)) ∷ mut_slice_of (1 ∷ []) tt (plain (λ _. u64)) ∷ [];
      result = plain (λ _. S);
    };
    kept = (yes, (yes, (yes, (yes, tt))));
  }

  abbrev pub ended : Ended
  ended = record {
    signature = record {
      lifetimes = 3;
      outlives = [];
      params = mut_ref_to (0 ∷ []) tt (plain (λ _. R)) ∷ plain (λ _. E) ∷ mut_slice_of (1 ∷ []) tt (plain (λ _. u64)) ∷ mut_slice_of (2 ∷ []) tt (plain (λ _. u64)) ∷ [];
      result = plain (λ _. N);
    };
    kept = (yes, (yes, (yes, (yes, tt))));
  }

  abbrev stayed : Stays ended.signature.params ended.kept
  stayed = (stay_ref (0 ∷ []) tt (plain (λ _. R)), (stay_none (λ _. E) yes, (gave_slice (1 ∷ []) tt (plain (λ _. u64)), (gave_slice (2 ∷ []) tt (plain (λ _. u64)), tt))))

  -- ---- the step's contract, and the door's
  module _ {M : Type 1} (𝓤 : Ura M) where
    abbrev pub steps : Clauses 𝓤 stepping
    steps κs a = record {
      ghost = Unit {0};
      requires = λ _. emp 𝓤;
      ensures = λ _ r z.
          sep 𝓤 (fact 𝓤 (r ≡ D.step_of a.0 a.1.0 (length a.1.1.0.now) (length a.1.1.1.0.now)))
          (sep 𝓤 (fact 𝓤 (z.1.1.0.now ≡ D.entries_of a.0 a.1.0 a.1.1.0.now a.1.1.1.0.now))
          (facts 𝓤 (z.1.1.1.0.now ≡ D.contexts_of a.0 a.1.0 a.1.1.0.now a.1.1.1.0.now) (D.more a.0 a.1.0 (length a.1.1.0.now) (length a.1.1.1.0.now) r)));
    }

    -- any that follows from what the walk shows
    abbrev pub Promised : Clauses 𝓤 ended → Type 1
    Promised c = (κs : Lfts 3) (a : Args ended.signature κs) (g : (c κs a).ghost) (n : N.Denot) (ws : Lasts ended κs a)
        → Does D a.0.now a.1.0 a.1.1.0.now a.1.1.1.0.now n ws.0 ws.1.1.0 ws.1.1.1.0 → ent 𝓤 (emp 𝓤) ((c κs a).ensures g n (at_exit ended κs a ws))

    -- as one of these facts does, one beside the other, and what is shown of the contexts and more
    pub shown : {h : R.Denot} {e : E.Denot} {ys₁ ys₂ : List ℕ} {n : N.Denot} {z : R.Denot} {zs₁ zs₂ : List ℕ} {Q : SProp 𝓤} → Does D h e ys₁ ys₂ n z zs₁ zs₂ → ent 𝓤 (emp 𝓤) Q
        → ent 𝓤 (emp 𝓤) (sep 𝓤 (fact 𝓤 (n ≡ D.said (D.step_of h e (length ys₁) (length ys₂)))) (sep 𝓤 (fact 𝓤 (z ≡ D.next (D.step_of h e (length ys₁) (length ys₂)))) (sep 𝓤 (fact 𝓤 (zs₁ ≡ D.entries_of h e ys₁ ys₂)) Q)))
    shown d q = stands 𝓤 d.answered (stands 𝓤 d.stored (stands 𝓤 d.entries q))

  module _ {M : Type 1} {𝓤 : Ura M} (𝓛 : Logic 𝓤) where
    open 𝓛 use {H, A}

    abbrev pub Step : Contract 𝓤
    Step = triple_of 𝓛 stepping.signature (closing 𝓛 stepping (steps 𝓤))

    module _ where
      pair_typed : (r : D.Pair) (v : Val) → Is S r (v ∷ []) → Holds (has_ty pair-mir v) × WT v
      pair_typed r v is =
          (subst (λ (τs : List Ty). Typed (ty_struct D.pair-name (tcons D.rec.mir (to_tys (τs ++ []))) ∷ []) (v ∷ [])) D.answer.layout
          (subst (λ (τs : List Ty). Typed (ty_struct D.pair-name (to_tys (τs ++ (D.answer.field.row.mir ++ []))) ∷ []) (v ∷ [])) D.rec.layout ((Struct-Lawful 𝓛 pair-shape (LL.lawfuls 𝓛 pair-parts pair-laws)).typed (pair-to r) _ is))).0

      pair_fits : (r : D.Pair) (v : Val) → Is S r (v ∷ []) → Holds (has_ty pair-mir (pair-val r)) × WT (pair-val r)
      pair_fits r v is = subst (λ (u : Val). Holds (has_ty pair-mir u) × WT u) (pair-tells r v is) (pair_typed r v is)

      next-part : (l : ℕ) (r : D.Pair) → Part (Go {0}) 𝓛 (‵ (fat full_share pair-mir l zero (pair-val r))) full_share D.rec.mir l (zero + at_next) (rec-val (D.next r)) (λ u. ‵ (fat full_share pair-mir l zero (vstruct (of_list (u ∷ ans-val (D.said r) ∷ [])))))
      next-part l r = sub ! 0 refl (whole !)

      said-part : (l : ℕ) (r : D.Pair) → Part (Go {0}) 𝓛 (‵ (fat full_share pair-mir l zero (pair-val r))) full_share D.answer.mir l (zero + at-said) (ans-val (D.said r)) (λ u. ‵ (fat full_share pair-mir l zero (vstruct (of_list (rec-val (D.next r) ∷ u ∷ [])))))
      said-part l r = sub ! 1 refl (whole !)

      module _ (c : Clauses 𝓤 ended) (promised : Promised 𝓤 c) (κ κ₁ κ₂ : Lft) (q q₁ q₂ : Share) (b o : ℕ) (γ : GName) (h : R.Denot) (e : E.Denot) (x₁ x₂ : MutBor (List ℕ)) (g : (c (κ, (κ₁, (κ₂, tt))) (record { ref_ptr = (b, o); ghost_name = γ; now = h }, (e, (x₁, (x₂, tt))))).ghost) (is-e : Is E e (e-val e ∷ [])) where
        abbrev s₁ : Val
        s₁ = slice_val x₁.ref_ptr (length x₁.now)

        abbrev s₂ : Val
        s₂ = slice_val x₂.ref_ptr (length x₂.now)

        abbrev x : Args ended.signature (κ, (κ₁, (κ₂, tt)))
        x = (record { ref_ptr = (b, o); ghost_name = γ; now = h }, (e, (x₁, (x₂, tt))))

        abbrev at : List Val × (List Val × (List Val × (List Val × Unit {0})))
        at = (vptr b o ∷ [], (e-val e ∷ [], (s₁ ∷ [], (s₂ ∷ [], tt))))

        abbrev Post : Val → SProp 𝓤
        Post = (walk_of 𝓛 ended stayed c).post (((κ, (κ₁, (κ₂, tt))), (q, (q₁, (q₂, tt))), tt, x, at), g)

        -- what is done where the step has returned r, and the last tables are zs₁ and zs₂
        abbrev Done : D.Pair → List ℕ → List ℕ → Type 0
        Done r zs₁ zs₂ = Does D h e x₁.now x₂.now (D.said r) (D.next r) zs₁ zs₂

        -- what is had of a table that was given up to the step for good
        abbrev Given : Lft → MutBor (List ℕ) → List ℕ → Fml
        Given κ y zs = fsep (finally u64 y.ghost_name zs) (fbor κ (Body (Arr (Holey (mem u64)) (length y.now)) y.ref_ptr.0 y.ref_ptr.1 y.ghost_name))

        exits : (r : D.Pair) (zs₁ zs₂ : List ℕ) → Done r zs₁ zs₂ → length zs₁ ≡ length x₁.now → length zs₂ ≡ length x₂.now → Is N (D.said r) (ans-val (D.said r) ∷ [])
            → ent 𝓤 (sep 𝓤 (A.obs γ (R.coded.code (D.next r))) (sep 𝓤 (A.bor κ (Body (mem R) b o γ)) (sep 𝓤 (A.lft κ q) (sep 𝓤 (sep 𝓤 (A.lft κ₁ q₁) (sep 𝓤 (A.lft κ₂ q₂) (sem 𝓛 ftrue))) (sep 𝓤 (sem 𝓛 (Given κ₁ x₁ zs₁)) (sem 𝓛 (Given κ₂ x₂ zs₂))))))) (Post (ans-val (D.said r)))
        exits r zs₁ zs₂ p m₁ m₂ is-a =
            let Left : SProp 𝓤 = on_exit 𝓛 ended stayed (κ, (κ₁, (κ₂, tt))) (q, (q₁, (q₂, tt))) at (ans-val (D.said r)) (D.said r) x (D.next r, (tt, (zs₁, (zs₂, tt)))) in
            qed 𝓛 (‵ (fobs γ (R.coded.code (D.next r))) ∷ ‵ (fbor κ (Body (mem R) b o γ)) ∷ ‵ (flft κ q) ∷ (‵ (flft κ₁ q₁) ⊛ (‵ (flft κ₂ q₂) ⊛ ‵ ftrue)) ∷ ‵ (Given κ₁ x₁ zs₁) ∷ ‵ (Given κ₂ x₂ zs₂) ∷ []) ∵
            suffices ! _ (ends_at 𝓛 ended stayed c (((κ, (κ₁, (κ₂, tt))), (q, (q₁, (q₂, tt))), tt, x, at), g) (ans-val (D.said r)) (D.said r) (D.next r, (tt, (zs₁, (zs₂, tt)))) (tt, (tt, (m₁, (m₂, tt))))) $
            suffices ! Left (beside 𝓤 Left (promised (κ, (κ₁, (κ₂, tt))) x g (D.said r) (D.next r, (tt, (zs₁, (zs₂, tt)))) p)) $ move ! (2 ∷ 3 ∷ []) $ join ! $
            frame ! $ feq_i ! (List Val) (vptr b o ∷ []) (vptr b o ∷ []) refl $ fjoin3 ! $ nothing ! $ move ! (3 ∷ 0 ∷ []) $ fjoin ! $ move ! (2 ∷ 0 ∷ []) $ fjoin ! $
            owned ! E (Is E) (P.makes D.event 𝓛) e _ is-e $ fjoin ! $
            move ! (1 ∷ 0 ∷ []) $ fjoin ! $ owned ! N (Is N) (P.makes D.answer 𝓛) (D.said r) _ is-a $ move ! (1 ∷ 0 ∷ []) $ done !

        -- what the step's triple binds outside, and what it asks
        abbrev to_step : Step.Ghost
        to_step = (((κ₁, (κ₂, tt)), (q₁, (q₂, tt)), tt, (h, (e, (x₁, (x₂, tt)))), (rec-val h ∷ [], (e-val e ∷ [], (s₁ ∷ [], (s₂ ∷ [], tt))))), tt)

        goes_step : Is R h (rec-val h ∷ []) → ent 𝓤 (sep 𝓤 (sep 𝓤 (A.lft κ₁ q₁) (sep 𝓤 (A.lft κ₂ q₂) (sem 𝓛 ftrue))) (sep 𝓤 (sem 𝓛 ((MutSlice (named 1) κ₁ u64).own_val x₁ (s₁ ∷ []))) (sem 𝓛 ((MutSlice (named 2) κ₂ u64).own_val x₂ (s₂ ∷ []))))) (Step.pre to_step)
        goes_step is-h =
            qed 𝓛 ((‵ (flft κ₁ q₁) ⊛ (‵ (flft κ₂ q₂) ⊛ ‵ ftrue)) ∷ ‵ ((MutSlice (named 1) κ₁ u64).own_val x₁ (s₁ ∷ [])) ∷ ‵ ((MutSlice (named 2) κ₂ u64).own_val x₂ (s₂ ∷ [])) ∷ []) ∵ move ! (1 ∷ 2 ∷ []) $
            nothing ! $ move ! (2 ∷ 0 ∷ []) $ fjoin ! $ move ! (1 ∷ 0 ∷ []) $ fjoin ! $
            owned ! E (Is E) (P.makes D.event 𝓛) e _ is-e $ fjoin ! $
            owned ! R (Is R) (P.makes D.rec 𝓛) h _ is-h $ fjoin ! $ move ! (1 ∷ 0 ∷ []) $ join ! $ frame ! $ done !

        module _ (C : Calls 𝓤 H) (Λ : Loops 𝓤 H) (fm : FmC 𝓤 H 𝓛.laws C) (known : Triple 𝓤 (C D.step) Step) where
          walk : Room u64 (length x₁.now) → Room u64 (length x₂.now) → ent 𝓤 (on_entry 𝓛 ended.signature (κ, (κ₁, (κ₂, tt))) (q, (q₁, (q₂, tt))) x at) (WpFn 𝓤 H C Λ function (vptr b o ∷ e-val e ∷ s₁ ∷ s₂ ∷ []) Post)
          walk room₁ room₂ =
              qed 𝓛 ((‵ (flft κ q) ⊛ (‵ (flft κ₁ q₁) ⊛ (‵ (flft κ₂ q₂) ⊛ ‵ ftrue))) ∷ ‵ (owns (MutRef (named 0) κ R ∷ E ∷ MutSlice (named 1) κ₁ u64 ∷ MutSlice (named 2) κ₂ u64 ∷ []) x at) ∷ []) ∵
              split ! $ move ! (2 ∷ []) $ fsplit ! $ fsplit3 ! $ drop ! $ move ! (2 ∷ []) $ fsplit ! $ drop ! $ fsplit ! $ move ! (1 ∷ []) $ fsplit ! $ move ! (1 ∷ []) $ move ! (3 ∷ 4 ∷ 5 ∷ 6 ∷ 2 ∷ 1 ∷ []) $
              -- [obs; the borrow; its token; the tables' tokens; what the tables own; true]
              enter ! C Λ function (vptr b o ∷ e-val e ∷ s₁ ∷ s₂ ∷ []) _ $
              alloc_all ! (λ l. pass_all ! refl ((tt, tt), (P.typed D.event 𝓛 e is-e, ((tt, (tt, (record { fits = room₁.0 }, tt))), ((tt, (tt, (record { fits = room₂.0 }, tt))), tt)))) $
              opens ! tt R {h = h} b o (λ vs. spelt ! R (Is R) (shows 𝓛 R) (λ h. rec-val h ∷ []) (P.tells D.rec) full_share h vs b o $
              move ! (1 ∷ []) $ peeks ! R (Is R) (shows 𝓛 R) h (rec-val h ∷ []) (λ is-h. move ! (1 ∷ 0 ∷ []) $
              sets ! (of_opd ! (load ! (through ! refl (stop !)) (look_raw ! 0 refl))) refl (P.typed D.rec 𝓛 h is-h) $
              sets ! (addr ! (from ! (fld ! refl (hop ! (look_in_at ! 3 (sub ! 0 refl (whole !))) (stop !))))) refl (tt, tt) $
              sets ! (agg ! (and_then ! (get ! refl) (and_then ! (get_in ! (fld ! refl (stop !)) (sub ! 1 refl (whole !))) (no_more !)))) refl (tt, (tt, (record { fits = room₁.0 }, tt))) $
              sets ! (addr ! (from ! (fld ! refl (hop ! (look_in_at ! 4 (sub ! 0 refl (whole !))) (stop !))))) refl (tt, tt) $
              sets ! (agg ! (and_then ! (get ! refl) (and_then ! (get_in ! (fld ! refl (stop !)) (sub ! 1 refl (whole !))) (no_more !)))) refl (tt, (tt, (record { fits = room₂.0 }, tt))) $
              move ! (5 ∷ 6 ∷ 7 ∷ []) $ use3 𝓛 (raw (Step.pre to_step)) (goes_step is-h) $
              calls_at ! fm Step known to_step (and_then ! (get ! refl) (and_then ! (get ! refl) (and_then ! (get ! refl) (and_then ! (get ! refl) (no_more !))))) (λ v.
              use1 𝓛 (later (some (λ (r : D.Pair). ((‵ (flft κ₁ q₁) ⊛ (‵ (flft κ₂ q₂) ⊛ ‵ ftrue)) ⊛ ‵ (S.own_val r (v ∷ []))) ⊛ raw (ensured 𝓛 stepping (steps 𝓤) (κ₁, (κ₂, tt)) (h, (e, (x₁, (x₂, tt)))) tt r)))) (id⊢ 𝓤 _) $ await ! tt $ pick ! (λ r.
              split ! $ move ! (1 ∷ []) $ use1 𝓛 (some (λ (zs : Unit {0} × (Unit {0} × (List ℕ × (List ℕ × Unit {0})))). ‵ (lasts stepping (κ₁, (κ₂, tt)) (h, (e, (x₁, (x₂, tt)))) zs) ⊛ raw (fact 𝓤 (r ≡ D.step_of h e (length x₁.now) (length x₂.now))) ⊛ raw (fact 𝓤 (zs.1.1.0 ≡ D.entries_of h e x₁.now x₂.now)) ⊛ raw (facts 𝓤 (zs.1.1.1.0 ≡ D.contexts_of h e x₁.now x₂.now) (D.more h e (length x₁.now) (length x₂.now) r)))) (id⊢ 𝓤 _) $ pick ! (λ zs.
              split ! $ move ! (1 ∷ []) $ split ! $ heard ! (r ≡ D.step_of h e (length x₁.now) (length x₂.now)) (λ t. split ! $ heard ! (zs.1.1.0 ≡ D.entries_of h e x₁.now x₂.now) (λ t₁. use1 𝓛 (raw (fact 𝓤 (zs.1.1.1.0 ≡ D.contexts_of h e x₁.now x₂.now))) (first-fact 𝓤 (D.more h e (length x₁.now) (length x₂.now) r)) $ heard ! (zs.1.1.1.0 ≡ D.contexts_of h e x₁.now x₂.now) (λ t₂.
              fsplit ! $ drop ! $ fsplit ! $ drop ! $ fsplit ! $ fsplit ! $ fsplit ! $ move ! (1 ∷ []) $ feq_l ! (λ m₁. fjoin ! $ move ! (1 ∷ []) $ fsplit ! $ fsplit ! $ fsplit ! $ move ! (1 ∷ []) $ feq_l ! (λ m₂. fjoin ! $ move ! (2 ∷ 0 ∷ []) $
              move ! (3 ∷ []) $ split ! $ move ! (1 ∷ []) $ peeks ! S (Is S) (shows 𝓛 S) r (v ∷ []) (λ is. drop ! $
              -- [the tables' tokens; what is had of the tables; true; the record's cell; what it owned; the open borrow; obs; auth; true; the locals]
              lands_as ! (pair-tells r v is) refl (pair_fits r v is) $
              sets ! (of_opd ! (get_in ! (fld ! {τ = D.rec.mir} {d = at_next} refl (stop !)) (next-part (l 5) r))) refl (P.typed D.rec 𝓛 (D.next r) (parts r v is).0) $
              assigns ! (of_opd ! (get ! refl)) (through ! refl (stop !)) (store_raw ! 4 refl (P.typed D.rec 𝓛 (D.next r) (parts r v is).0)) $
              sets ! (of_opd ! (get_in ! (fld ! {τ = D.answer.mir} {d = at-said} refl (stop !)) (said-part (l 5) r))) refl (P.typed D.answer 𝓛 (D.said r) (parts r v is).1) $
              move ! (4 ∷ 5 ∷ 6 ∷ 7 ∷ 8 ∷ []) $ move ! (1 ∷ []) $ drop ! $
              owned ! R (Is R) (P.makes D.rec 𝓛) (D.next r) _ (parts r v is).0 $ move ! (1 ∷ 0 ∷ []) $ closes ! tt R (D.next r) (rec-val (D.next r) ∷ []) b o $
              -- [obs; the borrow; its token; the tables' tokens; what is had of the tables; ..]
              returns ! (look_at ! 0 refl) $ free_all ! refl $ keep ! (0 ∷ 1 ∷ 2 ∷ 3 ∷ 4 ∷ 5 ∷ []) $
              by ! (exits r zs.1.1.0 zs.1.1.1.0 (record { answered = ap D.said t; stored = ap D.next t; entries = t₁; contexts = t₂ }) m₁ m₂ (parts r v is).1)))))))))))))

      goes : AllGo 𝓛 3 ended.signature.params ended.kept stayed
      goes = (Goes-ref 𝓛 3 0 tt (plain (λ _. R)), (Goes-none 𝓛 3 (λ _. E) yes (λ κs x f. refl), (Goes-gave_slice 𝓛 3 1 tt (plain (λ _. u64)), (Goes-gave_slice 𝓛 3 2 tt (plain (λ _. u64)), tt))))

      meets : (c : Clauses 𝓤 ended) → Promised 𝓤 c → (𝓣 : Tables 𝓤 H) → Triple 𝓤 (𝓣.C D.step) Step → Meets 𝓛 ended.signature (WpFn 𝓤 H 𝓣.C 𝓣.Λ function) (closing 𝓛 ended c)
      meets c promised 𝓣 known = walk_Meets 𝓛 ended stayed goes c (WpFn 𝓤 H 𝓣.C 𝓣.Λ function) (WpFn-mono 𝓤 H 𝓛.laws 𝓣 function)
          (walked 𝓛 ended stayed c (WpFn 𝓤 H 𝓣.C 𝓣.Λ function)
          (λ κs. (mut_vals, (λ e. e-val e ∷ [], (mut_slice_vals, (mut_slice_vals, tt)))))
          (λ κs. (mut_Tells (named 0) κs.0 R, (P.tells D.event, (mut_slice_Tells (named 1) κs.1.0 u64, (mut_slice_Tells (named 2) κs.1.1.0 u64, tt)))))
          (λ κs qs bounds a g are. via 𝓤 _ (fst∗ 𝓤 _ ((c κs a).requires g)) (walk c promised κs.0 κs.1.0 κs.1.1.0 qs.0 qs.1.0 qs.1.1.0 a.0.ref_ptr.0 a.0.ref_ptr.1 a.0.ghost_name a.0.now a.1.0 a.1.1.0 a.1.1.1.0 g are.1.0 𝓣.C 𝓣.Λ (fm_of 𝓤 H 𝓛.laws 𝓣) known are.1.1.0.0.1 are.1.1.1.0.0.1)))

  -- ---- the function k of γ, whose code is the door's, where the step of γ is the routine s and meets its contract
  pub in_place : {M : Type 1} {𝓤 : Ura M} (𝓛 : Logic 𝓤) (𝓜 : Model 𝓤 𝓛.H) (𝓡 : Running 𝓤 𝓛.H 𝓜) (c : Clauses 𝓤 ended) → Promised 𝓤 c
      → (γ : Env) (k : Callee) → Closed 𝓤 𝓛.H (tables 𝓤 𝓛.H 𝓜 𝓡 γ).C (tables 𝓤 𝓛.H 𝓜 𝓡 γ).Λ k function → (s : Routine) → γ D.step ≡ s → Triple 𝓤 (𝓡.run s) (Step 𝓛)
      → Meets 𝓛 ended.signature (𝓡.run (γ k)) (closing 𝓛 ended c)
  unfolding tables_of
  in_place {𝓤 = 𝓤} 𝓛 𝓜 𝓡 c promised γ k closed s is met =
      entered 𝓤 𝓛.H (triple_of 𝓛 ended.signature (closing 𝓛 ended c)) (tables 𝓤 𝓛.H 𝓜 𝓡 γ).C (tables 𝓤 𝓛.H 𝓜 𝓡 γ).Λ k function closed
      (meets 𝓛 c promised (tables_of 𝓤 𝓛.H 𝓜 (tables 𝓤 𝓛.H 𝓜 𝓡 γ)) (cited 𝓤 𝓛.H (Step 𝓛) 𝓜 𝓡 γ D.step s is met))
