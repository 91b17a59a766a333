-- A declared type of plain data, struct or enum, as a walk over any types has it: what is generated of the type as a field, and
-- its one MIR type. Each law is the field's own, read at that MIR type. Assumes nothing.
use mathlib.Core.Path.{◌≡◌, subst}
use mathlib.Core.List.{List, [], ◌∷◌}
use seplogic.Ra.Ura.{Ura}
use lib.Dec.{T as Holds}
use mir.Syntax.{Ty}
use mir.Val.{Val, has_ty, WT}
use base.Stored.{coded_via}
use types.Logic.{Logic}
use denote.Exit.{unchanged}
use denote.RattleType.{RattleType}
use denote.Shadow.{makes_shadow}
use denote.Laws.{Is, Tells, Typed, Makes}
use denote.Struct.Field.{Field}
use denote.Struct.Laws as LL

pub record Plain : Type 2 where
  pub field : Field
  pub laws : LL.FLaws field
  pub pure : LL.Plain field
  pub mir : Ty
  pub layout : field.row.mir ≡ mir ∷ []

module _ (P : Plain) where
  -- the type's own row, with its MIR type written out
  abbrev pub row : RattleType
  row = record {
    Denot = P.field.Value;
    mir = P.mir ∷ [];
    written = P.field.row.written;
    reaches = P.field.row.reaches;
    lives = P.field.row.lives;
    own_val = λ x vs. P.field.row.own_val (P.field.into x) vs;
    exit = λ k. unchanged;
    coded = coded_via P.field.row.coded P.field.into P.field.into_one;
    shr_at = λ x. P.field.row.shr_at (P.field.into x);
  }

  -- a value's machine value
  abbrev pub val : P.field.Value → Val
  val x = P.laws.val (P.field.into x)

  pub tells : Tells row (Is row) (λ x. val x ∷ [])
  tells x = P.laws.tells (P.field.into x)

  module _ {M : Type 1} {𝓤 : Ura M} (𝓛 : Logic 𝓤) where
    pub makes : Makes 𝓛 row (Is row)
    makes x vs = makes_shadow 𝓛 (row.own_val x vs) (P.pure (P.field.into x) vs)

    pub typed : (x : P.field.Value) → Is row x (val x ∷ []) → Holds (has_ty P.mir (val x)) × WT (val x)
    typed x is = (subst (λ (τs : List Ty). Typed τs (val x ∷ [])) P.layout ((P.laws.lawful 𝓛).typed (P.field.into x) _ is)).0
