-- What fits some bounds fits wider ones, with any marks that leave the dests new.
use Prim.Native.Nat.{ℕ, ◌≤◌}
use mathlib.Core.List.{List, [], ◌∷◌}
use mathlib.Core.Bool.{Bool}
use native.Mathlib.Omega.{arith}
use Rattle.bytes_wire.specs.WellFormed.{FitValue}
use Rattle.mir.specs.declared.TypeId.{TypeId}
use Rattle.mir.specs.declared.BlockId.{BlockId}
use Rattle.mir.specs.declared.Literal.{Literal}
use Rattle.mir.specs.declared.Value.{Value}
use Rattle.mir.specs.declared.Projection.{Projection}
use Rattle.mir.specs.declared.Projection.TheVariants.{Index, Field}
use Rattle.mir.specs.Syntax.{Place, FieldInit, Source, InstructionKind, Assign, UnaryOp, BinaryOp, Call, Cast, Load, Store, Debug, Nop, Phi}
use Rattle.mir.specs.Syntax.{MakeTuple, ExtractTupleElement, MakeStruct, ExtractStructField, InsertField, InsertTuple, MakeFixedArray, AssertEq, HeapAllocCells}
use Rattle.mir.specs.Syntax.{Terminator, Jump, If, BranchCmp, Return, Unreachable}
use Rattle.mir.specs.Reads.{dests}
use Rattle.bytes_field.specs.declared.Bounds.{Bounds}
use Rattle.mir.specs.Lists.{Each}
use Rattle.bytes_laws.specs.WellFormed.{FitList, FitType, FitBlock, FitNews, FitProjection, FitPlace, FitSource, FitInit, FitKind, FitTerminator}

-- the bounds c are not narrower than b
pub record Wider (b c : Bounds) : Type 0 where
  pub types : b.types ≤ c.types
  pub next : b.next ≤ c.next
  pub blocks : b.blocks ≤ c.blocks
  pub list : b.list ≤ c.list
  pub projections : b.projections ≤ c.projections
  pub top : c.next ≤ 65536

pub each_wider : {A : Type 0} {P Q : A → Type 0} → ((a : A) → P a → Q a) → (xs : List A) → Each P xs → Each Q xs
each_wider f [] h = tt
each_wider f (x ∷ xs) h = (f x h.0, each_wider f xs h.1)

pub list_wider : {A : Type 0} {P Q : A → Type 0} {m n : ℕ} → m ≤ n → ((a : A) → P a → Q a) → (xs : List A) → FitList m P xs → FitList n Q xs
list_wider l f xs h = (omega (arith, h.0), each_wider f xs h.1)

module _ (b c : Bounds) (w : Wider b c) where
  pub value_wider : (x : Value) → FitValue b.next x → FitValue c.next x
  value_wider (Value.Literal (Literal.Integer x)) h = h
  value_wider (Value.Literal (Literal.Boolean x)) h = tt
  value_wider (Value.Literal Literal.Unit) h = tt
  value_wider (Value.Operand v) h = (omega (arith, h.0, w.next), w.top)
  value_wider Value.Error h = tt

  pub values_wider : (xs : List Value) → FitList b.list (FitValue b.next) xs → FitList c.list (FitValue c.next) xs
  values_wider xs h = list_wider w.list value_wider xs h

  pub type_wider : (t : TypeId) → FitType b t → FitType c t
  type_wider t h = omega (arith, w.types)

  block_wider : (k : BlockId) → FitBlock b k → FitBlock c k
  block_wider k h = omega (arith, w.blocks)

  projection_wider : (p : Projection) → FitProjection b p → FitProjection c p
  projection_wider (Index x) h = value_wider x h
  projection_wider (Field n) h = h
  projection_wider (Projection.Tuple k) h = h

  pub place_wider : (p : Place) → FitPlace b p → FitPlace c p
  place_wider p h = (omega (arith, h.0, w.next), list_wider w.projections projection_wider p.projections h.1)

  source_wider : (s : Source) → FitSource b s → FitSource c s
  source_wider s h = (block_wider s.block h.0, value_wider s.value h.1)

  pub init_wider : (f : FieldInit) → FitInit b f → FitInit c f
  init_wider f h = (h.0, value_wider f.value h.1)

  pub types_wider : (ts : List TypeId) → FitList b.list (FitType b) ts → FitList c.list (FitType c) ts
  types_wider ts h = list_wider w.list type_wider ts h

  pub kind_wider : (seen : List Bool) (i : InstructionKind) → FitKind b seen i → (marks : List Bool) → FitNews c marks (dests i) → FitKind c marks i
  kind_wider seen (Assign d x t) h marks n = (n.0, value_wider x h.1, type_wider t h.2)
  kind_wider seen (UnaryOp op d x) h marks n = (h.0, n.0, value_wider x h.2)
  kind_wider seen (BinaryOp op d x y) h marks n = (h.0, n.0, value_wider x h.2, value_wider y h.3)
  kind_wider seen (Call ds f xs ps rs) h marks n = ((omega (arith, h.0.0, w.list), n), h.1, values_wider xs h.2, types_wider ps h.3, types_wider rs h.4, h.5)
  kind_wider seen (Cast d x t u) h marks n = (n.0, value_wider x h.1, type_wider t h.2, type_wider u h.3)
  kind_wider seen (Load d p t) h marks n = (n.0, place_wider p h.1, type_wider t h.2)
  kind_wider seen (Store p x t) h marks n = (place_wider p h.0, value_wider x h.1, type_wider t h.2)
  kind_wider seen (Debug m xs) h marks n = (h.0, values_wider xs h.1)
  kind_wider seen Nop h marks n = tt
  kind_wider seen (Phi d t ss) h marks n = (n.0, type_wider t h.1, list_wider w.list source_wider ss h.2)
  kind_wider seen (MakeTuple d xs) h marks n = (n.0, values_wider xs h.1)
  kind_wider seen (ExtractTupleElement d x k t) h marks n = (n.0, value_wider x h.1, h.2, type_wider t h.3)
  kind_wider seen (MakeStruct d fs t) h marks n = (n.0, list_wider w.list init_wider fs h.1, type_wider t h.2)
  kind_wider seen (ExtractStructField d x f t) h marks n = (n.0, value_wider x h.1, h.2, type_wider t h.3)
  kind_wider seen (InsertField d x f y t) h marks n = (n.0, value_wider x h.1, h.2, value_wider y h.3, type_wider t h.4)
  kind_wider seen (InsertTuple d x k y t) h marks n = (n.0, value_wider x h.1, h.2, value_wider y h.3, type_wider t h.4)
  kind_wider seen (MakeFixedArray d xs t q) h marks n = (n.0, values_wider xs h.1, type_wider t h.2)
  kind_wider seen (AssertEq x y) h marks n = (value_wider x h.0, value_wider y h.1)
  kind_wider seen (HeapAllocCells d x) h marks n = (n.0, value_wider x h.1)

  pub end_wider : (t : Terminator) → FitTerminator b t → FitTerminator c t
  end_wider (Jump p) h = block_wider p h
  end_wider (If x p q) h = (value_wider x h.0, block_wider p h.1, block_wider q h.2)
  end_wider (BranchCmp op x y p q) h = (h.0, value_wider x h.1, value_wider y h.2, block_wider p h.3, block_wider q h.4)
  end_wider (Return xs) h = values_wider xs h
  end_wider Unreachable h = tt
