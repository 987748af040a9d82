-- Which instructions and terminators have a byte form, in the words of document 01, "The routine in bytes".
use Rattle.std.specs.Prelude.{ℕ, ◌<◌, ◌≤◌, ◌≡◌, List, [], ◌∷◌, Bool, true, false, length, get_or}
use Rattle.std.proofs.Math.Option.{Option, none, some}
use Rattle.bytes_wire.specs.WellFormed.{FitValue}
use Rattle.mir.specs.Lists.{Each}
use Rattle.mir.specs.declared.Value.{Value}
use Rattle.mir.specs.declared.ValueId.{ValueId}
use Rattle.mir.specs.declared.BlockId.{BlockId}
use Rattle.mir.specs.declared.TypeId.{TypeId}
use Rattle.mir.specs.declared.NameId.{NameId}
use Rattle.mir.specs.declared.Projection.{Projection}
use Rattle.mir.specs.declared.Projection.TheVariants.{Index, Field, Tuple}
use Rattle.mir.specs.Syntax.{Place, Source, FieldInit, Span, ExpressionId, Meta, InstructionKind, Instruction, Terminator}
use Rattle.mir.specs.Syntax.{Assign, UnaryOp, BinaryOp, Call, Cast, Load, Store, Debug, Nop, Phi}
use Rattle.mir.specs.Syntax.{MakeTuple, ExtractTupleElement, MakeStruct, ExtractStructField, InsertField, InsertTuple, MakeFixedArray, AssertEq, HeapAllocCells}
use Rattle.mir.specs.Syntax.{Jump, If, BranchCmp, Return, Unreachable}
use Rattle.mir.specs.Reads.{is_phi}
use Rattle.bytes_field.specs.Decode.{mark}
use Rattle.bytes_field.specs.declared.Bounds.{Bounds}

-- "value, block, function, name and type numbers are u16, lists u8 count first": the bounds do not pass their fields
pub record Wide (b : Bounds) : Type 0 where
  pub types : b.types ≤ 65536
  pub next : b.next ≤ 65536
  pub blocks : b.blocks ≤ 65536
  pub list : b.list ≤ 255
  pub projections : b.projections ≤ 255

-- at most so many, and it holds of each
abbrev pub FitList : {A : Type 0} → ℕ → (A → Type 0) → List A → Type 0
FitList most P xs = (length xs ≤ most) × Each P xs

-- it holds of what there is
abbrev pub FitOption : {A : Type 0} → (A → Type 0) → Option A → Type 0
FitOption P none = Unit {0}
FitOption P (some a) = P a

-- "an index u32, a message u32"; "expression id, u32 and u64"
abbrev pub Fit16 : ℕ → Type 0
Fit16 x = x < 65536

abbrev pub Fit32 : ℕ → Type 0
Fit32 x = x < 4294967296

abbrev pub Fit64 : ℕ → Type 0
Fit64 x = x < 18446744073709551616

-- "type number not below its own or the count; value not below next; block not below count"
abbrev pub FitType : Bounds → TypeId → Type 0
FitType b t = t.0 < b.types

abbrev pub FitBlock : Bounds → BlockId → Type 0
FitBlock b p = p.0 < b.blocks

abbrev pub FitName : NameId → Type 0
FitName n = Fit16 n.0

-- a value that is defined here, and not before: "a value defined twice, parameters included"
abbrev pub FitNew : Bounds → List Bool → ValueId → Type 0
FitNew b seen d = (d.0 < b.next) × (get_or seen d.0 false ≡ false)

-- a Call's dests: each is marked before the next
abbrev pub FitNews : Bounds → List Bool → List ValueId → Type 0
FitNews b seen [] = Unit {0}
FitNews b seen (d ∷ ds) = FitNew b seen d × FitNews b (mark seen d) ds

-- "a place is base, then list of projections: u8 0 Index value, 1 Field name, 2 Tuple index"
abbrev pub FitProjection : Bounds → Projection → Type 0
FitProjection b (Index x) = FitValue b.next x
FitProjection b (Field n) = FitName n
FitProjection b (Tuple k) = Fit32 k

abbrev pub FitPlace : Bounds → Place → Type 0
FitPlace b p = (p.base.0 < b.next) × FitList b.projections (FitProjection b) p.projections

abbrev pub FitSource : Bounds → Source → Type 0
FitSource b s = FitBlock b s.block × FitValue b.next s.value

abbrev pub FitInit : Bounds → FieldInit → Type 0
FitInit b f = FitName f.name × FitValue b.next f.value

-- "bit 0 span, two u32; 1 expression id, u32 and u64; 2 comment, u32"
abbrev pub FitSpan : Span → Type 0
FitSpan p = Fit32 p.start × Fit32 p.stop

abbrev pub FitExpression : ExpressionId → Type 0
FitExpression e = Fit32 e.index × Fit64 e.file

abbrev pub FitMeta : Meta → Type 0
FitMeta m = FitOption FitSpan m.span × FitOption FitExpression m.expression × FitOption Fit32 m.comment

-- the fields of each kind, as declared; "`BinaryOp` is a u8 0 to 25, `UnaryOp` a u8 0 to 15";
-- a Call has as many return types as dests
module _ (b : Bounds) where
  abbrev FitsValue : Value → Type 0
  FitsValue x = FitValue b.next x

  abbrev FitsValues : List Value → Type 0
  FitsValues xs = FitList b.list FitsValue xs

  abbrev FitsTypes : List TypeId → Type 0
  FitsTypes ts = FitList b.list (FitType b) ts

  abbrev pub FitKind : List Bool → InstructionKind → Type 0
  FitKind seen (Assign d x t) = FitNew b seen d × FitsValue x × FitType b t
  FitKind seen (UnaryOp op d x) = (op < 16) × FitNew b seen d × FitsValue x
  FitKind seen (BinaryOp op d x y) = (op < 26) × FitNew b seen d × FitsValue x × FitsValue y
  FitKind seen (Call ds f xs ps rs) =
      ((length ds ≤ b.list) × FitNews b seen ds) × Fit16 f × FitsValues xs × FitsTypes ps × FitsTypes rs × (length rs ≡ length ds)
  FitKind seen (Cast d x t u) = FitNew b seen d × FitsValue x × FitType b t × FitType b u
  FitKind seen (Load d p t) = FitNew b seen d × FitPlace b p × FitType b t
  FitKind seen (Store p x t) = FitPlace b p × FitsValue x × FitType b t
  FitKind seen (Debug m xs) = Fit32 m × FitsValues xs
  FitKind seen Nop = Unit {0}
  FitKind seen (Phi d t ss) = FitNew b seen d × FitType b t × FitList b.list (FitSource b) ss
  FitKind seen (MakeTuple d xs) = FitNew b seen d × FitsValues xs
  FitKind seen (ExtractTupleElement d x k t) = FitNew b seen d × FitsValue x × Fit32 k × FitType b t
  FitKind seen (MakeStruct d fs t) = FitNew b seen d × FitList b.list (FitInit b) fs × FitType b t
  FitKind seen (ExtractStructField d x n t) = FitNew b seen d × FitsValue x × FitName n × FitType b t
  FitKind seen (InsertField d x n y t) = FitNew b seen d × FitsValue x × FitName n × FitsValue y × FitType b t
  FitKind seen (InsertTuple d x k y t) = FitNew b seen d × FitsValue x × Fit32 k × FitsValue y × FitType b t
  FitKind seen (MakeFixedArray d xs t c) = FitNew b seen d × FitsValues xs × FitType b t
  FitKind seen (AssertEq x y) = FitsValue x × FitsValue y
  FitKind seen (HeapAllocCells d x) = FitNew b seen d × FitsValue x

  -- "Phi after another kind" has no byte form
  abbrev pub FitInstruction : List Bool → Bool → Instruction → Type 0
  FitInstruction seen late i = FitMeta i.meta × FitKind seen i.kind × (is_phi i.kind ≡ true → late ≡ false)

  -- "terminators are a u8 0 to 4 in declared order, then fields"
  abbrev pub FitTerminator : Terminator → Type 0
  FitTerminator (Jump p) = FitBlock b p
  FitTerminator (If x p q) = FitsValue x × FitBlock b p × FitBlock b q
  FitTerminator (BranchCmp op x y p q) = (op < 26) × FitsValue x × FitsValue y × FitBlock b p × FitBlock b q
  FitTerminator (Return xs) = FitsValues xs
  FitTerminator Unreachable = Unit {0}
