-- Kinds, shapes and their numbers: as the code writes them, and that no two kinds have one.
use Prim.Native.Nat.{ℕ}
use mathlib.Core.Path.{◌≡◌, refl, ap, sym, ◌∙◌}
use denote.Enum.Declared.{tag_of}
use mathlib.Core.Bool.{true, false, not, true≢false}
use denote.Enum.Bare.{tag_one, differs_true, differs_false}
use Rattle.std.specs.Option.{option_eq}
use Rattle.mir.specs.contracts.kind.KindPartialEq.TheImpl.{eq-value}
use native.Mathlib.Omega.{arith}
use Rattle.std.specs.Prelude.{Some, None, Option as Answered}
use Rattle.mir.specs.contracts.kind.Kind.{the_type}
use Rattle.mir.specs.declared.kind.Kind.{Kind}
use Rattle.mir.specs.contracts.shape.Shape.{the_type as the_shape}
use Rattle.mir.specs.declared.shape.Shape.{Shape}
use Rattle.mir.specs.Shape.{number_of_shape}
use Rattle.mir.specs.Kind.{number_of_kind, NamesKind}
use Rattle.mir.proofs.Numbered.{kind_below}

-- a kind is its number
pub kind_tag : (k : Kind) → tag_of the_type k ≡ number_of_kind k
kind_tag Kind.Assign = refl
kind_tag Kind.UnaryOp = refl
kind_tag Kind.BinaryOp = refl
kind_tag Kind.Call = refl
kind_tag Kind.Cast = refl
kind_tag Kind.Load = refl
kind_tag Kind.Store = refl
kind_tag Kind.Debug = refl
kind_tag Kind.Nop = refl
kind_tag Kind.Phi = refl
kind_tag Kind.MakeTuple = refl
kind_tag Kind.ExtractTupleElement = refl
kind_tag Kind.MakeStruct = refl
kind_tag Kind.ExtractStructField = refl
kind_tag Kind.InsertField = refl
kind_tag Kind.InsertTuple = refl
kind_tag Kind.MakeFixedArray = refl
kind_tag Kind.AssertEq = refl
kind_tag Kind.HeapAllocCells = refl

-- a shape is its number
pub shape_tag : (k : Shape) → tag_of the_shape k ≡ number_of_shape k
shape_tag Shape.Other = refl
shape_tag Shape.Tuple = refl
shape_tag Shape.Struct = refl
shape_tag Shape.FixedArray = refl

-- kinds of one number are one kind
pub one_kind : (j k : Kind) → number_of_kind j ≡ number_of_kind k → j ≡ k
one_kind j k e = tag_one the_type tt j k (kind_tag j ∙ e ∙ sym (kind_tag k))

-- where a kind's number stands, the kind is what the code finds
pub names_one : (n : ℕ) (o : Answered Kind) (k : Kind) → NamesKind n o → n ≡ number_of_kind k → o ≡ Some k
names_one n None k h e = absurd (omega (arith, kind_below k))
names_one n (Some j) k h e = ap Some (one_kind j k (h ∙ e))

-- what an `if` knows that compares what was found with a kind
pub kind_other : (o : Answered Kind) (k : Kind) → true ≡ not (option_eq eq-value.it o (Some k)) → o ≡ Some k → ⊥
kind_other o k e h = differs_true the_type k k (sym (rw h at e)) refl

pub kind_same : (o : Answered Kind) (k : Kind) → false ≡ not (option_eq eq-value.it o (Some k)) → o ≡ Some k
kind_same None k e = absurd (true≢false (sym e))
kind_same (Some j) k e = ap Some (differs_false the_type tt j k (sym e))

-- and what stands there, where it is that kind
pub kind_found : (n : ℕ) (o : Answered Kind) (k : Kind) → NamesKind n o → false ≡ not (option_eq eq-value.it o (Some k)) → n ≡ number_of_kind k
kind_found n o k h e = let z : NamesKind n (Some k) = rw (kind_same o k e) at h in sym z
