-- Where a build's dest stands: the kinds of builds, and what is known of the dest of one in a slot.
use Prim.Native.Nat.{ℕ, ◌<◌}
use mathlib.Core.Path.{◌≡◌, refl}
use mathlib.Core.List.{List, []}
use mathlib.Core.Bool.{false}
use mathlib.Core.Option.{some, none-ne-some}
use lib.ListN.{drop}
use Rattle.mir.specs.declared.ValueId.{ValueId}
use Rattle.mir.specs.Syntax.{Instruction, InstructionKind}
use Rattle.mir.specs.Syntax.{Assign, UnaryOp, BinaryOp, Call, Cast, Load, Store, Debug, Nop, Phi, AssertEq, HeapAllocCells}
use Rattle.mir.specs.Syntax.{MakeTuple, ExtractTupleElement, MakeStruct, ExtractStructField, InsertField, InsertTuple, MakeFixedArray}
use Rattle.mir.specs.Reads.{kind_number}
use Rattle.bytes_field.specs.declared.Bounds.{Bounds}
use Rattle.bytes_operands.specs.Fields.{fields_place}
use Rattle.bytes_index.specs.Table.{place_in}
use Rattle.bytes_index.specs.Code.{InstructionIn}
use Rattle.fold.specs.Family.{build_dest}
use Rattle.fold_climb.proofs.Found.{DestAt, dest, tuple_place, struct_place, array_place}
use Rattle.fold_scan.specs.Noted.{dest_in}

-- a build is one of three kinds
pub build_kind_lem : {P : Type 0} (i : InstructionKind) (v : ValueId)
    → build_dest i ≡ some v → (kind_number i ≡ 10 → P) → (kind_number i ≡ 12 → P) → (kind_number i ≡ 16 → P) → P
unfolding build_dest
build_kind_lem (Assign d x t) v e h10 h12 h16 = absurd (none-ne-some _ e)
build_kind_lem (UnaryOp op d x) v e h10 h12 h16 = absurd (none-ne-some _ e)
build_kind_lem (BinaryOp op d x y) v e h10 h12 h16 = absurd (none-ne-some _ e)
build_kind_lem (Call ds f xs ps rs) v e h10 h12 h16 = absurd (none-ne-some _ e)
build_kind_lem (Cast d x t u) v e h10 h12 h16 = absurd (none-ne-some _ e)
build_kind_lem (Load d p t) v e h10 h12 h16 = absurd (none-ne-some _ e)
build_kind_lem (Store p x t) v e h10 h12 h16 = absurd (none-ne-some _ e)
build_kind_lem (Debug n xs) v e h10 h12 h16 = absurd (none-ne-some _ e)
build_kind_lem Nop v e h10 h12 h16 = absurd (none-ne-some _ e)
build_kind_lem (Phi d t ss) v e h10 h12 h16 = absurd (none-ne-some _ e)
build_kind_lem (MakeTuple d xs) v e h10 h12 h16 = h10 refl
build_kind_lem (ExtractTupleElement d x k t) v e h10 h12 h16 = absurd (none-ne-some _ e)
build_kind_lem (MakeStruct d fs t) v e h10 h12 h16 = h12 refl
build_kind_lem (ExtractStructField d x n t) v e h10 h12 h16 = absurd (none-ne-some _ e)
build_kind_lem (InsertField d x n y t) v e h10 h12 h16 = absurd (none-ne-some _ e)
build_kind_lem (InsertTuple d x k y t) v e h10 h12 h16 = absurd (none-ne-some _ e)
build_kind_lem (MakeFixedArray d xs t c) v e h10 h12 h16 = h16 refl
build_kind_lem (AssertEq x y) v e h10 h12 h16 = absurd (none-ne-some _ e)
build_kind_lem (HeapAllocCells d x) v e h10 h12 h16 = absurd (none-ne-some _ e)

-- its dest is its first field, and one of the values
pub data BuildAt (b : Bounds) (s facts : List ℕ) (slot : ℕ) (v : ValueId) : Type 0 where
  build_at : v.0 ≡ dest_in s facts slot → v.0 < b.next → BuildAt b s facts slot v

from_place : (b : Bounds) (s facts : List ℕ) (slot : ℕ) (i : InstructionKind) (v : ValueId) → build_dest i ≡ some v
    → DestAt b.next (drop (fields_place (drop (place_in facts slot) s)) (drop (place_in facts slot) s)) i → BuildAt b s facts slot v
from_place b s facts slot i v h (dest w g a low) = let z : w ≡ v = cc in build_at (rw z at a) (rw z at low)

pub build_place : (b : Bounds) (s facts : List ℕ) (slot : ℕ) (i : Instruction) (v : ValueId)
    → InstructionIn b s facts slot i → build_dest i.kind ≡ some v → BuildAt b s facts slot v
build_place b s facts slot i v at h =
    let t = drop (place_in facts slot) s in
    build_kind_lem i.kind v h
    (λ z. from_place b s facts slot i.kind v h (tuple_place b [] false t i _ at.read z))
    (λ z. from_place b s facts slot i.kind v h (struct_place b [] false t i _ at.read z))
    (λ z. from_place b s facts slot i.kind v h (array_place b [] false t i _ at.read z))
