-- What edition 2 makes of small routines, each computed from the definitions and held to an implementation that was written apart from them
-- (host/edition2; `tools/rows.py` wrote this file from its vectors).
use mathlib.Core.Path.{◌≡◌, refl}
use mathlib.Core.List.{[], ◌∷◌}
use mathlib.Core.Bool.{true}
use mathlib.Core.Option.{none, some}
use Rattle.bytes_wire.specs.Value.{integer}
use Rattle.mir.specs.declared.Value.{Value}
use Rattle.mir.specs.declared.Projection.TheVariants.{Tuple}
use Rattle.mir.specs.MirType.{MirType}
use Rattle.mir.specs.Syntax.{plain, Return, Load, Store, MakeTuple, AssertEq}
use Rattle.mir.specs.Routine.{Routine}
use Rattle.fold.specs.declared.Edition.{Edition}
use Rattle.fold.specs.declared.Settings.{Settings}
use Rattle.rewrite.specs.Run.{rewritten_blocks, rewrite}
use Rattle.rewrite.proofs.Open.{all_open}

-- edition 2, the other settings as usual
abbrev second : Settings
second = record { tuples = true; structs = true; most = 8; edition = Edition.Second }

-- a tuple of a tuple, returned
abbrev input_0 : Routine
input_0 =
    record {
      types =
          MirType.Felt ∷
          (MirType.Tuple ((record { 0 = 0 }) ∷ (record { 0 = 0 }) ∷ [])) ∷
          (MirType.Tuple ((record { 0 = 1 }) ∷ (record { 0 = 0 }) ∷ [])) ∷
          (MirType.Struct (record { 0 = 0 }) ((record { name = (record { 0 = 1 }); part = (record { 0 = 1 }) }) ∷ (record { name = (record { 0 = 2 }); part = (record { 0 = 0 }) }) ∷ [])) ∷
          (MirType.FixedArray (record { 0 = 1 }) 2) ∷
          (MirType.Pointer (record { 0 = 2 })) ∷
          (MirType.Tuple []) ∷
          (MirType.Struct (record { 0 = 9 }) []) ∷
          (MirType.Tuple ((record { 0 = 2 }) ∷ (record { 0 = 2 }) ∷ [])) ∷
          [];
      next = 2;
      entry = (record { 0 = 0 });
      parameters = [];
      recorded = (some (record { 0 = 1 }) ∷ some (record { 0 = 2 }) ∷ []);
      blocks =
          record {
            instructions =
                plain (MakeTuple (record { 0 = 0 }) ((integer 7) ∷ (integer 8) ∷ [])) ∷
                plain (MakeTuple (record { 0 = 1 }) ((Value.Operand (record { 0 = 0 })) ∷ (integer 9) ∷ [])) ∷
                [];
            terminator = Return ((Value.Operand (record { 0 = 1 })) ∷ []);
          } ∷
          [];
    }

pub counts_0 : (rewritten_blocks second input_0).counts ≡ record { builds = 2; extracts = 0; inserts = 0; assigns = 0; materializations = 2 }
unfolding all_open
counts_0 = refl

pub fault_0 : (rewritten_blocks second input_0).fault ≡ none
unfolding all_open
fault_0 = refl

abbrev output_0 : Routine
output_0 =
    record {
      types =
          MirType.Felt ∷
          (MirType.Tuple ((record { 0 = 0 }) ∷ (record { 0 = 0 }) ∷ [])) ∷
          (MirType.Tuple ((record { 0 = 1 }) ∷ (record { 0 = 0 }) ∷ [])) ∷
          (MirType.Struct (record { 0 = 0 }) ((record { name = (record { 0 = 1 }); part = (record { 0 = 1 }) }) ∷ (record { name = (record { 0 = 2 }); part = (record { 0 = 0 }) }) ∷ [])) ∷
          (MirType.FixedArray (record { 0 = 1 }) 2) ∷
          (MirType.Pointer (record { 0 = 2 })) ∷
          (MirType.Tuple []) ∷
          (MirType.Struct (record { 0 = 9 }) []) ∷
          (MirType.Tuple ((record { 0 = 2 }) ∷ (record { 0 = 2 }) ∷ [])) ∷
          [];
      next = 4;
      entry = (record { 0 = 0 });
      parameters = [];
      recorded = (some (record { 0 = 1 }) ∷ some (record { 0 = 2 }) ∷ some (record { 0 = 1 }) ∷ some (record { 0 = 2 }) ∷ []);
      blocks =
          record {
            instructions =
                plain (MakeTuple (record { 0 = 2 }) ((integer 7) ∷ (integer 8) ∷ [])) ∷
                plain (MakeTuple (record { 0 = 3 }) ((Value.Operand (record { 0 = 2 })) ∷ (integer 9) ∷ [])) ∷
                [];
            terminator = Return ((Value.Operand (record { 0 = 3 })) ∷ []);
          } ∷
          [];
    }

pub row_0 : rewrite second input_0 ≡ output_0
unfolding all_open
row_0 = refl

-- AssertEq with both sides the same
abbrev input_1 : Routine
input_1 =
    record {
      types =
          MirType.Felt ∷
          (MirType.Tuple ((record { 0 = 0 }) ∷ (record { 0 = 0 }) ∷ [])) ∷
          (MirType.Tuple ((record { 0 = 1 }) ∷ (record { 0 = 0 }) ∷ [])) ∷
          (MirType.Struct (record { 0 = 0 }) ((record { name = (record { 0 = 1 }); part = (record { 0 = 1 }) }) ∷ (record { name = (record { 0 = 2 }); part = (record { 0 = 0 }) }) ∷ [])) ∷
          (MirType.FixedArray (record { 0 = 1 }) 2) ∷
          (MirType.Pointer (record { 0 = 2 })) ∷
          (MirType.Tuple []) ∷
          (MirType.Struct (record { 0 = 9 }) []) ∷
          (MirType.Tuple ((record { 0 = 2 }) ∷ (record { 0 = 2 }) ∷ [])) ∷
          [];
      next = 2;
      entry = (record { 0 = 0 });
      parameters = [];
      recorded = (some (record { 0 = 1 }) ∷ some (record { 0 = 2 }) ∷ []);
      blocks =
          record {
            instructions =
                plain (MakeTuple (record { 0 = 0 }) ((integer 7) ∷ (integer 8) ∷ [])) ∷
                plain (MakeTuple (record { 0 = 1 }) ((Value.Operand (record { 0 = 0 })) ∷ (integer 9) ∷ [])) ∷
                plain (AssertEq (Value.Operand (record { 0 = 0 })) (Value.Operand (record { 0 = 0 }))) ∷
                [];
            terminator = Return [];
          } ∷
          [];
    }

pub counts_1 : (rewritten_blocks second input_1).counts ≡ record { builds = 2; extracts = 0; inserts = 0; assigns = 0; materializations = 2 }
unfolding all_open
counts_1 = refl

pub fault_1 : (rewritten_blocks second input_1).fault ≡ none
unfolding all_open
fault_1 = refl

abbrev output_1 : Routine
output_1 =
    record {
      types =
          MirType.Felt ∷
          (MirType.Tuple ((record { 0 = 0 }) ∷ (record { 0 = 0 }) ∷ [])) ∷
          (MirType.Tuple ((record { 0 = 1 }) ∷ (record { 0 = 0 }) ∷ [])) ∷
          (MirType.Struct (record { 0 = 0 }) ((record { name = (record { 0 = 1 }); part = (record { 0 = 1 }) }) ∷ (record { name = (record { 0 = 2 }); part = (record { 0 = 0 }) }) ∷ [])) ∷
          (MirType.FixedArray (record { 0 = 1 }) 2) ∷
          (MirType.Pointer (record { 0 = 2 })) ∷
          (MirType.Tuple []) ∷
          (MirType.Struct (record { 0 = 9 }) []) ∷
          (MirType.Tuple ((record { 0 = 2 }) ∷ (record { 0 = 2 }) ∷ [])) ∷
          [];
      next = 4;
      entry = (record { 0 = 0 });
      parameters = [];
      recorded = (some (record { 0 = 1 }) ∷ some (record { 0 = 2 }) ∷ some (record { 0 = 1 }) ∷ some (record { 0 = 1 }) ∷ []);
      blocks =
          record {
            instructions =
                plain (MakeTuple (record { 0 = 2 }) ((integer 7) ∷ (integer 8) ∷ [])) ∷
                plain (MakeTuple (record { 0 = 3 }) ((integer 7) ∷ (integer 8) ∷ [])) ∷
                plain (AssertEq (Value.Operand (record { 0 = 2 })) (Value.Operand (record { 0 = 3 }))) ∷
                [];
            terminator = Return [];
          } ∷
          [];
    }

pub row_1 : rewrite second input_1 ≡ output_1
unfolding all_open
row_1 = refl

-- the base of a kept Load
abbrev input_2 : Routine
input_2 =
    record {
      types =
          MirType.Felt ∷
          (MirType.Tuple ((record { 0 = 0 }) ∷ (record { 0 = 0 }) ∷ [])) ∷
          (MirType.Tuple ((record { 0 = 1 }) ∷ (record { 0 = 0 }) ∷ [])) ∷
          (MirType.Struct (record { 0 = 0 }) ((record { name = (record { 0 = 1 }); part = (record { 0 = 1 }) }) ∷ (record { name = (record { 0 = 2 }); part = (record { 0 = 0 }) }) ∷ [])) ∷
          (MirType.FixedArray (record { 0 = 1 }) 2) ∷
          (MirType.Pointer (record { 0 = 2 })) ∷
          (MirType.Tuple []) ∷
          (MirType.Struct (record { 0 = 9 }) []) ∷
          (MirType.Tuple ((record { 0 = 2 }) ∷ (record { 0 = 2 }) ∷ [])) ∷
          [];
      next = 3;
      entry = (record { 0 = 0 });
      parameters = [];
      recorded = (some (record { 0 = 1 }) ∷ some (record { 0 = 2 }) ∷ some (record { 0 = 1 }) ∷ []);
      blocks =
          record {
            instructions =
                plain (MakeTuple (record { 0 = 0 }) ((integer 7) ∷ (integer 8) ∷ [])) ∷
                plain (MakeTuple (record { 0 = 1 }) ((Value.Operand (record { 0 = 0 })) ∷ (integer 9) ∷ [])) ∷
                plain (Load (record { 0 = 2 }) (record { base = (record { 0 = 1 }); projections = ((Tuple 0) ∷ []) }) (record { 0 = 1 })) ∷
                [];
            terminator = Return ((Value.Operand (record { 0 = 2 })) ∷ []);
          } ∷
          [];
    }

pub counts_2 : (rewritten_blocks second input_2).counts ≡ record { builds = 1; extracts = 0; inserts = 0; assigns = 0; materializations = 1 }
unfolding all_open
counts_2 = refl

pub fault_2 : (rewritten_blocks second input_2).fault ≡ none
unfolding all_open
fault_2 = refl

abbrev output_2 : Routine
output_2 =
    record {
      types =
          MirType.Felt ∷
          (MirType.Tuple ((record { 0 = 0 }) ∷ (record { 0 = 0 }) ∷ [])) ∷
          (MirType.Tuple ((record { 0 = 1 }) ∷ (record { 0 = 0 }) ∷ [])) ∷
          (MirType.Struct (record { 0 = 0 }) ((record { name = (record { 0 = 1 }); part = (record { 0 = 1 }) }) ∷ (record { name = (record { 0 = 2 }); part = (record { 0 = 0 }) }) ∷ [])) ∷
          (MirType.FixedArray (record { 0 = 1 }) 2) ∷
          (MirType.Pointer (record { 0 = 2 })) ∷
          (MirType.Tuple []) ∷
          (MirType.Struct (record { 0 = 9 }) []) ∷
          (MirType.Tuple ((record { 0 = 2 }) ∷ (record { 0 = 2 }) ∷ [])) ∷
          [];
      next = 4;
      entry = (record { 0 = 0 });
      parameters = [];
      recorded = (some (record { 0 = 1 }) ∷ some (record { 0 = 2 }) ∷ some (record { 0 = 1 }) ∷ some (record { 0 = 2 }) ∷ []);
      blocks =
          record {
            instructions =
                plain (MakeTuple (record { 0 = 0 }) ((integer 7) ∷ (integer 8) ∷ [])) ∷
                plain (MakeTuple (record { 0 = 3 }) ((Value.Operand (record { 0 = 0 })) ∷ (integer 9) ∷ [])) ∷
                plain (Load (record { 0 = 2 }) (record { base = (record { 0 = 3 }); projections = ((Tuple 0) ∷ []) }) (record { 0 = 1 })) ∷
                [];
            terminator = Return ((Value.Operand (record { 0 = 2 })) ∷ []);
          } ∷
          [];
    }

pub row_2 : rewrite second input_2 ≡ output_2
unfolding all_open
row_2 = refl

-- the base of a kept Store, and its value
abbrev input_3 : Routine
input_3 =
    record {
      types =
          MirType.Felt ∷
          (MirType.Tuple ((record { 0 = 0 }) ∷ (record { 0 = 0 }) ∷ [])) ∷
          (MirType.Tuple ((record { 0 = 1 }) ∷ (record { 0 = 0 }) ∷ [])) ∷
          (MirType.Struct (record { 0 = 0 }) ((record { name = (record { 0 = 1 }); part = (record { 0 = 1 }) }) ∷ (record { name = (record { 0 = 2 }); part = (record { 0 = 0 }) }) ∷ [])) ∷
          (MirType.FixedArray (record { 0 = 1 }) 2) ∷
          (MirType.Pointer (record { 0 = 2 })) ∷
          (MirType.Tuple []) ∷
          (MirType.Struct (record { 0 = 9 }) []) ∷
          (MirType.Tuple ((record { 0 = 2 }) ∷ (record { 0 = 2 }) ∷ [])) ∷
          [];
      next = 3;
      entry = (record { 0 = 0 });
      parameters = [];
      recorded = (some (record { 0 = 1 }) ∷ some (record { 0 = 2 }) ∷ some (record { 0 = 1 }) ∷ []);
      blocks =
          record {
            instructions =
                plain (MakeTuple (record { 0 = 0 }) ((integer 7) ∷ (integer 8) ∷ [])) ∷
                plain (MakeTuple (record { 0 = 1 }) ((Value.Operand (record { 0 = 0 })) ∷ (integer 9) ∷ [])) ∷
                plain (MakeTuple (record { 0 = 2 }) ((integer 1) ∷ (integer 2) ∷ [])) ∷
                plain (Store (record { base = (record { 0 = 1 }); projections = ((Tuple 0) ∷ []) }) (Value.Operand (record { 0 = 2 })) (record { 0 = 1 })) ∷
                [];
            terminator = Return [];
          } ∷
          [];
    }

pub counts_3 : (rewritten_blocks second input_3).counts ≡ record { builds = 2; extracts = 0; inserts = 0; assigns = 0; materializations = 1 }
unfolding all_open
counts_3 = refl

pub fault_3 : (rewritten_blocks second input_3).fault ≡ none
unfolding all_open
fault_3 = refl

abbrev output_3 : Routine
output_3 =
    record {
      types =
          MirType.Felt ∷
          (MirType.Tuple ((record { 0 = 0 }) ∷ (record { 0 = 0 }) ∷ [])) ∷
          (MirType.Tuple ((record { 0 = 1 }) ∷ (record { 0 = 0 }) ∷ [])) ∷
          (MirType.Struct (record { 0 = 0 }) ((record { name = (record { 0 = 1 }); part = (record { 0 = 1 }) }) ∷ (record { name = (record { 0 = 2 }); part = (record { 0 = 0 }) }) ∷ [])) ∷
          (MirType.FixedArray (record { 0 = 1 }) 2) ∷
          (MirType.Pointer (record { 0 = 2 })) ∷
          (MirType.Tuple []) ∷
          (MirType.Struct (record { 0 = 9 }) []) ∷
          (MirType.Tuple ((record { 0 = 2 }) ∷ (record { 0 = 2 }) ∷ [])) ∷
          [];
      next = 4;
      entry = (record { 0 = 0 });
      parameters = [];
      recorded = (some (record { 0 = 1 }) ∷ some (record { 0 = 2 }) ∷ some (record { 0 = 1 }) ∷ some (record { 0 = 1 }) ∷ []);
      blocks =
          record {
            instructions =
                plain (MakeTuple (record { 0 = 0 }) ((integer 7) ∷ (integer 8) ∷ [])) ∷
                plain (MakeTuple (record { 0 = 3 }) ((integer 1) ∷ (integer 2) ∷ [])) ∷
                plain (Store (record { base = (record { 0 = 1 }); projections = ((Tuple 0) ∷ []) }) (Value.Operand (record { 0 = 3 })) (record { 0 = 1 })) ∷
                [];
            terminator = Return [];
          } ∷
          [];
    }

pub row_3 : rewrite second input_3 ≡ output_3
unfolding all_open
row_3 = refl

-- a diamond of parts
abbrev input_4 : Routine
input_4 =
    record {
      types =
          MirType.Felt ∷
          (MirType.Tuple ((record { 0 = 0 }) ∷ (record { 0 = 0 }) ∷ [])) ∷
          (MirType.Tuple ((record { 0 = 1 }) ∷ (record { 0 = 0 }) ∷ [])) ∷
          (MirType.Struct (record { 0 = 0 }) ((record { name = (record { 0 = 1 }); part = (record { 0 = 1 }) }) ∷ (record { name = (record { 0 = 2 }); part = (record { 0 = 0 }) }) ∷ [])) ∷
          (MirType.FixedArray (record { 0 = 1 }) 2) ∷
          (MirType.Pointer (record { 0 = 2 })) ∷
          (MirType.Tuple []) ∷
          (MirType.Struct (record { 0 = 9 }) []) ∷
          (MirType.Tuple ((record { 0 = 2 }) ∷ (record { 0 = 2 }) ∷ [])) ∷
          [];
      next = 4;
      entry = (record { 0 = 0 });
      parameters = [];
      recorded = (some (record { 0 = 1 }) ∷ some (record { 0 = 2 }) ∷ some (record { 0 = 2 }) ∷ some (record { 0 = 8 }) ∷ []);
      blocks =
          record {
            instructions =
                plain (MakeTuple (record { 0 = 0 }) ((integer 7) ∷ (integer 8) ∷ [])) ∷
                plain (MakeTuple (record { 0 = 1 }) ((Value.Operand (record { 0 = 0 })) ∷ (integer 9) ∷ [])) ∷
                plain (MakeTuple (record { 0 = 2 }) ((Value.Operand (record { 0 = 0 })) ∷ (integer 10) ∷ [])) ∷
                plain (MakeTuple (record { 0 = 3 }) ((Value.Operand (record { 0 = 1 })) ∷ (Value.Operand (record { 0 = 2 })) ∷ [])) ∷
                [];
            terminator = Return ((Value.Operand (record { 0 = 3 })) ∷ []);
          } ∷
          [];
    }

pub counts_4 : (rewritten_blocks second input_4).counts ≡ record { builds = 4; extracts = 0; inserts = 0; assigns = 0; materializations = 5 }
unfolding all_open
counts_4 = refl

pub fault_4 : (rewritten_blocks second input_4).fault ≡ none
unfolding all_open
fault_4 = refl

abbrev output_4 : Routine
output_4 =
    record {
      types =
          MirType.Felt ∷
          (MirType.Tuple ((record { 0 = 0 }) ∷ (record { 0 = 0 }) ∷ [])) ∷
          (MirType.Tuple ((record { 0 = 1 }) ∷ (record { 0 = 0 }) ∷ [])) ∷
          (MirType.Struct (record { 0 = 0 }) ((record { name = (record { 0 = 1 }); part = (record { 0 = 1 }) }) ∷ (record { name = (record { 0 = 2 }); part = (record { 0 = 0 }) }) ∷ [])) ∷
          (MirType.FixedArray (record { 0 = 1 }) 2) ∷
          (MirType.Pointer (record { 0 = 2 })) ∷
          (MirType.Tuple []) ∷
          (MirType.Struct (record { 0 = 9 }) []) ∷
          (MirType.Tuple ((record { 0 = 2 }) ∷ (record { 0 = 2 }) ∷ [])) ∷
          [];
      next = 9;
      entry = (record { 0 = 0 });
      parameters = [];
      recorded = (some (record { 0 = 1 }) ∷ some (record { 0 = 2 }) ∷ some (record { 0 = 2 }) ∷ some (record { 0 = 8 }) ∷ some (record { 0 = 1 }) ∷ some (record { 0 = 2 }) ∷ some (record { 0 = 1 }) ∷ some (record { 0 = 2 }) ∷ some (record { 0 = 8 }) ∷ []);
      blocks =
          record {
            instructions =
                plain (MakeTuple (record { 0 = 4 }) ((integer 7) ∷ (integer 8) ∷ [])) ∷
                plain (MakeTuple (record { 0 = 5 }) ((Value.Operand (record { 0 = 4 })) ∷ (integer 9) ∷ [])) ∷
                plain (MakeTuple (record { 0 = 6 }) ((integer 7) ∷ (integer 8) ∷ [])) ∷
                plain (MakeTuple (record { 0 = 7 }) ((Value.Operand (record { 0 = 6 })) ∷ (integer 10) ∷ [])) ∷
                plain (MakeTuple (record { 0 = 8 }) ((Value.Operand (record { 0 = 5 })) ∷ (Value.Operand (record { 0 = 7 })) ∷ [])) ∷
                [];
            terminator = Return ((Value.Operand (record { 0 = 8 })) ∷ []);
          } ∷
          [];
    }

pub row_4 : rewrite second input_4 ≡ output_4
unfolding all_open
row_4 = refl
