-- What edition 2 makes of small routines, each computed from the definitions and held to an implementation that was written apart from them
-- (host/edition2; `tools/rows.py` wrote this file from its vectors).
use mathlib.Core.Path.{◌≡◌, refl}
use mathlib.Core.List.{[], ◌∷◌}
use mathlib.Core.Bool.{true, false}
use mathlib.Core.Option.{none, some}
use Rattle.bytes_wire.specs.Value.{integer, boolean}
use Rattle.mir.specs.declared.Value.{Value}
use Rattle.mir.specs.declared.Projection.TheVariants.{Index, Tuple}
use Rattle.mir.specs.MirType.{MirType}
use Rattle.mir.specs.Syntax.{plain, Return, Assign, Load, Store, MakeTuple, InsertTuple, MakeFixedArray}
use Rattle.mir.specs.Routine.{Routine}
use Rattle.fold.specs.declared.Edition.{Edition}
use Rattle.fold.specs.declared.Settings.{Settings}
use Rattle.rewrite.specs.declared.Fault.{Fault}
use Rattle.rewrite.specs.Run.{rewritten_blocks, rewrite}
use Rattle.rewrite.proofs.Open.{all_open}

-- edition 2, the other settings as usual
abbrev second : Settings
second = record { tuples = true; structs = true; most = 8; edition = Edition.Second }

-- a part without a recorded type
abbrev input_5 : Routine
input_5 =
    record {
      types =
          MirType.Felt ∷
          (MirType.Tuple ((record { 0 = 0 }) ∷ (record { 0 = 0 }) ∷ [])) ∷
          (MirType.Tuple ((record { 0 = 1 }) ∷ (record { 0 = 0 }) ∷ [])) ∷
          (MirType.Struct (record { 0 = 0 }) ((record { name = (record { 0 = 1 }); part = (record { 0 = 1 }) }) ∷ (record { name = (record { 0 = 2 }); part = (record { 0 = 0 }) }) ∷ [])) ∷
          (MirType.FixedArray (record { 0 = 1 }) 2) ∷
          (MirType.Pointer (record { 0 = 2 })) ∷
          (MirType.Tuple []) ∷
          (MirType.Struct (record { 0 = 9 }) []) ∷
          (MirType.Tuple ((record { 0 = 2 }) ∷ (record { 0 = 2 }) ∷ [])) ∷
          [];
      next = 4;
      entry = (record { 0 = 0 });
      parameters = [];
      recorded = (some (record { 0 = 1 }) ∷ none ∷ some (record { 0 = 2 }) ∷ some (record { 0 = 2 }) ∷ []);
      blocks =
          record {
            instructions =
                plain (MakeTuple (record { 0 = 0 }) ((integer 7) ∷ (integer 8) ∷ [])) ∷
                plain (Assign (record { 0 = 1 }) (Value.Operand (record { 0 = 0 })) (record { 0 = 1 })) ∷
                plain (MakeTuple (record { 0 = 2 }) ((Value.Operand (record { 0 = 0 })) ∷ (integer 9) ∷ [])) ∷
                plain (InsertTuple (record { 0 = 3 }) (Value.Operand (record { 0 = 2 })) 0 (Value.Operand (record { 0 = 1 })) (record { 0 = 2 })) ∷
                [];
            terminator = Return ((Value.Operand (record { 0 = 3 })) ∷ []);
          } ∷
          [];
    }

pub counts_5 : (rewritten_blocks second input_5).counts ≡ record { builds = 2; extracts = 0; inserts = 1; assigns = 1; materializations = 1 }
unfolding all_open
counts_5 = refl

pub fault_5 : (rewritten_blocks second input_5).fault ≡ none
unfolding all_open
fault_5 = refl

abbrev output_5 : Routine
output_5 =
    record {
      types =
          MirType.Felt ∷
          (MirType.Tuple ((record { 0 = 0 }) ∷ (record { 0 = 0 }) ∷ [])) ∷
          (MirType.Tuple ((record { 0 = 1 }) ∷ (record { 0 = 0 }) ∷ [])) ∷
          (MirType.Struct (record { 0 = 0 }) ((record { name = (record { 0 = 1 }); part = (record { 0 = 1 }) }) ∷ (record { name = (record { 0 = 2 }); part = (record { 0 = 0 }) }) ∷ [])) ∷
          (MirType.FixedArray (record { 0 = 1 }) 2) ∷
          (MirType.Pointer (record { 0 = 2 })) ∷
          (MirType.Tuple []) ∷
          (MirType.Struct (record { 0 = 9 }) []) ∷
          (MirType.Tuple ((record { 0 = 2 }) ∷ (record { 0 = 2 }) ∷ [])) ∷
          [];
      next = 5;
      entry = (record { 0 = 0 });
      parameters = [];
      recorded = (some (record { 0 = 1 }) ∷ none ∷ some (record { 0 = 2 }) ∷ some (record { 0 = 2 }) ∷ some (record { 0 = 2 }) ∷ []);
      blocks =
          record {
            instructions =
                plain (MakeTuple (record { 0 = 4 }) ((Value.Operand (record { 0 = 1 })) ∷ (integer 9) ∷ [])) ∷
                [];
            terminator = Return ((Value.Operand (record { 0 = 4 })) ∷ []);
          } ∷
          [];
    }

pub row_5 : rewrite second input_5 ≡ output_5
unfolding all_open
row_5 = refl

-- a part that is lost, a loop
abbrev input_6 : Routine
input_6 =
    record {
      types =
          MirType.Felt ∷
          (MirType.Tuple ((record { 0 = 0 }) ∷ [])) ∷
          [];
      next = 2;
      entry = (record { 0 = 0 });
      parameters = [];
      recorded = (some (record { 0 = 1 }) ∷ some (record { 0 = 1 }) ∷ []);
      blocks =
          record {
            instructions =
                plain (MakeTuple (record { 0 = 0 }) ((Value.Operand (record { 0 = 0 })) ∷ [])) ∷
                plain (MakeTuple (record { 0 = 1 }) ((integer 9) ∷ (Value.Operand (record { 0 = 0 })) ∷ [])) ∷
                [];
            terminator = Return ((Value.Operand (record { 0 = 1 })) ∷ []);
          } ∷
          [];
    }

pub counts_6 : (rewritten_blocks second input_6).counts ≡ record { builds = 2; extracts = 0; inserts = 0; assigns = 0; materializations = 1 }
unfolding all_open
counts_6 = refl

pub fault_6 : (rewritten_blocks second input_6).fault ≡ none
unfolding all_open
fault_6 = refl

abbrev output_6 : Routine
output_6 =
    record {
      types =
          MirType.Felt ∷
          (MirType.Tuple ((record { 0 = 0 }) ∷ [])) ∷
          [];
      next = 3;
      entry = (record { 0 = 0 });
      parameters = [];
      recorded = (some (record { 0 = 1 }) ∷ some (record { 0 = 1 }) ∷ some (record { 0 = 1 }) ∷ []);
      blocks =
          record {
            instructions =
                plain (MakeTuple (record { 0 = 2 }) ((integer 9) ∷ [])) ∷
                [];
            terminator = Return ((Value.Operand (record { 0 = 2 })) ∷ []);
          } ∷
          [];
    }

pub row_6 : rewrite second input_6 ≡ output_6
unfolding all_open
row_6 = refl

-- a later Boolean Index
abbrev input_7 : Routine
input_7 =
    record {
      types =
          MirType.Felt ∷
          (MirType.FixedArray (record { 0 = 0 }) 2) ∷
          (MirType.FixedArray (record { 0 = 1 }) 2) ∷
          [];
      next = 4;
      entry = (record { 0 = 0 });
      parameters = ((record { 0 = 3 }) ∷ []);
      recorded = (some (record { 0 = 1 }) ∷ some (record { 0 = 2 }) ∷ some (record { 0 = 0 }) ∷ some (record { 0 = 0 }) ∷ []);
      blocks =
          record {
            instructions =
                plain (MakeFixedArray (record { 0 = 0 }) ((integer 1) ∷ (integer 2) ∷ []) (record { 0 = 0 }) false) ∷
                plain (MakeFixedArray (record { 0 = 1 }) ((integer 3) ∷ (integer 4) ∷ []) (record { 0 = 1 }) false) ∷
                plain (Store (record { base = (record { 0 = 1 }); projections = ((Index (integer 0)) ∷ []) }) (Value.Operand (record { 0 = 0 })) (record { 0 = 1 })) ∷
                plain (Load (record { 0 = 2 }) (record { base = (record { 0 = 1 }); projections = ((Index (integer 0)) ∷ (Index (boolean true)) ∷ []) }) (record { 0 = 0 })) ∷
                [];
            terminator = Return [];
          } ∷
          [];
    }

pub counts_7 : (rewritten_blocks second input_7).counts ≡ record { builds = 2; extracts = 0; inserts = 1; assigns = 0; materializations = 2 }
unfolding all_open
counts_7 = refl

pub fault_7 : (rewritten_blocks second input_7).fault ≡ none
unfolding all_open
fault_7 = refl

abbrev output_7 : Routine
output_7 =
    record {
      types =
          MirType.Felt ∷
          (MirType.FixedArray (record { 0 = 0 }) 2) ∷
          (MirType.FixedArray (record { 0 = 1 }) 2) ∷
          [];
      next = 6;
      entry = (record { 0 = 0 });
      parameters = ((record { 0 = 3 }) ∷ []);
      recorded = (some (record { 0 = 1 }) ∷ some (record { 0 = 2 }) ∷ some (record { 0 = 0 }) ∷ some (record { 0 = 0 }) ∷ some (record { 0 = 1 }) ∷ some (record { 0 = 2 }) ∷ []);
      blocks =
          record {
            instructions =
                plain (MakeFixedArray (record { 0 = 4 }) ((integer 1) ∷ (integer 2) ∷ []) (record { 0 = 0 }) false) ∷
                plain (MakeFixedArray (record { 0 = 5 }) ((Value.Operand (record { 0 = 4 })) ∷ (integer 4) ∷ []) (record { 0 = 1 }) false) ∷
                plain (Load (record { 0 = 2 }) (record { base = (record { 0 = 5 }); projections = ((Index (integer 0)) ∷ (Index (boolean true)) ∷ []) }) (record { 0 = 0 })) ∷
                [];
            terminator = Return [];
          } ∷
          [];
    }

pub row_7 : rewrite second input_7 ≡ output_7
unfolding all_open
row_7 = refl

-- 14, itself a part
abbrev input_8 : Routine
input_8 =
    record {
      types =
          MirType.Felt ∷
          (MirType.Tuple ((record { 0 = 0 }) ∷ [])) ∷
          [];
      next = 1;
      entry = (record { 0 = 0 });
      parameters = [];
      recorded = (some (record { 0 = 1 }) ∷ []);
      blocks =
          record {
            instructions =
                plain (MakeTuple (record { 0 = 0 }) ((Value.Operand (record { 0 = 0 })) ∷ [])) ∷
                [];
            terminator = Return ((Value.Operand (record { 0 = 0 })) ∷ []);
          } ∷
          [];
    }

pub fault_8 : (rewritten_blocks second input_8).fault ≡ some Fault.Looped
unfolding all_open
fault_8 = refl

-- 10 before a part's 14
abbrev input_9 : Routine
input_9 =
    record {
      types =
          MirType.Felt ∷
          (MirType.Tuple ((record { 0 = 0 }) ∷ [])) ∷
          (MirType.FixedArray (record { 0 = 1 }) 4) ∷
          [];
      next = 2;
      entry = (record { 0 = 0 });
      parameters = [];
      recorded = (some (record { 0 = 1 }) ∷ some (record { 0 = 2 }) ∷ []);
      blocks =
          record {
            instructions =
                plain (MakeTuple (record { 0 = 0 }) ((Value.Operand (record { 0 = 0 })) ∷ [])) ∷
                plain (MakeFixedArray (record { 0 = 1 }) ((Value.Operand (record { 0 = 0 })) ∷ []) (record { 0 = 1 }) false) ∷
                [];
            terminator = Return ((Value.Operand (record { 0 = 1 })) ∷ []);
          } ∷
          [];
    }

pub fault_9 : (rewritten_blocks second input_9).fault ≡ some Fault.Clash
unfolding all_open
fault_9 = refl

-- 10 before 14
abbrev input_10 : Routine
input_10 =
    record {
      types =
          MirType.Felt ∷
          (MirType.Tuple ((record { 0 = 0 }) ∷ (record { 0 = 0 }) ∷ [])) ∷
          (MirType.FixedArray (record { 0 = 0 }) 2) ∷
          [];
      next = 4;
      entry = (record { 0 = 0 });
      parameters = [];
      recorded = (some (record { 0 = 1 }) ∷ some (record { 0 = 2 }) ∷ some (record { 0 = 1 }) ∷ some (record { 0 = 1 }) ∷ []);
      blocks =
          record {
            instructions =
                plain (MakeTuple (record { 0 = 0 }) ((integer 7) ∷ (integer 8) ∷ [])) ∷
                plain (MakeFixedArray (record { 0 = 1 }) ((integer 1) ∷ []) (record { 0 = 0 }) false) ∷
                plain (InsertTuple (record { 0 = 2 }) (Value.Operand (record { 0 = 0 })) 0 (Value.Operand (record { 0 = 1 })) (record { 0 = 1 })) ∷
                plain (InsertTuple (record { 0 = 3 }) (Value.Operand (record { 0 = 2 })) 1 (Value.Operand (record { 0 = 3 })) (record { 0 = 1 })) ∷
                [];
            terminator = Return ((Value.Operand (record { 0 = 3 })) ∷ []);
          } ∷
          [];
    }

pub fault_10 : (rewritten_blocks second input_10).fault ≡ some Fault.Clash
unfolding all_open
fault_10 = refl

-- 14 before 10
abbrev input_11 : Routine
input_11 =
    record {
      types =
          MirType.Felt ∷
          (MirType.Tuple ((record { 0 = 0 }) ∷ (record { 0 = 0 }) ∷ [])) ∷
          (MirType.FixedArray (record { 0 = 0 }) 2) ∷
          [];
      next = 4;
      entry = (record { 0 = 0 });
      parameters = [];
      recorded = (some (record { 0 = 1 }) ∷ some (record { 0 = 2 }) ∷ some (record { 0 = 1 }) ∷ some (record { 0 = 1 }) ∷ []);
      blocks =
          record {
            instructions =
                plain (MakeTuple (record { 0 = 0 }) ((integer 7) ∷ (integer 8) ∷ [])) ∷
                plain (MakeFixedArray (record { 0 = 1 }) ((integer 1) ∷ []) (record { 0 = 0 }) false) ∷
                plain (InsertTuple (record { 0 = 2 }) (Value.Operand (record { 0 = 0 })) 1 (Value.Operand (record { 0 = 1 })) (record { 0 = 1 })) ∷
                plain (InsertTuple (record { 0 = 3 }) (Value.Operand (record { 0 = 2 })) 0 (Value.Operand (record { 0 = 3 })) (record { 0 = 1 })) ∷
                [];
            terminator = Return ((Value.Operand (record { 0 = 3 })) ∷ []);
          } ∷
          [];
    }

pub fault_11 : (rewritten_blocks second input_11).fault ≡ some Fault.Looped
unfolding all_open
fault_11 = refl
