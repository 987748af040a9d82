-- Document 01 on values, sentence by sentence, by computation: aggregates, copies, Stores, unwritten values and missing parts.
use Prim.Native.Nat.{ℕ}
use mathlib.Core.Path.{refl}
use mathlib.Core.List.{List, [], ◌∷◌}
use mathlib.Core.Bool.{false}
use Rattle.mir.specs.declared.Value.{Value}
use Rattle.mir.specs.declared.Projection.TheVariants.{Index, Field, Tuple}
use Rattle.mir.specs.Syntax.{Block, FieldInit, InstructionKind, Assign, UnaryOp, BinaryOp, Call, Cast, Load, Store, Phi, MakeTuple, ExtractTupleElement}
use Rattle.mir.specs.Syntax.{MakeStruct, ExtractStructField, InsertField, InsertTuple, MakeFixedArray, AssertEq, HeapAllocCells, Jump, If, BranchCmp, Return}
use Rattle.bytes_wire.specs.Value.{integer}
use Rattle.machine.specs.Values.{Val, scalar}
use Rattle.machine.specs.Records.{Trace, Cause, unwritten, missing, returned, ended, stopped, at_return}
use Rattle.machine.specs.Run.{run}
use Rattle.machine.proofs.Words.{val, typ, blk, name, op, block, place, recorded, routine, vals, agg, pair, Runs, Each, numbers, computes}

-- one block that is given value 0: what it returns
abbrev Gives : List ℕ → Val ℕ → List InstructionKind → List Value → List (Val ℕ) → Type 0
Gives ts y is xs ys = Runs numbers (routine (val 0 ∷ []) (recorded ts) (block is (Return xs) ∷ [])) (y ∷ []) 1 (returned (vals ys) ∷ []) (ended at_return)

-- the field 10 is given x, the field 11 y
abbrev fields : Value → Value → List FieldInit
fields x y = record { name = name 11; value = y } ∷ record { name = name 10; value = x } ∷ []

-- ---- "An aggregate is a list of parts, a struct's in its type's field order"

-- the type has field 10 first, the build names it last
pub struct_order : Gives (5 ∷ 4 ∷ []) (pair 1 2) (MakeStruct (val 1) (fields (integer 7) (op 0)) (typ 4) ∷ []) (op 1 ∷ []) (agg (scalar 7 ∷ pair 1 2 ∷ []) ∷ [])
unfolding computes
struct_order = refl

-- no parts are an aggregate too
pub empty_tuple : Gives (5 ∷ 11 ∷ []) (pair 1 2) (MakeTuple (val 1) [] ∷ []) (op 1 ∷ []) (agg [] ∷ [])
unfolding computes
empty_tuple = refl

-- ---- "Assign, Make, Insert, Extract, Phi and a Load from an aggregate base copy": what is stored into the source later is not in the copy

-- part 1 of value 0 is x from now on
abbrev change : ℕ → InstructionKind
change x = Store (place 0 (Index (integer 1) ∷ [])) (integer x) (typ 0)

pub assign_copies : Gives (5 ∷ 5 ∷ []) (pair 1 2) (Assign (val 1) (op 0) (typ 5) ∷ change 9 ∷ []) (op 0 ∷ op 1 ∷ []) (pair 1 9 ∷ pair 1 2 ∷ [])
unfolding computes
assign_copies = refl

pub tuple_copies : Gives (5 ∷ 13 ∷ []) (pair 1 2) (MakeTuple (val 1) (op 0 ∷ integer 7 ∷ []) ∷ change 9 ∷ []) (op 0 ∷ op 1 ∷ []) (pair 1 9 ∷ agg (pair 1 2 ∷ scalar 7 ∷ []) ∷ [])
unfolding computes
tuple_copies = refl

pub struct_copies : Gives (5 ∷ 4 ∷ []) (pair 1 2) (MakeStruct (val 1) (fields (integer 7) (op 0)) (typ 4) ∷ change 9 ∷ []) (op 0 ∷ op 1 ∷ []) (pair 1 9 ∷ agg (scalar 7 ∷ pair 1 2 ∷ []) ∷ [])
unfolding computes
struct_copies = refl

pub array_copies : Gives (5 ∷ 12 ∷ []) (pair 1 2) (MakeFixedArray (val 1) (op 0 ∷ op 0 ∷ []) (typ 5) false ∷ change 9 ∷ []) (op 0 ∷ op 1 ∷ []) (pair 1 9 ∷ agg (pair 1 2 ∷ pair 1 2 ∷ []) ∷ [])
unfolding computes
array_copies = refl

-- an insert leaves its source as it was, and its new value is a copy
pub insert_tuple_copies : Gives (5 ∷ 13 ∷ 13 ∷ []) (pair 1 2)
    (MakeTuple (val 1) (op 0 ∷ integer 7 ∷ []) ∷ change 9 ∷ InsertTuple (val 2) (op 1) 0 (op 0) (typ 13) ∷ change 5 ∷ []) (op 1 ∷ op 2 ∷ [])
    (agg (pair 1 2 ∷ scalar 7 ∷ []) ∷ agg (pair 1 9 ∷ scalar 7 ∷ []) ∷ [])
unfolding computes
insert_tuple_copies = refl

pub insert_field_copies : Gives (5 ∷ 4 ∷ 4 ∷ []) (pair 1 2)
    (MakeStruct (val 1) (fields (integer 7) (op 0)) (typ 4) ∷ change 9 ∷ InsertField (val 2) (op 1) (name 11) (op 0) (typ 4) ∷ change 5 ∷ []) (op 1 ∷ op 2 ∷ [])
    (agg (scalar 7 ∷ pair 1 2 ∷ []) ∷ agg (scalar 7 ∷ pair 1 9 ∷ []) ∷ [])
unfolding computes
insert_field_copies = refl

pub extract_tuple_copies : Gives (13 ∷ 5 ∷ []) (agg (pair 1 2 ∷ scalar 7 ∷ []))
    (ExtractTupleElement (val 1) (op 0) 0 (typ 5) ∷ Store (place 0 (Tuple 0 ∷ Index (integer 1) ∷ [])) (integer 9) (typ 0) ∷ []) (op 0 ∷ op 1 ∷ [])
    (agg (pair 1 9 ∷ scalar 7 ∷ []) ∷ pair 1 2 ∷ [])
unfolding computes
extract_tuple_copies = refl

pub extract_field_copies : Gives (4 ∷ 5 ∷ []) (agg (scalar 7 ∷ pair 1 2 ∷ []))
    (ExtractStructField (val 1) (op 0) (name 11) (typ 5) ∷ Store (place 0 (Field (name 11) ∷ Index (integer 1) ∷ [])) (integer 9) (typ 0) ∷ []) (op 0 ∷ op 1 ∷ [])
    (agg (scalar 7 ∷ pair 1 9 ∷ []) ∷ pair 1 2 ∷ [])
unfolding computes
extract_field_copies = refl

pub phi_copies : Runs numbers
    (routine (val 0 ∷ []) (recorded (5 ∷ 5 ∷ []))
    (block [] (Jump (blk 1)) ∷ block (Phi (val 1) (typ 5) (record { block = blk 0; value = op 0 } ∷ []) ∷ change 9 ∷ []) (Return (op 0 ∷ op 1 ∷ [])) ∷ []))
    (pair 1 2 ∷ []) 2 (returned (vals (pair 1 9 ∷ pair 1 2 ∷ [])) ∷ []) (ended at_return)
unfolding computes
phi_copies = refl

-- a Load of a part, and of the whole
pub load_copies : Gives (13 ∷ 5 ∷ 13 ∷ []) (agg (pair 1 2 ∷ scalar 7 ∷ []))
    (Load (val 1) (place 0 (Tuple 0 ∷ [])) (typ 5) ∷ Load (val 2) (place 0 []) (typ 13) ∷ Store (place 0 (Tuple 0 ∷ Index (integer 1) ∷ [])) (integer 9) (typ 0) ∷ [])
    (op 0 ∷ op 1 ∷ op 2 ∷ []) (agg (pair 1 9 ∷ scalar 7 ∷ []) ∷ pair 1 2 ∷ agg (pair 1 2 ∷ scalar 7 ∷ []) ∷ [])
unfolding computes
load_copies = refl

-- ---- "a Store into an aggregate base changes that value's part, or with no projection all of it, once it is written"

pub store_index : Gives (5 ∷ []) (pair 1 2) (change 9 ∷ []) (op 0 ∷ []) (pair 1 9 ∷ [])
unfolding computes
store_index = refl

pub store_tuple : Gives (13 ∷ []) (agg (pair 1 2 ∷ scalar 7 ∷ [])) (Store (place 0 (Tuple 1 ∷ [])) (integer 9) (typ 0) ∷ []) (op 0 ∷ []) (agg (pair 1 2 ∷ scalar 9 ∷ []) ∷ [])
unfolding computes
store_tuple = refl

pub store_field : Gives (4 ∷ []) (agg (scalar 7 ∷ pair 1 2 ∷ [])) (Store (place 0 (Field (name 10) ∷ [])) (integer 9) (typ 0) ∷ []) (op 0 ∷ []) (agg (scalar 9 ∷ pair 1 2 ∷ []) ∷ [])
unfolding computes
store_field = refl

-- by more than one step: a field goes by the type of the part that is walked
pub store_deep : Gives (15 ∷ 5 ∷ []) (agg (agg (scalar 7 ∷ pair 1 2 ∷ []) ∷ []))
    (Store (place 0 (Index (integer 0) ∷ Field (name 11) ∷ Index (integer 0) ∷ [])) (integer 9) (typ 0) ∷ Load (val 1) (place 0 (Index (integer 0) ∷ Field (name 11) ∷ [])) (typ 5) ∷ [])
    (op 0 ∷ op 1 ∷ []) (agg (agg (scalar 7 ∷ pair 9 2 ∷ []) ∷ []) ∷ pair 9 2 ∷ [])
unfolding computes
store_deep = refl

-- all of it
pub store_whole : Gives (5 ∷ 5 ∷ []) (pair 1 2) (MakeFixedArray (val 1) (integer 7 ∷ integer 8 ∷ []) (typ 0) false ∷ Store (place 0 []) (op 1) (typ 5) ∷ []) (op 0 ∷ []) (pair 7 8 ∷ [])
unfolding computes
store_whole = refl

-- ---- "The machine stops at an unwritten value or missing part"

-- a block that is given value 0, a tuple of an array and a Felt; values 1 (such a tuple) and 2 (a struct) are not written
abbrev goes : Block → Trace ℕ
goes k = run numbers (routine (val 0 ∷ []) (recorded (13 ∷ 13 ∷ 4 ∷ [])) (k ∷ [])) (agg (pair 1 2 ∷ scalar 7 ∷ []) ∷ []) 1

-- it stops, and nothing is recorded
abbrev halt : Cause → Trace ℕ
halt c = record { recorded = []; standing = stopped c }

-- a block of one instruction
abbrev alone : InstructionKind → Block
alone i = block (i ∷ []) (Return [])

-- every kind that reads, each of its reads; "once it is written" of a Store's base; an Error met as a value
pub unwritten_read : Each (λ i. goes (alone i)) (halt unwritten)
    (Assign (val 2) (op 1) (typ 13)
    ∷ UnaryOp 0 (val 2) (op 1)
    ∷ BinaryOp 0 (val 2) (op 1) (op 0)
    ∷ BinaryOp 0 (val 2) (op 0) (op 1)
    ∷ Call [] 77 (op 0 ∷ op 1 ∷ []) (typ 13 ∷ typ 13 ∷ []) []
    ∷ Cast (val 2) (op 1) (typ 0) (typ 0)
    ∷ Load (val 2) (place 1 []) (typ 13)
    ∷ Load (val 2) (place 0 (Tuple 0 ∷ Index (op 1) ∷ [])) (typ 0)
    ∷ Store (place 1 []) (op 0) (typ 13)
    ∷ Store (place 1 (Tuple 1 ∷ [])) (integer 9) (typ 0)
    ∷ Store (place 0 (Tuple 0 ∷ Index (op 1) ∷ [])) (integer 9) (typ 0)
    ∷ Store (place 0 (Tuple 1 ∷ [])) (op 1) (typ 0)
    ∷ MakeTuple (val 2) (integer 9 ∷ op 1 ∷ [])
    ∷ ExtractTupleElement (val 2) (op 1) 0 (typ 5)
    ∷ MakeStruct (val 2) (fields (integer 9) (op 1)) (typ 4)
    ∷ ExtractStructField (val 2) (op 1) (name 10) (typ 0)
    ∷ InsertField (val 2) (op 1) (name 10) (integer 9) (typ 4)
    ∷ InsertField (val 2) (op 0) (name 10) (op 1) (typ 4)
    ∷ InsertTuple (val 2) (op 1) 1 (integer 9) (typ 13)
    ∷ InsertTuple (val 2) (op 0) 1 (op 1) (typ 13)
    ∷ MakeFixedArray (val 2) (integer 9 ∷ op 1 ∷ []) (typ 0) false
    ∷ AssertEq (op 1) (op 0)
    ∷ AssertEq (op 0) (op 1)
    ∷ HeapAllocCells (val 2) (op 1)
    ∷ Assign (val 2) Value.Error (typ 0)
    ∷ [])
unfolding computes
unwritten_read = refl

-- every terminator that reads
pub unwritten_end : Each (λ t. goes (block [] t)) (halt unwritten)
    (If (op 1) (blk 0) (blk 0) ∷ BranchCmp 0 (op 1) (op 0) (blk 0) (blk 0) ∷ BranchCmp 0 (op 0) (op 1) (blk 0) (blk 0) ∷ Return (op 0 ∷ op 1 ∷ []) ∷ [])
unfolding computes
unwritten_end = refl

-- past the end of a tuple and of an array, of a name that the type has not, of a field that a build does not give, of a scalar, by an Index that is no number
pub missing_part : Each (λ i. goes (alone i)) (halt missing)
    (ExtractTupleElement (val 2) (op 0) 2 (typ 0)
    ∷ ExtractTupleElement (val 2) (integer 7) 0 (typ 0)
    ∷ ExtractStructField (val 2) (op 0) (name 10) (typ 0)
    ∷ InsertTuple (val 2) (op 0) 2 (integer 9) (typ 13)
    ∷ InsertField (val 2) (op 0) (name 12) (integer 9) (typ 4)
    ∷ MakeStruct (val 2) (record { name = name 10; value = integer 9 } ∷ []) (typ 4)
    ∷ Load (val 2) (place 0 (Tuple 2 ∷ [])) (typ 0)
    ∷ Load (val 2) (place 0 (Tuple 0 ∷ Index (integer 2) ∷ [])) (typ 0)
    ∷ Load (val 2) (place 0 (Tuple 0 ∷ Index (op 0) ∷ [])) (typ 0)
    ∷ Load (val 2) (place 0 (Tuple 1 ∷ Tuple 0 ∷ [])) (typ 0)
    ∷ Store (place 0 (Tuple 2 ∷ [])) (integer 9) (typ 0)
    ∷ Store (place 0 (Tuple 0 ∷ Index (integer 2) ∷ [])) (integer 9) (typ 0)
    ∷ [])
unfolding computes
missing_part = refl
