-- Edge cases of what is computed in Judged: what comes out has neither reason 1 nor reason 2 (`tools/rows.py` wrote this file too). At the end
-- a routine that passes the shelf test and of which what comes out has reason 5: a second run leaves the shelf, and is well typed all the same.
use Rattle.std.specs.Prelude.{ℕ, ◌≡◌, List, [], ◌∷◌, true, length}
use mathlib.Core.Path.{refl}
use Rattle.bytes_wire.specs.Parse.{ok}
use Rattle.bytes_wire.specs.Value.{integer}
use Rattle.bytes_sections.specs.Decode.{mosts, whole_of}
use Rattle.mir.specs.declared.BlockId.{BlockId}
use Rattle.mir.specs.declared.Projection.TheVariants.{Tuple}
use Rattle.mir.specs.MirType.{MirType}
use Rattle.mir.specs.Syntax.{plain, Jump, Return}
use Rattle.mir.specs.Syntax.{Assign, Store, Debug, Phi, MakeTuple, ExtractTupleElement, MakeStruct, AssertEq}
use Rattle.mir.specs.Routine.{Routine}
use Rattle.rewrite.specs.Run.{rewrite}
use Rattle.shelf.specs.Answer.{lowered, answer}
use Rattle.shelf_corners.specs.Words.{v, op, counts}
use Rattle.shelf_corners.proofs.Open.{opened, answering}
use Rattle.shelf_corners.proofs.Judged.{first, second, ty, label, lines, over, types, Comes}

-- the number of a block
abbrev target : ℕ → BlockId
target n = record { 0 = n }

-- as much as any input has
abbrev room : ℕ
room = 65536

-- Debug of it
abbrev printed : Routine
printed =
    over types [] (1 ∷ 2 ∷ [])
    (lines (
    plain (MakeTuple (v 0) ((integer 7) ∷ (integer 8) ∷ [])) ∷
    plain (MakeTuple (v 1) ((op 0) ∷ (integer 9) ∷ [])) ∷
    plain (Debug 0 ((op 1) ∷ (op 0) ∷ [])) ∷
    []) (Return []) ∷ [])

-- edition 1: the Debug is kept, and reads the dropped %1 and %0
pub printed_first : Comes first printed 5 []
    (lines (
    plain (Debug 0 ((op 1) ∷ (op 0) ∷ [])) ∷
    []) (Return []) ∷ [])
unfolding opened
printed_first = ((refl, refl), refl, refl, (refl, refl))

-- edition 2: rebuilds before a Debug, one for each value, parts before them
pub printed_second : Comes second printed 0 (1 ∷ 2 ∷ 1 ∷ [])
    (lines (
    plain (MakeTuple (v 2) ((integer 7) ∷ (integer 8) ∷ [])) ∷
    plain (MakeTuple (v 3) ((op 2) ∷ (integer 9) ∷ [])) ∷
    plain (MakeTuple (v 4) ((integer 7) ∷ (integer 8) ∷ [])) ∷
    plain (Debug 0 ((op 3) ∷ (op 4) ∷ [])) ∷
    []) (Return []) ∷ [])
unfolding opened
printed_second = ((refl, refl), refl, refl, (refl, refl))

-- an empty tuple and an empty struct
abbrev empties : Routine
empties =
    over types [] (1 ∷ 2 ∷ 6 ∷ 7 ∷ [])
    (lines (
    plain (MakeTuple (v 0) ((integer 7) ∷ (integer 8) ∷ [])) ∷
    plain (MakeTuple (v 1) ((op 0) ∷ (integer 9) ∷ [])) ∷
    plain (MakeTuple (v 2) []) ∷
    plain (MakeStruct (v 3) [] (ty 7)) ∷
    plain (Debug 0 ((op 2) ∷ (op 3) ∷ [])) ∷
    []) (Return []) ∷ [])

-- edition 1: the Debug is kept, and reads the dropped %2 and %3
pub empties_first : Comes first empties 5 []
    (lines (
    plain (Debug 0 ((op 2) ∷ (op 3) ∷ [])) ∷
    []) (Return []) ∷ [])
unfolding opened
empties_first = ((refl, refl), refl, refl, (refl, refl))

-- edition 2: an empty tuple and an empty struct are rebuilt
pub empties_second : Comes second empties 0 (6 ∷ 7 ∷ [])
    (lines (
    plain (MakeTuple (v 4) []) ∷
    plain (MakeStruct (v 5) [] (ty 7)) ∷
    plain (Debug 0 ((op 4) ∷ (op 5) ∷ [])) ∷
    []) (Return []) ∷ [])
unfolding opened
empties_second = ((refl, refl), refl, refl, (refl, refl))

-- AssertEq of two tuples
abbrev equal : Routine
equal =
    over types [] (1 ∷ 2 ∷ 1 ∷ [])
    (lines (
    plain (MakeTuple (v 0) ((integer 7) ∷ (integer 8) ∷ [])) ∷
    plain (MakeTuple (v 1) ((op 0) ∷ (integer 9) ∷ [])) ∷
    plain (MakeTuple (v 2) ((integer 7) ∷ (integer 8) ∷ [])) ∷
    plain (AssertEq (op 0) (op 2)) ∷
    []) (Return []) ∷ [])

-- edition 1: the AssertEq is kept, and reads the dropped %0 and %2
pub equal_first : Comes first equal 5 []
    (lines (
    plain (AssertEq (op 0) (op 2)) ∷
    []) (Return []) ∷ [])
unfolding opened
equal_first = ((refl, refl), refl, refl, (refl, refl))

-- edition 2: rebuilds before an AssertEq, one for each side
pub equal_second : Comes second equal 0 (1 ∷ 1 ∷ [])
    (lines (
    plain (MakeTuple (v 3) ((integer 7) ∷ (integer 8) ∷ [])) ∷
    plain (MakeTuple (v 4) ((integer 7) ∷ (integer 8) ∷ [])) ∷
    plain (AssertEq (op 3) (op 4)) ∷
    []) (Return []) ∷ [])
unfolding opened
equal_second = ((refl, refl), refl, refl, (refl, refl))

-- a block that is skipped
abbrev skipped : Routine
skipped =
    over types (2 ∷ []) (1 ∷ 2 ∷ 1 ∷ 1 ∷ 1 ∷ [])
    (lines (
    plain (MakeTuple (v 0) ((integer 7) ∷ (integer 8) ∷ [])) ∷
    plain (MakeTuple (v 1) ((op 0) ∷ (integer 9) ∷ [])) ∷
    []) (Jump (target 1)) ∷ lines (
    plain (Phi (v 3) (ty 1) ((record { block = (target 0); value = (op 2) }) ∷ [])) ∷
    plain (MakeTuple (v 4) ((integer 1) ∷ (integer 2) ∷ [])) ∷
    []) (Return ((op 4) ∷ [])) ∷ [])

-- edition 1: the second block, which begins with a tuple's phi, is skipped and stays as it is; the first is not
pub skipped_first : Comes first skipped 0 []
    (lines [] (Jump (target 1)) ∷ lines (
    plain (Phi (v 3) (ty 1) ((record { block = (target 0); value = (op 2) }) ∷ [])) ∷
    plain (MakeTuple (v 4) ((integer 1) ∷ (integer 2) ∷ [])) ∷
    []) (Return ((op 4) ∷ [])) ∷ [])
unfolding opened
skipped_first = ((refl, refl), refl, refl, (refl, refl))

-- edition 2: the second block, which begins with a tuple's phi, is skipped and stays as it is; the first is not
pub skipped_second : Comes second skipped 0 []
    (lines [] (Jump (target 1)) ∷ lines (
    plain (Phi (v 3) (ty 1) ((record { block = (target 0); value = (op 2) }) ∷ [])) ∷
    plain (MakeTuple (v 4) ((integer 1) ∷ (integer 2) ∷ [])) ∷
    []) (Return ((op 4) ∷ [])) ∷ [])
unfolding opened
skipped_second = ((refl, refl), refl, refl, (refl, refl))

-- the base of a kept Store, and its value
abbrev based : Routine
based =
    over types [] (1 ∷ 2 ∷ 1 ∷ [])
    (lines (
    plain (MakeTuple (v 0) ((integer 7) ∷ (integer 8) ∷ [])) ∷
    plain (MakeTuple (v 1) ((op 0) ∷ (integer 9) ∷ [])) ∷
    plain (MakeTuple (v 2) ((integer 1) ∷ (integer 2) ∷ [])) ∷
    plain (Store (record { base = (v 1); projections = ((Tuple 0) ∷ []) }) (op 2) (ty 1)) ∷
    []) (Return []) ∷ [])

-- edition 1: reason 5, as %1, the base of a kept Store, is dropped; the Store's value is rebuilt
pub based_first : Comes first based 5 (1 ∷ [])
    (lines (
    plain (MakeTuple (v 0) ((integer 7) ∷ (integer 8) ∷ [])) ∷
    plain (MakeTuple (v 3) ((integer 1) ∷ (integer 2) ∷ [])) ∷
    plain (Store (record { base = (v 1); projections = ((Tuple 0) ∷ []) }) (op 3) (ty 1)) ∷
    []) (Return []) ∷ [])
unfolding opened
based_first = ((refl, refl), refl, refl, (refl, refl))

-- edition 2: reason 5, as %1, the base of a kept Store, is dropped; the Store's value is rebuilt
pub based_second : Comes second based 5 (1 ∷ [])
    (lines (
    plain (MakeTuple (v 0) ((integer 7) ∷ (integer 8) ∷ [])) ∷
    plain (MakeTuple (v 3) ((integer 1) ∷ (integer 2) ∷ [])) ∷
    plain (Store (record { base = (v 1); projections = ((Tuple 0) ∷ []) }) (op 3) (ty 1)) ∷
    []) (Return []) ∷ [])
unfolding opened
based_second = ((refl, refl), refl, refl, (refl, refl))

-- a Store's base that is a part
abbrev part_stored : Routine
part_stored =
    over types [] (1 ∷ 2 ∷ [])
    (lines (
    plain (MakeTuple (v 0) ((integer 7) ∷ (integer 8) ∷ [])) ∷
    plain (MakeTuple (v 1) ((op 0) ∷ (integer 9) ∷ [])) ∷
    plain (Store (record { base = (v 0); projections = ((Tuple 0) ∷ []) }) (integer 9) (ty 0)) ∷
    []) (Return ((op 1) ∷ [])) ∷ [])

-- edition 1: reason 3, as %0 is a Store's base and a part of %1; it is dropped and the Store kept
pub part_stored_first : Comes first part_stored 3 (2 ∷ [])
    (lines (
    plain (Store (record { base = (v 0); projections = ((Tuple 0) ∷ []) }) (integer 9) (ty 0)) ∷
    plain (MakeTuple (v 2) ((op 0) ∷ (integer 9) ∷ [])) ∷
    []) (Return ((op 2) ∷ [])) ∷ [])
unfolding opened
part_stored_first = ((refl, refl), refl, refl, (refl, refl))

-- edition 2: reason 3, for the same; the part is rebuilt before its whole
pub part_stored_second : Comes second part_stored 3 (1 ∷ 2 ∷ [])
    (lines (
    plain (Store (record { base = (v 0); projections = ((Tuple 0) ∷ []) }) (integer 9) (ty 0)) ∷
    plain (MakeTuple (v 2) ((integer 7) ∷ (integer 8) ∷ [])) ∷
    plain (MakeTuple (v 3) ((op 2) ∷ (integer 9) ∷ [])) ∷
    []) (Return ((op 3) ∷ [])) ∷ [])
unfolding opened
part_stored_second = ((refl, refl), refl, refl, (refl, refl))

-- ## A routine that leaves the shelf at its second run

-- its types
abbrev pub fewer : List MirType
fewer =
    MirType.Felt ∷
    (MirType.Tuple ((ty 0) ∷ [])) ∷
    (MirType.Tuple ((ty 1) ∷ [])) ∷
    (MirType.Struct (label 5) ((record { name = (label 1); part = (ty 2) }) ∷ (record { name = (label 2); part = (ty 2) }) ∷ [])) ∷
    []

-- a part that the second run folds
abbrev once : Routine
once =
    over fewer [] (1 ∷ 2 ∷ 1 ∷ 3 ∷ [])
    (lines (
    plain (MakeTuple (v 0) ((integer 7) ∷ [])) ∷
    plain (MakeTuple (v 1) ((op 0) ∷ [])) ∷
    plain (ExtractTupleElement (v 2) (op 1) 0 (ty 1)) ∷
    plain (MakeStruct (v 3) ((record { name = (label 1); value = (op 1) }) ∷ (record { name = (label 2); value = (op 1) }) ∷ []) (ty 3)) ∷
    plain (Store (record { base = (v 2); projections = [] }) (op 0) (ty 1)) ∷
    []) (Return []) ∷ [])

-- edition 1: %0 is kept, as its whole %1 stands twice in %3, and %2 := %0 stands for the extract
pub once_first : Comes first once 0 []
    (lines (
    plain (MakeTuple (v 0) ((integer 7) ∷ [])) ∷
    plain (Assign (v 2) (op 0) (ty 1)) ∷
    plain (Store (record { base = (v 2); projections = [] }) (op 0) (ty 1)) ∷
    []) (Return []) ∷ [])
unfolding opened
once_first = ((refl, refl), refl, refl, (refl, refl))

-- edition 2: %0 is kept, as its whole %1 stands twice in %3, and %2 := %0 stands for the extract
pub once_second : Comes second once 0 []
    (lines (
    plain (MakeTuple (v 0) ((integer 7) ∷ [])) ∷
    plain (Assign (v 2) (op 0) (ty 1)) ∷
    plain (Store (record { base = (v 2); projections = [] }) (op 0) (ty 1)) ∷
    []) (Return []) ∷ [])
unfolding opened
once_second = ((refl, refl), refl, refl, (refl, refl))

-- edition 1: of what came out %0 is folded and %2, the base of a Store that is kept, is dropped: reason 5
pub again_first : Comes first (rewrite first once) 5 (1 ∷ [])
    (lines (
    plain (MakeTuple (v 4) ((integer 7) ∷ [])) ∷
    plain (Store (record { base = (v 2); projections = [] }) (op 4) (ty 1)) ∷
    []) (Return []) ∷ [])
unfolding opened
again_first = ((refl, refl), refl, refl, (refl, refl))

-- edition 2: of what came out %0 is folded and %2, the base of a Store that is kept, is dropped: reason 5
pub again_second : Comes second (rewrite second once) 5 (1 ∷ [])
    (lines (
    plain (MakeTuple (v 4) ((integer 7) ∷ [])) ∷
    plain (Store (record { base = (v 2); projections = [] }) (op 4) (ty 1)) ∷
    []) (Return []) ∷ [])
unfolding opened
again_second = ((refl, refl), refl, refl, (refl, refl))

-- its bytes
abbrev once_bytes : List ℕ
once_bytes =
    (4 ∷ 0 ∷ 0 ∷ 3 ∷ 1 ∷ 0 ∷ 0 ∷ 3 ∷ 1 ∷ 1 ∷ 0 ∷ 4 ∷ 5 ∷ 0 ∷ 2 ∷ 1 ∷ 0 ∷ 2 ∷ 0 ∷ 2 ∷ 0 ∷ 2 ∷ 0 ∷ 4
    ∷ 0 ∷ 1 ∷ 0 ∷ 0 ∷ 0 ∷ 0 ∷ 15 ∷ 1 ∷ 0 ∷ 2 ∷ 0 ∷ 1 ∷ 0 ∷ 3 ∷ 0 ∷ 5 ∷ 0 ∷ 0 ∷ 10 ∷ 0 ∷ 0 ∷ 1 ∷ 0 ∷ 7
    ∷ 0 ∷ 0 ∷ 0 ∷ 0 ∷ 10 ∷ 1 ∷ 0 ∷ 1 ∷ 3 ∷ 0 ∷ 0 ∷ 0 ∷ 11 ∷ 2 ∷ 0 ∷ 3 ∷ 1 ∷ 0 ∷ 0 ∷ 0 ∷ 0 ∷ 0 ∷ 1 ∷ 0
    ∷ 0 ∷ 12 ∷ 3 ∷ 0 ∷ 2 ∷ 1 ∷ 0 ∷ 3 ∷ 1 ∷ 0 ∷ 2 ∷ 0 ∷ 3 ∷ 1 ∷ 0 ∷ 3 ∷ 0 ∷ 0 ∷ 6 ∷ 2 ∷ 0 ∷ 0 ∷ 3 ∷ 0
    ∷ 0 ∷ 1 ∷ 0 ∷ 3 ∷ 0 ∷ [])

-- what comes out as bytes, in both editions
abbrev again_bytes : List ℕ
again_bytes =
    (4 ∷ 0 ∷ 0 ∷ 3 ∷ 1 ∷ 0 ∷ 0 ∷ 3 ∷ 1 ∷ 1 ∷ 0 ∷ 4 ∷ 5 ∷ 0 ∷ 2 ∷ 1 ∷ 0 ∷ 2 ∷ 0 ∷ 2 ∷ 0 ∷ 2 ∷ 0 ∷ 4
    ∷ 0 ∷ 1 ∷ 0 ∷ 0 ∷ 0 ∷ 0 ∷ 15 ∷ 1 ∷ 0 ∷ 2 ∷ 0 ∷ 1 ∷ 0 ∷ 3 ∷ 0 ∷ 3 ∷ 0 ∷ 0 ∷ 10 ∷ 0 ∷ 0 ∷ 1 ∷ 0 ∷ 7
    ∷ 0 ∷ 0 ∷ 0 ∷ 0 ∷ 0 ∷ 2 ∷ 0 ∷ 3 ∷ 0 ∷ 0 ∷ 1 ∷ 0 ∷ 0 ∷ 6 ∷ 2 ∷ 0 ∷ 0 ∷ 3 ∷ 0 ∷ 0 ∷ 1 ∷ 0 ∷ 3 ∷ 0 ∷ [])

-- the routine is what is read of its bytes
pub once_read : whole_of mosts once_bytes ≡ ok once (length once_bytes)
unfolding answering
once_read = refl

-- what edition 1 makes of it is what is read of those
pub again_read_first : whole_of mosts again_bytes ≡ ok (rewrite first once) (length again_bytes)
unfolding answering
again_read_first = refl

-- what edition 2 makes of it is what is read of those
pub again_read_second : whole_of mosts again_bytes ≡ ok (rewrite second once) (length again_bytes)
unfolding answering
again_read_second = refl

-- edition 1, answered to these bytes: reason 0
pub once_answer_first : answer first room once_bytes ≡ lowered true (counts 2 1 0 0 0) 0 again_bytes
unfolding answering
once_answer_first = refl

-- edition 1, answered to these bytes: reason 5
pub again_answer_first : answer first room again_bytes ≡ lowered true (counts 1 0 0 1 0) 5
    (4 ∷ 0 ∷ 0 ∷ 3 ∷ 1 ∷ 0 ∷ 0 ∷ 3 ∷ 1 ∷ 1 ∷ 0 ∷ 4 ∷ 5 ∷ 0 ∷ 2 ∷ 1 ∷ 0 ∷ 2 ∷ 0 ∷ 2 ∷ 0 ∷ 2 ∷ 0 ∷ 5
    ∷ 0 ∷ 1 ∷ 0 ∷ 0 ∷ 0 ∷ 0 ∷ 31 ∷ 1 ∷ 0 ∷ 2 ∷ 0 ∷ 1 ∷ 0 ∷ 3 ∷ 0 ∷ 1 ∷ 0 ∷ 2 ∷ 0 ∷ 0 ∷ 10 ∷ 4 ∷ 0 ∷ 1
    ∷ 0 ∷ 7 ∷ 0 ∷ 0 ∷ 0 ∷ 0 ∷ 6 ∷ 2 ∷ 0 ∷ 0 ∷ 3 ∷ 4 ∷ 0 ∷ 1 ∷ 0 ∷ 3 ∷ 0 ∷ [])
unfolding answering
again_answer_first = refl

-- edition 2, answered to these bytes: reason 0
pub once_answer_second : answer second room once_bytes ≡ lowered true (counts 2 1 0 0 0) 0 again_bytes
unfolding answering
once_answer_second = refl

-- edition 2, answered to these bytes: reason 5
pub again_answer_second : answer second room again_bytes ≡ lowered true (counts 1 0 0 1 1) 5
    (4 ∷ 0 ∷ 0 ∷ 3 ∷ 1 ∷ 0 ∷ 0 ∷ 3 ∷ 1 ∷ 1 ∷ 0 ∷ 4 ∷ 5 ∷ 0 ∷ 2 ∷ 1 ∷ 0 ∷ 2 ∷ 0 ∷ 2 ∷ 0 ∷ 2 ∷ 0 ∷ 5
    ∷ 0 ∷ 1 ∷ 0 ∷ 0 ∷ 0 ∷ 0 ∷ 31 ∷ 1 ∷ 0 ∷ 2 ∷ 0 ∷ 1 ∷ 0 ∷ 3 ∷ 0 ∷ 1 ∷ 0 ∷ 2 ∷ 0 ∷ 0 ∷ 10 ∷ 4 ∷ 0 ∷ 1
    ∷ 0 ∷ 7 ∷ 0 ∷ 0 ∷ 0 ∷ 0 ∷ 6 ∷ 2 ∷ 0 ∷ 0 ∷ 3 ∷ 4 ∷ 0 ∷ 1 ∷ 0 ∷ 3 ∷ 0 ∷ [])
unfolding answering
again_answer_second = refl
