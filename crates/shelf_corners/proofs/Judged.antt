-- Still well typed (document 02): small routines, one for each thing that becomes of an instruction or a Return, with neither reason 1 nor
-- reason 2, and what both editions make of them, which has neither. Each is computed from the definitions; what comes out and the shelf
-- reason are held to an implementation that was written apart from them (host/edition2; `tools/rows.py` wrote this file from its vectors).
-- Debug's values count. Edge cases are in JudgedEdges.
use Rattle.std.specs.Prelude.{ℕ, ◌+◌, ◌≡◌, List, [], ◌∷◌, ◌++◌, map, reverse, true, false, length}
use mathlib.Core.Path.{refl}
use mathlib.Core.Option.{Option, some}
use Rattle.bytes_wire.specs.Value.{integer}
use Rattle.mir.specs.declared.TypeId.{TypeId}
use Rattle.mir.specs.declared.NameId.{NameId}
use Rattle.mir.specs.declared.Projection.TheVariants.{Index, Tuple}
use Rattle.mir.specs.MirType.{MirType}
use Rattle.mir.specs.Syntax.{Instruction, Terminator, Block, plain, Return}
use Rattle.mir.specs.Syntax.{Assign, Call, Load, Store, MakeTuple, ExtractTupleElement, MakeStruct, ExtractStructField}
use Rattle.mir.specs.Routine.{Routine}
use Rattle.fold.specs.declared.Edition.{Edition}
use Rattle.fold.specs.declared.Settings.{Settings}
use Rattle.rewrite.specs.Run.{rewritten_blocks, rewrite}
use Rattle.shelf.specs.Reason.{types_agree, in_order, shelf_reason}
use Rattle.shelf_corners.specs.Words.{v, op}
use Rattle.shelf_corners.proofs.Open.{opened}

-- the editions, the other settings as usual
abbrev pub first : Settings
first = record { tuples = true; structs = true; most = 8; edition = Edition.First }

abbrev pub second : Settings
second = record { tuples = true; structs = true; most = 8; edition = Edition.Second }

-- the number of a type, and of a name
abbrev pub ty : ℕ → TypeId
ty n = record { 0 = n }

abbrev pub label : ℕ → NameId
label n = record { 0 = n }

-- what is recorded of values that have these types
abbrev pub recorded : List ℕ → List (Option TypeId)
recorded ts = map (λ n. some (ty n)) ts

-- a block
abbrev pub lines : List Instruction → Terminator → Block
lines is t = record { instructions = is; terminator = t }

-- a routine: type table, parameters, the types of its values 0, 1, .., blocks
abbrev pub over : List MirType → List ℕ → List ℕ → List Block → Routine
over τ ps ts ks = record { types = τ; next = length ts; entry = record { 0 = 0 }; parameters = map v ps; recorded = recorded ts; blocks = ks }

-- neither reason 1 nor reason 2
abbrev pub Typed : Routine → Type 0
Typed r = (types_agree true r ≡ true) × (in_order true r ≡ true)

-- the routine is well typed and has this shelf reason; fresh numbers of these types and these blocks come out, and what comes out is well typed
abbrev pub Comes : Settings → Routine → ℕ → List ℕ → List Block → Type 0
Comes σ r k ts ks =
    Typed r
    × (shelf_reason true r (rewritten_blocks σ r) ≡ k)
    × (rewrite σ r ≡ record r { next = r.next + length ts; recorded = r.recorded ++ recorded ts; blocks = ks })
    × Typed (rewrite σ r)

-- their types
abbrev pub types : List MirType
types =
    MirType.Felt ∷
    (MirType.Tuple ((ty 0) ∷ (ty 0) ∷ [])) ∷
    (MirType.Tuple ((ty 1) ∷ (ty 0) ∷ [])) ∷
    (MirType.Struct (label 0) ((record { name = (label 1); part = (ty 1) }) ∷ (record { name = (label 2); part = (ty 0) }) ∷ [])) ∷
    (MirType.FixedArray (ty 1) 2) ∷
    (MirType.Pointer (ty 2)) ∷
    (MirType.Tuple []) ∷
    (MirType.Struct (label 9) []) ∷
    (MirType.Tuple ((ty 2) ∷ (ty 2) ∷ [])) ∷
    []

-- a part of a parameter, returned
abbrev kept : Routine
kept =
    over types (2 ∷ []) (1 ∷ 2 ∷ 2 ∷ 1 ∷ [])
    (lines (
    plain (MakeTuple (v 0) ((integer 7) ∷ (integer 8) ∷ [])) ∷
    plain (MakeTuple (v 1) ((op 0) ∷ (integer 9) ∷ [])) ∷
    plain (ExtractTupleElement (v 3) (op 2) 0 (ty 1)) ∷
    []) (Return ((op 3) ∷ [])) ∷ [])

-- edition 1: an instruction that is kept: the extract
pub kept_first : Comes first kept 0 []
    (lines (
    plain (ExtractTupleElement (v 3) (op 2) 0 (ty 1)) ∷
    []) (Return ((op 3) ∷ [])) ∷ [])
unfolding opened
kept_first = ((refl, refl), refl, refl, (refl, refl))

-- edition 2: an instruction that is kept: the extract
pub kept_second : Comes second kept 0 []
    (lines (
    plain (ExtractTupleElement (v 3) (op 2) 0 (ty 1)) ∷
    []) (Return ((op 3) ∷ [])) ∷ [])
unfolding opened
kept_second = ((refl, refl), refl, refl, (refl, refl))

-- a tuple of a tuple, read by nothing
abbrev folded : Routine
folded =
    over types [] (1 ∷ 2 ∷ [])
    (lines (
    plain (MakeTuple (v 0) ((integer 7) ∷ (integer 8) ∷ [])) ∷
    plain (MakeTuple (v 1) ((op 0) ∷ (integer 9) ∷ [])) ∷
    []) (Return []) ∷ [])

-- edition 1: builds that are folded: both
pub folded_first : Comes first folded 0 []
    (lines [] (Return []) ∷ [])
unfolding opened
folded_first = ((refl, refl), refl, refl, (refl, refl))

-- edition 2: builds that are folded: both
pub folded_second : Comes second folded 0 []
    (lines [] (Return []) ∷ [])
unfolding opened
folded_second = ((refl, refl), refl, refl, (refl, refl))

-- a part of a struct's part, returned
abbrev extracted : Routine
extracted =
    over types [] (1 ∷ 2 ∷ 3 ∷ 1 ∷ 0 ∷ [])
    (lines (
    plain (MakeTuple (v 0) ((integer 7) ∷ (integer 8) ∷ [])) ∷
    plain (MakeTuple (v 1) ((op 0) ∷ (integer 9) ∷ [])) ∷
    plain (MakeStruct (v 2) ((record { name = (label 2); value = (integer 9) }) ∷ (record { name = (label 1); value = (op 0) }) ∷ []) (ty 3)) ∷
    plain (ExtractStructField (v 3) (op 2) (label 1) (ty 1)) ∷
    plain (ExtractTupleElement (v 4) (op 3) 1 (ty 0)) ∷
    []) (Return ((op 4) ∷ [])) ∷ [])

-- edition 1: an extract that becomes an Assign, behind one that hands the parts of its part on
pub extracted_first : Comes first extracted 0 []
    (lines (
    plain (Assign (v 4) (integer 8) (ty 0)) ∷
    []) (Return ((op 4) ∷ [])) ∷ [])
unfolding opened
extracted_first = ((refl, refl), refl, refl, (refl, refl))

-- edition 2: an extract that becomes an Assign, behind one that hands the parts of its part on
pub extracted_second : Comes second extracted 0 []
    (lines (
    plain (Assign (v 4) (integer 8) (ty 0)) ∷
    []) (Return ((op 4) ∷ [])) ∷ [])
unfolding opened
extracted_second = ((refl, refl), refl, refl, (refl, refl))

-- a Call
abbrev called : Routine
called =
    over types [] (1 ∷ 2 ∷ [])
    (lines (
    plain (MakeTuple (v 0) ((integer 7) ∷ (integer 8) ∷ [])) ∷
    plain (MakeTuple (v 1) ((op 0) ∷ (integer 9) ∷ [])) ∷
    plain (Call [] 1 ((op 0) ∷ []) ((ty 1) ∷ []) []) ∷
    []) (Return []) ∷ [])

-- edition 1: a rebuild before an instruction: a Call's argument
pub called_first : Comes first called 0 (1 ∷ [])
    (lines (
    plain (MakeTuple (v 2) ((integer 7) ∷ (integer 8) ∷ [])) ∷
    plain (Call [] 1 ((op 2) ∷ []) ((ty 1) ∷ []) []) ∷
    []) (Return []) ∷ [])
unfolding opened
called_first = ((refl, refl), refl, refl, (refl, refl))

-- edition 2: a rebuild before an instruction: a Call's argument
pub called_second : Comes second called 0 (1 ∷ [])
    (lines (
    plain (MakeTuple (v 2) ((integer 7) ∷ (integer 8) ∷ [])) ∷
    plain (Call [] 1 ((op 2) ∷ []) ((ty 1) ∷ []) []) ∷
    []) (Return []) ∷ [])
unfolding opened
called_second = ((refl, refl), refl, refl, (refl, refl))

-- a Store's value, into a pointer
abbrev stored : Routine
stored =
    over types (2 ∷ []) (1 ∷ 2 ∷ 5 ∷ [])
    (lines (
    plain (MakeTuple (v 0) ((integer 7) ∷ (integer 8) ∷ [])) ∷
    plain (MakeTuple (v 1) ((op 0) ∷ (integer 9) ∷ [])) ∷
    plain (Store (record { base = (v 2); projections = ((Index (integer 0)) ∷ []) }) (op 1) (ty 2)) ∷
    []) (Return []) ∷ [])

-- edition 1: a rebuild before an instruction: a Store's value; its part %0 is dropped
pub stored_first : Comes first stored 5 (2 ∷ [])
    (lines (
    plain (MakeTuple (v 3) ((op 0) ∷ (integer 9) ∷ [])) ∷
    plain (Store (record { base = (v 2); projections = ((Index (integer 0)) ∷ []) }) (op 3) (ty 2)) ∷
    []) (Return []) ∷ [])
unfolding opened
stored_first = ((refl, refl), refl, refl, (refl, refl))

-- edition 2: rebuilds before an instruction: a Store's value, its part before it
pub stored_second : Comes second stored 0 (1 ∷ 2 ∷ [])
    (lines (
    plain (MakeTuple (v 3) ((integer 7) ∷ (integer 8) ∷ [])) ∷
    plain (MakeTuple (v 4) ((op 3) ∷ (integer 9) ∷ [])) ∷
    plain (Store (record { base = (v 2); projections = ((Index (integer 0)) ∷ []) }) (op 4) (ty 2)) ∷
    []) (Return []) ∷ [])
unfolding opened
stored_second = ((refl, refl), refl, refl, (refl, refl))

-- the base of a kept Load
abbrev loaded : Routine
loaded =
    over types [] (1 ∷ 2 ∷ 1 ∷ [])
    (lines (
    plain (MakeTuple (v 0) ((integer 7) ∷ (integer 8) ∷ [])) ∷
    plain (MakeTuple (v 1) ((op 0) ∷ (integer 9) ∷ [])) ∷
    plain (Load (v 2) (record { base = (v 1); projections = ((Tuple 0) ∷ []) }) (ty 1)) ∷
    []) (Return ((op 2) ∷ [])) ∷ [])

-- edition 1: an instruction that is kept, and reads the dropped %1
pub loaded_first : Comes first loaded 5 []
    (lines (
    plain (MakeTuple (v 0) ((integer 7) ∷ (integer 8) ∷ [])) ∷
    plain (Load (v 2) (record { base = (v 1); projections = ((Tuple 0) ∷ []) }) (ty 1)) ∷
    []) (Return ((op 2) ∷ [])) ∷ [])
unfolding opened
loaded_first = ((refl, refl), refl, refl, (refl, refl))

-- edition 2: a rebuild before a kept instruction that reads a tracked value: a Load's base
pub loaded_second : Comes second loaded 0 (2 ∷ [])
    (lines (
    plain (MakeTuple (v 0) ((integer 7) ∷ (integer 8) ∷ [])) ∷
    plain (MakeTuple (v 3) ((op 0) ∷ (integer 9) ∷ [])) ∷
    plain (Load (v 2) (record { base = (v 3); projections = ((Tuple 0) ∷ []) }) (ty 1)) ∷
    []) (Return ((op 2) ∷ [])) ∷ [])
unfolding opened
loaded_second = ((refl, refl), refl, refl, (refl, refl))

-- a tuple of a tuple, returned
abbrev returned : Routine
returned =
    over types [] (1 ∷ 2 ∷ [])
    (lines (
    plain (MakeTuple (v 0) ((integer 7) ∷ (integer 8) ∷ [])) ∷
    plain (MakeTuple (v 1) ((op 0) ∷ (integer 9) ∷ [])) ∷
    []) (Return ((op 1) ∷ [])) ∷ [])

-- edition 1: a rebuild before the Return; its part %0 is dropped
pub returned_first : Comes first returned 5 (2 ∷ [])
    (lines (
    plain (MakeTuple (v 2) ((op 0) ∷ (integer 9) ∷ [])) ∷
    []) (Return ((op 2) ∷ [])) ∷ [])
unfolding opened
returned_first = ((refl, refl), refl, refl, (refl, refl))

-- edition 2: rebuilds before the Return, the part before the whole
pub returned_second : Comes second returned 0 (1 ∷ 2 ∷ [])
    (lines (
    plain (MakeTuple (v 2) ((integer 7) ∷ (integer 8) ∷ [])) ∷
    plain (MakeTuple (v 3) ((op 2) ∷ (integer 9) ∷ [])) ∷
    []) (Return ((op 3) ∷ [])) ∷ [])
unfolding opened
returned_second = ((refl, refl), refl, refl, (refl, refl))

-- a struct, built in another order
abbrev named : Routine
named =
    over types [] (1 ∷ 2 ∷ 3 ∷ [])
    (lines (
    plain (MakeTuple (v 0) ((integer 7) ∷ (integer 8) ∷ [])) ∷
    plain (MakeTuple (v 1) ((op 0) ∷ (integer 9) ∷ [])) ∷
    plain (MakeStruct (v 2) ((record { name = (label 2); value = (integer 9) }) ∷ (record { name = (label 1); value = (op 0) }) ∷ []) (ty 3)) ∷
    []) (Return ((op 2) ∷ [])) ∷ [])

-- edition 1: a rebuild before the Return: a struct, its fields in the order of its type; %0 is dropped
pub named_first : Comes first named 5 (3 ∷ [])
    (lines (
    plain (MakeStruct (v 3) ((record { name = (label 1); value = (op 0) }) ∷ (record { name = (label 2); value = (integer 9) }) ∷ []) (ty 3)) ∷
    []) (Return ((op 3) ∷ [])) ∷ [])
unfolding opened
named_first = ((refl, refl), refl, refl, (refl, refl))

-- edition 2: rebuilds before the Return: the same struct, its part before it
pub named_second : Comes second named 0 (1 ∷ 3 ∷ [])
    (lines (
    plain (MakeTuple (v 3) ((integer 7) ∷ (integer 8) ∷ [])) ∷
    plain (MakeStruct (v 4) ((record { name = (label 1); value = (op 3) }) ∷ (record { name = (label 2); value = (integer 9) }) ∷ []) (ty 3)) ∷
    []) (Return ((op 4) ∷ [])) ∷ [])
unfolding opened
named_second = ((refl, refl), refl, refl, (refl, refl))

-- ## What comes out, wrong in one thing, is refused

-- a routine with the instructions of each block changed
abbrev changed : (List Instruction → List Instruction) → Routine → Routine
changed f q = record q { blocks = map {A = Block} (λ k. record k { instructions = f k.instructions }) q.blocks }

-- the last fresh number recorded at the type of the one before it
abbrev type_before : Routine
type_before = record (rewrite second returned) { recorded = returned.recorded ++ recorded (1 ∷ 1 ∷ []) }

pub type_before_refused : (types_agree true type_before ≡ false) × (in_order true type_before ≡ true)
unfolding opened
type_before_refused = (refl, refl)

-- the rebuild behind its reader
abbrev behind : Routine
behind = changed reverse (rewrite second called)

pub behind_refused : (types_agree true behind ≡ true) × (in_order true behind ≡ false)
unfolding opened
behind_refused = (refl, refl)

-- the Assign that stands for an extract at the type of the whole
abbrev whole_assigned : Routine
whole_assigned = changed (λ is. plain (Assign (v 4) (integer 8) (ty 1)) ∷ []) (rewrite second extracted)

pub whole_assigned_refused : (types_agree true whole_assigned ≡ false) × (in_order true whole_assigned ≡ true)
unfolding opened
whole_assigned_refused = (refl, refl)

-- the rebuilt struct with its parts in the order in which they were given
abbrev as_given : Routine
as_given =
    changed (λ is.
    plain (MakeTuple (v 3) ((integer 7) ∷ (integer 8) ∷ [])) ∷
    plain (MakeStruct (v 4) ((record { name = (label 1); value = (integer 9) }) ∷ (record { name = (label 2); value = (op 3) }) ∷ []) (ty 3)) ∷
    []) (rewrite second named)

pub as_given_refused : (types_agree true as_given ≡ false) × (in_order true as_given ≡ true)
unfolding opened
as_given_refused = (refl, refl)
