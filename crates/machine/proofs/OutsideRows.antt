-- Document 01 on the outside world, sentence by sentence, by computation: events, replies, parameters, and which values a type has.
use Prim.Native.Nat.{ℕ}
use mathlib.Core.Path.{◌≡◌, refl}
use mathlib.Core.Option.{Option, none, some}
use mathlib.Core.List.{List, [], ◌∷◌}
use mathlib.Core.Bool.{false, cond}
use mathlib.Core.Bool as B
use lib.Dec.{eqb, ltb}
use Rattle.mir.specs.declared.TypeId.{TypeId}
use Rattle.mir.specs.declared.Value.{Value}
use Rattle.mir.specs.MirType.{MirType, Error, Unknown}
use Rattle.mir.specs.declared.Projection.TheVariants.{Index, Field}
use Rattle.mir.specs.Syntax.{InstructionKind, Call, Load, Store, Debug, MakeFixedArray, HeapAllocCells, Jump, Return, Unreachable}
use Rattle.mir.specs.declared.Projection.{Projection}
use Rattle.mir.specs.Routine.{Routine}
use Rattle.mir.specs.Lookup.{Types, row_of}
use Rattle.mir.specs.Parts.{part_count, counts}
use Rattle.bytes_wire.specs.Value.{integer}
use Rattle.machine.specs.Values.{Val, scalar, aggregate, ends}
use Rattle.machine.specs.Meaning.{Meaning}
use Rattle.machine.specs.Records.{index, field, tuple, Event, called, allocated, loaded, stored, returned, no_value, no_reply, unwritten, too_large, Standing, ended, stopped, at_return}
use Rattle.machine.specs.Run.{run}
use Rattle.machine.specs.Document.{Operations, document01, scalar_of, is_of, on_rows}
use Rattle.machine.proofs.Words.{val, typ, blk, name, op, block, place, table, recorded, routine, vals, agg, pair, kind, Runs, machine, numbers, computes}

-- one instruction, given value 0 first: what is recorded, and how the run stands
abbrev Does : List ℕ → List (Val ℕ) → InstructionKind → List Value → List (Event ℕ) → Standing → Type 0
Does ts w i xs es s = Runs numbers (routine (val 0 ∷ []) (recorded ts) (block (i ∷ []) (Return xs) ∷ [])) w 1 es s

-- ---- "Call, HeapAllocCells, and Load or Store on a Pointer base are outside events: their kind, callee, place steps and values
-- are recorded, the reply comes from outside"

-- callee and arguments; a reply for each dest
pub calls : Does (5 ∷ 0 ∷ 1 ∷ []) (pair 1 2 ∷ scalar 8 ∷ scalar 9 ∷ [])
    (Call (val 1 ∷ val 2 ∷ []) 77 (op 0 ∷ integer 4 ∷ []) (typ 5 ∷ typ 0 ∷ []) (typ 0 ∷ typ 1 ∷ [])) (op 1 ∷ op 2 ∷ [])
    (called 77 (vals (pair 1 2 ∷ scalar 4 ∷ [])) ∷ returned (vals (scalar 8 ∷ scalar 9 ∷ [])) ∷ []) (ended at_return)
unfolding computes
calls = refl

-- one without dests is recorded, and takes no reply
pub calls_without_dests : Does (5 ∷ []) (pair 1 2 ∷ []) (Call [] 77 [] [] []) (op 0 ∷ []) (called 77 (vals []) ∷ returned (vals (pair 1 2 ∷ [])) ∷ []) (ended at_return)
unfolding computes
calls_without_dests = refl

-- HeapAllocCells: how many
pub allocates : Does (0 ∷ 6 ∷ []) (scalar 4 ∷ scalar 100 ∷ []) (HeapAllocCells (val 1) (op 0)) (op 1 ∷ []) (allocated (scalar 4) ∷ returned (vals (scalar 100 ∷ [])) ∷ []) (ended at_return)
unfolding computes
allocates = refl

-- a Load: the pointer, and each step, an Index with its value
pub loads : Does (6 ∷ 0 ∷ []) (scalar 100 ∷ scalar 9 ∷ []) (Load (val 1) (place 0 (Index (integer 3) ∷ Field (name 10) ∷ Projection.Tuple 1 ∷ [])) (typ 0)) (op 1 ∷ [])
    (loaded (scalar 100) (index (scalar 3) ∷ field (name 10) ∷ tuple 1 ∷ []) ∷ returned (vals (scalar 9 ∷ [])) ∷ []) (ended at_return)
unfolding computes
loads = refl

-- with no step too
pub loads_bare : Does (6 ∷ 0 ∷ []) (scalar 100 ∷ scalar 9 ∷ []) (Load (val 1) (place 0 []) (typ 0)) (op 1 ∷ []) (loaded (scalar 100) [] ∷ returned (vals (scalar 9 ∷ [])) ∷ []) (ended at_return)
unfolding computes
loads_bare = refl

-- a Store: the pointer, each step and the stored value; it takes no reply, and the pointer stays
pub stores : Does (6 ∷ []) (scalar 100 ∷ []) (Store (place 0 (Index (integer 3) ∷ Field (name 10) ∷ Projection.Tuple 1 ∷ [])) (integer 5) (typ 0)) (op 0 ∷ [])
    (stored (scalar 100) (index (scalar 3) ∷ field (name 10) ∷ tuple 1 ∷ []) (scalar 5) ∷ returned (vals (scalar 100 ∷ [])) ∷ []) (ended at_return)
unfolding computes
stores = refl

-- with no step too
pub stores_bare : Does (6 ∷ []) (scalar 100 ∷ []) (Store (place 0 []) (integer 5) (typ 0)) (op 0 ∷ []) (stored (scalar 100) [] (scalar 5) ∷ returned (vals (scalar 100 ∷ [])) ∷ []) (ended at_return)
unfolding computes
stores_bare = refl

-- ---- "A reply or parameter that is no value of its recorded type (Error, Unknown and no type have none) stops the run"

-- of every value, whatever scalars a type has: neither Error
pub no_error : {A : Type 0} (has : MirType → A → B.Bool) (τ : Types) (t : Option TypeId) → row_of τ t ≡ some Error → (y : Val A) → is_of has τ y t ≡ false
unfolding is_of scalar_of part_count counts
no_error has τ t e (scalar a) = rw e
no_error has τ t e (aggregate xs) = rw e

-- nor Unknown
pub no_unknown : {A : Type 0} (has : MirType → A → B.Bool) (τ : Types) (t : Option TypeId) → row_of τ t ≡ some Unknown → (y : Val A) → is_of has τ y t ≡ false
unfolding is_of scalar_of part_count counts
no_unknown has τ t e (scalar a) = rw e
no_unknown has τ t e (aggregate xs) = rw e

-- nor no type has it
pub no_type_lem : {A : Type 0} (has : MirType → A → B.Bool) (τ : Types) (y : Val A) → is_of has τ y none ≡ false
unfolding is_of scalar_of part_count counts row_of
no_type_lem has τ (scalar a) = refl
no_type_lem has τ (aggregate xs) = refl

-- so whatever is given as a parameter stops the run, with any operations, at every n
abbrev RefusesParameter : {A : Type 0} → Operations A → Option TypeId → Val A → Type 0
RefusesParameter {A} O t y = (w : List (Val A)) (n : ℕ) → run (document01 O) (routine (val 0 ∷ []) (t ∷ []) (block [] Unreachable ∷ [])) (y ∷ w) n ≡ record { recorded = []; standing = stopped no_value }

pub error_parameter : {A : Type 0} (O : Operations A) (y : Val A) → RefusesParameter O (some (typ 9)) y
unfolding machine
error_parameter O (scalar a) w n = refl
error_parameter O (aggregate xs) w n = refl

pub unknown_parameter : {A : Type 0} (O : Operations A) (y : Val A) → RefusesParameter O (some (typ 10)) y
unfolding machine
unknown_parameter O (scalar a) w n = refl
unknown_parameter O (aggregate xs) w n = refl

pub untyped_parameter : {A : Type 0} (O : Operations A) (y : Val A) → RefusesParameter O none y
unfolding machine
untyped_parameter O (scalar a) w n = refl
untyped_parameter O (aggregate xs) w n = refl

-- and so does whatever is replied; the event is recorded
abbrev RefusesReply : {A : Type 0} → Operations A → Option TypeId → Val A → Type 0
RefusesReply {A} O t y = (w : List (Val A)) → run (document01 O) (routine [] (t ∷ []) (block (Call (val 0 ∷ []) 77 [] [] [] ∷ []) Unreachable ∷ [])) (y ∷ w) 1 ≡ record { recorded = called 77 ends ∷ []; standing = stopped no_value }

pub error_reply : {A : Type 0} (O : Operations A) (y : Val A) → RefusesReply O (some (typ 9)) y
unfolding machine
error_reply O (scalar a) w = refl
error_reply O (aggregate xs) w = refl

pub unknown_reply : {A : Type 0} (O : Operations A) (y : Val A) → RefusesReply O (some (typ 10)) y
unfolding machine
unknown_reply O (scalar a) w = refl
unknown_reply O (aggregate xs) w = refl

pub untyped_reply : {A : Type 0} (O : Operations A) (y : Val A) → RefusesReply O none y
unfolding machine
untyped_reply O (scalar a) w = refl
untyped_reply O (aggregate xs) w = refl

-- which values the other types have, where the operations say that the scalar k is of the types of kind k alone
-- the numbers of the table's types that a value is of
abbrev of_types : Val ℕ → List ℕ → List ℕ
of_types y [] = []
of_types y (t ∷ ts) = cond (is_of (λ row a. eqb (kind row) a) (on_rows table) y (some (typ t))) (t ∷ of_types y ts) (of_types y ts)

-- a value is of these types, and of no other in the table
abbrev Of : Val ℕ → List ℕ → Type 0
Of y ts = of_types y (0 ∷ 1 ∷ 2 ∷ 3 ∷ 4 ∷ 5 ∷ 6 ∷ 7 ∷ 8 ∷ 9 ∷ 10 ∷ 11 ∷ 12 ∷ 13 ∷ 14 ∷ 15 ∷ []) ≡ ts

-- scalars: Felt, Bool, U32, Pointer, Function, Unit
pub scalars_of : Of (scalar 0) (0 ∷ []) × Of (scalar 1) (1 ∷ []) × Of (scalar 2) (2 ∷ []) × Of (scalar 6) (6 ∷ []) × Of (scalar 7) (7 ∷ []) × Of (scalar 8) (8 ∷ [])
unfolding machine kind
scalars_of = (refl, refl, refl, refl, refl, refl)

-- no scalar is an aggregate, an Error or an Unknown
pub scalars_of_none : Of (scalar 3) [] × Of (scalar 4) [] × Of (scalar 5) [] × Of (scalar 9) [] × Of (scalar 10) []
unfolding machine kind
scalars_of_none = (refl, refl, refl, refl, refl)

-- an aggregate has its type's count of parts, each of its type: a tuple, a struct, an array
pub aggregates_of : Of (pair 0 1) (3 ∷ []) × Of (agg (scalar 0 ∷ pair 0 0 ∷ [])) (4 ∷ []) × Of (pair 0 0) (5 ∷ [])
unfolding machine kind
aggregates_of = (refl, refl, refl)

-- an empty one, nested ones, a longer one
pub nested_of : Of (agg []) (11 ∷ []) × Of (agg (pair 0 0 ∷ pair 0 0 ∷ [])) (12 ∷ []) × Of (agg (pair 0 0 ∷ scalar 0 ∷ [])) (13 ∷ []) × Of (agg (scalar 0 ∷ scalar 0 ∷ scalar 0 ∷ [])) (14 ∷ [])
unfolding machine kind
nested_of = (refl, refl, refl, refl)

-- too few parts, too many, parts in another order, a part's part of another type
pub aggregates_of_none : Of (agg (scalar 0 ∷ [])) [] × Of (agg (scalar 0 ∷ scalar 1 ∷ scalar 0 ∷ [])) [] × Of (pair 1 0) [] × Of (agg (pair 0 1 ∷ scalar 0 ∷ [])) []
unfolding machine kind
aggregates_of_none = (refl, refl, refl, refl)

-- a parameter of another type, before any block
pub wrong_parameter : Runs numbers (routine (val 0 ∷ []) (recorded (5 ∷ [])) (block [] Unreachable ∷ [])) (scalar 1 ∷ []) 0 [] (stopped no_value)
unfolding computes
wrong_parameter = refl

-- the second reply of another type: the event is recorded, once
pub wrong_reply : Does (0 ∷ 0 ∷ 5 ∷ []) (scalar 1 ∷ scalar 2 ∷ scalar 3 ∷ []) (Call (val 1 ∷ val 2 ∷ []) 77 [] [] (typ 0 ∷ typ 5 ∷ [])) [] (called 77 (vals []) ∷ []) (stopped no_value)
unfolding computes
wrong_reply = refl

-- ---- "The outside world is any list of values: the parameters first, then one for each dest of an outside event, as they are
-- met; where none is left the machine stops"

-- the parameters in their order, then the events in theirs, in all blocks; what is left over is not looked at
pub taken_in_order : Runs numbers
    (routine (val 1 ∷ val 0 ∷ []) (recorded (0 ∷ 0 ∷ 0 ∷ 0 ∷ 0 ∷ []))
    (block (Call (val 3 ∷ val 2 ∷ []) 77 [] [] (typ 0 ∷ typ 0 ∷ []) ∷ []) (Jump (blk 1))
    ∷ block (HeapAllocCells (val 4) (integer 6) ∷ []) (Return (op 0 ∷ op 1 ∷ op 2 ∷ op 3 ∷ op 4 ∷ []))
    ∷ []))
    (scalar 10 ∷ scalar 11 ∷ scalar 12 ∷ scalar 13 ∷ scalar 14 ∷ scalar 15 ∷ []) 2
    (called 77 (vals []) ∷ allocated (scalar 6) ∷ returned (vals (scalar 11 ∷ scalar 10 ∷ scalar 13 ∷ scalar 12 ∷ scalar 14 ∷ [])) ∷ []) (ended at_return)
unfolding computes
taken_in_order = refl

-- none is left for a parameter: before any block
pub no_parameter_left : Runs numbers (routine (val 0 ∷ val 1 ∷ []) (recorded (0 ∷ 0 ∷ [])) (block [] Unreachable ∷ [])) (scalar 1 ∷ []) 0 [] (stopped no_reply)
unfolding computes
no_parameter_left = refl

-- for a second dest: the event is recorded, once
pub no_reply_left : Does (0 ∷ 0 ∷ 0 ∷ []) (scalar 1 ∷ scalar 2 ∷ []) (Call (val 1 ∷ val 2 ∷ []) 77 [] [] (typ 0 ∷ typ 0 ∷ [])) [] (called 77 (vals []) ∷ []) (stopped no_reply)
unfolding computes
no_reply_left = refl

-- ---- too large: document 01's machine holds every aggregate; of another one, the type of a parameter, a dest or a build tells

pub nothing_large : {A : Type 0} (O : Operations A) (rows : List MirType) (t : Option TypeId) → (document01 O).large rows t ≡ false
nothing_large O rows t = refl

-- more than two parts
unfoldable pub long : Option ℕ → B.Bool
long none = false
long (some n) = ltb 2 n

-- a machine that holds no more, and does not record Debug
unfoldable pub cramped : Meaning ℕ
cramped =
    record {
      literal = numbers.literal;
      unary = numbers.unary;
      binary = numbers.binary;
      cast = numbers.cast;
      truth = numbers.truth;
      compare = numbers.compare;
      same = numbers.same;
      position = numbers.position;
      literal_position = numbers.literal_position;
      take = numbers.take;
      large = λ rows t. long (part_count (row_of (on_rows rows) t));
      debug = false;
    }

-- a parameter, before any block, before it is taken
pub large_parameter : Runs cramped (routine (val 0 ∷ []) (recorded (14 ∷ [])) (block [] Unreachable ∷ [])) [] 0 [] (stopped too_large)
unfolding computes cramped long
large_parameter = refl

-- a second dest: the event is recorded, once
pub large_reply : Runs cramped (routine [] (recorded (0 ∷ 14 ∷ [])) (block (Call (val 0 ∷ val 1 ∷ []) 77 [] [] (typ 0 ∷ typ 14 ∷ []) ∷ []) Unreachable ∷ [])) (scalar 1 ∷ []) 1 (called 77 (vals []) ∷ []) (stopped too_large)
unfolding computes cramped long
large_reply = refl

-- a build of three parts, whose values are given
abbrev long_build : Value → Routine
long_build x = routine [] (recorded (14 ∷ 0 ∷ [])) (block (MakeFixedArray (val 0) (integer 1 ∷ integer 2 ∷ x ∷ []) (typ 0) false ∷ []) (Return (op 0 ∷ [])) ∷ [])

-- it stops there; its reads come first
pub large_build_lem : Runs cramped (long_build (integer 3)) [] 1 [] (stopped too_large) × Runs cramped (long_build (op 1)) [] 1 [] (stopped unwritten)
unfolding computes cramped long
large_build_lem = (refl, refl)

-- document 01's machine holds it
pub large_held : Runs numbers (long_build (integer 3)) [] 1 (returned (vals (agg (scalar 1 ∷ scalar 2 ∷ scalar 3 ∷ []) ∷ [])) ∷ []) (ended at_return)
unfolding computes
large_held = refl

-- two parts are not too large
pub small_build : Runs cramped (routine [] (recorded (5 ∷ [])) (block (MakeFixedArray (val 0) (integer 1 ∷ integer 2 ∷ []) (typ 0) false ∷ []) (Return (op 0 ∷ [])) ∷ [])) [] 1 (returned (vals (pair 1 2 ∷ [])) ∷ []) (ended at_return)
unfolding computes cramped long
small_build = refl

-- ---- of a machine that does not record Debug, it does nothing: it does not even read

pub unrecorded : Runs cramped (routine (val 0 ∷ []) (recorded (0 ∷ 0 ∷ [])) (block (Debug 4 (op 0 ∷ op 1 ∷ Value.Error ∷ []) ∷ []) (Return (op 0 ∷ [])) ∷ [])) (scalar 10 ∷ []) 1
    (returned (vals (scalar 10 ∷ [])) ∷ []) (ended at_return)
unfolding computes cramped long
unrecorded = refl
