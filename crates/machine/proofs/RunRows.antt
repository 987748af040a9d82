-- Documents 01 and 02 on runs, sentence by sentence, by computation: AssertEq, phis, ends, operations, Debug, the record and the standing.
use Prim.Native.Nat.{ℕ, zero, suc}
use mathlib.Core.Path.{◌≡◌, refl}
use mathlib.Core.Option.{Option, none, some}
use mathlib.Core.List.{List, [], ◌∷◌}
use mathlib.Core.Bool.{Bool, true, false, ◌||◌}
use lib.Dec.{eqb}
use Rattle.mir.specs.declared.Literal.{Literal}
use Rattle.mir.specs.declared.Value.{Value}
use Rattle.mir.specs.MirType.{MirType}
use Rattle.mir.specs.declared.Projection.TheVariants.{Index}
use Rattle.mir.specs.Syntax.{Source, Instruction, InstructionKind, Assign, UnaryOp, BinaryOp, Call, Cast, Load, Store, Debug, Nop, Phi, MakeTuple, ExtractTupleElement}
use Rattle.mir.specs.Syntax.{MakeStruct, InsertField, InsertTuple, MakeFixedArray, AssertEq, HeapAllocCells}
use Rattle.mir.specs.Syntax.{Terminator, Jump, If, BranchCmp, Return, Unreachable, Block}
use Rattle.bytes_wire.specs.Value.{integer, boolean}
use Rattle.bytes_sections.proofs.Examples.{example}
use Rattle.machine.specs.Values.{Val, scalar, aggregate, ends, then, equal}
use Rattle.machine.specs.Meaning.{Meaning, Operated, gives, fails, asks, Verdict, says, balks}
use Rattle.machine.specs.Records.{index, Trace, Event, called, allocated, loaded, stored, asserted, printed, returned, no_value, no_source, no_reply, unwritten, missing, own, Standing, stands_at, ended, stopped, at_return, at_unreachable, unequal_sides}
use Rattle.machine.specs.Run.{run}
use Rattle.machine.specs.Document.{Operations, document01}
use Rattle.machine.proofs.Words.{val, typ, blk, name, op, block, place, table, recorded, routine, vals, agg, pair, kind, Runs, machine, number, numbers, computes}

-- blocks that are given values 0 and 1, Felts: a run of n of them
abbrev Goes : List Block → ℕ → List (Event ℕ) → Standing → Type 0
Goes ks n es s = Runs numbers (routine (val 0 ∷ val 1 ∷ []) (recorded (0 ∷ 0 ∷ 0 ∷ 0 ∷ [])) ks) (scalar 10 ∷ scalar 11 ∷ []) n es s

-- ---- document 01's input: a tuple of 7 and 8, part 1 returned
pub example_runs : Runs numbers example [] 1 (returned (vals (scalar 8 ∷ [])) ∷ []) (ended at_return)
unfolding computes
example_runs = refl

-- ---- "AssertEq is recorded; unequal sides end the run"

-- equal ones do not
pub asserts_equal : Goes (block (AssertEq (op 0) (integer 10) ∷ []) (Return (op 1 ∷ [])) ∷ []) 1 (asserted (scalar 10) (scalar 10) ∷ returned (vals (scalar 11 ∷ [])) ∷ []) (ended at_return)
unfolding computes
asserts_equal = refl

-- nothing behind it is run
pub asserts_unequal : Goes (block (AssertEq (op 0) (op 1) ∷ AssertEq (op 0) (op 0) ∷ []) (Return (op 1 ∷ [])) ∷ []) 1 (asserted (scalar 10) (scalar 11) ∷ []) (ended unequal_sides)
unfolding computes
asserts_unequal = refl

-- aggregates part by part
abbrev Asserts : Val ℕ → Val ℕ → List (Event ℕ) → Standing → Type 0
Asserts x y es s = Runs numbers (routine (val 0 ∷ val 1 ∷ []) (recorded (13 ∷ 13 ∷ [])) (block (AssertEq (op 0) (op 1) ∷ []) Unreachable ∷ [])) (x ∷ y ∷ []) 1 es s

pub asserts_parts : Asserts (agg (pair 1 2 ∷ scalar 3 ∷ [])) (agg (pair 1 2 ∷ scalar 3 ∷ [])) (asserted (agg (pair 1 2 ∷ scalar 3 ∷ [])) (agg (pair 1 2 ∷ scalar 3 ∷ [])) ∷ []) (ended at_unreachable)
unfolding computes
asserts_parts = refl

pub asserts_other_part : Asserts (agg (pair 1 2 ∷ scalar 3 ∷ [])) (agg (pair 1 4 ∷ scalar 3 ∷ [])) (asserted (agg (pair 1 2 ∷ scalar 3 ∷ [])) (agg (pair 1 4 ∷ scalar 3 ∷ [])) ∷ []) (ended unequal_sides)
unfolding computes
asserts_other_part = refl

-- a part too many, a part too few, a scalar
abbrev Unequal : ℕ → ℕ → Val ℕ → Val ℕ → Type 0
Unequal s t x y =
    Runs numbers (routine (val 0 ∷ val 1 ∷ []) (recorded (s ∷ t ∷ [])) (block (AssertEq (op 0) (op 1) ∷ []) Unreachable ∷ [])) (x ∷ y ∷ []) 1 (asserted x y ∷ []) (ended unequal_sides)

pub asserts_other_shapes : Unequal 5 14 (pair 1 2) (agg (scalar 1 ∷ scalar 2 ∷ scalar 3 ∷ []))
    × Unequal 14 5 (agg (scalar 1 ∷ scalar 2 ∷ scalar 3 ∷ [])) (pair 1 2)
    × Unequal 0 5 (scalar 1) (pair 1 2)
    × Unequal 5 0 (pair 1 2) (scalar 1)
unfolding computes
asserts_other_shapes = (refl, refl, refl, refl)

-- ---- "Phis read together, by the first source for the block just left; without one the machine stops"

-- a source
abbrev from : ℕ → Value → Source
from b x = record { block = blk b; value = x }

-- two phis that exchange their values: three blocks, the second twice, and 1 and 2 come out exchanged
pub phis_together : Runs numbers
    (routine [] (recorded (0 ∷ 0 ∷ 0 ∷ 0 ∷ []))
    (block (Assign (val 0) (integer 1) (typ 0) ∷ Assign (val 1) (integer 2) (typ 0) ∷ []) (Jump (blk 1))
    ∷ block (Phi (val 2) (typ 0) (from 0 (op 0) ∷ from 1 (op 3) ∷ []) ∷ Phi (val 3) (typ 0) (from 0 (op 1) ∷ from 1 (op 2) ∷ []) ∷ []) (If (op 2) (blk 1) (blk 2))
    ∷ block [] (Return (op 2 ∷ op 3 ∷ []))
    ∷ []))
    [] 4 (returned (vals (scalar 2 ∷ scalar 1 ∷ [])) ∷ []) (ended at_return)
unfolding computes
phis_together = refl

-- block 0 goes to block 1, which has one phi
abbrev Joins : List Source → List (Event ℕ) → Standing → Type 0
Joins ss es s = Goes (block [] (Jump (blk 1)) ∷ block (Phi (val 2) (typ 0) ss ∷ []) (Return (op 2 ∷ [])) ∷ []) 2 es s

pub first_source : Joins (from 1 (integer 1) ∷ from 0 (integer 2) ∷ from 0 (integer 3) ∷ []) (returned (vals (scalar 2 ∷ [])) ∷ []) (ended at_return)
unfolding computes
first_source = refl

pub no_source_lem : Joins (from 1 (integer 1) ∷ []) [] (stopped no_source)
unfolding computes
no_source_lem = refl

-- an unwritten source stops it too
pub unwritten_source : Joins (from 0 (op 3) ∷ []) [] (stopped unwritten)
unfolding computes
unwritten_source = refl

-- at the start no block was left
pub entry_phi : Goes (block (Phi (val 2) (typ 0) (from 0 (integer 1) ∷ []) ∷ []) (Return (op 2 ∷ [])) ∷ []) 1 [] (stopped no_source)
unfolding computes
entry_phi = refl

-- ---- "Return records its values; it and Unreachable end the run"

pub returns : Goes (block [] (Return (op 1 ∷ integer 5 ∷ op 0 ∷ [])) ∷ []) 1 (returned (vals (scalar 11 ∷ scalar 5 ∷ scalar 10 ∷ [])) ∷ []) (ended at_return)
unfolding computes
returns = refl

-- of none too
pub returns_nothing : Goes (block [] (Return []) ∷ []) 1 (returned (vals []) ∷ []) (ended at_return)
unfolding computes
returns_nothing = refl

pub unreachable : Goes (block [] Unreachable ∷ []) 1 [] (ended at_unreachable)
unfolding computes
unreachable = refl

-- ---- "Scalar operations have any fixed meaning"

-- a machine that answers with what it is asked: a literal, its number and the kind of the type where it stands; an operation, its number, the kind of its dest's type
-- and its operands. Operation 0 fails with a cause of its own, operation 1 asks for a reply; comparison 0 balks
unfoldable pub answer_of : ℕ → Val ℕ → Operated ℕ
answer_of zero y = fails 7
answer_of (suc zero) y = asks
answer_of (suc (suc k)) y = gives y

unfoldable pub verdict_of : ℕ → Bool → Verdict
verdict_of zero b = balks 8
verdict_of (suc k) b = says b

unfoldable pub kind_of : Option MirType → ℕ
kind_of none = 99
kind_of (some row) = kind row

unfoldable pub first_part : Val ℕ → Option ℕ
first_part (scalar a) = none
first_part (aggregate ends) = none
first_part (aggregate (then (scalar k) xs)) = some k
first_part (aggregate (then (aggregate ys) xs)) = none

unfoldable pub echo : Meaning ℕ
unfolding first_part number
echo =
    record {
      literal = λ l row. pair (number l) (kind_of row);
      unary = λ o row x. answer_of o (agg (scalar o ∷ scalar (kind_of row) ∷ x ∷ []));
      binary = λ o row x y. answer_of o (agg (scalar o ∷ scalar (kind_of row) ∷ x ∷ y ∷ []));
      cast = λ t u x. gives (agg (scalar (kind_of t) ∷ scalar (kind_of u) ∷ x ∷ []));
      truth = λ x. equal eqb x (scalar 10) || equal eqb x (pair 10 99);
      compare = λ o x y. verdict_of o (equal eqb x y);
      same = eqb;
      position = first_part;
      literal_position = λ k. refl;
      take = numbers.take;
      large = λ rows t. false;
      debug = true;
    }

-- that machine, opened
unfoldable echoes : Unit {0}
unfolding computes echo answer_of verdict_of kind_of kind first_part
echoes = tt

-- one instruction, given values 0 (a Felt) and 1 (a Bool): its dest, value 2, of the type t
abbrev Makes : ℕ → InstructionKind → Val ℕ → Type 0
Makes t i y = Runs echo (routine (val 0 ∷ val 1 ∷ []) (recorded (0 ∷ 1 ∷ t ∷ [])) (block (i ∷ []) (Return (op 2 ∷ [])) ∷ [])) (scalar 10 ∷ scalar 11 ∷ []) 1 (returned (vals (y ∷ [])) ∷ []) (ended at_return)

-- the operation, the dest's type and the operands, in their order; a cast by its two named types
pub operates : Makes 2 (UnaryOp 5 (val 2) (op 0)) (agg (scalar 5 ∷ scalar 2 ∷ scalar 10 ∷ []))
    × Makes 2 (BinaryOp 6 (val 2) (op 0) (op 1)) (agg (scalar 6 ∷ scalar 2 ∷ scalar 10 ∷ scalar 11 ∷ []))
    × Makes 2 (Cast (val 2) (op 0) (typ 6) (typ 7)) (agg (scalar 6 ∷ scalar 7 ∷ scalar 10 ∷ []))
unfolding echoes
operates = (refl, refl, refl)

-- a literal at the type where it stands: named, of a part, of the other side, at none
pub literals : Makes 0 (Assign (val 2) (integer 7) (typ 2)) (pair 7 2)
    × Makes 3 (MakeTuple (val 2) (integer 7 ∷ boolean true ∷ [])) (agg (pair 7 0 ∷ pair 1 1 ∷ []))
    × Makes 0 (BinaryOp 6 (val 2) (integer 7) (op 1)) (agg (scalar 6 ∷ scalar 0 ∷ pair 7 1 ∷ scalar 11 ∷ []))
    × Makes 0 (BinaryOp 6 (val 2) (op 1) (integer 7)) (agg (scalar 6 ∷ scalar 0 ∷ scalar 11 ∷ pair 7 1 ∷ []))
    × Makes 0 (UnaryOp 5 (val 2) (integer 7)) (agg (scalar 5 ∷ scalar 0 ∷ pair 7 99 ∷ []))
    × Makes 0 (Cast (val 2) (integer 7) (typ 1) (typ 2)) (agg (scalar 1 ∷ scalar 2 ∷ pair 7 99 ∷ []))
    × Makes 4 (MakeStruct (val 2) (record { name = name 11; value = integer 8 } ∷ record { name = name 10; value = integer 7 } ∷ []) (typ 4)) (agg (pair 7 0 ∷ pair 8 5 ∷ []))
    × Makes 5 (MakeFixedArray (val 2) (integer 7 ∷ integer 8 ∷ []) (typ 0) false) (agg (pair 7 0 ∷ pair 8 0 ∷ []))
    × Makes 3 (InsertTuple (val 2) (integer 5) 1 (integer 7) (typ 3)) (agg (scalar 5 ∷ pair 7 1 ∷ []))
    × Makes 4 (InsertField (val 2) (integer 5) (name 10) (integer 7) (typ 4)) (agg (pair 7 0 ∷ scalar 99 ∷ []))
    × Makes 0 (ExtractTupleElement (val 2) (integer 7) 1 (typ 0)) (scalar 99)
unfolding echoes
literals = (refl, refl, refl, refl, refl, refl, refl, refl, refl, refl, refl)

-- and where it is recorded or compared: an argument at its parameter type, a stored value at the named type, a side of AssertEq at the other's; at none elsewhere.
-- Given are a Pointer and a tuple, which is the literal 7 where tuples stand
abbrev Tells : InstructionKind → List (Event ℕ) → Type 0
Tells i es = Runs echo (routine (val 0 ∷ val 1 ∷ []) (recorded (6 ∷ 3 ∷ 0 ∷ [])) (block (i ∷ []) Unreachable ∷ [])) (scalar 100 ∷ pair 7 3 ∷ scalar 1 ∷ []) 1 es (ended at_unreachable)

pub literals_told : Tells (Call [] 77 (integer 7 ∷ []) (typ 2 ∷ []) []) (called 77 (vals (pair 7 2 ∷ [])) ∷ [])
    × Tells (HeapAllocCells (val 2) (integer 7)) (allocated (pair 7 99) ∷ [])
    × Tells (Load (val 2) (place 0 (Index (integer 7) ∷ [])) (typ 0)) (loaded (scalar 100) (index (pair 7 99) ∷ []) ∷ [])
    × Tells (Store (place 0 (Index (integer 7) ∷ [])) (integer 8) (typ 2)) (stored (scalar 100) (index (pair 7 99) ∷ []) (pair 8 2) ∷ [])
    × Tells (AssertEq (integer 7) (op 1)) (asserted (pair 7 3) (pair 7 3) ∷ [])
    × Tells (AssertEq (op 1) (integer 7)) (asserted (pair 7 3) (pair 7 3) ∷ [])
unfolding echoes
literals_told = (refl, refl, refl, refl, refl, refl)

-- a phi's at its named type, a returned one at none
pub literals_between : Runs echo (routine [] (recorded (0 ∷ [])) (block [] (Jump (blk 1)) ∷ block (Phi (val 0) (typ 2) (from 0 (integer 7) ∷ []) ∷ []) (Return (op 0 ∷ integer 8 ∷ [])) ∷ [])) [] 2
    (returned (vals (pair 7 2 ∷ pair 8 99 ∷ [])) ∷ []) (ended at_return)
unfolding echoes
literals_between = refl

-- a result that is asked for is the next reply, and nothing is recorded
abbrev Asks : List (Val ℕ) → List (Event ℕ) → Standing → Type 0
Asks w es s = Runs echo (routine [] (recorded (0 ∷ [])) (block (UnaryOp 1 (val 0) (integer 7) ∷ []) (Return (op 0 ∷ [])) ∷ [])) w 1 es s

pub operation_asks : Asks (scalar 3 ∷ []) (returned (vals (scalar 3 ∷ [])) ∷ []) (ended at_return) × Asks [] [] (stopped no_reply) × Asks (agg [] ∷ []) [] (stopped no_value)
unfolding echoes
operation_asks = (refl, refl, refl)

-- an operation's own cause, a comparison's
pub operation_fails : Runs echo (routine [] (recorded (0 ∷ [])) (block (BinaryOp 0 (val 0) (integer 7) (integer 8) ∷ []) (Return []) ∷ [])) [] 1 [] (stopped (own 7))
unfolding echoes
operation_fails = refl

-- to block 1 where the sides are equal, else to block 2; a literal stands at the other side's type
abbrev Branches : Terminator → Standing → Type 0
Branches t s = Runs echo (routine (val 0 ∷ val 1 ∷ []) (recorded (0 ∷ 3 ∷ [])) (block [] t ∷ [])) (scalar 10 ∷ pair 7 3 ∷ []) 1 [] s

pub branches : Branches (BranchCmp 1 (op 0) (op 0) (blk 1) (blk 2)) (stands_at (blk 1))
    × Branches (BranchCmp 1 (op 0) (op 1) (blk 1) (blk 2)) (stands_at (blk 2))
    × Branches (BranchCmp 1 (integer 7) (op 1) (blk 1) (blk 2)) (stands_at (blk 1))
    × Branches (BranchCmp 1 (op 1) (integer 7) (blk 1) (blk 2)) (stands_at (blk 1))
    × Branches (BranchCmp 0 (op 0) (op 0) (blk 1) (blk 2)) (stopped (own 8))
unfolding echoes
branches = (refl, refl, refl, refl, refl)

-- 10 is true on this machine, and so is the literal 10 at no type
pub chooses : Branches (If (op 0) (blk 1) (blk 2)) (stands_at (blk 1))
    × Branches (If (op 1) (blk 1) (blk 2)) (stands_at (blk 2))
    × Branches (If (integer 10) (blk 1) (blk 2)) (stands_at (blk 1))
unfolding echoes
chooses = (refl, refl, refl)

-- a machine in which a Boolean is no number, and so no Index: nothing forbids it
pub data Token : Type 0 where
  numeral : ℕ → Token
  truth : Bool → Token

unfoldable pub token_of : Literal → Token
token_of (Literal.Integer x) = numeral x
token_of (Literal.Boolean b) = truth b
token_of Literal.Unit = numeral 0

unfoldable pub token_index : Val Token → Option ℕ
token_index (scalar (numeral k)) = some k
token_index (scalar (truth b)) = none
token_index (aggregate xs) = none

unfoldable pub tokens : Operations Token
unfolding token_of token_index
tokens =
    record {
      literal = λ l. scalar (token_of l);
      unary = λ o x. x;
      binary = λ o x y. x;
      cast = λ t u x. x;
      truth = λ x. false;
      same = λ a b. false;
      position = token_index;
      literal_position = λ k. refl;
      has = λ t a. true;
    }

-- what part 1 of an array of 7 and 8 is to it, by an Index
abbrev indexed_by : Value → Trace Token
indexed_by x =
    run (document01 tokens)
    (routine [] (recorded (5 ∷ 0 ∷ []))
    (block (MakeFixedArray (val 0) (integer 7 ∷ integer 8 ∷ []) (typ 0) false ∷ Load (val 1) (place 0 (Index x ∷ [])) (typ 0) ∷ []) (Return (op 1 ∷ [])) ∷ []))
    [] 1

pub boolean_no_index : (indexed_by (integer 1) ≡ record { recorded = returned (then (scalar (numeral 8)) ends) ∷ []; standing = ended at_return })
    × (indexed_by (boolean true) ≡ record { recorded = []; standing = stopped missing })
unfolding machine tokens token_of token_index
boolean_no_index = (refl, refl)

-- ---- Nop does nothing

pub does_nothing : Goes (block (Nop ∷ []) (Return (op 0 ∷ [])) ∷ []) 1 (returned (vals (scalar 10 ∷ [])) ∷ []) (ended at_return)
unfolding computes
does_nothing = refl

-- ---- "Debug becomes a recorded event of the machine with its message and values" (document 02)

-- a block that prints values of which 0, a Felt, and 1, a pair, are given and 2 is not written
abbrev Prints : Meaning ℕ → List Value → List (Event ℕ) → Standing → Type 0
Prints M xs es s =
    Runs M (routine (val 0 ∷ val 1 ∷ []) (recorded (0 ∷ 5 ∷ 0 ∷ [])) (block (Debug 4 xs ∷ []) Unreachable ∷ [])) (scalar 10 ∷ pair 7 8 ∷ []) 1 es s

-- its values in their order, an aggregate whole; of none too
pub prints : Prints numbers (op 1 ∷ op 0 ∷ op 0 ∷ []) (printed 4 (vals (pair 7 8 ∷ scalar 10 ∷ scalar 10 ∷ [])) ∷ []) (ended at_unreachable)
    × Prints numbers [] (printed 4 (vals []) ∷ []) (ended at_unreachable)
unfolding computes
prints = (refl, refl)

-- a literal stands at no type
pub prints_literal : Prints echo (integer 5 ∷ op 0 ∷ []) (printed 4 (vals (pair 5 99 ∷ scalar 10 ∷ [])) ∷ []) (ended at_unreachable)
unfolding echoes
prints_literal = refl

-- it reads first: an unwritten value stops the run, and so does Error; then nothing of it is recorded
pub prints_unwritten : Prints numbers (op 0 ∷ op 2 ∷ []) [] (stopped unwritten) × Prints numbers (op 0 ∷ Value.Error ∷ []) [] (stopped unwritten)
unfolding computes
prints_unwritten = (refl, refl)

-- it stands in the record where it is met
pub prints_in_turn : Goes (block (AssertEq (op 0) (op 0) ∷ Debug 4 (op 1 ∷ []) ∷ []) (Jump (blk 1)) ∷ block (Debug 5 (op 0 ∷ []) ∷ []) (Return (op 1 ∷ [])) ∷ []) 2
    (asserted (scalar 10) (scalar 10) ∷ printed 4 (vals (scalar 11 ∷ [])) ∷ printed 5 (vals (scalar 10 ∷ [])) ∷ returned (vals (scalar 11 ∷ [])) ∷ []) (ended at_return)
unfolding computes
prints_in_turn = refl

-- ---- "A run starts at the entry block with nothing written but the parameters; each block takes over the values that the last one left"

-- the entry block is any
pub starts_at_entry : Runs numbers (record { types = table; next = 1; entry = blk 1; parameters = val 0 ∷ []; recorded = recorded (0 ∷ []); blocks = block [] Unreachable ∷ block [] (Return (op 0 ∷ [])) ∷ [] }) (scalar 10 ∷ []) 1
    (returned (vals (scalar 10 ∷ [])) ∷ []) (ended at_return)
unfolding computes
starts_at_entry = refl

-- a value with a recorded type is not written
pub nothing_written : Goes (block [] (Return (op 2 ∷ [])) ∷ []) 1 [] (stopped unwritten)
unfolding computes
nothing_written = refl

pub takes_over : Goes (block (Assign (val 2) (integer 5) (typ 0) ∷ []) (Jump (blk 1)) ∷ block [] (Return (op 2 ∷ op 0 ∷ [])) ∷ []) 2 (returned (vals (scalar 5 ∷ scalar 10 ∷ [])) ∷ []) (ended at_return)
unfolding computes
takes_over = refl

-- ---- "The record is the list of what is recorded, in order, with values; no value number, span, expression id or comment is in it"

-- across blocks
pub in_order : Goes (block (AssertEq (op 0) (op 0) ∷ []) (Jump (blk 1)) ∷ block (AssertEq (op 1) (op 1) ∷ []) (Return (op 0 ∷ [])) ∷ []) 2
    (asserted (scalar 10) (scalar 10) ∷ asserted (scalar 11) (scalar 11) ∷ returned (vals (scalar 10 ∷ [])) ∷ []) (ended at_return)
unfolding computes
in_order = refl

-- the values numbered otherwise, and everything beside an instruction: the same record
abbrev dressed : InstructionKind → Instruction
dressed k = record { meta = record { span = some (record { start = 3; stop = 9 }); expression = some (record { index = 4; file = 1 }); comment = some 6 }; kind = k }

pub nothing_else : run numbers (routine (val 2 ∷ val 3 ∷ []) (recorded (0 ∷ 0 ∷ 0 ∷ 0 ∷ [])) (record { instructions = dressed (AssertEq (op 2) (op 2)) ∷ dressed (BinaryOp 0 (val 1) (op 3) (op 2)) ∷ []; terminator = Return (op 1 ∷ []) } ∷ [])) (scalar 10 ∷ scalar 11 ∷ []) 1
    ≡ run numbers (routine (val 0 ∷ val 1 ∷ []) (recorded (0 ∷ 0 ∷ 0 ∷ 0 ∷ [])) (block (AssertEq (op 0) (op 0) ∷ BinaryOp 0 (val 2) (op 1) (op 0) ∷ []) (Return (op 2 ∷ [])) ∷ [])) (scalar 10 ∷ scalar 11 ∷ []) 1
unfolding computes
nothing_else = refl

-- ---- "A run of n blocks makes fewer if it ends or stops. It then stands at its next block, or has ended (Return, Unreachable, unequal sides), or has
-- stopped (no value of its type, no source, no reply left, unwritten value, missing part)"

-- block 0, then block 1, which returns
abbrev two : List Block
two = block [] (Jump (blk 1)) ∷ block [] (Return []) ∷ []

-- after none it stands at the entry block, after one at the next, and it has ended after two and after any more
pub stands : Goes two 0 [] (stands_at (blk 0)) × Goes two 1 [] (stands_at (blk 1)) × Goes two 2 (returned (vals []) ∷ []) (ended at_return) × Goes two 9 (returned (vals []) ∷ []) (ended at_return)
unfolding computes
stands = (refl, refl, refl, refl)

-- a stop, too, is once
pub stops_once : Goes (block [] (Jump (blk 1)) ∷ block [] (Return (op 3 ∷ [])) ∷ []) 9 [] (stopped unwritten)
unfolding computes
stops_once = refl

-- a block that goes to itself is made n times: its record n times
pub loops : Goes (block (AssertEq (op 0) (op 0) ∷ []) (Jump (blk 0)) ∷ []) 3 (asserted (scalar 10) (scalar 10) ∷ asserted (scalar 10) (scalar 10) ∷ asserted (scalar 10) (scalar 10) ∷ []) (stands_at (blk 0))
unfolding computes
loops = refl
