-- Short words for the worked runs: routines over one type table, values, and document 01's machine on numbers.
use Prim.Native.Nat.{ℕ}
use mathlib.Core.Path.{◌≡◌, refl}
use mathlib.Core.Option.{Option, none, some}
use mathlib.Core.List.{List, [], ◌∷◌, map}
use mathlib.Core.Bool.{true}
use lib.Dec.{eqb}
use lib.ListN.{length}
use Rattle.mir.specs.declared.ValueId.{ValueId}
use Rattle.mir.specs.declared.TypeId.{TypeId}
use Rattle.mir.specs.declared.BlockId.{BlockId}
use Rattle.mir.specs.declared.NameId.{NameId}
use Rattle.mir.specs.declared.Literal.{Literal}
use Rattle.mir.specs.declared.Value.{Value}
use Rattle.mir.specs.MirType.{MirType}
use Rattle.mir.specs.declared.Projection.{Projection}
use Rattle.mir.specs.Syntax.{InstructionKind, Instruction, Terminator, Block, Place}
use Rattle.mir.specs.Routine.{Routine}
use Rattle.mir.specs.Lookup as Lk
use Rattle.bytes_struct.specs.FindField as Ff
use Rattle.mir.specs.Parts as Pa
use Rattle.mir.specs.Phis as Ph
use Rattle.bytes_wire.specs.Value.{bool_byte}
use Rattle.bytes_sections.proofs.Examples.{no_meta}
use Rattle.machine.specs.Values.{Val, Vals, scalar, aggregate, ends, then}
use Rattle.machine.specs.Meaning.{Meaning}
use Rattle.machine.specs.Records.{Event, Standing, Trace}
use Rattle.machine.specs.Values as Vl
use Rattle.machine.specs.Records as R
use Rattle.machine.specs.Places as P
use Rattle.machine.specs.Evaluate as E
use Rattle.machine.specs.Exec as X
use Rattle.machine.specs.Run as N
use Rattle.machine.specs.Document as D

-- ---- every definition on a run's way, opened

unfoldable lookups : Unit {0}
unfolding Lk.row_of Lk.recorded_type Lk.value_row Lk.shape Lk.is_struct Lk.struct_fields_of Ff.find_from Ff.find_field Ff.field_index Ff.field_type_of Lk.on_some Ph.behind_phis Ph.phis_of Ph.phi_of
lookups = tt

unfoldable parts : Unit {0}
unfolding Pa.field_type Pa.part_type Pa.part_count Pa.counts Pa.operand_row Pa.is_pointer Pa.given Pa.cons_part Pa.from_struct_fields Pa.or_else Pa.struct_row Pa.struct_parts
parts = tt

unfoldable values : Unit {0}
unfolding Vl.equal Vl.equals Vl.cons_val Vl.nth Vl.put Vl.part_of Vl.as_aggregate Vl.with_part D.scalar_of D.vals_length D.is_of D.are_of D.on_rows D.take_first
values = tt

unfoldable places : Unit {0}
unfolding P.part_row P.argument_row P.no_row P.step_position P.walked P.changed E.eval E.eval_all E.indexed E.eval_step E.cons_step E.eval_steps
places = tt

unfoldable instructions : Unit {0}
unfolding X.need X.choose X.received X.asserting X.replies X.answered X.built X.extracted X.inserted X.exec R.write_all R.log
instructions = tt

unfoldable blocks : Unit {0}
unfolding N.onward N.needed N.branch N.judged N.source_for N.source_from N.read_phi N.read_phis N.exec_terminator N.exec_all N.exec_block N.trace N.run_block N.run_blocks
blocks = tt

-- all of them
unfoldable pub machine : Unit {0}
unfolding lookups parts values places instructions blocks N.taking N.take_all N.none_written N.run
machine = tt

-- ---- routines

abbrev pub val : ℕ → ValueId
val v = record { 0 = v }

abbrev pub typ : ℕ → TypeId
typ t = record { 0 = t }

abbrev pub blk : ℕ → BlockId
blk b = record { 0 = b }

abbrev pub name : ℕ → NameId
name n = record { 0 = n }

-- an operand
abbrev pub op : ℕ → Value
op v = Value.Operand (val v)

-- an instruction with nothing beside it
abbrev pub ins : InstructionKind → Instruction
ins k = record { meta = no_meta; kind = k }

abbrev pub block : List InstructionKind → Terminator → Block
block ks t = record { instructions = map ins ks; terminator = t }

abbrev pub place : ℕ → List Projection → Place
place v ps = record { base = val v; projections = ps }

-- the type table of the rows: a type of each kind at that kind's number (0 to 10), then aggregates that are empty, nested or long
abbrev pub table : List MirType
table =
    MirType.Felt
    ∷ MirType.Bool
    ∷ MirType.U32
    ∷ MirType.Tuple (typ 0 ∷ typ 1 ∷ [])
    ∷ MirType.Struct (name 20) (record { name = name 10; part = typ 0 } ∷ record { name = name 11; part = typ 5 } ∷ [])
    ∷ MirType.FixedArray (typ 0) 2
    ∷ MirType.Pointer (typ 0)
    ∷ MirType.Function (typ 0 ∷ []) (typ 0)
    ∷ MirType.Unit
    ∷ MirType.Error
    ∷ MirType.Unknown
    ∷ MirType.Tuple []
    ∷ MirType.FixedArray (typ 5) 2
    ∷ MirType.Tuple (typ 5 ∷ typ 0 ∷ [])
    ∷ MirType.FixedArray (typ 0) 3
    ∷ MirType.FixedArray (typ 4) 1
    ∷ []

-- a type's kind, in `MirType` order
unfoldable pub kind : MirType → ℕ
kind MirType.Felt = 0
kind MirType.Bool = 1
kind MirType.U32 = 2
kind (MirType.Tuple ts) = 3
kind (MirType.Struct n fs) = 4
kind (MirType.FixedArray t size) = 5
kind (MirType.Pointer t) = 6
kind (MirType.Function ps r) = 7
kind MirType.Unit = 8
kind MirType.Error = 9
kind MirType.Unknown = 10

-- values recorded at types of the table
abbrev pub recorded : List ℕ → List (Option TypeId)
recorded ts = map (λ t. some (typ t)) ts

-- entered at its first block
abbrev pub routine : List ValueId → List (Option TypeId) → List Block → Routine
routine ps rs ks = record { types = table; next = length rs; entry = blk 0; parameters = ps; recorded = rs; blocks = ks }

-- ---- values and traces

abbrev pub vals : List (Val ℕ) → Vals ℕ
vals [] = ends
vals (x ∷ xs) = then x (vals xs)

-- an aggregate of these parts
abbrev pub agg : List (Val ℕ) → Val ℕ
agg xs = aggregate (vals xs)

-- a pair of scalars, whatever type it is of
abbrev pub pair : ℕ → ℕ → Val ℕ
pair a b = agg (scalar a ∷ scalar b ∷ [])

-- a run of n blocks has this record and stands so
abbrev pub Runs : Meaning ℕ → Routine → List (Val ℕ) → ℕ → List (Event ℕ) → Standing → Type 0
Runs M r w n es s = N.run M r w n ≡ record { recorded = es; standing = s }

-- all of these have one trace
abbrev pub Each : {B : Type 0} → (B → Trace ℕ) → Trace ℕ → List B → Type 0
Each f t xs = map f xs ≡ map (λ x. t) xs

-- ---- document 01's machine on numbers

-- a literal's number
unfoldable pub number : Literal → ℕ
number (Literal.Integer x) = x
number (Literal.Boolean b) = bool_byte b
number Literal.Unit = 0

-- a number names the part of its number
unfoldable pub index_of : Val ℕ → Option ℕ
index_of (scalar k) = some k
index_of (aggregate xs) = none

-- so an Integer literal names the part of its number
pub number_position : (k : ℕ) → index_of (scalar (number (Literal.Integer k))) ≡ some k
unfolding index_of number
number_position k = refl

-- every scalar is of every scalar type; an operation gives its first operand; 1 is true. A literal is the number that is given for it
abbrev pub numbers_by : (f : Literal → ℕ) → ((k : ℕ) → index_of (scalar (f (Literal.Integer k))) ≡ some k) → Meaning ℕ
numbers_by f h =
    D.document01
    (record {
      literal = λ l. scalar (f l);
      unary = λ op x. x;
      binary = λ op x y. x;
      cast = λ t u x. x;
      truth = λ x. Vl.equal eqb x (scalar 1);
      same = eqb;
      position = index_of;
      literal_position = h;
      has = λ t a. true;
    })

-- a literal's own
unfoldable pub numbers : Meaning ℕ
numbers = numbers_by number number_position

-- the machine on numbers, opened
unfoldable pub computes : Unit {0}
unfolding machine numbers number index_of
computes = tt
