-- The values derived from a build, and the aggregates that are used across blocks.
use Rattle.std.specs.Prelude.{ℕ, zero, suc, List, [], ◌∷◌, Bool, true, false, cond, not, ◌&&◌, ◌||◌, length, get_or, set, replicate, eqb}
use Rattle.std.proofs.Math.Option.{Option, none, some}
use Rattle.mir.specs.declared.ValueId.{ValueId}
use Rattle.mir.specs.declared.Literal.{Literal}
use Rattle.mir.specs.declared.Value.{Value}
use Rattle.mir.specs.declared.Projection.{Projection}
use Rattle.mir.specs.declared.Projection.TheVariants.{Index, Field, Tuple}
use Rattle.mir.specs.Syntax.{Place, Instruction, InstructionKind, Block}
use Rattle.mir.specs.Syntax.{Assign, UnaryOp, BinaryOp, Call, Cast, Load, Store, Debug, Nop, Phi}
use Rattle.mir.specs.Syntax.{MakeTuple, ExtractTupleElement, MakeStruct, ExtractStructField, InsertField, InsertTuple, MakeFixedArray, AssertEq, HeapAllocCells}
use Rattle.mir.specs.Reads.{reads, counted, terminator_reads}
use Rattle.fold.specs.declared.Settings.{Settings}
use Rattle.mir.specs.Lookup.{Types, row_of, value_row, shape, is_integer, any}
use Rattle.fold.specs.Scalarizable.{is_scalarizable}

-- a set of values: a mark for each
abbrev pub Marks : Type 0
Marks = List Bool

abbrev pub marked : Marks → ValueId → Bool
marked m v = get_or m v.0 false

abbrev pub mark : Marks → ValueId → Marks
mark m v = set m v.0 true

-- `if family.contains(src) { family.insert(dest) }`
unfoldable pub joins : Marks → Value → ValueId → Marks
joins m (Value.Literal l) d = m
joins m (Value.Operand v) d = cond (marked m v) (mark m d) m
joins m Value.Error d = m

-- sroa.rs 428 to 466: an Assign joins where both types are arrays, both tuples or both structs; an insert always
unfoldable pub member : Types → ℕ → Marks → InstructionKind → Marks
member τ root m (Assign d x t) = cond (not (eqb root 0) && eqb root (shape (row_of τ (some t)))) (joins m x d) m
member τ root m (UnaryOp op d x) = m
member τ root m (BinaryOp op d x y) = m
member τ root m (Call ds f xs ps rs) = m
member τ root m (Cast d x t u) = m
member τ root m (Load d p t) = m
member τ root m (Store p x t) = m
member τ root m (Debug n xs) = m
member τ root m Nop = m
member τ root m (Phi d t ss) = m
member τ root m (MakeTuple d xs) = m
member τ root m (ExtractTupleElement d x k t) = m
member τ root m (MakeStruct d fs t) = m
member τ root m (ExtractStructField d x n t) = m
member τ root m (InsertField d x n y t) = joins m x d
member τ root m (InsertTuple d x k y t) = joins m x d
member τ root m (MakeFixedArray d xs t c) = m
member τ root m (AssertEq x y) = m
member τ root m (HeapAllocCells d x) = m

-- one sweep over the instructions
unfoldable pub sweep : Types → ℕ → Marks → List Instruction → Marks
sweep τ root m [] = m
sweep τ root m (i ∷ is) = sweep τ root (member τ root m i.kind) is

-- sweeps until nothing changes: no more of them change anything than there are instructions
unfoldable pub sweeps : Types → ℕ → ℕ → Marks → List Instruction → Marks
sweeps τ root zero m is = m
sweeps τ root (suc k) m is = sweeps τ root k (sweep τ root m is) is

-- sroa.rs 410, `build_aggregate_family`
unfoldable pub family : Types → ValueId → List Instruction → Marks
family τ v is = sweeps τ (shape (value_row τ v)) (length is) (mark (replicate (length τ.recorded) false) v) is

-- the dest of a build
unfoldable pub build_dest : InstructionKind → Option ValueId
build_dest (Assign d x t) = none
build_dest (UnaryOp op d x) = none
build_dest (BinaryOp op d x y) = none
build_dest (Call ds f xs ps rs) = none
build_dest (Cast d x t u) = none
build_dest (Load d p t) = none
build_dest (Store p x t) = none
build_dest (Debug n xs) = none
build_dest Nop = none
build_dest (Phi d t ss) = none
build_dest (MakeTuple d xs) = some d
build_dest (ExtractTupleElement d x k t) = none
build_dest (MakeStruct d fs t) = some d
build_dest (ExtractStructField d x n t) = none
build_dest (InsertField d x n y t) = none
build_dest (InsertTuple d x k y t) = none
build_dest (MakeFixedArray d xs t c) = some d
build_dest (AssertEq x y) = none
build_dest (HeapAllocCells d x) = none

-- the place that a Load or Store walks
unfoldable pub accessed : InstructionKind → Option Place
accessed (Assign d x t) = none
accessed (UnaryOp op d x) = none
accessed (BinaryOp op d x y) = none
accessed (Call ds f xs ps rs) = none
accessed (Cast d x t u) = none
accessed (Load d p t) = some p
accessed (Store p x t) = some p
accessed (Debug n xs) = none
accessed Nop = none
accessed (Phi d t ss) = none
accessed (MakeTuple d xs) = none
accessed (ExtractTupleElement d x k t) = none
accessed (MakeStruct d fs t) = none
accessed (ExtractStructField d x n t) = none
accessed (InsertField d x n y t) = none
accessed (InsertTuple d x k y t) = none
accessed (MakeFixedArray d xs t c) = none
accessed (AssertEq x y) = none
accessed (HeapAllocCells d x) = none

-- the first projection is an Index that is no Integer literal
unfoldable pub dynamic_first : List Projection → Bool
dynamic_first [] = false
dynamic_first (Index x ∷ ps) = not (is_integer x)
dynamic_first (Field n ∷ ps) = false
dynamic_first (Tuple k ∷ ps) = false

-- a member of the family is looked into by such an Index
unfoldable pub dynamic_at : Marks → Option Place → Bool
dynamic_at m none = false
dynamic_at m (some p) = marked m p.base && dynamic_first p.projections

-- sroa.rs 476, `array_family_has_dynamic_index_use`
unfoldable pub has_dynamic_index : Types → ValueId → List Instruction → Bool
has_dynamic_index τ v is = let m = family τ v is in any (λ i. dynamic_at m (accessed i.kind)) is

-- a block reads one of the values; Debug's reads do not count here
unfoldable pub reads_one : Marks → Block → Bool
reads_one m k =
    any (λ i. counted false i.kind && any (marked m) (reads i.kind)) k.instructions
    || any (marked m) (terminator_reads k.terminator)

-- some block other than number own, counted from `at`, reads one of the values
unfoldable pub read_elsewhere : Marks → ℕ → ℕ → List Block → Bool
read_elsewhere m own at [] = false
read_elsewhere m own at (k ∷ ks) = (not (eqb at own) && reads_one m k) || read_elsewhere m own (suc at) ks

-- the set of both
unfoldable pub union : Marks → Marks → Marks
union [] n = n
union (a ∷ m) [] = a ∷ m
union (a ∷ m) (b ∷ n) = (a || b) ∷ union m n

-- a family that another block reads is used across blocks, with all its members
unfoldable pub cross_family : Types → List Block → ℕ → Block → ValueId → Marks → Marks
cross_family τ ks own k v m = let f = family τ v k.instructions in cond (read_elsewhere f own 0 ks) (union f m) m

-- sroa.rs 530: only a build whose recorded type is scalarizable is a root
unfoldable pub cross_build : Settings → Types → List Block → ℕ → Block → Option ValueId → Marks → Marks
cross_build σ τ ks own k none m = m
cross_build σ τ ks own k (some v) m = cond (is_scalarizable σ (value_row τ v)) (cross_family τ ks own k v m) m

-- the builds of block number own, in order
unfoldable pub cross_builds : Settings → Types → List Block → ℕ → Block → List Instruction → Marks → Marks
cross_builds σ τ ks own k [] m = m
cross_builds σ τ ks own k (i ∷ is) m = cross_builds σ τ ks own k is (cross_build σ τ ks own k (build_dest i.kind) m)

-- the blocks from number own on, among all
unfoldable pub cross_blocks : Settings → Types → List Block → ℕ → List Block → Marks → Marks
cross_blocks σ τ all own [] m = m
cross_blocks σ τ all own (k ∷ ks) m = cross_blocks σ τ all (suc own) ks (cross_builds σ τ all own k k.instructions m)

-- sroa.rs 513, `find_cross_block_aggregates`
unfoldable pub cross_block_aggregates : Settings → Types → List Block → Marks
cross_block_aggregates σ τ ks = cross_blocks σ τ ks 0 ks (replicate (length τ.recorded) false)
