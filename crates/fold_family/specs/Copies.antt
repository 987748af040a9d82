-- The copies of a block: what its families are found by. proofs/Sweeps.antt ties them to the definition.
use Rattle.std.specs.Prelude.{ℕ, zero, suc, ◌+◌, ◌*◌, ◌<◌, ◌≡◌, List, [], ◌∷◌, Bool, true, false, cond, not, ◌&&◌, ◌||◌, length, get_or, set, eqb}
use Rattle.std.proofs.Math.Option.{Option, none, some}
use Rattle.mir.specs.declared.Value.{Value}
use Rattle.mir.specs.declared.Projection.{Projection}
use Rattle.mir.specs.declared.Projection.TheVariants.{Index, Field, Tuple}
use Rattle.mir.specs.Syntax.{Place, Instruction, InstructionKind}
use Rattle.mir.specs.Syntax.{Assign, UnaryOp, BinaryOp, Call, Cast, Load, Store, Debug, Nop, Phi}
use Rattle.mir.specs.Syntax.{MakeTuple, ExtractTupleElement, MakeStruct, ExtractStructField, InsertField, InsertTuple, MakeFixedArray, AssertEq, HeapAllocCells}
use Rattle.mir.specs.Lookup.{Types, row_of, shape, is_integer}
use Rattle.mir.specs.Most.{most_values, most_instructions}
use Rattle.fold.specs.Family.{Marks, accessed, dynamic_first}

-- no shape is asked for: a root of any shape will do
abbrev pub any_shape : ℕ
any_shape = 0

-- what makes `dest` a member where `source` is one, for a root of the shape asked for
pub record Copy : Type 0 where
  pub source : ℕ
  pub dest : ℕ
  pub asked : ℕ

-- a copy of an operand
abbrev pub copied : ℕ → Value → ℕ → Option Copy
copied k (Value.Literal l) d = none
copied k (Value.Operand v) d = some (record { source = v.0; dest = d; asked = k })
copied k Value.Error d = none

-- an Assign copies an aggregate only
abbrev pub assigned : ℕ → Value → ℕ → Option Copy
assigned k x d = cond (eqb k 0) none (copied k x d)

abbrev pub copy_of : Types → InstructionKind → Option Copy
copy_of τ (Assign d x t) = assigned (shape (row_of τ (some t))) x d.0
copy_of τ (UnaryOp op d x) = none
copy_of τ (BinaryOp op d x y) = none
copy_of τ (Call ds f xs ps rs) = none
copy_of τ (Cast d x t u) = none
copy_of τ (Load d p t) = none
copy_of τ (Store p x t) = none
copy_of τ (Debug n xs) = none
copy_of τ Nop = none
copy_of τ (Phi d t ss) = none
copy_of τ (MakeTuple d xs) = none
copy_of τ (ExtractTupleElement d x k t) = none
copy_of τ (MakeStruct d fs t) = none
copy_of τ (ExtractStructField d x n t) = none
copy_of τ (InsertField d x n y t) = copied any_shape x d.0
copy_of τ (InsertTuple d x k y t) = copied any_shape x d.0
copy_of τ (MakeFixedArray d xs t c) = none
copy_of τ (AssertEq x y) = none
copy_of τ (HeapAllocCells d x) = none

abbrev pub before : Option Copy → List Copy → List Copy
before none cs = cs
before (some c) cs = c ∷ cs

-- the copies of some instructions, in order
unfoldable pub copies : Types → List Instruction → List Copy
copies τ [] = []
copies τ (i ∷ is) = before (copy_of τ i.kind) (copies τ is)

abbrev pub no_copy : Copy
no_copy = record { source = 0; dest = 0; asked = 0 }

-- the row (one more than the index) of the last copy of v among the first e; 0 where there is none
unfoldable pub last : List Copy → ℕ → ℕ → ℕ
last cs v zero = 0
last cs v (suc j) = cond (eqb (get_or cs j no_copy).source v) (suc j) (last cs v j)

-- where the table of a block's copies has what (src/lib.rt has the same): copy k has three numbers from 3k on, its dest, the shape asked for, and the row
-- before it of the same source; behind the rows of as many copies as a block has instructions stands for each value its last row
abbrev pub row_at : ℕ → ℕ
row_at k = 3 * k

abbrev pub firsts_at : ℕ
firsts_at = row_at most_instructions

abbrev pub table_size : ℕ
table_size = firsts_at + most_values

-- these copies stand in the table, chained by their source
pub record RowsAt (table : List ℕ) (cs : List Copy) : Type 0 where
  pub dest : (k : ℕ) → k < length cs → get_or table (row_at k) 0 ≡ (get_or cs k no_copy).dest
  pub asked : (k : ℕ) → k < length cs → get_or table (row_at k + 1) 0 ≡ (get_or cs k no_copy).asked
  pub next : (k v : ℕ) → k < length cs → (get_or cs k no_copy).source ≡ v → v < most_values → get_or table (row_at k + 2) 0 ≡ last cs v k
  pub first : (v : ℕ) → v < most_values → get_or table (firsts_at + v) 0 ≡ last cs v (length cs)

-- a copy joins where its source is a member and the root has the shape asked for
unfoldable pub joining : ℕ → Marks → Copy → Marks
joining root m c = cond (eqb c.asked any_shape || eqb c.asked root) (cond (get_or m c.source false) (set m c.dest true) m) m

-- one sweep over the copies
unfoldable pub join_all : ℕ → Marks → List Copy → Marks
join_all root m [] = m
join_all root m (c ∷ cs) = join_all root (joining root m c) cs

-- some of them
unfoldable pub rounds : ℕ → ℕ → Marks → List Copy → Marks
rounds root zero m cs = m
rounds root (suc k) m cs = rounds root k (join_all root m cs) cs

-- whether a value has both marks
unfoldable pub meets : Marks → Marks → Bool
meets [] n = false
meets (a ∷ m) [] = false
meets (a ∷ m) (b ∷ n) = (a && b) || meets m n

-- the value that a Load or Store looks into by an index that is no Integer literal
abbrev pub dynamic_step : Option Projection → Bool
dynamic_step none = false
dynamic_step (some (Index x)) = not (is_integer x)
dynamic_step (some (Field n)) = false
dynamic_step (some (Tuple k)) = false

-- the values looked into so, noted in a table
abbrev pub dynamic_place : Marks → Option Place → Marks
dynamic_place d none = d
dynamic_place d (some p) = cond (dynamic_first p.projections) (set d p.base.0 true) d

unfoldable pub dynamics : Marks → List Instruction → Marks
dynamics d [] = d
dynamics d (i ∷ is) = dynamics (dynamic_place d (accessed i.kind)) is
