-- A block as the climb sees it: which value is a part of which build, which values no build may be taken apart for.
use Rattle.std.specs.Prelude.{ℕ, zero, suc, List, [], ◌∷◌, Bool, true, false, cond, not, ◌&&◌, ◌||◌, get_or, set, eqb}
use Rattle.std.proofs.Math.Option.{Option, none, some}
use Rattle.mir.specs.declared.ValueId.{ValueId}
use Rattle.mir.specs.declared.Value.{Value}
use Rattle.mir.specs.declared.Projection.{Projection}
use Rattle.mir.specs.declared.Projection.TheVariants.{Index, Field, Tuple}
use Rattle.mir.specs.Syntax.{Place, Instruction, InstructionKind}
use Rattle.mir.specs.Reads.{kind_number, reads}
use Rattle.bytes_operands.specs.Fields.{list_values}
use Rattle.mir.specs.Lookup.{is_operand, is_integer, any}
use Rattle.fold.specs.Numbers.{call_kind, tuple_kind, array_shape}
use Rattle.fold.specs.Family.{Marks, build_dest, accessed}

-- a value, and a build that has it as a part
pub record Edge : Type 0 where
  pub child : ℕ
  pub parent : ℕ

abbrev pub edge : ℕ → ℕ → Edge
edge c p = record { child = c; parent = p }

-- the parts of a build d, each other than d itself, in front of others
unfoldable pub part_edges : ℕ → List ValueId → List Edge → List Edge
part_edges d [] es = es
part_edges d (w ∷ ws) es = cond (eqb w.0 d) (part_edges d ws es) (edge w.0 d ∷ part_edges d ws es)

unfoldable pub build_edges : Option ValueId → List ValueId → List Edge → List Edge
build_edges none ws es = es
build_edges (some d) ws es = part_edges d.0 ws es

-- a block's edges, in order: a build reads its parts
unfoldable pub edges_of : List Instruction → List Edge
edges_of [] = []
edges_of (i ∷ is) = build_edges (build_dest i.kind) (reads i.kind) (edges_of is)

-- those of its MakeTuples
unfoldable pub tuple_edges_of : List Instruction → List Edge
tuple_edges_of [] = []
tuple_edges_of (i ∷ is) =
    cond (eqb (kind_number i.kind) tuple_kind) (build_edges (build_dest i.kind) (reads i.kind) (tuple_edges_of is)) (tuple_edges_of is)

-- the arguments of a Call
unfoldable pub arguments : InstructionKind → List Value
arguments i = cond (eqb (kind_number i) call_kind) (list_values i) []

-- the first projection is no Integer literal
unfoldable pub varies_first : List Projection → Bool
varies_first [] = false
varies_first (Index x ∷ ps) = not (is_integer x)
varies_first (Field n ∷ ps) = true
varies_first (Tuple k ∷ ps) = true

unfoldable pub varies_at : ℕ → Option Place → Bool
varies_at v none = false
varies_at v (some p) = eqb p.base.0 v && varies_first p.projections

-- an instruction for which the value must stand whole
unfoldable pub blocks : ℕ → InstructionKind → Bool
blocks v i = any (is_operand (record { 0 = v })) (arguments i) || varies_at v (accessed i)

unfoldable pub blocked_in : ℕ → List Instruction → Bool
blocked_in v [] = false
blocked_in v (i ∷ is) = blocks v i.kind || blocked_in v is

-- what the climb looks at: by value its shape, whether its build passes its own conditions, whether it is wanted whole
pub record Sight : Type 0 where
  pub shapes : List ℕ
  pub built : ℕ → Bool
  pub barred : ℕ → Bool
  pub edges : List Edge

abbrev pub array_in : Sight → ℕ → Bool
array_in t v = eqb (get_or t.shapes v 0) array_shape

abbrev pub allowed_in : Sight → ℕ → Bool
allowed_in t v = t.built v && not (t.barred v)

abbrev pub onto : Option Marks → (Marks → Option Marks) → Option Marks
onto none f = none
onto (some m) f = f m

-- each parent of v among the edges, climbed in turn; none where v is an array
unfoldable pub parents : (ℕ → Marks → Option Marks) → Bool → ℕ → List Edge → Marks → Option Marks
parents up array v [] m = some m
parents up array v (e ∷ es) m =
    cond (eqb e.child v) (cond array none (onto (up e.parent m) (parents up array v es))) (parents up array v es m)

-- the climb, at most k values deep; a value past the marks counts as visited
unfoldable pub climb_in : Sight → ℕ → ℕ → Marks → Option Marks
climb_in t zero v m = none
climb_in t (suc k) v m =
    cond (get_or m v true) none
    (cond (allowed_in t v) (parents (climb_in t k) (array_in t v) v t.edges (set m v true)) none)

-- how many marks are not set
unfoldable pub unmarked : Marks → ℕ
unmarked [] = 0
unmarked (true ∷ m) = unmarked m
unmarked (false ∷ m) = suc (unmarked m)

-- each step sets a mark, so that it is never deeper than there are clear ones
unfoldable pub climb_of : Sight → ℕ → Marks → Option Marks
climb_of t v m = climb_in t (suc (unmarked m)) v m

-- a tuple's own test: each tuple that takes it as a part can be taken apart, by itself
unfoldable pub tuples_climb : (ℕ → Bool) → ℕ → List Edge → Bool
tuples_climb can v [] = true
tuples_climb can v (e ∷ es) = (not (eqb e.child v) || can e.parent) && tuples_climb can v es
