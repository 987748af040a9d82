-- A block's edges, blocked and buildable values as the code keeps them: one table of numbers, the graph.
-- At 0 how many edges there are; then by value 1 where its build passes its own conditions; then by value 1 where it is
-- wanted whole; then three numbers for each edge: the child, the parent, the kind of the parent's build.
-- (src/lib.rt has the same numbers.)
use Rattle.std.specs.Prelude.{ℕ, zero, suc, ◌+◌, ◌*◌, ◌<◌, ◌≡◌, List, [], ◌∷◌, Bool, false, cond, length, get_or, replicate, eqb}
use Rattle.mir.specs.Syntax.{Instruction}
use Rattle.fold.specs.declared.Settings.{Settings}
use Rattle.mir.specs.Lookup.{Types}
use Rattle.mir.specs.Most.{most_values}
use Rattle.fold.specs.Numbers.{tuple_kind}
use Rattle.fold.specs.Family.{Marks}
use Rattle.fold.specs.Climb.{build_of, buildable_of}
use Rattle.fold_climb.specs.Edges.{Edge, edge, edges_of, tuple_edges_of, blocked_in, Sight}

-- where the parts begin, where edge k begins, how many edges there are at most, and how long the graph is
abbrev pub built_from : ℕ
built_from = 1

abbrev pub barred_from : ℕ
barred_from = 257

abbrev pub edges_from : ℕ
edges_from = 513

abbrev pub edge_at : ℕ → ℕ
edge_at k = edges_from + 3 * k

abbrev pub most_edges : ℕ
most_edges = 2048

abbrev pub graph_size : ℕ
graph_size = 6657

abbrev pub many_in : List ℕ → ℕ
many_in graph = get_or graph 0 0

abbrev pub built_in : List ℕ → ℕ → Bool
built_in graph v = eqb (get_or graph (built_from + v) 0) 1

abbrev pub barred_in : List ℕ → ℕ → Bool
barred_in graph v = eqb (get_or graph (barred_from + v) 0) 1

-- edge k, and whether its parent is built by a MakeTuple
abbrev pub child_in : List ℕ → ℕ → ℕ
child_in graph k = get_or graph (edge_at k) 0

abbrev pub parent_in : List ℕ → ℕ → ℕ
parent_in graph k = get_or graph (edge_at k + 1) 0

abbrev pub edge_in : List ℕ → ℕ → Edge
edge_in graph k = edge (child_in graph k) (parent_in graph k)

abbrev pub of_tuple : List ℕ → ℕ → Bool
of_tuple graph k = eqb (get_or graph (edge_at k + 2) 0) tuple_kind

-- the first k edges of the graph: the one that was noted last comes first
unfoldable pub edges_down : List ℕ → ℕ → List Edge
edges_down graph zero = []
edges_down graph (suc k) = edge_in graph k ∷ edges_down graph k

-- those that are noted as a MakeTuple's
unfoldable pub tuples_down : List ℕ → ℕ → List Edge
tuples_down graph zero = []
tuples_down graph (suc k) = cond (of_tuple graph k) (edge_in graph k ∷ tuples_down graph k) (tuples_down graph k)

-- what holds of each parent
abbrev pub Each : (ℕ → Type 0) → List Edge → Type 0
Each Q [] = Unit {0}
Each Q (e ∷ es) = Q e.parent × Each Q es

-- what the graph holds of a block's instructions
pub record Scanned (σ : Settings) (τ : Types) (cross : Marks) (is : List Instruction) (graph : List ℕ) : Type 0 where
  pub edges : edges_down graph (many_in graph) ≡ edges_of is
  pub tuple_edges : tuples_down graph (many_in graph) ≡ tuple_edges_of is
  pub built : (v : ℕ) → v < length τ.recorded → built_in graph v ≡ buildable_of σ τ cross (build_of σ τ cross (record { 0 = v }) is)
  pub barred : (v : ℕ) → v < length τ.recorded → barred_in graph v ≡ blocked_in v is
  pub below : Each (λ p. p < length τ.recorded) (edges_of is)

abbrev pub sight_of : List ℕ → List ℕ → Sight
sight_of shapes graph = record { shapes = shapes; built = built_in graph; barred = barred_in graph; edges = edges_down graph (many_in graph) }

-- nothing visited
abbrev pub fresh : Marks
fresh = replicate most_values false
