-- What is decided of a build, by its kind, where the tables hold what they should.
use Rattle.std.specs.Prelude.{ℕ, ◌<◌, ◌≤◌, ◌≡◌, List, Bool, length}
use Rattle.std.proofs.Math.Option.{some}
use Rattle.mir.specs.declared.ValueId.{ValueId}
use Rattle.mir.specs.declared.Value.{Value}
use Rattle.mir.specs.Syntax.{Instruction, MakeTuple}
use Rattle.fold.specs.declared.Settings.{Settings}
use Rattle.mir.specs.Lookup.{Types, is_some}
use Rattle.mir.specs.Most.{most_values}
use Rattle.fold.specs.Numbers.{tuple_kind, struct_kind, array_kind}
use Rattle.fold.specs.Family.{Marks, has_dynamic_index}
use Rattle.fold.specs.Tables.{ShapesAt}
use Rattle.fold.specs.Climb.{build_of}
use Rattle.fold.specs.Fold.{folds_tuple, folds_struct, folds_array}
use Rattle.fold_climb.specs.Edges.{Sight, climb_of, tuples_climb}
use Rattle.fold_climb.specs.Scanned.{many_in, tuples_down, Scanned, sight_of, fresh}

-- the climb from a value, with nothing visited
abbrev pub climbs : Sight → ℕ → Bool
climbs t v = is_some (climb_of t v fresh)

-- a tuple's own test, over the graph
abbrev pub tuples_pass : List ℕ → List ℕ → ℕ → Bool
tuples_pass shapes graph v = tuples_climb (climbs (sight_of shapes graph)) v (tuples_down graph (many_in graph))

-- the answer for a value's build, by the build's kind number; an array's needs to know of a dynamic index
pub record Decided (σ : Settings) (τ : Types) (cross : Marks) (is : List Instruction) (v : ValueId) (kind : ℕ) (dynamic answer : Bool) : Type 0 where
  pub tuple : (xs : List Value) → kind ≡ tuple_kind → build_of σ τ cross v is ≡ some (MakeTuple v xs) → answer ≡ folds_tuple σ τ cross is v xs
  pub struct : kind ≡ struct_kind → answer ≡ folds_struct σ τ cross is v
  pub array : kind ≡ array_kind → dynamic ≡ has_dynamic_index τ v is → answer ≡ folds_array σ τ cross is v

-- what is answered for a value's build, where the tables hold what they should
abbrev pub FoldsBy : Settings → List ℕ → List ℕ → ValueId → ℕ → Bool → Bool → Type 0
FoldsBy σ shapes graph v kind dynamic answer =
    (τ : Types) (cross : Marks) (is : List Instruction) (eligible : List Bool)
    → ShapesAt σ τ shapes eligible
    → Scanned σ τ cross is graph
    → length τ.recorded ≤ most_values
    → v.0 < length τ.recorded
    → Decided σ τ cross is v kind dynamic answer
