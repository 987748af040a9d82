-- What the code reads off the bytes of a type's row, and what it promises. proofs/Rows.antt ties the bytes to the types.
use Rattle.std.specs.Prelude.{ℕ, ◌≤◌, ◌≡◌, List, [], ◌∷◌, Bool, false, ◌&&◌, cond, length, drop, get_or, leb, ltb}
use Rattle.std.proofs.Math.Option.{Option, none, some}
use Rattle.std.proofs.Math.ListN.{get_elem?}
use Rattle.bytes_wire.specs.Number.{at32}
use Rattle.mir.specs.declared.TypeId.{TypeId}
use Rattle.mir.specs.MirType.{MirType}
use Rattle.mir.specs.Lookup.{Types}
use Rattle.bytes_types.specs.Index.{TypesAt}
use Rattle.bytes_index.specs.declared.code.Code.{Code}
use Rattle.bytes_index.specs.declared.code.Typing.{Typing}
use Rattle.fold.specs.declared.Settings.{Settings}
use Rattle.fold.specs.Numbers.{tuple_shape, struct_shape, array_shape}
use Rattle.fold.specs.Tables.{Known, ShapesAt}

-- the shape by the kind byte
abbrev pub row_shape : List ℕ → ℕ
row_shape t = get_or (0 ∷ 0 ∷ 0 ∷ tuple_shape ∷ struct_shape ∷ array_shape ∷ []) (get_or t 0 0) 0

-- the parts of a Tuple are counted at 1, those of a Struct at 3, an array's elements at 3
abbrev pub row_eligible : Settings → List ℕ → Bool
row_eligible σ t =
    get_or
    (false
    ∷ false
    ∷ false
    ∷ (σ.tuples && leb (get_or t 1 0) σ.most)
    ∷ (σ.structs && leb (get_or t 3 0) σ.most)
    ∷ (σ.tuples && leb (at32 t 3) σ.most)
    ∷ [])
    (get_or t 0 0)
    false

-- the row of a type of a routine, which is empty where there is no such type, or none
abbrev pub row_in : Code → Option TypeId → List ℕ
row_in code none = []
row_in code (some t) = cond (ltb t.0 code.bounds.types) (drop (get_or code.facts.now t.0 0) code.bytes.now) []

-- the promises: what f says of type t of a routine,
abbrev pub OfType : {A : Type 0} → (Option MirType → A) → Code → TypeId → A → Type 0
OfType f code t answer =
    (most : ℕ) (ts : List MirType)
    → TypesAt most code.bytes.now code.facts.now ts
    → length ts ≡ code.bounds.types
    → answer ≡ f (get_elem? ts t.0)

-- and the tables of all values: what stood in them, and what stands in them
abbrev pub FillsShapes : Settings → Typing → List ℕ → List Bool → List ℕ → List Bool → Type 0
FillsShapes σ typing shapes₀ eligible₀ shapes eligible =
    (most : ℕ) (τ : Types)
    → Known most typing.code.bytes.now typing.code.facts.now typing.recorded.now τ
    → length τ.rows ≡ typing.code.bounds.types
    → length τ.recorded ≡ typing.code.bounds.next
    → typing.code.bounds.next ≤ length shapes₀
    → typing.code.bounds.next ≤ length eligible₀
    → ShapesAt σ τ shapes eligible
