-- What the writers of a rebuild promise.
use Rattle.std.specs.Prelude.{ℕ, zero, suc, ◌<◌, ◌≡◌, List, [], ◌∷◌, length, take, Result, Ok, Err}
use Rattle.std.proofs.Math.Option.{Option, none, some}
use Rattle.bytes_wire.specs.Parse.{ok}
use Rattle.bytes_wire.specs.WellFormed.{Bytes}
use Rattle.mir.specs.declared.ValueId.{ValueId}
use Rattle.mir.specs.declared.TypeId.{TypeId}
use Rattle.mir.specs.declared.Value.{Value}
use Rattle.bytes_emit.specs.Written.{Writes}
use Rattle.bytes_index.specs.declared.code.Code.{Code}
use Rattle.bytes_field.specs.Encode.{each_bytes, instruction_bytes}
use Rattle.mir.specs.MirType.{StructField, MirType}
use Rattle.bytes_types.specs.Decode.{type_of}
use Rattle.bytes_types.specs.Index.{TypesAt}
use Rattle.mir.specs.Lookup.{Types, row_of}
use Rattle.rewrite.specs.Rebuild.{rebuild_at, clash_fault}
use Rattle.rewrite.specs.Deep.{kept_parts}
use Rattle.rewrite_parts.specs.Rows.{RowAt}
use Rattle.bytes_struct.specs.Fields.{first_name, Names}
use Rattle.rewrite.specs.declared.Fault.{Fault}
use Rattle.rewrite_build.specs.declared.Placed.{Placed}

-- the most bytes of a value
abbrev pub value_most : ℕ
value_most = 5

-- the most bytes of a rebuild
abbrev pub rebuild_most : ℕ
rebuild_most = 1792

-- P holds of the so many parts that stand at these places of the routine
abbrev pub OfParts : Code → List ℕ → ℕ → (List Value → Type 0) → Type 0
OfParts code places many P = (xs : List Value) → RowAt code.bounds.next code.bytes.now places 0 xs → length xs ≡ many → P xs

-- a part under its fresh number, if it has one: no fresh number is 0
unfoldable pub numbered_part : ℕ → Value → Value
numbered_part zero x = x
numbered_part (suc n) x = Value.Operand (record { 0 = suc n })

-- the parts xs with the fresh numbers of the first of them
unfoldable pub renumbered : List ℕ → List Value → List Value
renumbered [] xs = xs
renumbered (n ∷ ns) [] = []
renumbered (n ∷ ns) (x ∷ xs) = numbered_part n x ∷ renumbered ns xs

-- P holds of the parts that are written
abbrev pub OfPlaced : Placed → (List Value → Type 0) → Type 0
OfPlaced parts P = OfParts parts.code parts.places.now parts.many (λ xs. P (renumbered parts.nums.now xs))

-- P holds of the `want` fields whose names stand in a type's bytes
abbrev pub OfFields : List ℕ → ℕ → (List StructField → Type 0) → Type 0
OfFields row want P = (fs : List StructField) → length fs ≡ want → Names row first_name fs → P fs

-- P holds of the type that is read from its bytes
abbrev pub OfType : List ℕ → (MirType → Type 0) → Type 0
OfType row P = (most own n : ℕ) (T : MirType) → Bytes row → type_of most own row ≡ ok T n → P T

-- P holds of the routine's types, which have a type t
abbrev pub OfTable : Code → TypeId → (Types → Type 0) → Type 0
OfTable code t P =
    (most : ℕ) (τ : Types)
    → Bytes code.bytes.now
    → TypesAt most code.bytes.now code.facts.now τ.rows
    → t.0 < length τ.rows
    → P τ

-- of so many parts a rebuild at this type keeps the first r
abbrev pub Keeps : Option MirType → ℕ → ℕ → Type 0
Keeps row many r = (xs : List Value) → length xs ≡ many → kept_parts row xs ≡ take r xs

-- the bytes of the rebuild of d from the parts xs at type t
abbrev pub rebuild_bytes : Types → ValueId → List Value → TypeId → List ℕ
rebuild_bytes τ d xs t = each_bytes instruction_bytes (rebuild_at d xs t (row_of τ (some t)))

-- with a clash, which is the fault, nothing is written
pub record Clashes (τ : Types) (xs : List Value) (t : TypeId) (f : Fault) (out out' : List ℕ) : Type 0 where
  pub told : clash_fault xs (row_of τ (some t)) ≡ some f
  pub kept : out' ≡ out

-- without one the rebuild is
pub record Written (τ : Types) (d : ValueId) (xs : List Value) (t : TypeId) (out out' : List ℕ) (to end : ℕ) : Type 0 where
  pub told : clash_fault xs (row_of τ (some t)) ≡ none
  pub written : Writes (rebuild_bytes τ d xs t) out out' to end

-- the answer tells which of the two
abbrev pub Rebuilds : Types → ValueId → List Value → TypeId → List ℕ → List ℕ → ℕ → Result ℕ Fault → Type 0
Rebuilds τ d xs t out out' to (Err f) = Clashes τ xs t f out out'
Rebuilds τ d xs t out out' to (Ok end) = Written τ d xs t out out' to end
