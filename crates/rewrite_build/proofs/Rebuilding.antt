-- The rebuild is written as the row of its type says.
use Prim.Native.Nat.{ℕ, suc, ◌-◌, ◌<◌, min}
use mathlib.Core.Path.{◌≡◌, refl, ap, ◌∙◌, sym}
use mathlib.Core.List.{List, append-nil}
use mathlib.Core.Bool.{true, false, not}
use mathlib.Core.Bool as B
use mathlib.Core.Option.{some}
use native.Mathlib.Omega.{arith}
use lib.ListN.{length, get_or, take, drop}
use lib.Seq.{take_all}
use Rattle.std.proofs.lemmas.List.{take_min}
use lib.Dec.{eqb}
use Rattle.table.proofs.Elements.{some_at}
use Rattle.bytes_wire.specs.Parse.{ok}
use Rattle.bytes_wire.specs.Number.{at16, at32}
use Rattle.bytes_wire.specs.WellFormed.{Bytes}
use Rattle.mir.specs.declared.ValueId.{ValueId}
use Rattle.mir.specs.declared.TypeId.{TypeId}
use Rattle.mir.specs.declared.Value.{Value}
use Rattle.bytes_wire.proofs.Canon.{bytes_drop}
use Rattle.mir.specs.Syntax.{InstructionKind, plain}
use Rattle.bytes_field.specs.Encode.{each_bytes, instruction_bytes}
use Rattle.mir.specs.MirType.{StructField, MirType}
use Rattle.bytes_types.specs.Decode.{type_of}
use Rattle.bytes_types.specs.Index.{TypesAt}
use Rattle.mir.specs.Lookup.{Types, row_of}
use Rattle.rewrite.specs.Rebuild.{fitted, named, rebuild_at, clashes, clash_fault}
use Rattle.rewrite.specs.Deep.{kept_parts}
use Rattle.rewrite.specs.declared.Fault.{Fault}
use Rattle.bytes_emit.specs.Written.{Writes}
use Rattle.rewrite_build.specs.Written.{rebuild_bytes, Keeps, Clashes, Written}
use Rattle.bytes_struct.specs.Fields.{first_name, Names}
use Rattle.rewrite_build.proofs.Shape.{tuple, struct, array, other, shape_of}

-- the type T was read from `row`
module _ (most own n : ℕ) (row : List ℕ) (T : MirType) (xs : List Value) (h : Bytes row) (e : type_of most own row ≡ ok T n) where
  -- an array clashes by its size
  pub array_size : get_or row 0 0 ≡ 5 → not (eqb (length xs) (at32 row 3)) ≡ clashes xs (some T)
  unfolding clashes
  array_size g =
      elim (shape_of most own row T n h e) [
        | tuple b ts q m ↦ absurd (omega arith)
        | struct b x fs q m i ↦ absurd (omega arith)
        | array b y z q m i ↦ rw (q, i)
        | other a b c u v w ↦ absurd (c g)
      ]

  -- no other type does
  pub no_array : (get_or row 0 0 ≡ 5 → ⊥) → false ≡ clashes xs (some T)
  unfolding clashes
  no_array g =
      elim (shape_of most own row T n h e) [
        | tuple b ts q m ↦ rw q
        | struct b x fs q m i ↦ rw q
        | array b y z q m i ↦ absurd (g b)
        | other a b c u v w ↦ sym (v xs)
      ]

  -- a tuple or a struct keeps no more parts than its type has
  pub tuple_keeps : (want many : ℕ) → get_or row 0 0 ≡ 3 → want ≡ get_or row 1 0 → length xs ≡ many → kept_parts (some T) xs ≡ take (min want many) xs
  unfolding kept_parts
  tuple_keeps want many g k f =
      elim (shape_of most own row T n h e) [
        | tuple b ts q m ↦ rw (q, m, ← k, ← f) (sym (take_min want xs))
        | struct b x fs q m i ↦ absurd (omega arith)
        | array b y z q m i ↦ absurd (omega arith)
        | other a b c u v w ↦ absurd (a g)
      ]

  pub struct_keeps : (want many : ℕ) → get_or row 0 0 ≡ 4 → want ≡ get_or row 3 0 → length xs ≡ many → kept_parts (some T) xs ≡ take (min want many) xs
  unfolding kept_parts
  struct_keeps want many g k f =
      elim (shape_of most own row T n h e) [
        | tuple b ts q m ↦ absurd (omega arith)
        | struct b x fs q m i ↦ rw (q, m, ← k, ← f) (sym (take_min want xs))
        | array b y z q m i ↦ absurd (omega arith)
        | other a b c u v w ↦ absurd (b g)
      ]

  -- of another type all are kept
  pub all_kept : (many : ℕ) → (get_or row 0 0 ≡ 3 → ⊥) → (get_or row 0 0 ≡ 4 → ⊥) → length xs ≡ many → kept_parts (some T) xs ≡ take many xs
  unfolding kept_parts
  all_kept many x y f =
      let all : take many xs ≡ xs = take_all many xs (omega arith) in
      elim (shape_of most own row T n h e) [
        | tuple b ts q m ↦ absurd (x b)
        | struct b z fs q m i ↦ absurd (y b)
        | array b z c q m i ↦ rw (q, all) refl
        | other a b c u v w ↦ rw all (w xs)
      ]

  module _ (d : ValueId) (t : TypeId) (out out' : List ℕ) (to p : ℕ) where
    -- a tuple of as many parts as its type has
    pub tuple_made : (want : ℕ) → get_or row 0 0 ≡ 3 → want ≡ get_or row 1 0 → Writes (instruction_bytes (plain (InstructionKind.MakeTuple d (fitted want xs)))) out out' to p → Writes (each_bytes instruction_bytes (rebuild_at d xs t (some T))) out out' to p
    unfolding rebuild_at
    tuple_made want g k w =
        elim (shape_of most own row T n h e) [
          | tuple b ts q m ↦ rw (q, append-nil, m, ← k) w
          | struct b x fs q m i ↦ absurd (omega arith)
          | array b y z q m i ↦ absurd (omega arith)
          | other a b c u v w ↦ absurd (a g)
        ]

    -- a struct of its type's fields
    pub struct_made : get_or row 0 0 ≡ 4 → ((fs : List StructField) → length fs ≡ get_or row 3 0 → Names row first_name fs → Writes (instruction_bytes (plain (InstructionKind.MakeStruct d (named fs xs) t))) out out' to p) → Writes (each_bytes instruction_bytes (rebuild_at d xs t (some T))) out out' to p
    unfolding rebuild_at
    struct_made g w =
        elim (shape_of most own row T n h e) [
          | tuple b ts q m ↦ absurd (omega arith)
          | struct b x fs q m i ↦ rw (q, append-nil) (w fs m i)
          | array b y z q m i ↦ absurd (omega arith)
          | other a b c u v w ↦ absurd (b g)
        ]

    -- an array of all the parts
    pub array_made : (x : ℕ) → get_or row 0 0 ≡ 5 → x ≡ at16 row 1 → Writes (instruction_bytes (plain (InstructionKind.MakeFixedArray d xs (record { 0 = x }) false))) out out' to p → Writes (each_bytes instruction_bytes (rebuild_at d xs t (some T))) out out' to p
    unfolding rebuild_at
    array_made x g k w =
        elim (shape_of most own row T n h e) [
          | tuple b ts q m ↦ absurd (omega arith)
          | struct b y fs q m i ↦ absurd (omega arith)
          | array b y z q m i ↦ let v : y ≡ record { 0 = x } = m ∙ ap (λ o. record { 0 = o }) (sym k) in rw (q, append-nil, v) w
          | other a b c u v w ↦ absurd (c g)
        ]

  -- of another type nothing
  pub none_made : (d : ValueId) (t : TypeId) (out : List ℕ) (to : ℕ) → (get_or row 0 0 ≡ 3 → ⊥) → (get_or row 0 0 ≡ 4 → ⊥) → (get_or row 0 0 ≡ 5 → ⊥) → Writes (each_bytes instruction_bytes (rebuild_at d xs t (some T))) out out to to
  none_made d t out to x y z =
      elim (shape_of most own row T n h e) [
        | tuple b ts q m ↦ absurd (x b)
        | struct b n fs q m i ↦ absurd (y b)
        | array b n c q m i ↦ absurd (z b)
        | other a b c u v w ↦ rw (u d xs t) (omega arith, refl)
      ]

-- what is said of the type that was read from `row` holds of type t of the table, which stands there
module _ (most : ℕ) (τ : Types) (t : TypeId) (s types row : List ℕ) (here : row ≡ drop (get_or types t.0 0) s) (h : Bytes s) (k : TypesAt most s types τ.rows) (l : t.0 < length τ.rows) where
  -- its row
  abbrev T : MirType
  T = get_or τ.rows t.0 MirType.Unit

  row_of_lem : row_of τ (some t) ≡ some T
  unfolding row_of
  row_of_lem = some_at τ.rows t.0 MirType.Unit l

  -- bytes
  row_bytes : Bytes row
  row_bytes = rw here (bytes_drop s (get_or types t.0 0) h)

  -- that were read
  row_read : type_of most t.0 row ≡ ok T (get_or types (suc t.0) 0 - get_or types t.0 0)
  row_read = ap (type_of most t.0) here ∙ k.each t.0 l

  -- how many parts are kept
  pub kept_of : (many r : ℕ) → ((m o n : ℕ) (U : MirType) → Bytes row → type_of m o row ≡ ok U n → Keeps (some U) many r) → Keeps (row_of τ (some t)) many r
  kept_of many r f = rw row_of_lem (f most t.0 _ T row_bytes row_read)

  module _ (xs : List Value) where
    -- whether the parts clash
    pub clash_of : (b : B.Bool) → ((m o n : ℕ) (U : MirType) → Bytes row → type_of m o row ≡ ok U n → b ≡ clashes xs (some U)) → b ≡ clashes xs (row_of τ (some t))
    clash_of b c = c most t.0 _ T row_bytes row_read ∙ ap (clashes xs) (sym row_of_lem)

    -- their rebuild is written
    pub made_of : (d : ValueId) (out out' : List ℕ) (to p : ℕ) → ((m o n : ℕ) (U : MirType) → Bytes row → type_of m o row ≡ ok U n → Writes (each_bytes instruction_bytes (rebuild_at d xs t (some U))) out out' to p) → Writes (rebuild_bytes τ d xs t) out out' to p
    made_of d out out' to p w = rw row_of_lem (w most t.0 _ T row_bytes row_read)

module _ (τ : Types) (d : ValueId) (xs : List Value) (t : TypeId) (out out' : List ℕ) (to p : ℕ) (b : B.Bool) (c : b ≡ clashes xs (row_of τ (some t))) where
  -- a clash writes nothing
  pub rebuild_clash : b ≡ true → Clashes τ xs t Fault.Clash out out
  unfolding clash_fault
  rebuild_clash g = record { told = rw (sym c ∙ g) refl; kept = refl }

  -- else the rebuild is written
  pub rebuild_made : b ≡ false → Writes (rebuild_bytes τ d xs t) out out' to p → Written τ d xs t out out' to p
  unfolding clash_fault
  rebuild_made g w = record { told = rw (sym c ∙ g) refl; written = w }
