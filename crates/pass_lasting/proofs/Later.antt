-- An instruction agrees with the types as before where the values that it reads and defines keep their recorded types: types recorded
-- for fresh numbers change nothing.
use mathlib.Core.Path.{◌≡◌, refl}
use Prim.Native.Nat.{ℕ, zero, suc}
use mathlib.Core.Bool.{Bool, true, false, cond}
use mathlib.Core.Option.{Option, none, some}
use mathlib.Core.List.{List, [], ◌∷◌}
use lib.Dec.{T, eqb, ltb}
use Rattle.mir.specs.declared.ValueId.{ValueId}
use Rattle.mir.specs.declared.TypeId.{TypeId}
use Rattle.mir.specs.declared.NameId.{NameId}
use Rattle.mir.specs.declared.Value.{Value}
use Rattle.mir.specs.declared.Projection.{Projection}
use Rattle.mir.specs.declared.Projection.TheVariants.{Index, Field, Tuple}
use Rattle.mir.specs.MirType.{StructField}
use Rattle.mir.specs.Syntax.{Place, Source, FieldInit, InstructionKind, Terminator, Jump, If, BranchCmp, Return, Unreachable}
use Rattle.mir.specs.Syntax.{Assign, UnaryOp, BinaryOp, Call, Cast, Load, Store, Debug, Nop, Phi}
use Rattle.mir.specs.Syntax.{MakeTuple, ExtractTupleElement, MakeStruct, ExtractStructField, InsertField, InsertTuple, MakeFixedArray, AssertEq, HeapAllocCells}
use Rattle.mir.specs.Reads.{operand, operands, indices, init_values, source_values, reads, dests, terminator_reads}
use Rattle.mir.specs.Lists.{Each}
use Rattle.mir.specs.Lookup.{Types, row_of, recorded_type, value_row, struct_fields_of}
use Rattle.mir.specs.Parts.{given, part_type}
use Rattle.bytes_struct.specs.FindField.{field_type_of}
use Rattle.shelf.specs.Lists.{every}
use Rattle.shelf.specs.Fits.{fits, all_fit, parts_fit, step_type, place_type, given_fits, fields_fit, arguments_fit}
use Rattle.shelf.specs.Agrees.{is_known, is_scalar_type, is_scalar, is_index, index_fits, pointee, pointed, reached, place_fits, dests_fit, equal_types}
use Rattle.shelf.specs.Agrees.{agrees, is_condition, end_agrees, counted_agrees}
use Rattle.machine_simulation.proofs.Frame.{rest_of}
use Rattle.machine_simulation.proofs.Tools.{all_l, all_r, every→Each}
use Rattle.machine_simulation.proofs.Retype.{retyped, Alike, row_of_later, value_row_later, operand_row_later}
use Rattle.pass_lasting.proofs.Vocabulary.{Table}

-- values below the first fresh number have their recorded types in both tables
pub low_alike : (κ : Table) (vs : List ValueId) → T (every (λ v. ltb v.0 κ.m) vs) → Each (Alike κ.types κ.later) vs
low_alike κ vs t = every→Each (λ v. ltb v.0 κ.m) (Alike κ.types κ.later) κ.alike vs t

module _ (τ : Types) (rs : List (Option TypeId)) where
  -- a value fits a type as before
  pub fits_later : (x : Value) (vs : List ValueId) (t : Option TypeId) → Each (Alike τ rs) (operand x vs) → fits τ x t ≡ fits (retyped τ rs) x t
  unfolding fits
  fits_later (Value.Literal l) vs t h = rw (row_of_later τ rs t)
  fits_later (Value.Operand v) vs t h = rw (h.0)
  fits_later Value.Error vs t h = refl

  -- values fit their types
  all_fit_later : (ts : ℕ → Option TypeId) (xs : List Value) → Each (Alike τ rs) (operands xs) → all_fit τ ts xs ≡ all_fit (retyped τ rs) ts xs
  unfolding all_fit
  all_fit_later ts [] h = refl
  all_fit_later ts (x ∷ xs) h =
      rw (fits_later x (operands xs) (ts zero) h, all_fit_later (λ k. ts (suc k)) xs (rest_of (Alike τ rs) x (operands xs) h))

  -- parts fit a type
  parts_later : (t : Option TypeId) (xs : List Value) → Each (Alike τ rs) (operands xs) → parts_fit τ t xs ≡ parts_fit (retyped τ rs) t xs
  unfolding parts_fit
  parts_later t xs h = rw (row_of_later τ rs t) (rw (all_fit_later (part_type (row_of (retyped τ rs) t)) xs h))

  -- the parts of a build fit its recorded type
  build_later : (d : ValueId) (xs : List Value) → Alike τ rs d → Each (Alike τ rs) (operands xs)
      → parts_fit τ (recorded_type τ d) xs ≡ parts_fit (retyped τ rs) (recorded_type (retyped τ rs) d) xs
  build_later d xs a h = rw a (parts_later (recorded_type (retyped τ rs) d) xs h)

  -- arguments fit their types
  arguments_later : (xs : List Value) (ts : List TypeId) → Each (Alike τ rs) (operands xs) → arguments_fit τ xs ts ≡ arguments_fit (retyped τ rs) xs ts
  unfolding arguments_fit
  arguments_later [] [] h = refl
  arguments_later [] (t ∷ ts) h = refl
  arguments_later (x ∷ xs) [] h = refl
  arguments_later (x ∷ xs) (t ∷ ts) h =
      rw (fits_later x (operands xs) (some t) h, arguments_later xs ts (rest_of (Alike τ rs) x (operands xs) h))

  -- dests have their types
  dests_later : (ds : List ValueId) (ts : List TypeId) → Each (Alike τ rs) ds → dests_fit τ ds ts ≡ dests_fit (retyped τ rs) ds ts
  unfolding dests_fit
  dests_later [] [] h = refl
  dests_later [] (t ∷ ts) h = refl
  dests_later (d ∷ ds) [] h = refl
  dests_later (d ∷ ds) (t ∷ ts) h = rw (h.0, dests_later ds ts h.1)

  -- sources fit a type
  sources_later : (ss : List Source) (t : Option TypeId) → Each (Alike τ rs) (operands (source_values ss))
      → every (λ s. fits τ s.value t) ss ≡ every (λ s. fits (retyped τ rs) s.value t) ss
  sources_later [] t h = refl
  sources_later (s ∷ ss) t h =
      rw (fits_later s.value (operands (source_values ss)) t h, sources_later ss t (rest_of (Alike τ rs) s.value (operands (source_values ss)) h))

  -- a value is known
  known_later : (x : Value) (vs : List ValueId) → Each (Alike τ rs) (operand x vs) → is_known τ x ≡ is_known (retyped τ rs) x
  unfolding is_known
  known_later (Value.Literal l) vs h = refl
  known_later (Value.Operand v) vs h = rw (h.0)
  known_later Value.Error vs h = refl

  -- values are known
  all_known_later : (xs : List Value) → Each (Alike τ rs) (operands xs) → every (is_known τ) xs ≡ every (is_known (retyped τ rs)) xs
  all_known_later [] h = refl
  all_known_later (x ∷ xs) h = rw (known_later x (operands xs) h, all_known_later xs (rest_of (Alike τ rs) x (operands xs) h))

  -- a type is a scalar's
  scalar_type_later : (t : Option TypeId) → is_scalar_type τ t ≡ is_scalar_type (retyped τ rs) t
  unfolding is_scalar_type
  scalar_type_later none = refl
  scalar_type_later (some t) = rw (row_of_later τ rs (some t))

  -- and so is the recorded type of a value
  scalar_dest_later : (d : ValueId) → Alike τ rs d → is_scalar_type τ (recorded_type τ d) ≡ is_scalar_type (retyped τ rs) (recorded_type (retyped τ rs) d)
  scalar_dest_later d a = rw a (scalar_type_later (recorded_type (retyped τ rs) d))

  -- a value is a scalar
  scalar_later : (x : Value) (vs : List ValueId) → Each (Alike τ rs) (operand x vs) → is_scalar τ x ≡ is_scalar (retyped τ rs) x
  unfolding is_scalar
  scalar_later (Value.Literal l) vs h = refl
  scalar_later (Value.Operand v) vs h = scalar_dest_later v h.0
  scalar_later Value.Error vs h = refl

  -- a value can be an Index's
  index_later : (x : Value) (vs : List ValueId) → Each (Alike τ rs) (operand x vs) → is_index τ x ≡ is_index (retyped τ rs) x
  unfolding is_index
  index_later (Value.Literal l) vs h = refl
  index_later (Value.Operand v) vs h = rw (value_row_later τ rs v h.0)
  index_later Value.Error vs h = refl

  -- each Index of a place has one
  indices_later : (ps : List Projection) → Each (Alike τ rs) (operands (indices ps)) → every (index_fits τ) ps ≡ every (index_fits (retyped τ rs)) ps
  unfolding index_fits
  indices_later [] h = refl
  indices_later (Index x ∷ ps) h = rw (index_later x (operands (indices ps)) h, indices_later ps (rest_of (Alike τ rs) x (operands (indices ps)) h))
  indices_later (Field n ∷ ps) h = indices_later ps h
  indices_later (Tuple k ∷ ps) h = indices_later ps h

  -- the type at the end of a walk
  walk_later : (t : Option TypeId) (ps : List Projection) → place_type τ t ps ≡ place_type (retyped τ rs) t ps
  unfolding place_type
  walk_later t [] = refl
  walk_later t (p ∷ ps) = rw (row_of_later τ rs t) (walk_later (step_type (row_of (retyped τ rs) t) p) ps)

  -- behind a pointer
  pointed_later : (t : Option TypeId) (ps : List Projection) → pointed τ t ps ≡ pointed (retyped τ rs) t ps
  unfolding pointed
  pointed_later t [] = refl
  pointed_later t (Index x ∷ ps) = walk_later t ps
  pointed_later t (Field n ∷ ps) = refl
  pointed_later t (Tuple k ∷ ps) = refl

  -- the type at the end of a place
  reached_later : (p : Place) → Alike τ rs p.base → reached τ p ≡ reached (retyped τ rs) p
  unfolding reached
  reached_later p a =
      rw (value_row_later τ rs p.base a, a)
      (rw (walk_later (recorded_type (retyped τ rs) p.base) p.projections, pointed_later (pointee (value_row (retyped τ rs) p.base)) p.projections))

  -- a place ends at the type that is named
  place_later : (p : Place) (t : TypeId) → Alike τ rs p.base → Each (Alike τ rs) (operands (indices p.projections))
      → place_fits τ p t ≡ place_fits (retyped τ rs) p t
  unfolding place_fits
  place_later p t a h = rw (reached_later p a, indices_later p.projections h)

  -- the value given for a name, if any
  given_cond_later : (b : Bool) (x : Value) (o : Option Value) (t : TypeId) → fits τ x (some t) ≡ fits (retyped τ rs) x (some t)
      → given_fits τ o t ≡ given_fits (retyped τ rs) o t → given_fits τ (cond b (some x) o) t ≡ given_fits (retyped τ rs) (cond b (some x) o) t
  unfolding given_fits
  given_cond_later true x o t e f = e
  given_cond_later false x o t e f = f

  -- it fits its type
  given_later : (n : NameId) (fs : List FieldInit) (t : TypeId) → Each (Alike τ rs) (operands (init_values fs))
      → given_fits τ (given n fs) t ≡ given_fits (retyped τ rs) (given n fs) t
  unfolding given given_fits
  given_later n [] t h = refl
  given_later n (f ∷ fs) t h =
      given_cond_later (eqb f.name.0 n.0) f.value (given n fs) t (fits_later f.value (operands (init_values fs)) (some t) h)
      (given_later n fs t (rest_of (Alike τ rs) f.value (operands (init_values fs)) h))

  -- each field is given a value that fits
  fields_later : (fs : List FieldInit) (ss : List StructField) → Each (Alike τ rs) (operands (init_values fs))
      → fields_fit τ fs ss ≡ fields_fit (retyped τ rs) fs ss
  unfolding fields_fit
  fields_later fs [] h = refl
  fields_later fs (s ∷ ss) h = rw (given_later s.name fs s.part h, fields_later fs ss h)

  -- two values have equal types
  equal_later : (x y : Value) → Each (Alike τ rs) (operand x (operand y [])) → equal_types τ x y ≡ equal_types (retyped τ rs) x y
  unfolding equal_types
  equal_later (Value.Literal l) (Value.Literal m) h = refl
  equal_later (Value.Literal l) (Value.Operand w) h = rw (h.0) (fits_later (Value.Literal l) [] (recorded_type (retyped τ rs) w) tt)
  equal_later (Value.Literal l) Value.Error h = refl
  equal_later (Value.Operand v) (Value.Literal m) h = rw (h.0) (fits_later (Value.Literal m) [] (recorded_type (retyped τ rs) v) tt)
  equal_later (Value.Operand v) (Value.Operand w) h = rw (h.0, h.1.0)
  equal_later (Value.Operand v) Value.Error h = refl
  equal_later Value.Error y h = refl

  -- a condition
  condition_later : (x : Value) (vs : List ValueId) → Each (Alike τ rs) (operand x vs) → is_condition τ x ≡ is_condition (retyped τ rs) x
  unfolding is_condition
  condition_later (Value.Literal l) vs h = refl
  condition_later (Value.Operand v) vs h = rw (value_row_later τ rs v h.0)
  condition_later Value.Error vs h = refl

-- an instruction agrees with the types as before
pub agrees_later : (τ : Types) (rs : List (Option TypeId)) (k : InstructionKind) → Each (Alike τ rs) (reads k) → Each (Alike τ rs) (dests k)
    → agrees τ k ≡ agrees (retyped τ rs) k
unfolding agrees
agrees_later τ rs (Assign d x t) h k = rw (k.0, fits_later τ rs x [] (some t) h)
agrees_later τ rs (UnaryOp op d x) h k = rw (scalar_dest_later τ rs d k.0, scalar_later τ rs x [] h)
agrees_later τ rs (BinaryOp op d x y) h k =
    rw (scalar_dest_later τ rs d k.0, scalar_later τ rs x (operand y []) h, scalar_later τ rs y [] (rest_of (Alike τ rs) x (operand y []) h))
agrees_later τ rs (Call ds f xs ps us) h k = rw (arguments_later τ rs xs ps h, dests_later τ rs ds us k)
agrees_later τ rs (Cast d x t u) h k = rw (scalar_dest_later τ rs d k.0, scalar_later τ rs x [] h)
agrees_later τ rs (Load d p t) h k = rw (k.0, place_later τ rs p t h.0 h.1)
agrees_later τ rs (Store p x t) h k =
    rw (
      fits_later τ rs x [] (some t) (all_r (Alike τ rs) (operands (indices p.projections)) (operand x []) h.1),
      place_later τ rs p t h.0 (all_l (Alike τ rs) (operands (indices p.projections)) (operand x []) h.1),
    )
agrees_later τ rs (Debug m xs) h k = all_known_later τ rs xs h
agrees_later τ rs Nop h k = refl
agrees_later τ rs (Phi d t ss) h k = rw (k.0, sources_later τ rs ss (some t) h)
agrees_later τ rs (MakeTuple d xs) h k = rw (value_row_later τ rs d k.0, build_later τ rs d xs k.0 h)
agrees_later τ rs (ExtractTupleElement d x j t) h k = rw (k.0, operand_row_later τ rs x [] h)
agrees_later τ rs (MakeStruct d fs t) h k =
    rw (k.0, row_of_later τ rs (some t)) (rw (fields_later τ rs fs (struct_fields_of (row_of (retyped τ rs) (some t))) h))
agrees_later τ rs (ExtractStructField d x n t) h k = rw (k.0, operand_row_later τ rs x [] h)
agrees_later τ rs (InsertField d x n y t) h k =
    rw (k.0, fits_later τ rs x (operand y []) (some t) h, row_of_later τ rs (some t))
    (rw (fits_later τ rs y [] (field_type_of (row_of (retyped τ rs) (some t)) n) (rest_of (Alike τ rs) x (operand y []) h)))
agrees_later τ rs (InsertTuple d x j y t) h k =
    rw (k.0, fits_later τ rs x (operand y []) (some t) h, row_of_later τ rs (some t))
    (rw (fits_later τ rs y [] (part_type (row_of (retyped τ rs) (some t)) j) (rest_of (Alike τ rs) x (operand y []) h)))
agrees_later τ rs (MakeFixedArray d xs t c) h k = rw (value_row_later τ rs d k.0, build_later τ rs d xs k.0 h)
agrees_later τ rs (AssertEq x y) h k = equal_later τ rs x y h
agrees_later τ rs (HeapAllocCells d x) h k = rw (scalar_dest_later τ rs d k.0, scalar_later τ rs x [] h)

-- and so does one that counts
pub counted_later : (debug : Bool) (τ : Types) (rs : List (Option TypeId)) (k : InstructionKind) → Each (Alike τ rs) (reads k)
    → Each (Alike τ rs) (dests k) → counted_agrees debug τ k ≡ counted_agrees debug (retyped τ rs) k
unfolding counted_agrees
counted_later debug τ rs k h d = rw (agrees_later τ rs k h d)

-- and a terminator
pub end_later : (τ : Types) (rs : List (Option TypeId)) (t : Terminator) → Each (Alike τ rs) (terminator_reads t)
    → end_agrees τ t ≡ end_agrees (retyped τ rs) t
unfolding end_agrees
end_later τ rs (Jump b) h = refl
end_later τ rs (If x a b) h = condition_later τ rs x [] h
end_later τ rs (BranchCmp op x y a b) h = rw (scalar_later τ rs x (operand y []) h, scalar_later τ rs y [] (rest_of (Alike τ rs) x (operand y []) h))
end_later τ rs (Return xs) h = all_known_later τ rs xs h
end_later τ rs Unreachable h = refl
