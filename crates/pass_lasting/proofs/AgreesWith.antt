-- An instruction with readings of the same recorded types put in agrees with the types as before.
use mathlib.Core.Path.{◌≡◌, refl, ap, ◌∙◌}
use Prim.Native.Nat.{ℕ, zero, suc}
use mathlib.Core.Bool.{Bool, true, false, cond}
use mathlib.Core.Option.{Option, some}
use mathlib.Core.List.{List, [], ◌∷◌, ◌++◌}
use lib.Dec.{eqb}
use lib.ListN.{length}
use Rattle.mir.specs.declared.ValueId.{ValueId}
use Rattle.mir.specs.declared.TypeId.{TypeId}
use Rattle.mir.specs.declared.NameId.{NameId}
use Rattle.mir.specs.declared.Literal.{Literal}
use Rattle.mir.specs.declared.Value.{Value}
use Rattle.mir.specs.declared.Projection.{Projection}
use Rattle.mir.specs.declared.Projection.TheVariants.{Index, Field, Tuple}
use Rattle.mir.specs.MirType.{StructField}
use Rattle.mir.specs.Syntax.{FieldInit, InstructionKind}
use Rattle.mir.specs.Syntax.{Assign, UnaryOp, BinaryOp, Call, Cast, Load, Store, Debug, Nop, Phi}
use Rattle.mir.specs.Syntax.{MakeTuple, ExtractTupleElement, MakeStruct, ExtractStructField, InsertField, InsertTuple, MakeFixedArray, AssertEq, HeapAllocCells}
use Rattle.mir.specs.Reads.{indices, init_values}
use Rattle.mir.specs.Lookup.{Types, row_of, recorded_type, value_row, struct_fields_of}
use Rattle.mir.specs.Parts.{given, part_type, operand_row}
use Rattle.bytes_struct.specs.FindField.{field_type_of}
use Rattle.rewrite.specs.Readings.{readings, first, others, base_of, with_indices, behind_indices, with_inits, with_readings}
use Rattle.shelf.specs.Lists.{every}
use Rattle.shelf.specs.Fits.{fits, all_fit, parts_fit, step_type, place_type, given_fits, fields_fit, arguments_fit}
use Rattle.shelf.specs.Agrees.{is_known, is_scalar, is_index, index_fits, pointee, pointed, reached, place_fits, equal_types}
use Rattle.shelf.specs.Agrees.{agrees, counted_agrees}
use Rattle.machine_simulation.proofs.WithReadings.{kind_with}
use Rattle.pass_lasting.proofs.Vocabulary.{TypeTwin, unmoved, anew, TypeTwins}

module _ (τ : Types) where
  -- ---- one value

  -- it fits a type as before
  pub fits_twin : (t : Option TypeId) (x y : Value) → TypeTwin τ x y → fits τ y t ≡ fits τ x t
  unfolding fits
  fits_twin t x y (unmoved z) = refl
  fits_twin t x y (anew v n e) = rw e

  -- it is known
  known_twin : (x y : Value) → TypeTwin τ x y → is_known τ y ≡ is_known τ x
  unfolding is_known
  known_twin x y (unmoved z) = refl
  known_twin x y (anew v n e) = rw e

  -- it is a scalar
  scalar_twin : (x y : Value) → TypeTwin τ x y → is_scalar τ y ≡ is_scalar τ x
  unfolding is_scalar
  scalar_twin x y (unmoved z) = refl
  scalar_twin x y (anew v n e) = rw e

  -- it can be an Index's
  index_twin : (x y : Value) → TypeTwin τ x y → is_index τ y ≡ is_index τ x
  unfolding is_index value_row
  index_twin x y (unmoved z) = refl
  index_twin x y (anew v n e) = rw e

  -- it has the same row
  row_twin : (x y : Value) → TypeTwin τ x y → operand_row τ y ≡ operand_row τ x
  unfolding operand_row value_row
  row_twin x y (unmoved z) = refl
  row_twin x y (anew v n e) = rw e

  -- beside a literal
  equal_literal : (l : Literal) (x y : Value) → TypeTwin τ x y → equal_types τ (Value.Literal l) y ≡ equal_types τ (Value.Literal l) x
  unfolding equal_types
  equal_literal l x y (unmoved z) = refl
  equal_literal l x y (anew v n e) = rw e

  -- beside an operand
  equal_operand : (w : ValueId) (x y : Value) → TypeTwin τ x y → equal_types τ (Value.Operand w) y ≡ equal_types τ (Value.Operand w) x
  unfolding equal_types
  equal_operand w x y (unmoved z) = refl
  equal_operand w x y (anew v n e) = rw e

  -- as the second of two of equal types
  equal_second : (u x y : Value) → TypeTwin τ x y → equal_types τ u y ≡ equal_types τ u x
  unfolding equal_types
  equal_second (Value.Literal l) x y h = equal_literal l x y h
  equal_second (Value.Operand w) x y h = equal_operand w x y h
  equal_second Value.Error x y h = refl

  -- an operand as the first of them
  equal_anew : (v n : ValueId) (u : Value) → recorded_type τ n ≡ recorded_type τ v → equal_types τ (Value.Operand n) u ≡ equal_types τ (Value.Operand v) u
  unfolding equal_types
  equal_anew v n (Value.Literal l) e = rw e
  equal_anew v n (Value.Operand w) e = rw e
  equal_anew v n Value.Error e = refl

  -- as the first of them
  equal_first : (u x y : Value) → TypeTwin τ x y → equal_types τ y u ≡ equal_types τ x u
  equal_first u x y (unmoved z) = refl
  equal_first u x y (anew v n e) = equal_anew v n u e

  -- both of them
  equal_twins : (x y x' y' : Value) → TypeTwin τ x x' → TypeTwin τ y y' → equal_types τ x' y' ≡ equal_types τ x y
  equal_twins x y x' y' h k = equal_first y' x x' h ∙ equal_second x y y' k

  -- a base has the same recorded type
  base_type : (b : ValueId) (y : Value) → TypeTwin τ (Value.Operand b) y → recorded_type τ (base_of b y) ≡ recorded_type τ b
  unfolding base_of
  base_type b y (unmoved z) = refl
  base_type b y (anew v n e) = e

  -- ---- lists of them

  -- the first
  first_twin : (x : Value) (xs ys : List Value) → TypeTwins τ (x ∷ xs) ys → TypeTwin τ x (first x ys)
  unfolding first
  first_twin x xs [] h = absurd h
  first_twin x xs (y ∷ ys) h = h.0

  -- and the others
  others_twins : (x : Value) (xs ys : List Value) → TypeTwins τ (x ∷ xs) ys → TypeTwins τ xs (others ys)
  unfolding others
  others_twins x xs [] h = absurd h
  others_twins x xs (y ∷ ys) h = h.1

  -- the second of two
  second_twin : (x y : Value) (ys : List Value) → TypeTwins τ (x ∷ y ∷ []) ys → TypeTwin τ y (first y (others ys))
  second_twin x y ys h = first_twin y [] (others ys) (others_twins x (y ∷ []) ys h)

  -- nothing behind
  twins_nil : (xs ys : List Value) → TypeTwins τ xs ys → TypeTwins τ (xs ++ []) ys
  twins_nil [] [] h = tt
  twins_nil [] (y ∷ ys) h = absurd h
  twins_nil (x ∷ xs) [] h = absurd h
  twins_nil (x ∷ xs) (y ∷ ys) h = (h.0, twins_nil xs ys h.1)

-- they are known as before
pub known_twins : (τ : Types) (xs ys : List Value) → TypeTwins τ xs ys → every (is_known τ) ys ≡ every (is_known τ) xs
known_twins τ [] [] h = refl
known_twins τ [] (y ∷ ys) h = absurd h
known_twins τ (x ∷ xs) [] h = absurd h
known_twins τ (x ∷ xs) (y ∷ ys) h = rw (known_twin τ x y h.0, known_twins τ xs ys h.1)

-- they fit their types as before
pub fit_twins : (τ : Types) (ts : ℕ → Option TypeId) (xs ys : List Value) → TypeTwins τ xs ys → all_fit τ ts ys ≡ all_fit τ ts xs
unfolding all_fit
fit_twins τ ts [] [] h = refl
fit_twins τ ts [] (y ∷ ys) h = absurd h
fit_twins τ ts (x ∷ xs) [] h = absurd h
fit_twins τ ts (x ∷ xs) (y ∷ ys) h = rw (fits_twin τ (ts zero) x y h.0, fit_twins τ (λ k. ts (suc k)) xs ys h.1)

-- they are as many
pub twins_length : (τ : Types) (xs ys : List Value) → TypeTwins τ xs ys → length ys ≡ length xs
twins_length τ [] [] h = refl
twins_length τ [] (y ∷ ys) h = absurd h
twins_length τ (x ∷ xs) [] h = absurd h
twins_length τ (x ∷ xs) (y ∷ ys) h = ap {B = ℕ} suc (twins_length τ xs ys h.1)

module _ (τ : Types) where
  -- parts fit a type as before
  parts_twins : (t : Option TypeId) (xs ys : List Value) → TypeTwins τ xs ys → parts_fit τ t ys ≡ parts_fit τ t xs
  unfolding parts_fit
  parts_twins t xs ys h = rw (twins_length τ xs ys h, fit_twins τ (part_type (row_of τ t)) xs ys h)

  -- arguments fit their types
  arguments_twins : (ts : List TypeId) (xs ys : List Value) → TypeTwins τ xs ys → arguments_fit τ ys ts ≡ arguments_fit τ xs ts
  unfolding arguments_fit
  arguments_twins ts [] [] h = refl
  arguments_twins ts [] (y ∷ ys) h = absurd h
  arguments_twins ts (x ∷ xs) [] h = absurd h
  arguments_twins [] (x ∷ xs) (y ∷ ys) h = refl
  arguments_twins (t ∷ ts) (x ∷ xs) (y ∷ ys) h = rw (fits_twin τ (some t) x y h.0, arguments_twins ts xs ys h.1)

  -- ---- places

  -- each Index of a place has a value that can be one
  indices_with : (ps : List Projection) (rest ys : List Value) → TypeTwins τ (indices ps ++ rest) ys
      → every (index_fits τ) (with_indices ps ys) ≡ every (index_fits τ) ps
  unfolding with_indices index_fits
  indices_with [] rest ys h = refl
  indices_with (Index x ∷ ps) rest ys h =
      rw (index_twin τ x (first x ys) (first_twin τ x (indices ps ++ rest) ys h), indices_with ps rest (others ys) (others_twins τ x (indices ps ++ rest) ys h))
  indices_with (Field n ∷ ps) rest ys h = indices_with ps rest ys h
  indices_with (Tuple k ∷ ps) rest ys h = indices_with ps rest ys h

  -- what stands behind them
  behind_twins : (ps : List Projection) (rest ys : List Value) → TypeTwins τ (indices ps ++ rest) ys → TypeTwins τ rest (behind_indices ps ys)
  unfolding behind_indices
  behind_twins [] rest ys h = h
  behind_twins (Index x ∷ ps) rest ys h = behind_twins ps rest (others ys) (others_twins τ x (indices ps ++ rest) ys h)
  behind_twins (Field n ∷ ps) rest ys h = behind_twins ps rest ys h
  behind_twins (Tuple k ∷ ps) rest ys h = behind_twins ps rest ys h

  -- a walk goes by the kinds of its steps
  walk_with : (t : Option TypeId) (ps : List Projection) (ys : List Value) → place_type τ t (with_indices ps ys) ≡ place_type τ t ps
  unfolding with_indices place_type step_type
  walk_with t [] ys = refl
  walk_with t (Index x ∷ ps) ys = walk_with (step_type (row_of τ t) (Index x)) ps (others ys)
  walk_with t (Field n ∷ ps) ys = walk_with (step_type (row_of τ t) (Field n)) ps ys
  walk_with t (Tuple k ∷ ps) ys = walk_with (step_type (row_of τ t) (Tuple k)) ps ys

  -- and so behind a pointer
  pointed_with : (t : Option TypeId) (ps : List Projection) (ys : List Value) → pointed τ t (with_indices ps ys) ≡ pointed τ t ps
  unfolding with_indices pointed
  pointed_with t [] ys = refl
  pointed_with t (Index x ∷ ps) ys = walk_with t ps (others ys)
  pointed_with t (Field n ∷ ps) ys = refl
  pointed_with t (Tuple k ∷ ps) ys = refl

  -- the type at the end of a place
  reached_with : (b c : ValueId) (ps : List Projection) (ys : List Value) → recorded_type τ c ≡ recorded_type τ b
      → reached τ (record { base = c; projections = with_indices ps ys }) ≡ reached τ (record { base = b; projections = ps })
  unfolding reached value_row
  reached_with b c ps ys e = rw e (rw (walk_with (recorded_type τ b) ps ys, pointed_with (pointee (row_of τ (recorded_type τ b))) ps ys))

  -- so a place ends at the type that is named
  place_with : (b c : ValueId) (ps : List Projection) (rest ys : List Value) (t : TypeId) → recorded_type τ c ≡ recorded_type τ b
      → TypeTwins τ (indices ps ++ rest) ys
      → place_fits τ (record { base = c; projections = with_indices ps ys }) t ≡ place_fits τ (record { base = b; projections = ps }) t
  unfolding place_fits
  place_with b c ps rest ys t e h = rw (reached_with b c ps ys e, indices_with ps rest ys h)

  -- ---- a struct's build

  -- as many fields are given (as `inits_many` of rewrite_patch, which stands beside this crate)
  inits_length : (fs : List FieldInit) (ys : List Value) → length (with_inits fs ys) ≡ length fs
  unfolding with_inits
  inits_length [] ys = refl
  inits_length (f ∷ fs) ys = ap {B = ℕ} suc (inits_length fs (others ys))

  -- by a test
  given_cond : (b : Bool) (x y : Value) (o p : Option Value) (t : TypeId) → fits τ y (some t) ≡ fits τ x (some t)
      → given_fits τ p t ≡ given_fits τ o t → given_fits τ (cond b (some y) p) t ≡ given_fits τ (cond b (some x) o) t
  unfolding given_fits
  given_cond true x y o p t e f = e
  given_cond false x y o p t e f = f

  -- the value given for a name fits
  given_with : (n : NameId) (fs : List FieldInit) (ys : List Value) (t : TypeId) → TypeTwins τ (init_values fs) ys
      → given_fits τ (given n (with_inits fs ys)) t ≡ given_fits τ (given n fs) t
  unfolding given with_inits
  given_with n [] ys t h = refl
  given_with n (f ∷ fs) ys t h =
      given_cond (eqb f.name.0 n.0) f.value (first f.value ys) (given n fs) (given n (with_inits fs (others ys))) t
      (fits_twin τ (some t) f.value (first f.value ys) (first_twin τ f.value (init_values fs) ys h))
      (given_with n fs (others ys) t (others_twins τ f.value (init_values fs) ys h))

  -- and so for each field
  fields_with : (fs : List FieldInit) (ys : List Value) (ss : List StructField) → TypeTwins τ (init_values fs) ys
      → fields_fit τ (with_inits fs ys) ss ≡ fields_fit τ fs ss
  unfolding fields_fit
  fields_with fs ys [] h = refl
  fields_with fs ys (s ∷ ss) h = rw (given_with s.name fs ys s.part h, fields_with fs ys ss h)

-- ---- every kind

-- with readings of the same recorded types an instruction agrees as before
pub agrees_with : (τ : Types) (k : InstructionKind) (ys : List Value) → TypeTwins τ (readings k) ys → agrees τ (with_readings k ys) ≡ agrees τ k
unfolding readings with_readings agrees
agrees_with τ (Assign d x t) ys h = rw (fits_twin τ (some t) x (first x ys) (first_twin τ x [] ys h))
agrees_with τ (UnaryOp op d x) ys h = rw (scalar_twin τ x (first x ys) (first_twin τ x [] ys h))
agrees_with τ (BinaryOp op d x y) ys h =
    rw (scalar_twin τ x (first x ys) (first_twin τ x (y ∷ []) ys h), scalar_twin τ y (first y (others ys)) (second_twin τ x y ys h))
agrees_with τ (Call ds f xs ps rs) ys h = rw (arguments_twins τ ps xs ys h)
agrees_with τ (Cast d x t u) ys h = rw (scalar_twin τ x (first x ys) (first_twin τ x [] ys h))
agrees_with τ (Load d p t) ys h =
    let hb = base_type τ p.base (first (Value.Operand p.base) ys) (first_twin τ (Value.Operand p.base) (indices p.projections) ys h) in
    let hs = twins_nil τ (indices p.projections) (others ys) (others_twins τ (Value.Operand p.base) (indices p.projections) ys h) in
    rw (place_with τ p.base (base_of p.base (first (Value.Operand p.base) ys)) p.projections [] (others ys) t hb hs)
agrees_with τ (Store p x t) ys h =
    let hx = first_twin τ x [] (behind_indices p.projections ys) (behind_twins τ p.projections (x ∷ []) ys h) in
    rw (fits_twin τ (some t) x (first x (behind_indices p.projections ys)) hx, place_with τ p.base p.base p.projections (x ∷ []) ys t refl h)
agrees_with τ (Debug m xs) ys h = known_twins τ xs ys h
agrees_with τ Nop ys h = refl
agrees_with τ (Phi d t ss) ys h = refl
agrees_with τ (MakeTuple d xs) ys h = rw (parts_twins τ (recorded_type τ d) xs ys h)
agrees_with τ (ExtractTupleElement d x k t) ys h = rw (row_twin τ x (first x ys) (first_twin τ x [] ys h))
agrees_with τ (MakeStruct d fs t) ys h = rw (inits_length τ fs ys, fields_with τ fs ys (struct_fields_of (row_of τ (some t))) h)
agrees_with τ (ExtractStructField d x n t) ys h = rw (row_twin τ x (first x ys) (first_twin τ x [] ys h))
agrees_with τ (InsertField d x n y t) ys h =
    rw (
      fits_twin τ (some t) x (first x ys) (first_twin τ x (y ∷ []) ys h),
      fits_twin τ (field_type_of (row_of τ (some t)) n) y (first y (others ys)) (second_twin τ x y ys h),
    )
agrees_with τ (InsertTuple d x k y t) ys h =
    rw (
      fits_twin τ (some t) x (first x ys) (first_twin τ x (y ∷ []) ys h),
      fits_twin τ (part_type (row_of τ (some t)) k) y (first y (others ys)) (second_twin τ x y ys h),
    )
agrees_with τ (MakeFixedArray d xs t c) ys h = rw (parts_twins τ (recorded_type τ d) xs ys h)
agrees_with τ (AssertEq x y) ys h =
    equal_twins τ x y (first x ys) (first y (others ys)) (first_twin τ x (y ∷ []) ys h) (second_twin τ x y ys h)
agrees_with τ (HeapAllocCells d x) ys h = rw (scalar_twin τ x (first x ys) (first_twin τ x [] ys h))

-- and so does one that counts
pub counted_with : (debug : Bool) (τ : Types) (k : InstructionKind) (ys : List Value) → TypeTwins τ (readings k) ys
    → counted_agrees debug τ (with_readings k ys) ≡ counted_agrees debug τ k
unfolding counted_agrees
counted_with debug τ k ys h = rw (kind_with k ys, agrees_with τ k ys h)
