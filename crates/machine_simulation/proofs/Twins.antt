-- A reading that stays, or for which a fresh number stands that holds the same value at the same type: an instruction with
-- such readings put in does the same.
use mathlib.Core.Path.{◌≡◌, refl, ap, ap₂}
use Prim.Native.Nat.{ℕ, zero, suc}
use mathlib.Core.Bool.{Bool, true, false, cond}
use mathlib.Core.Option.{Option, none, some}
use mathlib.Core.List.{List, [], ◌∷◌, ◌++◌}
use lib.Dec.{T, eqb}
use Rattle.mir.specs.declared.ValueId.{ValueId}
use Rattle.mir.specs.declared.NameId.{NameId}
use Rattle.mir.specs.declared.TypeId.{TypeId}
use Rattle.mir.specs.declared.Value.{Value}
use Rattle.mir.specs.MirType.{StructField, MirType}
use Rattle.mir.specs.Syntax.{FieldInit, InstructionKind, Assign, UnaryOp, BinaryOp, Call, Cast, Load, Store, Debug, Nop, Phi}
use Rattle.mir.specs.declared.Projection.{Projection}
use Rattle.mir.specs.declared.Projection.TheVariants.{Index, Field, Tuple}
use Rattle.mir.specs.Syntax.{MakeTuple, ExtractTupleElement, MakeStruct, ExtractStructField, InsertField, InsertTuple, MakeFixedArray, AssertEq, HeapAllocCells}
use Rattle.mir.specs.Reads.{indices, init_values, store_base, kind_number}
use Rattle.mir.specs.Lookup.{Types, row_of, recorded_type, value_row, is_struct, struct_fields_of}
use Rattle.mir.specs.Parts.{given, cons_part, from_struct_fields, struct_row, struct_parts, operand_row}
use Rattle.rewrite.specs.Readings.{readings, first, others, base_of, with_indices, behind_indices, with_inits, with_readings}
use Rattle.machine.specs.Values.{Val, cons_val}
use Rattle.machine.specs.Meaning.{Meaning}
use Rattle.machine.specs.Records.{Env, missing}
use Rattle.machine.specs.Places.{part_row, argument_row, no_row}
use Rattle.machine.specs.Evaluate.{eval, eval_all, eval_step, eval_steps}
use Rattle.machine.specs.Exec.{need, choose, built, exec}

module _ {A : Type 0} (M : Meaning A) (τ : Types) (E G : Env A) where
  -- x in the one run and y in the other
  pub data Twin : Value → Value → Type 0 where
    unmoved : (x : Value) → ((row : Option MirType) → eval M G row x ≡ eval M E row x) → Twin x x
    anew : (v n : ValueId) → G n.0 ≡ E v.0 → recorded_type τ n ≡ recorded_type τ v → Twin (Value.Operand v) (Value.Operand n)

  -- one by one
  abbrev pub Twins : List Value → List Value → Type 0
  Twins [] [] = Unit {0}
  Twins [] (y ∷ ys) = ⊥
  Twins (x ∷ xs) [] = ⊥
  Twins (x ∷ xs) (y ∷ ys) = Twin x y × Twins xs ys

  -- they are read alike, at any row
  pub twin_eval : (x y : Value) → Twin x y → (row : Option MirType) → eval M G row y ≡ eval M E row x
  unfolding eval
  twin_eval x y (unmoved z e) row = e row
  twin_eval x y (anew v n e t) row = e

  -- and have the same row
  pub twin_row : (x y : Value) → Twin x y → operand_row τ y ≡ operand_row τ x
  unfolding operand_row value_row
  twin_row x y (unmoved z e) = refl
  twin_row x y (anew v n e t) = ap (row_of τ) t

  -- lists of them
  pub twins_eval : (xs ys : List Value) → Twins xs ys → (rows : ℕ → Option MirType) → eval_all M G rows ys ≡ eval_all M E rows xs
  unfolding eval_all
  twins_eval [] [] h rows = refl
  twins_eval [] (y ∷ ys) h rows = absurd h
  twins_eval (x ∷ xs) [] h rows = absurd h
  twins_eval (x ∷ xs) (y ∷ ys) h rows = ap₂ cons_val (twin_eval x y h.0 (rows zero)) (twins_eval xs ys h.1 (λ k. rows (suc k)))

  -- the first
  twins_first : (x : Value) (xs ys : List Value) → Twins (x ∷ xs) ys → Twin x (first x ys)
  unfolding first
  twins_first x xs [] h = absurd h
  twins_first x xs (y ∷ ys) h = h.0

  -- and the others
  twins_others : (x : Value) (xs ys : List Value) → Twins (x ∷ xs) ys → Twins xs (others ys)
  unfolding others
  twins_others x xs [] h = absurd h
  twins_others x xs (y ∷ ys) h = h.1

  -- nothing behind
  twins_nil : (xs ys : List Value) → Twins xs ys → Twins (xs ++ []) ys
  twins_nil [] [] h = tt
  twins_nil [] (y ∷ ys) h = absurd h
  twins_nil (x ∷ xs) [] h = absurd h
  twins_nil (x ∷ xs) (y ∷ ys) h = (h.0, twins_nil xs ys h.1)

  -- a base
  base_value : (b : ValueId) (y : Value) → Twin (Value.Operand b) y → G (base_of b y).0 ≡ E b.0
  unfolding base_of eval
  base_value b y (unmoved z e) = e none
  base_value b y (anew v n e t) = e

  -- and its row
  base_row : (b : ValueId) (y : Value) → Twin (Value.Operand b) y → value_row τ (base_of b y) ≡ value_row τ b
  unfolding base_of value_row
  base_row b y (unmoved z e) = refl
  base_row b y (anew v n e t) = ap (row_of τ) t

  -- the Index values of a place
  steps_twin : (ps : List Projection) (rest ys : List Value) → Twins (indices ps ++ rest) ys → eval_steps M G (with_indices ps ys) ≡ eval_steps M E ps
  unfolding with_indices eval_steps eval_step
  steps_twin [] rest ys h = refl
  steps_twin (Index x ∷ ps) rest ys h =
      rw (twin_eval x (first x ys) (twins_first x (indices ps ++ rest) ys h) none, steps_twin ps rest (others ys) (twins_others x (indices ps ++ rest) ys h))
  steps_twin (Field n ∷ ps) rest ys h = rw (steps_twin ps rest ys h)
  steps_twin (Tuple k ∷ ps) rest ys h = rw (steps_twin ps rest ys h)

  -- what stands behind them
  behind_twin : (ps : List Projection) (rest ys : List Value) → Twins (indices ps ++ rest) ys → Twins rest (behind_indices ps ys)
  unfolding behind_indices
  behind_twin [] rest ys h = h
  behind_twin (Index x ∷ ps) rest ys h = behind_twin ps rest (others ys) (twins_others x (indices ps ++ rest) ys h)
  behind_twin (Field n ∷ ps) rest ys h = behind_twin ps rest ys h
  behind_twin (Tuple k ∷ ps) rest ys h = behind_twin ps rest ys h

  -- ---- a struct's build

  -- one value, if any
  data OneTwin : Option Value → Option Value → Type 0 where
    no_one : OneTwin none none
    one : (x y : Value) → Twin x y → OneTwin (some x) (some y)

  -- values, if any
  data AllTwins : Option (List Value) → Option (List Value) → Type 0 where
    no_list : AllTwins none none
    list : (xs ys : List Value) → Twins xs ys → AllTwins (some xs) (some ys)

  -- by a test
  one_cond : (b : Bool) (p q r s : Option Value) → OneTwin p q → OneTwin r s → OneTwin (cond b p r) (cond b q s)
  one_cond true p q r s h k = h
  one_cond false p q r s h k = k

  -- the value given for a name
  given_twin : (n : NameId) (fs : List FieldInit) (ys : List Value) → Twins (init_values fs) ys → OneTwin (given n fs) (given n (with_inits fs ys))
  unfolding given with_inits
  given_twin n [] ys h = no_one
  given_twin n (f ∷ fs) ys h =
      one_cond (eqb f.name.0 n.0) _ _ _ _ (one f.value (first f.value ys) (twins_first f.value (init_values fs) ys h))
      (given_twin n fs (others ys) (twins_others f.value (init_values fs) ys h))

  -- a part in front of others
  cons_twin : (o p : Option Value) (q r : Option (List Value)) → OneTwin o p → AllTwins q r → AllTwins (cons_part o q) (cons_part p r)
  unfolding cons_part
  cons_twin o p q r no_one k = no_list
  cons_twin o p q r (one x y h) no_list = no_list
  cons_twin o p q r (one x y h) (list xs ys k) = list (x ∷ xs) (y ∷ ys) (h, k)

  -- the parts in the type's order
  fields_twin : (fs : List FieldInit) (ys : List Value) (ss : List StructField) → Twins (init_values fs) ys → AllTwins (from_struct_fields fs ss) (from_struct_fields (with_inits fs ys) ss)
  unfolding from_struct_fields
  fields_twin fs ys [] h = list [] [] tt
  fields_twin fs ys (s ∷ ss) h = cons_twin _ _ _ _ (given_twin s.name fs ys h) (fields_twin fs ys ss h)

  -- by a test
  parts_cond : (b : Bool) (o p : Option (List Value)) → AllTwins o p → AllTwins (cond b o none) (cond b p none)
  parts_cond true o p h = h
  parts_cond false o p h = no_list

  -- a struct's parts
  parts_twin : (d : ValueId) (fs : List FieldInit) (t : TypeId) (ys : List Value) → Twins (init_values fs) ys → AllTwins (struct_parts τ d fs t) (struct_parts τ d (with_inits fs ys) t)
  unfolding struct_parts
  parts_twin d fs t ys h = parts_cond (is_struct (struct_row τ d t)) _ _ (fields_twin fs ys (struct_fields_of (struct_row τ d t)) h)

  -- so its build writes the same
  built_twin : (d : ValueId) (rows : ℕ → Option MirType) (w : List (Val A)) (o p : Option (List Value)) → AllTwins o p
      → need missing p (λ xs. built M τ d (eval_all M G rows xs) w) ≡ need missing o (λ xs. built M τ d (eval_all M E rows xs) w)
  unfolding need
  built_twin d rows w o p no_list = refl
  built_twin d rows w o p (list xs ys h) = rw (twins_eval xs ys h rows)

  -- ---- every kind

  -- with readings that are alike, and a Store's base, an instruction does the same
  pub twin_exec : (k : InstructionKind) (ys : List Value) (w : List (Val A)) → Twins (readings k) ys → ((b : ValueId) → store_base k ≡ some b → G b.0 ≡ E b.0)
      → exec M τ (with_readings k ys) G w ≡ exec M τ k E w
  unfolding readings with_readings exec
  twin_exec (Assign d x t) ys w h b = rw (twin_eval x (first x ys) (twins_first x [] ys h) (row_of τ (some t)))
  twin_exec (UnaryOp op d x) ys w h b = rw (twin_eval x (first x ys) (twins_first x [] ys h) none)
  twin_exec (BinaryOp op d x y) ys w h b =
      let hx = twins_first x (y ∷ []) ys h in
      let hy = twins_first y [] (others ys) (twins_others x (y ∷ []) ys h) in
      rw (twin_row x (first x ys) hx, twin_row y (first y (others ys)) hy) (rw (twin_eval x (first x ys) hx (operand_row τ y), twin_eval y (first y (others ys)) hy (operand_row τ x)))
  twin_exec (Call ds f xs ps rs) ys w h b = rw (twins_eval xs ys h (argument_row τ ps))
  twin_exec (Cast d x t u) ys w h b = rw (twin_eval x (first x ys) (twins_first x [] ys h) none)
  twin_exec (Load d p t) ys w h b =
      let hb = twins_first (Value.Operand p.base) (indices p.projections) ys h in
      let hs = steps_twin p.projections [] (others ys) (twins_nil (indices p.projections) (others ys) (twins_others (Value.Operand p.base) (indices p.projections) ys h)) in
      rw (base_value p.base (first (Value.Operand p.base) ys) hb, base_row p.base (first (Value.Operand p.base) ys) hb, hs)
  twin_exec (Store p x t) ys w h b =
      let hs = steps_twin p.projections (x ∷ []) ys h in
      let hx = twins_first x [] (behind_indices p.projections ys) (behind_twin p.projections (x ∷ []) ys h) in
      rw (b p.base refl, hs, twin_eval x (first x (behind_indices p.projections ys)) hx (row_of τ (some t)))
  twin_exec (Debug m xs) ys w h b = rw (twins_eval xs ys h no_row)
  twin_exec Nop ys w h b = refl
  twin_exec (Phi d t ss) ys w h b = refl
  twin_exec (MakeTuple d xs) ys w h b = rw (twins_eval xs ys h (part_row τ (value_row τ d)))
  twin_exec (ExtractTupleElement d x k t) ys w h b = rw (twin_eval x (first x ys) (twins_first x [] ys h) none)
  twin_exec (MakeStruct d fs t) ys w h b = built_twin d (part_row τ (struct_row τ d t)) w _ _ (parts_twin d fs t ys h)
  twin_exec (ExtractStructField d x n t) ys w h b =
      let hx = twins_first x [] ys h in
      rw (twin_eval x (first x ys) hx none, twin_row x (first x ys) hx)
  twin_exec (InsertField d x n y t) ys w h b =
      let hy = twins_first y [] (others ys) (twins_others x (y ∷ []) ys h) in
      rw (twin_eval x (first x ys) (twins_first x (y ∷ []) ys h) none) (rw (twin_eval y (first y (others ys)) hy _))
  twin_exec (InsertTuple d x k y t) ys w h b =
      let hy = twins_first y [] (others ys) (twins_others x (y ∷ []) ys h) in
      rw (twin_eval x (first x ys) (twins_first x (y ∷ []) ys h) none) (rw (twin_eval y (first y (others ys)) hy (part_row τ (row_of τ (some t)) k)))
  twin_exec (MakeFixedArray d xs t c) ys w h b = rw (twins_eval xs ys h (part_row τ (value_row τ d)))
  twin_exec (AssertEq x y) ys w h b =
      let hx = twins_first x (y ∷ []) ys h in
      let hy = twins_first y [] (others ys) (twins_others x (y ∷ []) ys h) in
      rw (twin_row x (first x ys) hx, twin_row y (first y (others ys)) hy) (rw (twin_eval x (first x ys) hx (operand_row τ y), twin_eval y (first y (others ys)) hy (operand_row τ x)))
  twin_exec (HeapAllocCells d x) ys w h b = rw (twin_eval x (first x ys) (twins_first x [] ys h) none)

  -- Debug that is not recorded does nothing, whatever it reads
  pub quiet_exec : (k : InstructionKind) (ys : List Value) (w : List (Val A)) → T (eqb (kind_number k) 7) → M.debug ≡ false → exec M τ (with_readings k ys) G w ≡ exec M τ k E w
  unfolding with_readings exec choose
  quiet_exec (Assign d x u) ys w t f = absurd t
  quiet_exec (UnaryOp op d x) ys w t f = absurd t
  quiet_exec (BinaryOp op d x y) ys w t f = absurd t
  quiet_exec (Call ds g xs ps rs) ys w t f = absurd t
  quiet_exec (Cast d x u v) ys w t f = absurd t
  quiet_exec (Load d p u) ys w t f = absurd t
  quiet_exec (Store p x u) ys w t f = absurd t
  quiet_exec (Debug m xs) ys w t f = rw f
  quiet_exec Nop ys w t f = absurd t
  quiet_exec (Phi d u ss) ys w t f = absurd t
  quiet_exec (MakeTuple d xs) ys w t f = absurd t
  quiet_exec (ExtractTupleElement d x k u) ys w t f = absurd t
  quiet_exec (MakeStruct d fs u) ys w t f = absurd t
  quiet_exec (ExtractStructField d x n u) ys w t f = absurd t
  quiet_exec (InsertField d x n y u) ys w t f = absurd t
  quiet_exec (InsertTuple d x k y u) ys w t f = absurd t
  quiet_exec (MakeFixedArray d xs u c) ys w t f = absurd t
  quiet_exec (AssertEq x y) ys w t f = absurd t
  quiet_exec (HeapAllocCells d x) ys w t f = absurd t
