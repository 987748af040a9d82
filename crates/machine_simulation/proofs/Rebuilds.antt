-- Rebuilds: directly before what needs it, a tracked value is built anew under a fresh number.
use mathlib.Core.Path.{◌≡◌, refl, sym, ap, ◌∙◌}
use Prim.Native.Nat.{ℕ, suc, ◌≤◌}
use mathlib.Core.Bool.{Bool, true, false, not, cond}
use mathlib.Core.Option.{Option, none, some}
use mathlib.Core.List.{List, [], ◌∷◌, ◌++◌, append_assoc}
use native.Mathlib.Omega.{arith}
use lib.Dec.{T, eqb, eqb→eq, eqb_refl, ltb, ltb→lt, lt→ltb}
use lib.ListN.{length}
use Rattle.mir.specs.declared.ValueId.{ValueId}
use Rattle.mir.specs.declared.TypeId.{TypeId}
use Rattle.mir.specs.declared.Value.{Value}
use Rattle.mir.specs.MirType.{MirType, StructField}
use Rattle.mir.specs.Syntax.{Instruction, Terminator, MakeTuple, MakeStruct, MakeFixedArray, FieldInit, plain}
use Rattle.mir.specs.Reads.{operand, operands, init_values}
use Rattle.mir.specs.Lookup.{Types, row_of, recorded_type, value_row, struct_fields_of, is_struct, shape, is_aggregate}
use Rattle.mir.specs.MirType as Y
use Rattle.mir.specs.Parts.{given, or_else, struct_row, part_count, cons_part, from_struct_fields, struct_parts}
use Rattle.rewrite.specs.declared.Fault.{Fault}
use Rattle.rewrite.specs.State.{AggStates, state_of}
use Rattle.rewrite.specs.Rebuild.{fitted, named, rebuild_at, Rebuilt, keep_value, rebuild_value, one_value, Wanted, rebuild_all, aggregate_type, return_type}
use Rattle.machine.specs.Values.{Val, Vals, aggregate}
use Rattle.machine.specs.Records.{Env, write, write_all, Event, log}
use Rattle.machine.specs.Places.{part_row}
use Rattle.machine.specs.Evaluate.{eval_all}
use Rattle.machine.specs.Exec.{need, choose, built, exec}
use Rattle.machine.specs.Run.{onward, exec_all}
use Rattle.shelf.specs.Lists.{every}
use Rattle.shelf.specs.Fits.{fits, same_type}
use Rattle.shelf.specs.Reads.{clean}
use Rattle.machine_simulation.specs.Static.{unlike, fields_once}
use Rattle.machine_simulation.proofs.Tools.{both_l, both_r, none_some, split, passes, fails, cond_yes, cond_no, change_other, change_same}
use Rattle.machine_simulation.proofs.Frame.{eval_same, test_head, test_rest}
use Rattle.machine_simulation.proofs.Retype.{retyped, eval_all_rows, row_of_later, part_row_later}
use Rattle.machine_simulation.proofs.Invariant.{numbered, Ctx, Tracks, Agree}
use Rattle.machine_simulation.proofs.Generic.{Recorded, reruns, clean_l, clean_r, same_reads}
use Rattle.machine_simulation.proofs.Cases.{seen, see, fits_type, same_row}
use Rattle.machine_simulation.proofs.Twins.{Twins, anew, unmoved, twins_eval}

-- ---- numbers

-- below the first fresh number is below the others
pub low_low : (m n x : ℕ) → m ≤ n → T (ltb x m) → T (ltb x n)
low_low m n x le t = lt→ltb x n (omega (arith, ltb→lt x m t))

-- below is not equal
pub low_other : (n x : ℕ) → T (ltb x n) → T (not (eqb x n))
low_other n x t = elim (split (eqb x n)) [ passes e ↦ absurd (omega (arith, ltb→lt x n t, eqb→eq x n e)) | fails nn ↦ nn ]

-- ---- the parts of a rebuild are the tracked ones

-- a tuple rebuilt at its own count has its parts
pub fitted_same : (xs : List Value) (k : ℕ) → k ≡ length xs → fitted k xs ≡ xs
unfolding fitted
fitted_same xs k e = rw e (whole xs)
  where
    whole : (xs : List Value) → fitted (length xs) xs ≡ xs
    whole [] = refl
    whole (x ∷ xs) = ap (λ (l : List Value). x ∷ l) (whole xs)

-- one less on both sides
pub suc_inj : (a b : ℕ) → suc a ≡ suc b → a ≡ b
suc_inj a b e = omega (arith, e)

-- a struct's rebuild reads its parts
named_values : (fs : List StructField) (xs : List Value) → length fs ≡ length xs → init_values (named fs xs) ≡ xs
unfolding named
named_values [] [] e = refl
named_values [] (x ∷ xs) e = absurd (omega (arith, e))
named_values (f ∷ fs) [] e = absurd (omega (arith, e))
named_values (f ∷ fs) (x ∷ xs) e = ap (λ (l : List Value). x ∷ l) (named_values fs xs (suc_inj (length fs) (length xs) e))

-- a field given in front changes nothing where no field has its name
front_other : (f : StructField) (x : Value) (is : List FieldInit) (ss : List StructField) → T (unlike f.name ss)
    → from_struct_fields (record { name = f.name; value = x } ∷ is) ss ≡ from_struct_fields is ss
unfolding from_struct_fields unlike given
front_other f x is [] t = refl
front_other f x is (s ∷ ss) t =
    rw (cond_no (eqb f.name.0 s.name.0) (some x) (given s.name is) (both_l (not (eqb f.name.0 s.name.0)) (unlike f.name ss) t), front_other f x is ss (both_r (not (eqb f.name.0 s.name.0)) (unlike f.name ss) t))

-- and has them in its type's order (refusal 5)
named_fields : (fs : List StructField) (xs : List Value) → length fs ≡ length xs → T (fields_once fs) → from_struct_fields (named fs xs) fs ≡ some xs
unfolding named from_struct_fields fields_once given cons_part
named_fields [] [] e t = refl
named_fields [] (x ∷ xs) e t = absurd (omega (arith, e))
named_fields (f ∷ fs) [] e t = absurd (omega (arith, e))
named_fields (f ∷ fs) (x ∷ xs) e t =
    rw (cond_yes (eqb f.name.0 f.name.0) (some x) (given f.name (named fs xs)) (eqb_refl f.name.0))
    (rw (front_other f x (named fs xs) fs (both_l (unlike f.name fs) (fields_once fs) t)) (rw (named_fields fs xs (suc_inj (length fs) (length xs) e) (both_r (unlike f.name fs) (fields_once fs) t))))

-- equal counts
pub some_inj : (a b : ℕ) → some a ≡ some b → a ≡ b
some_inj a b e = cc

-- what a rebuild reads
rebuild_reads : (debug : Bool) (dr : ℕ → Bool) (n : ℕ) (xs : List Value) (t : TypeId) (row : Option MirType) → part_count row ≡ some (length xs)
    → T (clean debug dr (rebuild_at (numbered n) xs t row)) → T (every (λ v. not (dr v.0)) (operands xs))
unfolding rebuild_at part_count clean
rebuild_reads debug dr n xs t none e c = absurd (none_some e)
rebuild_reads debug dr n xs t (some Y.Felt) e c = absurd (none_some e)
rebuild_reads debug dr n xs t (some Y.Bool) e c = absurd (none_some e)
rebuild_reads debug dr n xs t (some Y.U32) e c = absurd (none_some e)
rebuild_reads true dr n xs t (some (Y.Tuple ts)) e c = rw (fitted_same xs (length ts) (some_inj (length ts) (length xs) e)) at (both_l (every (λ v. not (dr v.0)) (operands (fitted (length ts) xs))) true c)
rebuild_reads false dr n xs t (some (Y.Tuple ts)) e c = rw (fitted_same xs (length ts) (some_inj (length ts) (length xs) e)) at (both_l (every (λ v. not (dr v.0)) (operands (fitted (length ts) xs))) true c)
rebuild_reads true dr n xs t (some (Y.Struct a fs)) e c = rw (named_values fs xs (some_inj (length fs) (length xs) e)) at (both_l (every (λ v. not (dr v.0)) (operands (init_values (named fs xs)))) true c)
rebuild_reads false dr n xs t (some (Y.Struct a fs)) e c = rw (named_values fs xs (some_inj (length fs) (length xs) e)) at (both_l (every (λ v. not (dr v.0)) (operands (init_values (named fs xs)))) true c)
rebuild_reads true dr n xs t (some (Y.FixedArray q size)) e c = both_l (every (λ v. not (dr v.0)) (operands xs)) true c
rebuild_reads false dr n xs t (some (Y.FixedArray q size)) e c = both_l (every (λ v. not (dr v.0)) (operands xs)) true c
rebuild_reads debug dr n xs t (some (Y.Pointer q)) e c = absurd (none_some e)
rebuild_reads debug dr n xs t (some (Y.Function ps r)) e c = absurd (none_some e)
rebuild_reads debug dr n xs t (some Y.Unit) e c = absurd (none_some e)
rebuild_reads debug dr n xs t (some Y.Error) e c = absurd (none_some e)
rebuild_reads debug dr n xs t (some Y.Unknown) e c = absurd (none_some e)

-- ---- a rebuild's run

-- a build of a fresh number, in the rewritten run
build_runs : {A : Type 0} (κ : Ctx A) (i : Instruction) (n : ℕ) (xs : List Value) (row : Option MirType) (vs : Vals A) (F : Env A)
    (rest : List Instruction) (u : Terminator) (w : List (Val A)) (rec : List (Event A))
    → exec κ.mean (retyped κ.types κ.later) i.kind F w ≡ built κ.mean (retyped κ.types κ.later) (numbered n)
    (eval_all κ.mean F (part_row (retyped κ.types κ.later) row) xs) w
    → eval_all κ.mean F (part_row κ.types row) xs ≡ some vs → κ.mean.large κ.types.rows (recorded_type (retyped κ.types κ.later) (numbered n)) ≡ false
    → reruns κ (i ∷ rest) u F w rec ≡ reruns κ rest u (write F (numbered n) (aggregate vs)) w rec
unfolding exec_all built need choose onward log write_all
build_runs κ i n xs row vs F rest u w rec e ev sm =
    rw e (rw (sm, sym (eval_all_rows κ.mean F (part_row κ.types row) (part_row (retyped κ.types κ.later) row) xs (part_row_later κ.types κ.later row)) ∙ ev))

-- either of two equal
else_first : {B : Type 0} (o : Option B) → or_else o o ≡ o
unfolding or_else
else_first none = refl
else_first (some b) = refl

-- the row of a fresh number
fresh_row : {A : Type 0} (κ : Ctx A) (n : ℕ) (t : TypeId) (row : Option MirType) → row_of κ.types (some t) ≡ row
    → recorded_type (retyped κ.types κ.later) (numbered n) ≡ some t → value_row (retyped κ.types κ.later) (numbered n) ≡ row
fresh_row κ n t row er h = same_row (retyped κ.types κ.later) (numbered n) (some t) h ∙ sym (row_of_later κ.types κ.later (some t)) ∙ er

-- a fresh number's struct row
fresh_struct : {A : Type 0} (κ : Ctx A) (n : ℕ) (t : TypeId) (row : Option MirType) → row_of κ.types (some t) ≡ row
    → recorded_type (retyped κ.types κ.later) (numbered n) ≡ some t → struct_row (retyped κ.types κ.later) (numbered n) t ≡ row
unfolding struct_row
fresh_struct κ n t row er h = rw (fresh_row κ n t row er h, sym (row_of_later κ.types κ.later (some t)) ∙ er) (else_first row)

-- a tuple's rebuild
list_exec : {A : Type 0} (κ : Ctx A) (n : ℕ) (xs : List Value) (row : Option MirType) (F : Env A) (w : List (Val A))
    → value_row (retyped κ.types κ.later) (numbered n) ≡ row
    → exec κ.mean (retyped κ.types κ.later) (MakeTuple (numbered n) xs) F w ≡ built κ.mean (retyped κ.types κ.later) (numbered n)
    (eval_all κ.mean F (part_row (retyped κ.types κ.later) row) xs) w
unfolding exec
list_exec κ n xs row F w e = rw e

-- an array's rebuild
array_exec : {A : Type 0} (κ : Ctx A) (n : ℕ) (xs : List Value) (q : TypeId) (row : Option MirType) (F : Env A) (w : List (Val A))
    → value_row (retyped κ.types κ.later) (numbered n) ≡ row
    → exec κ.mean (retyped κ.types κ.later) (MakeFixedArray (numbered n) xs q false) F w ≡ built κ.mean (retyped κ.types κ.later)
    (numbered n) (eval_all κ.mean F (part_row (retyped κ.types κ.later) row) xs) w
unfolding exec
array_exec κ n xs q row F w e = rw e

-- a struct's rebuild
struct_exec : {A : Type 0} (κ : Ctx A) (n : ℕ) (xs : List Value) (t : TypeId) (row : Option MirType) (fs : List FieldInit) (F : Env A)
    (w : List (Val A)) → struct_row (retyped κ.types κ.later) (numbered n) t ≡ row
    → T (is_struct row) → from_struct_fields fs (struct_fields_of row) ≡ some xs
    → exec κ.mean (retyped κ.types κ.later) (MakeStruct (numbered n) fs t) F w ≡ built κ.mean (retyped κ.types κ.later) (numbered n)
    (eval_all κ.mean F (part_row (retyped κ.types κ.later) row) xs) w
unfolding exec need struct_parts
struct_exec κ n xs t row fs F w e s h = rw e (rw (cond_yes (is_struct row) (from_struct_fields fs (struct_fields_of row)) none s) (rw h))

-- the rebuild writes the fresh number with the aggregate of the parts
rebuild_runs : {A : Type 0} (κ : Ctx A) (n : ℕ) (xs : List Value) (t : TypeId) (row : Option MirType) (vs : Vals A) (F : Env A)
    (rest : List Instruction) (u : Terminator) (w : List (Val A)) (rec : List (Event A))
    → row_of κ.types (some t) ≡ row → part_count row ≡ some (length xs) → T (fields_once (struct_fields_of row))
    → recorded_type (retyped κ.types κ.later) (numbered n) ≡ some t
    → eval_all κ.mean F (part_row κ.types row) xs ≡ some vs → κ.mean.large κ.types.rows (some t) ≡ false
    → reruns κ (rebuild_at (numbered n) xs t row ++ rest) u F w rec ≡ reruns κ rest u (write F (numbered n) (aggregate vs)) w rec
unfolding rebuild_at part_count struct_fields_of is_struct shape
rebuild_runs κ n xs t none vs F rest u w rec er e fo h ev sm = absurd (none_some e)
rebuild_runs κ n xs t (some Y.Felt) vs F rest u w rec er e fo h ev sm = absurd (none_some e)
rebuild_runs κ n xs t (some Y.Bool) vs F rest u w rec er e fo h ev sm = absurd (none_some e)
rebuild_runs κ n xs t (some Y.U32) vs F rest u w rec er e fo h ev sm = absurd (none_some e)
rebuild_runs κ n xs t (some (Y.Tuple ts)) vs F rest u w rec er e fo h ev sm =
    rw (fitted_same xs (length ts) (some_inj (length ts) (length xs) e))
    (build_runs κ (plain (MakeTuple (numbered n) xs)) n xs (some (Y.Tuple ts)) vs F rest u w rec (list_exec κ n xs (some (Y.Tuple ts)) F w (fresh_row κ n t (some (Y.Tuple ts)) er h)) ev (rw h sm))
rebuild_runs κ n xs t (some (Y.Struct a fs)) vs F rest u w rec er e fo h ev sm =
    build_runs κ (plain (MakeStruct (numbered n) (named fs xs) t)) n xs (some (Y.Struct a fs)) vs F rest u w rec
    (struct_exec κ n xs t (some (Y.Struct a fs)) (named fs xs) F w (fresh_struct κ n t (some (Y.Struct a fs)) er h) tt (named_fields fs xs (some_inj (length fs) (length xs) e) fo)) ev (rw h sm)
rebuild_runs κ n xs t (some (Y.FixedArray q size)) vs F rest u w rec er e fo h ev sm =
    build_runs κ (plain (MakeFixedArray (numbered n) xs q false)) n xs (some (Y.FixedArray q size)) vs F rest u w rec (array_exec κ n xs q (some (Y.FixedArray q size)) F w (fresh_row κ n t (some (Y.FixedArray q size)) er h)) ev (rw h sm)
rebuild_runs κ n xs t (some (Y.Pointer q)) vs F rest u w rec er e fo h ev sm = absurd (none_some e)
rebuild_runs κ n xs t (some (Y.Function ps r)) vs F rest u w rec er e fo h ev sm = absurd (none_some e)
rebuild_runs κ n xs t (some Y.Unit) vs F rest u w rec er e fo h ev sm = absurd (none_some e)
rebuild_runs κ n xs t (some Y.Error) vs F rest u w rec er e fo h ev sm = absurd (none_some e)
rebuild_runs κ n xs t (some Y.Unknown) vs F rest u w rec er e fo h ev sm = absurd (none_some e)

-- ---- values in a list

-- the values, without the types asked for
abbrev pub wanted_values : List Wanted → List Value
wanted_values [] = []
wanted_values (x ∷ ws) = x.value ∷ wanted_values ws

-- a tracked value is rebuilt at its own type
abbrev pub AtOwn : Types → AggStates → List Wanted → Type 0
AtOwn τ S [] = Unit {0}
AtOwn τ S (x ∷ ws) = ((xs : List Value) (t : TypeId) → state_of S x.value ≡ some xs → x.at ≡ some t → T (fits τ x.value (some t))) × AtOwn τ S ws

-- the type asked for is an aggregate's own
pub aggregate_own : (τ : Types) (p t : TypeId) → aggregate_type τ p ≡ some t → p ≡ t
unfolding aggregate_type
aggregate_own τ p t e = own (is_aggregate (row_of τ (some p))) e
  where
    own : (b : Bool) → cond b (some p) none ≡ some t → p ≡ t
    own true z = cc
    own false z = absurd (none_some z)

-- a value fits its recorded type
pub type_own : (τ : Types) (x : Value) (t : TypeId) → return_type τ x ≡ some t → T (fits τ x (some t))
unfolding return_type fits same_type
type_own τ (Value.Literal l) t e = absurd (none_some e)
type_own τ (Value.Operand v) t e = rw e (eqb_refl t.0)
type_own τ Value.Error t e = absurd (none_some e)

-- behind the rebuilds the values, where none is dropped, are what the original's are
pub data Ran {A : Type 0} (κ : Ctx A) (n : ℕ) (xs : List Value) (r : Rebuilt) (E F : Env A) : Type 0 where
  ran : (G : Env A) → ((x : ℕ) → T (ltb x n) → G x ≡ F x)
      → (T (every (λ v. not (κ.dr v.0)) (operands r.values)) → Twins κ.mean (retyped κ.types κ.later) E G xs r.values)
      → ((rest : List Instruction) (t : Terminator) (w : List (Val A)) (rec : List (Event A)) → reruns κ (r.before ++ rest) t F w rec ≡ reruns κ rest t G w rec)
      → Ran κ n xs r E F

-- a fresh number that is written is none of those compared
agree_fresh : {A : Type 0} (κ : Ctx A) (n : ℕ) (E F : Env A) (a : Val A) → κ.m ≤ n → Agree κ E F → Agree κ E (write F (numbered n) a)
agree_fresh κ n E F a le ag x lo nd = ag x lo nd ∙ sym (change_other F n a x (low_other n x (low_low κ.m n x le lo)))

-- nor are several
pub agree_same : {A : Type 0} (κ : Ctx A) (n : ℕ) (E F G : Env A) → κ.m ≤ n → Agree κ E F → ((x : ℕ) → T (ltb x n) → G x ≡ F x) → Agree κ E G
agree_same κ n E F G le ag sm x lo nd = ag x lo nd ∙ sym (sm x (low_low κ.m n x le lo))

-- values in a list, at any fresh number
abbrev pub RanAll : {A : Type 0} → Ctx A → AggStates → Env A → List Wanted → Type 0
RanAll {A} κ S E ws = (n : ℕ) (F : Env A) → κ.m ≤ n → Agree κ E F → T (every (λ v. ltb v.0 κ.m) (operands (wanted_values ws)))
    → T (clean κ.mean.debug κ.dr (rebuild_all κ.types S n ws).before)
    → Recorded (retyped κ.types κ.later) n (rebuild_all κ.types S n ws).fresh → Ran κ n (wanted_values ws) (rebuild_all κ.types S n ws) E F

-- a value that stays, in front of others
pub stays_then : {A : Type 0} (κ : Ctx A) (E : Env A) (x : Value) (xs : List Value) (r : Rebuilt) (n : ℕ) (F : Env A) → κ.m ≤ n → Agree κ E F
    → T (every (λ v. ltb v.0 κ.m) (operands (x ∷ xs))) → Ran κ n xs r E F → Ran κ n (x ∷ xs) (keep_value x r) E F
unfolding keep_value
stays_then κ E x xs r n F le ag lo (ran G sm tw rn) =
    let p : ValueId → Bool = λ v. ltb v.0 κ.m in
    let q : ValueId → Bool = λ v. not (κ.dr v.0) in
    ran G sm
    (λ cv. (unmoved x (λ row. sym (eval_same κ.mean E G row x [] (same_reads κ E G (agree_same κ n E F G le ag sm) (operand x []) (test_head p x (operands xs) lo) (test_head q x (operands r.values) cv)))), tw (test_rest q x (operands r.values) cv))) rn

-- the type of a value below next, in the rewritten routine
low_type : {A : Type 0} (κ : Ctx A) (v : ValueId) (vs : List ValueId) (t : TypeId) → T (every (λ v. ltb v.0 κ.m) (v ∷ vs)) → recorded_type κ.types v ≡ some t
    → recorded_type (retyped κ.types κ.later) v ≡ some t
low_type κ v vs t lo e = sym (κ.alike v (both_l (ltb v.0 κ.m) (every (λ v. ltb v.0 κ.m) vs) lo)) ∙ e

-- a build of the whole from values that are its parts', behind what was run before, in front of what comes behind
pub whole_ran : {A : Type 0} (κ : Ctx A) (S : AggStates) (E : Env A) (is : List Instruction) (x : Value) (xs : List Value) (t : TypeId) (n m : ℕ) (ps : List Value)
    (before : List Instruction) (vs : List Value) (r : Rebuilt) (F G : Env A) → Tracks κ S E is → state_of S x ≡ some xs → T (fits κ.types x (some t))
    → n ≤ m → κ.m ≤ n → Agree κ E F → T (every (λ v. ltb v.0 κ.m) (operands (x ∷ vs)))
    → length ps ≡ length xs
    → T (clean κ.mean.debug κ.dr (rebuild_at (numbered m) ps t (row_of κ.types (some t))))
    → recorded_type (retyped κ.types κ.later) (numbered m) ≡ some t
    → ((a : ℕ) → T (ltb a n) → G a ≡ F a)
    → (T (every (λ v. not (κ.dr v.0)) (operands ps)) → Twins κ.mean (retyped κ.types κ.later) E G xs ps)
    → ((rest : List Instruction) (u : Terminator) (w : List (Val A)) (rec : List (Event A)) → reruns κ (before ++ rest) u F w rec ≡ reruns κ rest u G w rec)
    → ((F' : Env A) → Agree κ E F' → Ran κ (suc m) vs r E F')
    → (fresh : List TypeId) (fault : ℕ → Option Fault)
    → Ran κ n (x ∷ vs) (record { before = before ++ (rebuild_at (numbered m) ps t (row_of κ.types (some t)) ++ r.before); values = Value.Operand (numbered m) ∷ r.values; fresh = fresh; fault = fault }) E F
whole_ran κ S E is x xs t n m ps before vs r F G tk e fx nm le ag lo lp cl rc sm_g tw_g rn_g next fresh fault =
    let τ : Types = κ.types in
    let mk : List Instruction = rebuild_at (numbered m) ps t (row_of τ (some t)) in
    let q : ValueId → Bool = λ v. not (κ.dr v.0) in
    elim (see κ S E is tk x xs e) [
      | seen v xe z ↦
          let te : recorded_type τ v ≡ some t = fits_type τ v (some t) (rw xe at fx) in
          let sz : part_count (row_of τ (some t)) ≡ some (length ps) = rw lp (rw te at z.shape.sized) in
          let cw = rebuild_reads κ.mean.debug κ.dr m ps t (row_of τ (some t)) sz cl in
          let ev : eval_all κ.mean E (part_row τ (row_of τ (some t))) xs ≡ some z.vals = rw (same_row τ v (some t) te) at z.each in
          let fv : eval_all κ.mean G (part_row τ (row_of τ (some t))) ps ≡ some z.vals = twins_eval κ.mean (retyped τ κ.later) E G xs ps (tw_g cw) (part_row τ (row_of τ (some t))) ∙ ev in
          let F2 = write G (numbered m) (aggregate z.vals) in
          elim (next F2 (agree_fresh κ m E G (aggregate z.vals) (omega arith) (agree_same κ n E F G le ag sm_g))) [
            | ran H sm tw rn ↦
                ran H
                (λ a la. sm a (low_low n (suc m) a (omega arith) la) ∙ change_other G m (aggregate z.vals) a (low_other m a (low_low n m a nm la)) ∙ sm_g a la)
                (λ cv. (rw xe (anew v (numbered m) (sm m (lt→ltb m (suc m) (omega arith)) ∙ change_same G m (aggregate z.vals) ∙ sym z.whole) (rc ∙ sym (low_type κ v (operands vs) t (rw xe at lo) te))), tw (both_r (q (numbered m)) (every q (operands r.values)) cv)))
                (λ rest u w rec. rw (append_assoc before (mk ++ r.before) rest) (rn_g ((mk ++ r.before) ++ rest) u w rec ∙ rw (append_assoc mk r.before rest)
                (rebuild_runs κ m ps t (row_of τ (some t)) z.vals G (r.before ++ rest) u w rec refl sz (κ.names t) rc fv (rw te at z.small) ∙ rn rest u w rec)))
          ]
    ]

-- values that are not built anew are their own twins
own_twins : {A : Type 0} (κ : Ctx A) (E F : Env A) (xs : List Value) → Agree κ E F → T (every (λ v. ltb v.0 κ.m) (operands xs))
    → T (every (λ v. not (κ.dr v.0)) (operands xs)) → Twins κ.mean (retyped κ.types κ.later) E F xs xs
own_twins κ E F [] ag lo cl = tt
own_twins κ E F (x ∷ xs) ag lo cl =
    let p : ValueId → Bool = λ v. ltb v.0 κ.m in
    let q : ValueId → Bool = λ v. not (κ.dr v.0) in (
      unmoved x (λ row. sym (eval_same κ.mean E F row x [] (same_reads κ E F ag (operand x []) (test_head p x (operands xs) lo) (test_head q x (operands xs) cl)))),
      own_twins κ E F xs ag (test_rest p x (operands xs) lo) (test_rest q x (operands xs) cl),
    )

-- one value, kept or rebuilt, and the rest
pub rebuilt_go : {A : Type 0} (κ : Ctx A) (S : AggStates) (E : Env A) (is : List Instruction) (x : Value) (ws : List Wanted) → Tracks κ S E is → RanAll κ S E ws
    → (n : ℕ) (F : Env A) → κ.m ≤ n → Agree κ E F → T (every (λ v. ltb v.0 κ.m) (operands (x ∷ wanted_values ws)))
    → (o : Option TypeId) (s : Option (List Value)) → state_of S x ≡ s
    → ((xs : List Value) (t : TypeId) → state_of S x ≡ some xs → o ≡ some t → T (fits κ.types x (some t)))
    → T (clean κ.mean.debug κ.dr (one_value κ.types n x (λ k. rebuild_all κ.types S k ws) o s).before)
    → Recorded (retyped κ.types κ.later) n (one_value κ.types n x (λ k. rebuild_all κ.types S k ws) o s).fresh
    → Ran κ n (x ∷ wanted_values ws) (one_value κ.types n x (λ k. rebuild_all κ.types S k ws) o s) E F
unfolding one_value rebuild_value keep_value
rebuilt_go κ S E is x ws tk ih n F le ag lo none s e hc cl rc =
    stays_then κ E x (wanted_values ws) (rebuild_all κ.types S n ws) n F le ag lo (ih n F le ag (test_rest (λ v. ltb v.0 κ.m) x (operands (wanted_values ws)) lo) cl rc)
rebuilt_go κ S E is x ws tk ih n F le ag lo (some t) none e hc cl rc =
    stays_then κ E x (wanted_values ws) (rebuild_all κ.types S n ws) n F le ag lo (ih n F le ag (test_rest (λ v. ltb v.0 κ.m) x (operands (wanted_values ws)) lo) cl rc)
rebuilt_go κ S E is x ws tk ih n F le ag lo (some t) (some xs) e hc cl rc =
    let r = rebuild_all κ.types S (suc n) ws in
    let mk : List Instruction = rebuild_at (numbered n) xs t (row_of κ.types (some t)) in
    whole_ran κ S E is x xs t n n xs [] (wanted_values ws) r F F tk e (hc xs t e refl) (omega arith) le ag lo refl (clean_l κ.mean.debug κ.dr mk r.before cl) rc.0
    (λ a la. refl) (λ cv. elim (see κ S E is tk x xs e) [ seen v xe z ↦ own_twins κ E F xs ag z.parts.low cv ]) (λ rest u w rec. refl)
    (λ F' ag'. ih (suc n) F' (omega arith) ag' (test_rest (λ v. ltb v.0 κ.m) x (operands (wanted_values ws)) lo) (clean_r κ.mean.debug κ.dr mk r.before cl) rc.1) _ _

-- the rebuild lemma
pub rebuilt : {A : Type 0} (κ : Ctx A) (S : AggStates) (E : Env A) (is : List Instruction) → Tracks κ S E is → (ws : List Wanted)
    → AtOwn κ.types S ws → RanAll κ S E ws
unfolding rebuild_all
rebuilt κ S E is tk [] cs n F le ag lo cl rc = ran F (λ x lx. refl) (λ cv. tt) (λ rest t w rec. refl)
rebuilt κ S E is tk (x ∷ ws) cs n F le ag lo cl rc = rebuilt_go κ S E is x.value ws tk (rebuilt κ S E is tk ws cs.1) n F le ag lo x.at (state_of S x.value) refl cs.0 cl rc
