-- One rebuild agrees with the types as the rewritten routine records them, where its parts fit.
use mathlib.Core.Path.{◌≡◌, refl, sym, ap, ◌∙◌}
use Prim.Native.Nat.{ℕ, zero, suc}
use mathlib.Core.Bool.{Bool, true, false, not, ◌&&◌}
use mathlib.Core.Option.{Option, none, some}
use mathlib.Core.List.{List, [], ◌∷◌}
use native.Mathlib.Omega.{arith}
use lib.Dec.{T, eqb, eqb_refl, ltb}
use lib.ListN.{length, get_elem?}
use Rattle.mir.specs.declared.ValueId.{ValueId}
use Rattle.mir.specs.declared.TypeId.{TypeId}
use Rattle.mir.specs.declared.Value.{Value}
use Rattle.mir.specs.MirType.{MirType, StructField}
use Rattle.mir.specs.MirType as Y
use Rattle.mir.specs.Syntax.{FieldInit, MakeTuple, MakeStruct, MakeFixedArray}
use Rattle.mir.specs.Reads.{operand, operands}
use Rattle.mir.specs.Lookup.{Types, row_of, recorded_type, value_row, struct_fields_of, is_tuple, is_struct, is_array, shape}
use Rattle.mir.specs.Parts.{given, part_type, part_count, counts, field_type}
use Rattle.rewrite.specs.Rebuild.{named, rebuild_at}
use Rattle.shelf.specs.Lists.{every}
use Rattle.shelf.specs.Fits.{same_type, fits, all_fit, parts_fit, given_fits, fields_fit}
use Rattle.shelf.specs.Agrees.{agrees}
use Rattle.machine_simulation.specs.Typing.{Whole}
use Rattle.machine_simulation.specs.Static.{unlike, fields_once}
use Rattle.machine_simulation.proofs.Tools.{both_l, both_r, both, cond_yes, cond_no}
use Rattle.machine_simulation.proofs.Frame.{test_head, test_rest}
use Rattle.machine_simulation.proofs.Retype.{row_of_later}
use Rattle.machine_simulation.proofs.Invariant.{numbered}
use Rattle.machine_simulation.proofs.Cases.{same_row}
use Rattle.machine_simulation.proofs.Rebuilds.{suc_inj, some_inj, fitted_same}
use Rattle.pass_lasting.proofs.Vocabulary.{unmoved, TypeTwins, Table, types_later}
use Rattle.pass_lasting.proofs.Later.{low_alike, fits_later}
use Rattle.pass_lasting.proofs.AgreesWith.{fits_twin, twins_length}

-- ---- values that stand for others

-- values that are not built anew are their own twins
pub own_twins : (τ : Types) (xs : List Value) → TypeTwins τ xs xs
own_twins τ [] = tt
own_twins τ (x ∷ xs) = (unmoved x, own_twins τ xs)

-- so what stands for parts fits where they do
parts_later : (κ : Table) (ts : ℕ → Option TypeId) (xs ys : List Value) → T (every (λ v. ltb v.0 κ.m) (operands xs)) → TypeTwins (types_later κ) xs ys
    → ((k : ℕ) (x : Value) → get_elem? xs k ≡ some x → T (fits κ.types x (ts k))) → T (all_fit (types_later κ) ts ys)
unfolding all_fit
parts_later κ ts [] [] lo tw h = tt
parts_later κ ts [] (y ∷ ys) lo tw h = absurd tw
parts_later κ ts (x ∷ xs) [] lo tw h = absurd tw
parts_later κ ts (x ∷ xs) (y ∷ ys) lo tw h =
    let p : ValueId → Bool = λ v. ltb v.0 κ.m in
    let e : fits κ.types x (ts zero) ≡ fits (types_later κ) y (ts zero) =
    fits_later κ.types κ.later x [] (ts zero) (low_alike κ (operand x []) (test_head p x (operands xs) lo))
    ∙ sym (fits_twin (types_later κ) (ts zero) x y tw.0) in
    both (fits (types_later κ) y (ts zero)) (all_fit (types_later κ) (λ k. ts (suc k)) ys) (rw e at (h zero x refl))
    (parts_later κ (λ k. ts (suc k)) xs ys (test_rest p x (operands xs) lo) tw.1 (λ k z g. h (suc k) z g))

-- ---- a struct's fields

-- a field given in front changes nothing where no field has its name
front_fits : (τ : Types) (f : StructField) (x : Value) (is : List FieldInit) (ss : List StructField) → T (unlike f.name ss)
    → fields_fit τ (record { name = f.name; value = x } ∷ is) ss ≡ fields_fit τ is ss
unfolding fields_fit unlike given
front_fits τ f x is [] t = refl
front_fits τ f x is (s ∷ ss) t =
    rw (
      cond_no (eqb f.name.0 s.name.0) (some x) (given s.name is) (both_l (not (eqb f.name.0 s.name.0)) (unlike f.name ss) t),
      front_fits τ f x is ss (both_r (not (eqb f.name.0 s.name.0)) (unlike f.name ss) t),
    )

-- each field is given the part that fits it, where no name stands twice (refusal 5)
named_fit : (τ : Types) (fs : List StructField) (xs : List Value) → length fs ≡ length xs → T (fields_once fs)
    → T (all_fit τ (λ k. field_type (get_elem? fs k)) xs) → T (fields_fit τ (named fs xs) fs)
unfolding named fields_fit all_fit given given_fits fields_once field_type
named_fit τ [] xs e t h = tt
named_fit τ (f ∷ fs) [] e t h = absurd (omega (arith, e))
named_fit τ (f ∷ fs) (x ∷ xs) e t h =
    let hx : T (fits τ x (some f.part)) = both_l (fits τ x (some f.part)) (all_fit τ (λ k. field_type (get_elem? fs k)) xs) h in
    let hs : T (all_fit τ (λ k. field_type (get_elem? fs k)) xs) = both_r (fits τ x (some f.part)) (all_fit τ (λ k. field_type (get_elem? fs k)) xs) h in
    rw (
      cond_yes (eqb f.name.0 f.name.0) (some x) (given f.name (named fs xs)) (eqb_refl f.name.0),
      front_fits τ f x (named fs xs) fs (both_l (unlike f.name fs) (fields_once fs) t),
    )
    (both (fits τ x (some f.part)) (fields_fit τ (named fs xs) fs) hx
    (named_fit τ fs xs (suc_inj (length fs) (length xs) e) (both_r (unlike f.name fs) (fields_once fs) t) hs))

-- as many are given
named_length : (fs : List StructField) (xs : List Value) → length (named fs xs) ≡ length fs
unfolding named
named_length [] xs = refl
named_length (f ∷ fs) [] = ap suc (named_length fs [])
named_length (f ∷ fs) (x ∷ xs) = ap suc (named_length fs xs)

-- ---- a build of parts that fit

-- a type that is there is the same as itself
same_own : (o : Option TypeId) (t : TypeId) → o ≡ some t → T (same_type o (some t))
unfolding same_type
same_own o t e = rw e (eqb_refl t.0)

-- parts that fit a row are the parts of its type
parts_ok : (τ : Types) (t : Option TypeId) (xs : List Value) (row : Option MirType) → row_of τ t ≡ row → part_count row ≡ some (length xs)
    → T (all_fit τ (part_type row) xs) → T (parts_fit τ t xs)
unfolding parts_fit counts
parts_ok τ t xs row er e h = rw er (rw e (both (eqb (length xs) (length xs)) (all_fit τ (part_type row) xs) (eqb_refl (length xs)) h))

-- a tuple's
tuple_agrees : (τ : Types) (d : ValueId) (xs : List Value) (row : Option MirType) → value_row τ d ≡ row → T (is_tuple row)
    → T (parts_fit τ (recorded_type τ d) xs) → T (agrees τ (MakeTuple d xs))
unfolding agrees
tuple_agrees τ d xs row er s h = both (is_tuple (value_row τ d)) (parts_fit τ (recorded_type τ d) xs) (rw er s) h

-- an array's
array_agrees : (τ : Types) (d : ValueId) (xs : List Value) (q : TypeId) (c : Bool) (row : Option MirType) → value_row τ d ≡ row → T (is_array row)
    → part_type row 0 ≡ some q → T (parts_fit τ (recorded_type τ d) xs) → T (agrees τ (MakeFixedArray d xs q c))
unfolding agrees
array_agrees τ d xs q c row er s e h =
    both (is_array (value_row τ d)) (same_type (part_type (value_row τ d) 0) (some q) && parts_fit τ (recorded_type τ d) xs) (rw er s)
    (both (same_type (part_type (value_row τ d) 0) (some q)) (parts_fit τ (recorded_type τ d) xs) (rw er (same_own (part_type row 0) q e)) h)

-- a struct's
struct_agrees : (τ : Types) (d : ValueId) (is : List FieldInit) (t : TypeId) (row : Option MirType) → recorded_type τ d ≡ some t
    → row_of τ (some t) ≡ row → T (is_struct row) → length is ≡ length (struct_fields_of row) → T (fields_fit τ is (struct_fields_of row))
    → T (agrees τ (MakeStruct d is t))
unfolding agrees
struct_agrees τ d is t row ed er s e h =
    let fs : List StructField = struct_fields_of row in
    both (same_type (recorded_type τ d) (some t)) _ (same_own (recorded_type τ d) t ed)
    (rw er (both (is_struct row) (eqb (length is) (length fs) && fields_fit τ is fs) s
    (both (eqb (length is) (length fs)) (fields_fit τ is fs) (rw e (eqb_refl (length fs))) h)))

-- a rebuild at a type, of parts that fit it, under a number that is recorded so
rebuild_agrees : (κ : Table) (n : ℕ) (t : TypeId) (xs : List Value) (row : Option MirType) → row_of (types_later κ) (some t) ≡ row
    → value_row (types_later κ) (numbered n) ≡ row → recorded_type (types_later κ) (numbered n) ≡ some t
    → T (fields_once (struct_fields_of row)) → part_count row ≡ some (length xs) → T (all_fit (types_later κ) (part_type row) xs)
    → T (parts_fit (types_later κ) (recorded_type (types_later κ) (numbered n)) xs)
    → T (every (λ i. agrees (types_later κ) i.kind) (rebuild_at (numbered n) xs t row))
unfolding rebuild_at part_count part_type struct_fields_of is_tuple is_struct is_array shape
rebuild_agrees κ n t xs none er vr rc fo e h p = tt
rebuild_agrees κ n t xs (some Y.Felt) er vr rc fo e h p = tt
rebuild_agrees κ n t xs (some Y.Bool) er vr rc fo e h p = tt
rebuild_agrees κ n t xs (some Y.U32) er vr rc fo e h p = tt
rebuild_agrees κ n t xs (some (Y.Tuple ts)) er vr rc fo e h p =
    rw (fitted_same xs (length ts) (some_inj (length ts) (length xs) e))
    (both (agrees (types_later κ) (MakeTuple (numbered n) xs)) true (tuple_agrees (types_later κ) (numbered n) xs (some (Y.Tuple ts)) vr tt p) tt)
rebuild_agrees κ n t xs (some (Y.Struct a fs)) er vr rc fo e h p =
    both (agrees (types_later κ) (MakeStruct (numbered n) (named fs xs) t)) true
    (struct_agrees (types_later κ) (numbered n) (named fs xs) t (some (Y.Struct a fs)) rc er tt (named_length fs xs)
    (named_fit (types_later κ) fs xs (some_inj (length fs) (length xs) e) fo h)) tt
rebuild_agrees κ n t xs (some (Y.FixedArray q size)) er vr rc fo e h p =
    both (agrees (types_later κ) (MakeFixedArray (numbered n) xs q false)) true
    (array_agrees (types_later κ) (numbered n) xs q false (some (Y.FixedArray q size)) vr tt refl p) tt
rebuild_agrees κ n t xs (some (Y.Pointer q)) er vr rc fo e h p = tt
rebuild_agrees κ n t xs (some (Y.Function ps r)) er vr rc fo e h p = tt
rebuild_agrees κ n t xs (some Y.Unit) er vr rc fo e h p = tt
rebuild_agrees κ n t xs (some Y.Error) er vr rc fo e h p = tt
rebuild_agrees κ n t xs (some Y.Unknown) er vr rc fo e h p = tt

-- so a whole is rebuilt from what stands for its parts
pub whole_agrees : (κ : Table) (n : ℕ) (t : TypeId) (xs ys : List Value) → recorded_type (types_later κ) (numbered n) ≡ some t
    → Whole κ.types (some t) xs → T (every (λ v. ltb v.0 κ.m) (operands xs)) → TypeTwins (types_later κ) xs ys
    → T (every (λ i. agrees (types_later κ) i.kind) (rebuild_at (numbered n) ys t (row_of κ.types (some t))))
whole_agrees κ n t xs ys rc w lo tw =
    let row : Option MirType = row_of κ.types (some t) in
    let er : row_of (types_later κ) (some t) ≡ row = sym (row_of_later κ.types κ.later (some t)) in
    let e : part_count row ≡ some (length ys) = rw (twins_length (types_later κ) xs ys tw) w.sized in
    let h : T (all_fit (types_later κ) (part_type row) ys) = parts_later κ (part_type row) xs ys lo tw w.each in
    rebuild_agrees κ n t ys row er (same_row (types_later κ) (numbered n) (some t) rc ∙ er) rc (κ.names t) e h
    (rw rc (parts_ok (types_later κ) (some t) ys row er e h))
