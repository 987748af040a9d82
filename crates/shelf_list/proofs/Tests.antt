-- The tests on lists, as tests on each thing.
use Prim.Native.Nat.{ℕ, suc, ◌+◌, ◌<◌}
use mathlib.Core.Path.{◌≡◌, refl, ap, ◌∙◌}
use mathlib.Core.List.{List, [], ◌∷◌}
use mathlib.Core.Option.{Option, none, some}
use native.Mathlib.Nat.{add-zero}
use native.Mathlib.Omega.{arith}
use lib.ListN.{length, get_or}
use Rattle.mir.specs.declared.ValueId.{ValueId}
use Rattle.mir.specs.declared.TypeId.{TypeId}
use Rattle.mir.specs.declared.Value.{Value}
use Rattle.mir.specs.MirType.{MirType, StructField}
use Rattle.mir.specs.Syntax.{FieldInit}
use Rattle.mir.specs.Lookup.{Types, recorded_type}
use Rattle.mir.specs.Parts.{given, part_type}
use Rattle.shelf.specs.Fits.{fits, same_type, all_fit, given_fits, fields_fit, arguments_fit}
use Rattle.shelf.specs.Agrees.{dests_fit}
use Rattle.bytes_struct.specs.Fields.{no_field}
use Rattle.std.specs.List.{list_all, range_with_len}
use Rattle.shelf_list.specs.Asked.{given_to, field_name}
use Rattle.shelf_field.proofs.Lines.{all_of, and_both}

pub fit_all : (τ : Types) (ts us : ℕ → Option TypeId) (i : ℕ) (xs : List Value) → ((k : ℕ) → us k ≡ ts (i + k)) → all_fit τ us xs ≡ all_of (λ k x. fits τ x (ts k)) i xs
unfolding all_fit
fit_all τ ts us i [] f = refl
fit_all τ ts us i (x ∷ xs) f =
    and_both
    (ap (fits τ x) (f 0 ∙ ap ts (add-zero i)))
    (fit_all τ ts (λ k. us (suc k)) (suc i) xs (λ k. let z : i + suc k ≡ suc i + k = omega arith in f (suc k) ∙ ap ts z))

pub no_type : TypeId
no_type = record { 0 = 0 }

pub arguments_all : (τ : Types) (ts us : List TypeId) (i : ℕ) (xs : List Value) → length xs ≡ length us → ((k : ℕ) → get_or us k no_type ≡ get_or ts (i + k) no_type) → arguments_fit τ xs us ≡ all_of (λ k x. fits τ x (some (get_or ts k no_type))) i xs
unfolding arguments_fit
arguments_all τ ts [] i [] h f = refl
arguments_all τ ts (u ∷ us) i [] h f = absurd (omega (arith, h))
arguments_all τ ts [] i (x ∷ xs) h f = absurd (omega (arith, h))
arguments_all τ ts (u ∷ us) i (x ∷ xs) h f =
    and_both
    (ap (λ y. fits τ x (some y)) (f 0 ∙ ap (λ k. get_or ts k no_type) (add-zero i)))
    (arguments_all τ ts us (suc i) xs (omega (arith, h)) (λ k. let z : i + suc k ≡ suc i + k = omega arith in f (suc k) ∙ ap (λ j. get_or ts j no_type) z))

pub dests_all : (τ : Types) (ts us : List TypeId) (i : ℕ) (ds : List ValueId) → length ds ≡ length us → ((k : ℕ) → get_or us k no_type ≡ get_or ts (i + k) no_type) → dests_fit τ ds us ≡ all_of (λ k d. same_type (recorded_type τ d) (some (get_or ts k no_type))) i ds
unfolding dests_fit
dests_all τ ts [] i [] h f = refl
dests_all τ ts (u ∷ us) i [] h f = absurd (omega (arith, h))
dests_all τ ts [] i (d ∷ ds) h f = absurd (omega (arith, h))
dests_all τ ts (u ∷ us) i (d ∷ ds) h f =
    and_both
    (ap (λ y. same_type (recorded_type τ d) (some y)) (f 0 ∙ ap (λ k. get_or ts k no_type) (add-zero i)))
    (dests_all τ ts us (suc i) ds (omega (arith, h)) (λ k. let z : i + suc k ≡ suc i + k = omega arith in f (suc k) ∙ ap (λ j. get_or ts j no_type) z))

given_here : (τ : Types) (x : Option Value) (y : TypeId) → given_to τ x (some y) ≡ given_fits τ x y
unfolding given_fits
given_here τ none y = refl
given_here τ (some x) y = refl

pub fields_all : (τ : Types) (fs : List FieldInit) (row : List ℕ) (ty : Option MirType) (i : ℕ) (ss : List StructField) → ((k : ℕ) → k < length ss → field_name row (i + k) ≡ (get_or ss k no_field).name) → ((k : ℕ) → k < length ss → part_type ty (i + k) ≡ some (get_or ss k no_field).part)
    → list_all (λ k. given_to τ (given (field_name row k) fs) (part_type ty k)) (range_with_len i (length ss)) ≡ fields_fit τ fs ss
unfolding fields_fit
fields_all τ fs row ty i [] f g = refl
fields_all τ fs row ty i (s ∷ ss) f g =
    let z : i + 0 ≡ i = add-zero i in
    let n : field_name row i ≡ s.name = rw z at (f 0 (omega arith)) in
    let p : part_type ty i ≡ some s.part = rw z at (g 0 (omega arith)) in
    and_both
    (ap (λ a. given_to τ (given a fs) (part_type ty i)) n ∙ ap (given_to τ (given s.name fs)) p ∙ given_here τ (given s.name fs) s.part)
    (fields_all τ fs row ty (i + 1) ss
    (λ k h. let y : i + suc k ≡ i + 1 + k = omega arith in rw y at (f (suc k) (omega (arith, h))))
    (λ k h. let y : i + suc k ≡ i + 1 + k = omega arith in rw y at (g (suc k) (omega (arith, h)))))
