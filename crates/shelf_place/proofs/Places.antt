-- Places along projections.
use Prim.Native.Nat.{ℕ, zero, suc, ◌+◌, ◌-◌, ◌≤◌, ◌<◌}
use mathlib.Core.Path.{◌≡◌, refl, ap, ◌∙◌, sym}
use mathlib.Core.List.{List, [], ◌∷◌, map}
use mathlib.Core.Bool.{true, false, not, cond}
use mathlib.Core.Bool as B
use mathlib.Core.Option.{Option}
use native.Mathlib.Omega.{arith}
use lib.ListN.{length, get_or, drop}
use lib.Dec.{eqb}
use lib.Seq.{get_or-drop}
use Rattle.bytes_wire.specs.Parse.{Parse, ok, bad, later, map_parse}
use Rattle.bytes_wire.specs.Number.{number_of}
use Rattle.bytes_wire.specs.Value.{value_of}
use Rattle.bytes_wire.specs.WellFormed.{Bytes, FitValue}
use Rattle.bytes_wire.proofs.Canon.{value_fit, bytes_drop}
use Rattle.bytes_wire.specs.declared.Cause.{Cause}
use Rattle.mir.specs.declared.TypeId.{TypeId}
use Rattle.mir.specs.declared.Value.{Value}
use Rattle.bytes_wire.proofs.Inv.{no_ok, behind, image, later_inv, map_inv, tagged_inv}
use Rattle.mir.specs.MirType.{MirType}
use Rattle.mir.specs.declared.Projection.{Projection}
use Rattle.mir.specs.declared.Projection.TheVariants.{Index, Field, Tuple}
use Rattle.mir.specs.Syntax.{Place}
use Rattle.bytes_field.specs.Decode.{name_id_of, projection_of}
use Rattle.bytes_field.specs.Decode as D
use Rattle.bytes_field.specs.declared.Bounds.{Bounds}
use Rattle.bytes_field.proofs.Laws.{head}
use Rattle.bytes_operands.specs.Fields.{value_size, projection_end, after}
use Rattle.bytes_operands.proofs.Places as P
use Rattle.bytes_operands.proofs.Places.{then, last, list}
use Rattle.bytes_operands.proofs.EachKind.{projection_size, ends}
use Rattle.std.specs.Prelude.{Some, Option as Answered}
use Rattle.mir.specs.contracts.shape.ShapePartialEq.TheImpl.{eq-value}
use Rattle.mir.specs.declared.shape.Shape.{Shape}
use Rattle.mir.specs.Shape.{number_of_shape}
use Rattle.shelf_types.proofs.Numbers.{shape_eq, plain}
use Rattle.shelf_rows.specs.Rows.{Is}
use Rattle.mir.specs.Lookup.{Types, row_of, recorded_type, value_row, shape, is_aggregate}
use Rattle.shelf.specs.Fits.{step_type, place_type}
use Rattle.shelf.specs.Agrees.{pointee, pointed, reached}
use Rattle.shelf_field.specs.Fields.{◌&◌, StepAt, stepping}
use Rattle.shelf_field.proofs.Lines.{lined}
use Rattle.shelf_field.proofs.Standing.{id_field}
use Rattle.shelf_place.specs.Places.{StepsIn, PlaceAt}

-- the value of an Index that stands somewhere fits
abbrev steps : ℕ → List (List ℕ → Parse Projection)
steps next = (λ t. map_parse Index (value_of next t)) ∷ (λ t. map_parse Field (name_id_of t)) ∷ (λ t. map_parse Tuple (number_of 4 t)) ∷ []

pub index_value : (next : ℕ) (t : List ℕ) (at : ℕ) (x : Value) → Bytes t → next ≤ 65536 → StepAt next t at (Index x) → FitValue next x
unfolding projection_of
index_value next t at x y l (stepping n g) = go (get_or (drop at t) 0 0) (tagged_inv (steps next) (drop at t) g).1
  where
    u : List ℕ
    u = drop 1 (drop at t)

    go : (k : ℕ) → get_or (map (λ (f : List ℕ → Parse Projection). later 1 (f u)) (steps next)) k (bad Cause.Undefined 0) ≡ ok (Index x) n → FitValue next x
    go zero h =
        elim (later_inv 1 (map_parse Index (value_of next u)) h) [
          | behind k p e ↦
              elim (map_inv Index (value_of next u) p) [
                | image v i j ↦ let z : x ≡ v = cc in rw z (value_fit next u (bytes_drop (drop at t) 1 (bytes_drop t at y)) i l)
              ]
        ]
    go (suc zero) h =
        elim (later_inv 1 (map_parse Field (name_id_of u)) h) [
          | behind k p e ↦ elim (map_inv Field (name_id_of u) p) [ image v i j ↦ absurd (let z : ◌≡◌ {A = ℕ} 0 1 = cc in omega arith) ]
        ]
    go (suc (suc zero)) h =
        elim (later_inv 1 (map_parse Tuple (number_of 4 u)) h) [
          | behind k p e ↦ elim (map_inv Tuple (number_of 4 u) p) [ image v i j ↦ absurd (let z : ◌≡◌ {A = ℕ} 0 1 = cc in omega arith) ]
        ]
    go (suc (suc (suc k))) h = absurd (no_ok h)

-- the step that is read is the one that stands there
pub step_is : {p q : Projection} → Some p ≡ Some q → q ≡ p
step_is {p} {q} e = let z : q ≡ p = cc in z

-- behind a Pointer, where there is a first step
module _ (next : ℕ) (t : List ℕ) (at n : ℕ) (τ : Types) (o : Option TypeId) where
  pub pointed_first : {r : Option TypeId} (ps : List Projection) → StepsIn next t at ps → length ps ≡ n → (n ≡ 0 → ⊥)
      → ((q : Projection) (qs : List Projection) → StepAt next t at q → StepsIn next t (projection_end t at) qs → length qs ≡ n - 1 → r ≡ pointed τ o (q ∷ qs))
      → r ≡ pointed τ o ps
  pointed_first [] l h z f = absurd (z (sym h))
  pointed_first (q ∷ qs) (w & l) h z f = f q qs w l (omega (arith, h))

-- a base that is no aggregate, and one that is
pub no_aggregate : (k : Shape) (row : Option MirType) {b : B.Bool} → b ≡ eq-value.it k Shape.Other → number_of_shape k ≡ shape row → b ≡ not (is_aggregate row)
no_aggregate k row e f = e ∙ shape_eq k Shape.Other ∙ ap (λ n. eqb n 0) f ∙ plain row

turned : {b : B.Bool} (c : B.Bool) → b ≡ not c → c ≡ not b
turned true e = rw e refl
turned false e = rw e refl

by_base : (τ : Types) (p : Place) {b : B.Bool} → b ≡ not (is_aggregate (value_row τ p.base)) → reached τ p ≡ cond (not b) (place_type τ (recorded_type τ p.base) p.projections) (pointed τ (pointee (value_row τ p.base)) p.projections)
unfolding reached
by_base τ p e = ap (λ c. cond c (place_type τ (recorded_type τ p.base) p.projections) (pointed τ (pointee (value_row τ p.base)) p.projections)) (turned (is_aggregate (value_row τ p.base)) e)

pub reached_pointer : (τ : Types) (p : Place) {b : B.Bool} {r : Option TypeId} → b ≡ not (is_aggregate (row_of τ (recorded_type τ p.base))) → b ≡ true → r ≡ pointed τ (pointee (row_of τ (recorded_type τ p.base))) p.projections → r ≡ reached τ p
unfolding value_row
reached_pointer τ p e z f = f ∙ sym (rw z at (by_base τ p e))

pub reached_aggregate : (τ : Types) (p : Place) {b : B.Bool} {r : Option TypeId} → b ≡ not (is_aggregate (row_of τ (recorded_type τ p.base))) → b ≡ false → r ≡ place_type τ (recorded_type τ p.base) p.projections → r ≡ reached τ p
unfolding value_row
reached_aggregate τ p e z f = f ∙ sym (rw z at (by_base τ p e))

-- a walk along projections: i of n are behind
pub data Walking (τ : Types) (next : ℕ) (t : List ℕ) (whole : Option TypeId) (n here : ℕ) (there : Answered TypeId) (i : ℕ) : Type 0 where
  walking : (ps : List Projection) (o : Option TypeId) → StepsIn next t here ps → length ps + i ≡ n → Is there o → whole ≡ place_type τ o ps → Walking τ next t whole n here there i

pub walking_next : {τ : Types} {next : ℕ} {t : List ℕ} {whole : Option TypeId} {n here i : ℕ} {there : Answered TypeId} {far : ℕ} {to : Answered TypeId} → Walking τ next t whole n here there i → i < n → ((o : Option TypeId) (q : Projection) → Is there o → StepAt next t here q → Is to (step_type (row_of τ o) q)) → far ≡ projection_end t here → Walking τ next t whole n far to (i + 1)
unfolding place_type
walking_next (walking [] o l m r e) h f w = absurd (omega (arith, m))
walking_next {τ} {next} {t} {n} {i} {far = far} (walking (p ∷ ps) o (q & l) m r e) h f w =
    let k : length ps + (i + 1) ≡ n = omega (arith, m) in
    let l' : StepsIn next t far ps = rw w l in
    walking ps (step_type (row_of τ o) p) l' k (f o p r q) e

pub walking_done : {τ : Types} {next : ℕ} {t : List ℕ} {whole : Option TypeId} {n here i : ℕ} {there : Answered TypeId} → Walking τ next t whole n here there i → n ≤ i → Is there whole
unfolding place_type
walking_done (walking [] o l m r e) h = r ∙ sym e
walking_done (walking (p ∷ ps) o l m r e) h = absurd (omega (arith, m))

-- a place, wherever it stands
module _ (b : Bounds) (t : List ℕ) where
  step_field : (p : ℕ) → P.Field t p (projection_of b.next) (StepAt b.next t p) (projection_end t p)
  step_field p =
      record {
        each = λ a n e.
            let z : n ≡ get_or ((1 + value_size (get_or t (p + 1) 0)) ∷ 3 ∷ 5 ∷ []) (get_or t p 0) 5 = rw (get_or-drop p t 1 0, head t p) at (projection_size b.next (drop p t) e) in
            (stepping n e, rw z (ends p (value_size (get_or t (p + 1) 0)) (get_or t p 0)));
      }

  pub place_field : {p : ℕ} → P.Field t p (D.place_of b) (PlaceAt b.next t p) (after (projection_end t) (get_or t (p + 2) 0) (p + 3))
  place_field {p} =
      let z : p + 2 + 1 ≡ p + 3 = omega arith in
      then (id_field b t) (λ v u. last _ (list {Q = StepAt b.next t} {end = projection_end t} step_field b.projections (p + 2)) (λ ps q.
      (record { base = u; many = q.1; steps = rw z at (lined (λ p x r. r) (λ q. refl) q.0) }, ap (after (projection_end t) (get_or t (p + 2) 0)) z)))
