-- Where types agree (shelf reason 1), the instructions are typed as the runs need.
use mathlib.Core.Path.{◌≡◌, refl, ap, ◌∙◌}
use mathlib.Core.Option.{Option, none, some}
use mathlib.Core.List.{List, [], ◌∷◌}
use mathlib.Core.Bool.{true, false, not, ◌&&◌, ◌||◌}
use mathlib.Core.Bool as B
use lib.Dec.{T}
use Rattle.mir.specs.declared.TypeId.{TypeId}
use Rattle.mir.specs.MirType.{MirType, Felt, Bool, U32, Tuple, Struct, FixedArray, Pointer, Function, Unit, Error, Unknown}
use Rattle.mir.specs.declared.Projection.{Projection}
use Rattle.mir.specs.declared.Projection.TheVariants.{Index, Field}
use Rattle.mir.specs.Syntax.{Place, InstructionKind, Assign, UnaryOp, BinaryOp, Call, Cast, Load, Store, Debug, Nop, Phi}
use Rattle.mir.specs.Syntax.{MakeTuple, ExtractTupleElement, MakeStruct, ExtractStructField, InsertField, InsertTuple, MakeFixedArray, AssertEq, HeapAllocCells}
use Rattle.mir.specs.Lookup.{Types, recorded_type, value_row, is_aggregate}
use Rattle.shelf.specs.Lists.{every}
use Rattle.mir.specs.Parts.{is_pointer}
use Rattle.shelf.specs.Fits.{same_type, fits, place_type, arguments_fit}
use Rattle.shelf.specs.Agrees.{index_fits, pointee, pointed, reached, place_fits, dests_fit, agrees, counted_agrees}
use Rattle.shelf.proofs.Flag.{agrees_aside}
use Rattle.machine_simulation.specs.Typing.{leads_to, typed}
use Rattle.machine_simulation.proofs.Loads.{nowhere}
use Rattle.machine_simulation.proofs.Tools.{both_l, both_r, both, or_l, or_r, split, passes, fails, cond_yes, cond_no}

-- from no type nothing is pointed to
no_pointed : (τ : Types) (ps : List Projection) → pointed τ none ps ≡ none
unfolding pointed
no_pointed τ [] = refl
no_pointed τ (Index x ∷ ps) = nowhere τ ps
no_pointed τ (Field n ∷ ps) = refl
no_pointed τ (Projection.Tuple k ∷ ps) = refl

-- only a Pointer points
no_pointee : (row : Option MirType) → T (not (is_pointer row)) → pointee row ≡ none
unfolding is_pointer pointee
no_pointee none h = refl
no_pointee (some Felt) h = refl
no_pointee (some Bool) h = refl
no_pointee (some U32) h = refl
no_pointee (some (Tuple ts)) h = refl
no_pointee (some (Struct n fs)) h = refl
no_pointee (some (FixedArray t size)) h = refl
no_pointee (some (Pointer t)) h = absurd h
no_pointee (some (Function ps r)) h = refl
no_pointee (some Unit) h = refl
no_pointee (some Error) h = refl
no_pointee (some Unknown) h = refl

no_same : (t : TypeId) → T (same_type none (some t)) → ⊥
unfolding same_type
no_same t h = h

-- a place that is reached at a type: its base is a Pointer, or an aggregate that is walked to that type
pub reached_place : (τ : Types) (p : Place) (t : TypeId) → T (same_type (reached τ p) (some t))
    → T (is_pointer (value_row τ p.base) || (is_aggregate (value_row τ p.base) && same_type (place_type τ (recorded_type τ p.base) p.projections) (some t)))
unfolding reached
reached_place τ p t h =
    let row = value_row τ p.base in
    let walked = place_type τ (recorded_type τ p.base) p.projections in
    let behind = pointed τ (pointee row) p.projections in
    elim (split (is_pointer row)) [
      | passes y ↦ or_l (is_pointer row) (is_aggregate row && same_type walked (some t)) y
      | fails y ↦
          or_r (is_pointer row) (is_aggregate row && same_type walked (some t))
          (elim (split (is_aggregate row)) [
            | passes z ↦ both (is_aggregate row) (same_type walked (some t)) z (rw (cond_yes (is_aggregate row) walked behind z) at h)
            | fails z ↦
                let e : behind ≡ none = ap (λ q. pointed τ q p.projections) (no_pointee row y) ∙ no_pointed τ p.projections in
                absurd (no_same t (rw e at (rw (cond_no (is_aggregate row) walked behind z) at h)))
          ])
    ]

-- a Load's base need not be known to be an aggregate; its Index values are
or_weaken : (a b c d e : B.Bool) → T (a || (b && c)) → T d → T e → T (a || (d && (c && e)))
or_weaken true b c d e h k l = tt
or_weaken false b c d e h k l = both d (c && e) k (both c e (both_r b c h) l)

agrees_typed : (τ : Types) (i : InstructionKind) → T (counted_agrees false τ i) → T (typed τ i)
unfolding agrees counted_agrees typed place_fits
agrees_typed τ (Assign d x t) h = h
agrees_typed τ (UnaryOp op d x) h = tt
agrees_typed τ (BinaryOp op d x y) h = tt
agrees_typed τ (Call ds f xs ps rs) h = both_l (arguments_fit τ xs ps) (dests_fit τ ds rs) h
agrees_typed τ (Cast d x t u) h = tt
agrees_typed τ (Load d p t) h =
    let same = same_type (recorded_type τ d) (some t) in
    let place = same_type (reached τ p) (some t) in
    let steps = every (index_fits τ) p.projections in
    let fit : T (place && steps) = both_r same (place && steps) h in
    or_weaken (is_pointer (value_row τ p.base)) (is_aggregate (value_row τ p.base)) (leads_to τ p t) same steps
    (reached_place τ p t (both_l place steps fit)) (both_l same (place && steps) h) (both_r place steps fit)
agrees_typed τ (Store p x t) h =
    let place = same_type (reached τ p) (some t) in
    let steps = every (index_fits τ) p.projections in
    both (fits τ x (some t)) _ (both_l (fits τ x (some t)) (place && steps) h) (reached_place τ p t (both_l place steps (both_r (fits τ x (some t)) (place && steps) h)))
agrees_typed τ (Debug m xs) h = tt
agrees_typed τ Nop h = tt
agrees_typed τ (Phi d t ss) h = tt
agrees_typed τ (MakeTuple d xs) h = h
agrees_typed τ (ExtractTupleElement d x k t) h = h
agrees_typed τ (MakeStruct d fs t) h = h
agrees_typed τ (ExtractStructField d x n t) h = h
agrees_typed τ (InsertField d x n y t) h = h
agrees_typed τ (InsertTuple d x k y t) h = h
agrees_typed τ (MakeFixedArray d xs t c) h = h
agrees_typed τ (AssertEq x y) h = tt
agrees_typed τ (HeapAllocCells d x) h = tt

-- the same for both flags
pub counted_typed : (debug : B.Bool) (τ : Types) (i : InstructionKind) → T (counted_agrees debug τ i) → T (typed τ i)
counted_typed debug τ i h = agrees_typed τ i (agrees_aside debug τ i h)
