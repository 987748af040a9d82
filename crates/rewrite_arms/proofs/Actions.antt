-- What the arms decide, from what they have found.
use Prim.Native.Nat.{ℕ, ◌≤◌, ◌<◌}
use mathlib.Core.Path.{◌≡◌, refl}
use mathlib.Core.List.{List}
use mathlib.Core.Bool.{true, false, cond}
use mathlib.Core.Bool as B
use mathlib.Core.Option.{Option, none, some}
use native.Mathlib.Omega.{arith}
use lib.ListN.{length, set}
use Rattle.mir.specs.declared.Value.{Value}
use Rattle.mir.specs.declared.ValueId.{ValueId}
use Rattle.mir.specs.declared.TypeId.{TypeId}
use Rattle.mir.specs.Lookup.{is_some, on_some}
use Rattle.fold.specs.Family.{Marks}
use Rattle.rewrite.specs.State.{AggStates, insert_state, state_of, replaced}
use Rattle.rewrite.specs.Piece.{Piece, left, tracked}
use Rattle.rewrite.specs.Step.{step_build, step_insert, hand_on, step_assign}
use Rattle.rewrite_parts.specs.Rows.{ValueAt, Rep, given_parts}
use Rattle.rewrite_parts.proofs.Tables.{replaced_set, replaced_past}
use Rattle.rewrite_arms.specs.Decided.{counted_as, assigned_from, Decided, Planned, SourceOf, found, nothing, step_taken}
use Rattle.std.specs.Prelude.{Some, None, Option as Answered}
use Rattle.rewrite_arms.specs.declared.Counted.{Counted}
use Rattle.rewrite_arms.specs.declared.Action.{Action}
use Rattle.rewrite_arms.specs.declared.Plan.{Plan}
use Rattle.rewrite_arms.specs.declared.spot.Spot.{Spot}

-- an untracked value has no parts
pub no_parts : {S : AggStates} {o : Option (List Value)} {r : Answered ValueId} → SourceOf S o r → r ≡ None → o ≡ none
no_parts (found v xs f g) e = absurd (let u : ◌≡◌ {A = ℕ} 0 1 = cc in omega arith)
no_parts (nothing f) e = f

-- a tracked one has those of v
pub data Has (S : AggStates) (o : Option (List Value)) (v : ValueId) : Type 0 where
  has : (xs : List Value) → o ≡ some xs → S v.0 ≡ some xs → Has S o v

pub has_parts : {S : AggStates} {o : Option (List Value)} {r : Answered ValueId} {v : ValueId} → SourceOf S o r → r ≡ Some v → Has S o v
has_parts {S} {o} {r} {v} (found w xs f g) e = let z : v ≡ w = cc in rw z (has xs f g)
has_parts (nothing f) e = absurd (let u : ◌≡◌ {A = ℕ} 0 1 = cc in omega arith)

-- an instruction that stays
pub remains : {next : ℕ} {s : List ℕ} {marks : Marks} {rows : List ℕ} {used : ℕ} {S : AggStates} {stay p : Piece} → p ≡ stay → stay.states ≡ S → Rep next s marks rows used S → Decided next s marks rows S stay p (record { value = Action.Keep; used = used })
remains e f r = record { rep = rw (e, f) r; does = e }

-- one whose dest is tracked
pub tracks : {next : ℕ} {s : List ℕ} {marks : Marks} {rows : List ℕ} {used : ℕ} {S : AggStates} {stay : Piece} (c : Counted) (d : ValueId) (xs : List Value) {p : Piece} → p ≡ tracked (counted_as c) S d xs → Rep next s marks rows used (insert_state S d xs) → Decided next s marks rows S stay p (record { value = Action.Track d c; used = used })
unfolding tracked left
tracks c d xs e r = record { rep = rw e r; does = rw e refl }

-- a struct's build, by whether its parts were found
pub struct_tracks : {next : ℕ} {s : List ℕ} {marks : Marks} {rows : List ℕ} {used : ℕ} {S : AggStates} {stay : Piece} {x : Piece} (d : ValueId) (o : Option (List Value)) → x ≡ step_build S stay d o → true ≡ is_some o → Rep next s marks rows used (given_parts S d o) → Decided next s marks rows S stay x (record { value = Action.Track d Counted.Build; used = used })
unfolding step_build given_parts is_some
struct_tracks d none e g r = absurd (let u : ◌≡◌ {A = ℕ} 0 1 = cc in omega arith)
struct_tracks d (some xs) e g r = tracks Counted.Build d xs e r

pub struct_stays : {next : ℕ} {s : List ℕ} {marks : Marks} {rows : List ℕ} {used : ℕ} {S : AggStates} {stay : Piece} {x : Piece} (d : ValueId) (o : Option (List Value)) → x ≡ step_build S stay d o → stay.states ≡ S → false ≡ is_some o → Rep next s marks rows used (given_parts S d o) → Decided next s marks rows S stay x (record { value = Action.Keep; used = used })
unfolding step_build given_parts is_some
struct_stays d none e f g r = remains e f r
struct_stays d (some xs) e f g r = absurd (let u : ◌≡◌ {A = ℕ} 0 1 = cc in omega arith)

module _ {next : ℕ} {s facts : List ℕ} {S : AggStates} {stay : Piece} {p : Spot} where
  -- nothing is planned
  pub plans_keep : {x : Piece} → x ≡ stay → Planned next s facts S stay p x Plan.Keep
  plans_keep e = record { goes = e; dest = λ f. absurd (f refl) }

  -- the build of a struct
  pub struct_keeps : (o : Option (List Value)) → o ≡ none → Planned next s facts S stay p (step_build S stay p.dest o) Plan.Keep
  unfolding step_build
  struct_keeps o e = plans_keep (rw e refl)

  -- an insert
  pub insert_stays : (k : ℕ) (x y : Value) → state_of S x ≡ none → Planned next s facts S stay p (step_insert S stay p.dest (on_some (state_of S x) (λ xs. replaced xs k y))) Plan.Keep
  unfolding step_insert on_some
  insert_stays k x y e = plans_keep (rw e refl)

  pub insert_past : (k : ℕ) (x y : Value) (xs : List Value) → state_of S x ≡ some xs → length xs ≤ k → Planned next s facts S stay p (step_insert S stay p.dest (on_some (state_of S x) (λ xs. replaced xs k y))) Plan.Keep
  unfolding step_insert on_some
  insert_past k x y xs e h = plans_keep (rw (e, replaced_past xs k y h) refl)

  module _ (d : p.dest.0 < next) where
    pub insert_replaces : {place : ℕ} (k : ℕ) (x y : Value) (v : ValueId) (xs : List Value) → state_of S x ≡ some xs → S v.0 ≡ some xs → k < length xs → ValueAt next s place y → Planned next s facts S stay p (step_insert S stay p.dest (on_some (state_of S x) (λ xs. replaced xs k y))) (Plan.Replace v k place)
    unfolding step_insert on_some
    insert_replaces k x y v xs e f h w =
        record {
          goes = record { parts = xs; own = f; new = set xs k y; part = y; stands = w; changed = replaced_set xs k y h; piece = rw (e, replaced_set xs k y h) refl };
          dest = λ q. d;
        }

    -- a value's row is shared
    plans_share : {x : Piece} (v : ValueId) (c : Counted) (xs : List Value) → S v.0 ≡ some xs → x ≡ tracked (counted_as c) S p.dest xs → Planned next s facts S stay p x (Plan.Share v c)
    plans_share v c xs f e = record { goes = record { parts = xs; own = f; piece = e }; dest = λ q. d }

    -- an Assign
    pub assign_shares : (v : ValueId) (o : Option (List Value)) (xs : List Value) → o ≡ some xs → S v.0 ≡ some xs → Planned next s facts S stay p (step_assign S stay p.dest o) (Plan.Share v Counted.Assign)
    unfolding step_assign
    assign_shares v o xs e f = plans_share v Counted.Assign xs f (rw e refl)

    -- a part that is there
    pub take_assigns : {place : ℕ} (whole : B.Bool) (t : TypeId) (o : Option Value) (x : Value) → o ≡ some x → cond whole (state_of S x) none ≡ none → ValueAt next s place x → Planned next s facts S stay p (step_taken whole S stay p.dest t o) (Plan.Assign place t)
    unfolding step_taken hand_on
    take_assigns whole t o x e f v = record { goes = assigned_from x v (rw (e, f) refl); dest = λ q. d }

    pub take_shares : (whole : B.Bool) (t : TypeId) (o : Option Value) (x : Value) (v : ValueId) (xs : List Value) → o ≡ some x → cond whole (state_of S x) none ≡ some xs → S v.0 ≡ some xs → Planned next s facts S stay p (step_taken whole S stay p.dest t o) (Plan.Share v Counted.Extract)
    unfolding step_taken hand_on
    take_shares whole t o x v xs e f g = plans_share v Counted.Extract xs g (rw (e, f) refl)

  -- an Assign of an untracked value, and a part that is not there
  pub assign_stays : (o : Option (List Value)) → o ≡ none → Planned next s facts S stay p (step_assign S stay p.dest o) Plan.Keep
  unfolding step_assign
  assign_stays o e = plans_keep (rw e refl)

  pub take_stays : (whole : B.Bool) (t : TypeId) (o : Option Value) → o ≡ none → Planned next s facts S stay p (step_taken whole S stay p.dest t o) Plan.Keep
  unfolding step_taken
  take_stays whole t o e = plans_keep (rw e refl)
