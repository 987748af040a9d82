-- Laws of the types asked for.
use Prim.Native.Nat.{ℕ, zero, suc, ◌*◌, ◌≤◌, ◌<◌}
use mathlib.Core.Path.{◌≡◌, refl, ap, ◌∙◌, sym}
use mathlib.Core.List.{List, [], ◌∷◌}
use mathlib.Core.Bool.{true, false, cond}
use mathlib.Core.Bool as B
use mathlib.Core.Option.{Option, none, some}
use native.Mathlib.Omega.{arith}
use borrow.Author.Tests.{eqb-true, eqb-false}
use lib.ListN.{length, get_or, get_elem?, drop}
use lib.Dec.{ltb, eqb}
use denote.Enum.Bare.{sameb}
use Rattle.bytes_wire.specs.Number.{at16}
use Rattle.mir.specs.declared.shape.Shape.{Shape}
use Rattle.mir.specs.contracts.shape.Shape.{the_type}
use Rattle.mir.specs.Shape.{number_of_shape}
use Rattle.mir.specs.declared.ValueId.{ValueId}
use Rattle.mir.specs.declared.TypeId.{TypeId}
use Rattle.mir.specs.declared.Value.{Value}
use Rattle.mir.specs.Operand.{operand_of}
use Rattle.bytes_field.specs.declared.Bounds.{Bounds}
use Rattle.mir.specs.MirType.{MirType, Felt, Bool, U32, Tuple, Struct, FixedArray, Pointer, Function, Unit, Error, Unknown}
use Rattle.bytes_sections.specs.Index.{recorded_number, recorded_from}
use Rattle.mir.specs.Lookup.{is_some, on_some, Types, row_of, recorded_type, shape, is_tuple, is_struct, is_array, is_aggregate}
use Rattle.fold.specs.Tables.{Known}
use Rattle.rewrite.specs.State.{AggStates, state_of}
use Rattle.rewrite.specs.Rebuild.{Wanted, one_value, aggregate_type, return_type}
use Rattle.rewrite.specs.Deep.{own_type, wanted_own}
use Rattle.bytes_wire.specs.WellFormed.{Bytes}
use Rattle.bytes_wire.proofs.Canon.{value_fit, bytes_drop}
use Rattle.rewrite_parts.specs.Rows.{ValueAt, stands}
use Rattle.rewrite_progress.specs.Ground.{Ground}
use Rattle.rewrite_wanted.specs.declared.Asks.{Asks}
use Rattle.std.specs.Prelude.{Some, None}
use Rattle.rewrite_wanted.specs.Asked.{asked_at, asked_list, Told, stays, build}

-- an aggregate has a shape
agg_some : (o : Option MirType) → (shape o ≡ 0 → ⊥) → is_aggregate o ≡ true
unfolding is_aggregate is_tuple is_struct is_array shape
agg_some none h = absurd (h refl)
agg_some (some Felt) h = absurd (h refl)
agg_some (some Bool) h = absurd (h refl)
agg_some (some U32) h = absurd (h refl)
agg_some (some (Tuple ts)) h = refl
agg_some (some (Struct n fs)) h = refl
agg_some (some (FixedArray t k)) h = refl
agg_some (some (Pointer t)) h = absurd (h refl)
agg_some (some (Function ps r)) h = absurd (h refl)
agg_some (some Unit) h = absurd (h refl)
agg_some (some Error) h = absurd (h refl)
agg_some (some Unknown) h = absurd (h refl)

agg_none : (o : Option MirType) → shape o ≡ 0 → is_aggregate o ≡ false
unfolding is_aggregate is_tuple is_struct is_array
agg_none o h = rw h refl

-- only the other types have the shape of none
other_shape : (k : Shape) → sameb the_type k Shape.Other ≡ eqb (number_of_shape k) 0
other_shape Shape.Other = refl
other_shape Shape.Tuple = refl
other_shape Shape.Struct = refl
other_shape Shape.FixedArray = refl

module _ (τ : Types) (w : ℕ) where
  -- a type that is no aggregate is not asked for
  pub none_other : (k : Shape) → sameb the_type k Shape.Other ≡ true → number_of_shape k ≡ shape (get_elem? τ.rows w) → none ≡ aggregate_type τ (record { 0 = w })
  unfolding aggregate_type row_of
  none_other k o e =
      let z : shape (get_elem? τ.rows w) ≡ 0 = sym e ∙ eqb-true _ 0 (sym (other_shape k) ∙ o) in
      rw (agg_none (get_elem? τ.rows w) z) refl

  -- an aggregate is
  pub some_type : (k : Shape) → sameb the_type k Shape.Other ≡ false → number_of_shape k ≡ shape (get_elem? τ.rows w) → some (record { 0 = w }) ≡ aggregate_type τ (record { 0 = w })
  unfolding aggregate_type row_of
  some_type k o e = rw (agg_some (get_elem? τ.rows w) (λ z. eqb-false _ 0 (sym (other_shape k) ∙ o) (e ∙ z))) refl

-- of a recorded type that is there, that it is an aggregate; of none nothing
pub own_some : (τ : Types) (v : ValueId) (u : TypeId) → some u ≡ return_type τ (Value.Operand v) → own_type τ (Value.Operand v) ≡ aggregate_type τ u
unfolding own_type on_some
own_some τ v u e = rw (← e) refl

pub own_none : (τ : Types) (v : ValueId) → none ≡ return_type τ (Value.Operand v) → own_type τ (Value.Operand v) ≡ none
unfolding own_type on_some
own_none τ v e = rw (← e) refl

-- the number of a recorded type tells it
from_number : (n : ℕ) (o : Option TypeId) → n ≡ recorded_number o → recorded_from n ≡ o
from_number n none e = rw e refl
from_number n (some t) e = let z : n ≡ suc t.0 = omega arith in rw z refl

-- the recorded type of an operand
pub recorded_told : (τ : Types) (most : ℕ) (s types table recorded : List ℕ) (v : ValueId) (r : Option TypeId) → Known most s types table τ → table ≡ recorded → v.0 < length τ.recorded → r ≡ recorded_from (get_or recorded v.0 0) → r ≡ return_type τ (Value.Operand v)
unfolding return_type recorded_type
recorded_told τ most s types table recorded v r k e l h =
    let long : v.0 < length table = omega (arith, k.long) in
    h ∙ ap (λ u. recorded_from (get_or u v.0 0)) (sym e) ∙ from_number (get_or table v.0 0) (get_or τ.recorded v.0 none) (k.recorded_types v.0 l long)

no : {A : Type 0} {a : A} → none ≡ some a → ⊥
no {a} e = let z : ◌≡◌ {A = ℕ} 0 1 = cc in omega arith

within : {A : Type 0} (l : List A) (k : ℕ) {a : A} → get_elem? l k ≡ some a → k < length l
within [] k e = absurd (no e)
within (x ∷ l) zero e = omega arith
within (x ∷ l) (suc k) e = let h = within l k e in omega arith

-- a type that is asked for is one of the table
module _ (b : Bounds) (s types table : List ℕ) (τ : Types) (g : Ground b s types table τ) where
  agg_within : (w : ℕ) (u : TypeId) (o : Option MirType) → get_elem? τ.rows w ≡ o → cond (is_aggregate o) (some (record { 0 = w })) none ≡ some u → u.0 < length τ.rows
  unfolding is_aggregate is_tuple is_struct is_array shape
  agg_within w u none e h = absurd (no h)
  agg_within w u (some T) e h = go (is_aggregate (some T)) h
    where
      go : (c : B.Bool) → cond c (some (record { 0 = w })) none ≡ some u → u.0 < length τ.rows
      go true f = let z : u ≡ record { 0 = w } = cc in rw z (within τ.rows w e)
      go false f = absurd (no f)

  listed_within : (w : ℕ) (u : TypeId) (c : B.Bool) → cond c (aggregate_type τ (record { 0 = w })) none ≡ some u → u.0 < length τ.rows
  unfolding aggregate_type row_of
  listed_within w u true h = agg_within w u (get_elem? τ.rows w) refl h
  listed_within w u false h = absurd (no h)

  own_within : (u : TypeId) (o : Option TypeId) → on_some o (aggregate_type τ) ≡ some u → u.0 < length τ.rows
  unfolding on_some aggregate_type row_of
  own_within u none h = absurd (no h)
  own_within u (some w) h = agg_within w.0 u (get_elem? τ.rows w.0) refl h

  pub asked_within : (t : List ℕ) (asks : Asks) (i : ℕ) (v : ValueId) (u : TypeId) → asked_at τ t asks i (Value.Operand v) ≡ some u → u.0 < length τ.rows
  unfolding return_type recorded_type own_type
  asked_within t (Asks.Types at n) i v u h = listed_within (at16 (drop at t) (2 * i)) u (ltb i n) h
  asked_within t Asks.Recorded i v u h = rw g.rows (g.typed v.0 u h)
  asked_within t Asks.Own i v u h = own_within u (recorded_type τ v) h

module _ (τ : Types) (S : AggStates) where
  -- a value that is no operand stays
  pub unread_stays : (x : Value) (o : Option TypeId) → operand_of x ≡ None → Told τ S x o None
  unfolding one_value state_of
  unread_stays (Value.Literal l) none e = stays (λ n rest. refl)
  unread_stays (Value.Literal l) (some t) e = stays (λ n rest. refl)
  unread_stays Value.Error none e = stays (λ n rest. refl)
  unread_stays Value.Error (some t) e = stays (λ n rest. refl)
  unread_stays (Value.Operand v) o e = absurd (let z : ◌≡◌ {A = ℕ} 0 1 = cc in omega arith)

  -- so does one that is not tracked
  pub untracked_stays : (v : ValueId) (o : Option TypeId) → is_some (S v.0) ≡ false → Told τ S (Value.Operand v) o None
  unfolding one_value state_of is_some
  untracked_stays v o e = go (S v.0) refl e o
    where
      go : (z : Option (List Value)) → S v.0 ≡ z → is_some z ≡ false → (o : Option TypeId) → Told τ S (Value.Operand v) o None
      go none f h none = stays (λ n rest. refl)
      go none f h (some t) = stays (λ n rest. rw f refl)
      go (some xs) f h o = absurd (let u : ◌≡◌ {A = ℕ} 0 1 = cc in omega arith)

  -- and one of which no type is asked
  pub unasked_stays : (v : ValueId) (o : Option TypeId) → none ≡ o → Told τ S (Value.Operand v) o None
  unfolding one_value state_of
  unasked_stays v o e = rw (← e) (stays (λ n rest. refl))

  -- any other is rebuilt
  pub tracked_build : (v : ValueId) (u : TypeId) (o : Option TypeId) → is_some (S v.0) ≡ true → some u ≡ o → (o ≡ some u → u.0 < length τ.rows) → Told τ S (Value.Operand v) o (Some (record { value = v; named = u }))
  unfolding is_some
  tracked_build v u o h e l = go (S v.0) refl h
    where
      go : (z : Option (List Value)) → S v.0 ≡ z → is_some z ≡ true → Told τ S (Value.Operand v) o (Some (record { value = v; named = u }))
      go none f k = absurd (let w : ◌≡◌ {A = ℕ} 0 1 = cc in omega arith)
      go (some xs) f k = build v u xs refl (sym e) f (l (sym e))

-- the value that is read
pub is_read : (x : Value) {v : ValueId} → operand_of x ≡ Some v → x ≡ Value.Operand v
is_read (Value.Literal l) e = absurd (let z : ◌≡◌ {A = ℕ} 0 1 = cc in omega arith)
is_read (Value.Operand v) e = cc
is_read Value.Error e = absurd (let z : ◌≡◌ {A = ℕ} 0 1 = cc in omega arith)

-- an operand that was read is one of the values there are
pub operand_below : (next : ℕ) (t : List ℕ) (at : ℕ) (v : ValueId) → Bytes t → next ≤ 256 → ValueAt next t at (Value.Operand v) → v.0 < next
operand_below next t at v h l (stands n e) = (value_fit next (drop at t) (bytes_drop t at h) e (omega arith)).0

-- where each value's own type is asked for, the list is wanted so
pub asked_own : (τ : Types) (t : List ℕ) (i : ℕ) (xs : List Value) → asked_list τ t Asks.Own i xs ≡ wanted_own τ xs
unfolding asked_list wanted_own
asked_own τ t i [] = refl
asked_own τ t i (x ∷ xs) = ap (λ (ws : List Wanted). record { value = x; at = own_type τ x } ∷ ws) (asked_own τ t (suc i) xs)
