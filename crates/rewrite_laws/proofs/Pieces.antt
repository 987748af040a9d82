-- What a step puts out fits, and so do the parts it tracks.
use Prim.Native.Nat.{ℕ, ◌+◌, ◌≤◌, ◌<◌, zero-le}
use mathlib.Core.Path.{◌≡◌, refl, ◌∙◌}
use mathlib.Core.List.{List, [], ◌∷◌}
use mathlib.Core.Bool.{true, false, cond}
use mathlib.Core.Bool as B
use mathlib.Core.Option.{Option, none, some, none-ne-some}
use native.Mathlib.Omega.{arith}
use lib.ListN.{length, get_elem?}
use Rattle.bytes_wire.specs.WellFormed.{FitValue}
use Rattle.mir.specs.declared.ValueId.{ValueId}
use Rattle.mir.specs.declared.TypeId.{TypeId}
use Rattle.mir.specs.declared.Value.{Value}
use Rattle.mir.specs.MirType.{MirType, Felt, Bool, U32, Tuple, Struct, FixedArray, Pointer, Function, Unit, Error, Unknown}
use Rattle.bytes_types.specs.WellFormed.{FitMirType}
use Rattle.mir.specs.Syntax.{Place, FieldInit, Meta, Instruction, Call}
use Rattle.mir.specs.Reads.{is_phi}
use Rattle.bytes_field.specs.declared.Bounds.{Bounds}
use Rattle.bytes_laws.specs.WellFormed.{FitType, FitNews, FitInit, FitMeta, FitPlace, FitKind}
use Rattle.mir.specs.Lists.{Each}
use Rattle.mir.specs.Lookup.{Types, row_of, recorded_type, value_row, is_struct, struct_fields_of, on_some}
use Rattle.mir.specs.Parts.{from_struct_fields, struct_parts, or_else, struct_row}
use Rattle.rewrite.specs.declared.Counts.{Counts}
use Rattle.rewrite.specs.State.{AggStates, state_of, replaced, chain}
use Rattle.rewrite.specs.Rebuild.{Rebuilt, Wanted, one_value, keep_value, rebuild_value, rebuild_all, aggregate_type, wanted_arguments}
use Rattle.rewrite.specs.Deep.{wanted_own, rebuild_deep}
use Rattle.rewrite.specs.Readings.{readings, with_readings}
use Rattle.rewrite.specs.Piece.{Piece, kept, left, tracked, assigned}
use Rattle.rewrite.specs.Stays.{store_rebuilt, store_kept, step_call, guarded, kept_behind, stays_second}
use Rattle.rewrite.specs.Step.{step_build, folded_parts, step_insert, hand_on, step_extract, step_loaded, step_load, step_store, step_assign}
use Rattle.rewrite_laws.proofs.Wider.{Wider, kind_wider}
use Rattle.rewrite_laws.proofs.Parts.{Parts, FitStates, Holds, insert_fit, state_fit, on_some_lem, Any, holds_any, element_fit, replaced_fit, chain_fit, fields_fit}
use Rattle.rewrite_laws.proofs.Rebuilt.{Loose, Typed, all_fit, arguments_fit_lem, deep_fit}
use Rattle.rewrite_laws.proofs.Readings.{same_dests, with_fit}
use Rattle.bytes_laws_whole.proofs.Whole.{both_lists}

pub record PieceFit (c : Bounds) (p : Piece) : Type 0 where
  pub out : Each (Loose c) p.out
  pub states : FitStates c.list c.next p.states
  pub fresh : Each (FitType c) p.fresh

module _ (b c : Bounds) (w : Wider b c) (τ : Types) (g : Typed c τ) where
  abbrev fit : Value → Type 0
  fit x = FitValue c.next x

  abbrev States : AggStates → Type 0
  States S = FitStates c.list c.next S

  abbrev PartsFit : List Value → Type 0
  PartsFit xs = Parts c.list c.next xs

  -- an instruction of the input
  pub kept_loose : (seen : List B.Bool) (i : Instruction) → FitMeta i.meta → is_phi i.kind ≡ false → FitKind b seen i.kind → Loose c i
  kept_loose seen i m o h = record { beside = m; other = o; fits = λ marks n. kind_wider b c w seen i.kind h marks n }

  abbrev OneFits : Instruction → Type 0
  OneFits i = Loose c i

  pub piece_kept : (S : AggStates) (i : Instruction) → States S → OneFits i → PieceFit c (kept S i)
  unfolding kept
  piece_kept S i h l = record { out = (l, tt); states = h; fresh = tt }

  piece_tracked : (k : Counts) (S : AggStates) (d : ValueId) (xs : List Value) → States S → PartsFit xs → PieceFit c (tracked k S d xs)
  unfolding tracked left
  piece_tracked k S d xs h p = record { out = tt; states = insert_fit c.list c.next S d xs h p; fresh = tt }

  piece_left : (k : Counts) (ds : List ValueId) (S : AggStates) → States S → PieceFit c (left k ds S)
  unfolding left
  piece_left k ds S h = record { out = tt; states = h; fresh = tt }

  piece_assigned : (k : Counts) (S : AggStates) (d : ValueId) (x : Value) (t : TypeId) → States S → fit x → FitType c t → PieceFit c (assigned k S d x t)
  unfolding assigned
  piece_assigned k S d x t h p q = record { out = (record { beside = (tt, tt, tt); other = refl; fits = λ m n. (n.0, p, q) }, tt); states = h; fresh = tt }

  pub folded_fit : (f : B.Bool) (o : Option (List Value)) → Holds PartsFit o → Holds PartsFit (folded_parts f o)
  unfolding folded_parts
  folded_fit true o p = p
  folded_fit false o p = tt

  module _ (S : AggStates) (h : States S) where
    -- a part of a tracked value
    pub part_of : (x : Value) (k : ℕ) → Holds fit (on_some (state_of S x) (λ xs. get_elem? xs k))
    part_of x k = on_some_lem c.list c.next PartsFit fit (state_of S x) (λ xs. get_elem? xs k) (state_fit c.list c.next S x h) (λ xs p. element_fit c.list c.next xs k p.1)

    -- a tracked value with a part replaced
    pub put_of : (x : Value) (k : ℕ) (y : Value) → fit y → Holds PartsFit (on_some (state_of S x) (λ xs. replaced xs k y))
    put_of x k y p = on_some_lem c.list c.next PartsFit PartsFit (state_of S x) (λ xs. replaced xs k y) (state_fit c.list c.next S x h) (λ xs q. replaced_fit c.list c.next xs k y q p)

    -- a tracked value, where the type is an aggregate
    pub state_at : (t : TypeId) (x : Value) → Holds PartsFit (on_some (aggregate_type τ t) (λ u. state_of S x))
    state_at t x = on_some_lem c.list c.next (Any c.list c.next) PartsFit (aggregate_type τ t) (λ u. state_of S x) (holds_any c.list c.next (aggregate_type τ t)) (λ u a. state_fit c.list c.next S x h)

  -- a piece from number n on fits, where the numbers it takes are below the next value
  abbrev pub Low : ℕ → Piece → Type 0
  Low n p = n + length p.fresh ≤ c.next → PieceFit c p

  -- arms, whatever stands where the instruction stays
  module _ (S : AggStates) (h : States S) (n : ℕ) (stay : Piece) (l : Low n stay) where
    pub build_fit : (d : ValueId) (o : Option (List Value)) → Holds PartsFit o → Low n (step_build S stay d o)
    unfolding step_build
    build_fit d none p z = l z
    build_fit d (some xs) p z = piece_tracked _ S d xs h p

    pub insert_piece : (d : ValueId) (o : Option (List Value)) → Holds PartsFit o → Low n (step_insert S stay d o)
    unfolding step_insert
    insert_piece d none p z = l z
    insert_piece d (some xs) p z = piece_tracked _ S d xs h p

    hand_fit : (d : ValueId) (t : TypeId) (x : Value) (o : Option (List Value)) → FitType c t → fit x → Holds PartsFit o → PieceFit c (hand_on S d t x o)
    unfolding hand_on
    hand_fit d t x none q p r = piece_assigned _ S d x t h p q
    hand_fit d t x (some xs) q p r = piece_tracked _ S d xs h r

    pub extract_fit : (d : ValueId) (t : TypeId) (o : Option Value) → FitType c t → Holds fit o → Low n (step_extract S stay d t o)
    unfolding step_extract
    extract_fit d t none q p z = l z
    extract_fit d t (some x) q p z = hand_fit d t x (state_of S x) q p (state_fit c.list c.next S x h)

    loaded_fit : (d : ValueId) (t : TypeId) (o : Option Value) → FitType c t → Holds fit o → Low n (step_loaded τ S stay d t o)
    unfolding step_loaded
    loaded_fit d t none q p z = l z
    loaded_fit d t (some x) q p z = hand_fit d t x (on_some (aggregate_type τ t) (λ u. state_of S x)) q p (state_at S h t x)

    pub load_fit : (d : ValueId) (pl : Place) (t : TypeId) (o : Option ℕ) → pl.base.0 < c.next → FitType c t → Low n (step_load τ S stay d pl t o)
    unfolding step_load
    load_fit d pl t none k q z = l z
    load_fit d pl t (some j) k q z =
        loaded_fit d t (on_some (S pl.base.0) (λ xs. chain τ S (Value.Operand pl.base) pl.projections)) q
        (on_some_lem c.list c.next (Any c.list c.next) fit (S pl.base.0) (λ xs. chain τ S (Value.Operand pl.base) pl.projections) (holds_any c.list c.next (S pl.base.0))
        (λ xs a. chain_fit c.list c.next τ S h (Value.Operand pl.base) pl.projections (k, w.top))) z

    pub store_fit : (o : Option AggStates) → Holds States o → Low n (step_store S stay o)
    unfolding step_store
    store_fit none s z = l z
    store_fit (some S') s z = piece_left _ [] S' s

    pub assign_fit : (d : ValueId) (o : Option (List Value)) → Holds PartsFit o → Low n (step_assign S stay d o)
    unfolding step_assign
    assign_fit d none p z = l z
    assign_fit d (some xs) p z = piece_tracked _ S d xs h p

    pub guarded_fit : (x : B.Bool) (p : Piece) → Low n p → Low n (guarded x stay p)
    unfolding guarded
    guarded_fit true p f z = f z
    guarded_fit false p f z = l z

  -- what stays of an instruction that fits
  module _ (S : AggStates) (h : States S) (n : ℕ) (i : Instruction) (l : OneFits i) where
    -- a Store behind its rebuild
    rebuilt_store : (m : Meta) (pl : Place) (t : TypeId) (r : Rebuilt) (xs : List Value) → FitMeta m → FitPlace c pl → FitType c t → fit Value.Error → Each (Loose c) r.before → Each fit xs → Each (FitType c) r.fresh → PieceFit c (store_rebuilt S m pl t r xs)
    unfolding store_rebuilt kept
    rebuilt_store m pl t r [] a k q e u v y = record { out = (record { beside = a; other = refl; fits = λ z y. (k, tt, q) }, tt); states = h; fresh = tt }
    rebuilt_store m pl t r (x ∷ xs) a k q e u v y =
        record { out = both_lists (Loose c) r.before _ u (record { beside = a; other = refl; fits = λ z y. (k, v.0, q) }, tt); states = h; fresh = y }

    -- its value stands behind the rebuild
    store_fresh : (m : Meta) (pl : Place) (x : Value) (t : TypeId) (rest : ℕ → Rebuilt) (s : Option (List Value)) → let r = one_value τ n x rest (some t) s in (store_rebuilt S m pl t r r.values).fresh ≡ r.fresh
    unfolding one_value keep_value rebuild_value store_rebuilt
    store_fresh m pl x t rest none = refl
    store_fresh m pl x t rest (some xs) = refl

    pub store_kept_fit : (pl : Place) (x : Value) (t : TypeId) (o : Option (List Value)) → FitPlace c pl → FitType c t → fit x → Low n (store_kept τ S n i pl x t o)
    unfolding store_kept rebuild_all
    store_kept_fit pl x t none k q p z = piece_kept S i h l
    store_kept_fit pl x t (some xs) k q p z =
        let ws : List Wanted = record { value = x; at = some t } ∷ [] in
        let r = rebuild_all τ S n ws in
        let e : (store_rebuilt S i.meta pl t r r.values).fresh ≡ r.fresh = store_fresh i.meta pl x t (λ m. rebuild_all τ S m []) (state_of S x) in
        let f = all_fit c w.top τ g S h n ws ((p, q), tt) (rw e at z) in
        rebuilt_store i.meta pl t r r.values l.beside k q tt f.before f.values f.fresh

    -- a Call behind the rebuilds of its arguments
    call_behind : (ds : List ValueId) (f : ℕ) (xs : List Value) (ps rs : List TypeId) (r : Rebuilt) (ts : List TypeId) → r.fresh ≡ ts → ((marks : List B.Bool) → FitNews c marks ds → FitKind c marks (Call ds f xs ps rs)) → length r.values ≡ length xs
        → Each (Loose c) r.before → Each fit r.values → Each (FitType c) ts → PieceFit c (step_call S i ds f ps rs r ts)
    unfolding step_call
    call_behind ds f xs ps rs r [] e k s u v x = piece_kept S i h l
    call_behind ds f xs ps rs r (t ∷ ts) e k s u v x =
        record {
          out = both_lists (Loose c) r.before _ u (
            record {
              beside = (tt, tt, tt);
              other = refl;
              fits = λ m y. let z = k m y in (z.0, z.1, (omega (arith, s, z.2.0), v), z.3, z.4, z.5);
            },
            tt,
          );
          states = h;
          fresh = x;
        }

    call_fresh : (ds : List ValueId) (q : ℕ) (ps rs : List TypeId) (r : Rebuilt) (ts : List TypeId) → (step_call S i ds q ps rs r ts).fresh ≡ ts
    unfolding step_call kept
    call_fresh ds q ps rs r [] = refl
    call_fresh ds q ps rs r (t ∷ ts) = refl

    pub call_fit : (ds : List ValueId) (f : ℕ) (xs : List Value) (ps rs : List TypeId) → ((marks : List B.Bool) → FitNews c marks ds → FitKind c marks (Call ds f xs ps rs)) → Each fit xs → Each (FitType c) ps
        → let r = rebuild_all τ S n (wanted_arguments τ xs ps) in Low n (step_call S i ds f ps rs r r.fresh)
    call_fit ds f xs ps rs k u v z =
        let ws = wanted_arguments τ xs ps in
        let r = rebuild_all τ S n ws in
        let a = arguments_fit_lem c w.top τ g xs ps u v in
        let y = all_fit c w.top τ g S h n ws a.0 (rw (call_fresh ds f ps rs r r.fresh) at z) in
        call_behind ds f xs ps rs r r.fresh refl k (y.same ∙ a.1) y.before y.values y.fresh

    -- edition 2: an instruction behind the rebuilds of what it reads
    pub behind_fit : Each fit (readings i.kind) → Low n (stays_second τ S n i)
    unfolding stays_second kept_behind
    behind_fit q z =
        let r = rebuild_deep τ S n (wanted_own τ (readings i.kind)) in
        let y = deep_fit c w.top τ g S h n (readings i.kind) q z in
        let e = same_dests i.kind r.values in
        let new : Loose c (record { meta = i.meta; kind = with_readings i.kind r.values }) =
        record { beside = l.beside; other = e.1 ∙ l.other; fits = λ m u. with_fit c w.top m i.kind r.values (l.fits m (rw e.0 at u)) y.same y.values } in
        record { out = both_lists (Loose c) r.before _ y.before (new, tt); states = h; fresh = y.fresh }

  -- the fields of a row
  fields_few : (row : Option MirType) (t : ℕ) → ((T : MirType) → row ≡ some T → FitMirType c.list t T) → length (struct_fields_of row) ≤ c.list
  unfolding struct_fields_of
  fields_few none t f = zero-le
  fields_few (some Felt) t f = zero-le
  fields_few (some Bool) t f = zero-le
  fields_few (some U32) t f = zero-le
  fields_few (some (Tuple ts)) t f = zero-le
  fields_few (some (Struct n fs)) t f = (f (Struct n fs) refl).1
  fields_few (some (FixedArray e size)) t f = zero-le
  fields_few (some (Pointer e)) t f = zero-le
  fields_few (some (Function ps r)) t f = zero-le
  fields_few (some Unit) t f = zero-le
  fields_few (some Error) t f = zero-le
  fields_few (some Unknown) t f = zero-le

  row_few : (o : Option TypeId) → length (struct_fields_of (row_of τ o)) ≤ c.list
  unfolding row_of
  row_few none = fields_few none 0 (λ T e. absurd (none-ne-some T e))
  row_few (some t) = fields_few (get_elem? τ.rows t.0) t.0 (λ T e. g.rows t.0 T e)

  or_few : (p q : Option MirType) → length (struct_fields_of p) ≤ c.list → length (struct_fields_of q) ≤ c.list → length (struct_fields_of (or_else p q)) ≤ c.list
  unfolding or_else
  or_few none q a b = b
  or_few (some T) q a b = a

  struct_few : (d : ValueId) (t : TypeId) → length (struct_fields_of (struct_row τ d t)) ≤ c.list
  unfolding struct_row value_row
  struct_few d t = or_few (row_of τ (recorded_type τ d)) (row_of τ (some t)) (row_few (recorded_type τ d)) (row_few (some t))

  pub struct_parts_lem : (d : ValueId) (fs : List FieldInit) (t : TypeId) → Each (FitInit c) fs → Holds PartsFit (struct_parts τ d fs t)
  unfolding struct_parts
  struct_parts_lem d fs t h = at (is_struct (struct_row τ d t)) (few (from_struct_fields fs (struct_fields_of (struct_row τ d t))) (fields_fit c fs (struct_fields_of (struct_row τ d t)) h))
    where
      few : (o : Option (List Value)) → Holds (λ ys. (length ys ≡ length (struct_fields_of (struct_row τ d t))) × Each fit ys) o → Holds PartsFit o
      few none q = tt
      few (some ys) q = (omega (arith, q.0, struct_few d t), q.1)

      at : (x : B.Bool) → Holds PartsFit (from_struct_fields fs (struct_fields_of (struct_row τ d t))) → Holds PartsFit (cond x (from_struct_fields fs (struct_fields_of (struct_row τ d t))) none)
      at true q = q
      at false q = tt
