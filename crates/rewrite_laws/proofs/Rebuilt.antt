-- Rebuilds fit, and so do the values behind them.
use Prim.Native.Nat.{ℕ, zero, suc, ◌+◌, ◌≤◌, ◌<◌, zero-le}
use mathlib.Core.Path.{◌≡◌, refl, ap}
use mathlib.Core.List.{List, [], ◌∷◌, ◌++◌}
use mathlib.Core.Bool.{true, false, cond}
use mathlib.Core.Bool as B
use mathlib.Core.Option.{Option, none, some}
use native.Mathlib.Omega.{arith}
use lib.ListN.{length, get_elem?, take, length-append}
use Rattle.bytes_wire.specs.WellFormed.{FitValue}
use Rattle.mir.specs.declared.ValueId.{ValueId}
use Rattle.mir.specs.declared.TypeId.{TypeId}
use Rattle.mir.specs.declared.NameId.{NameId}
use Rattle.mir.specs.declared.Value.{Value}
use Rattle.mir.specs.MirType.{StructField, MirType, Felt, Bool, U32, Tuple, Struct, FixedArray, Pointer, Function, Unit, Error, Unknown}
use Rattle.bytes_types.specs.WellFormed.{FitFields, FitMirType}
use Rattle.mir.specs.Syntax.{Instruction}
use Rattle.mir.specs.Reads.{dests, is_phi}
use Rattle.bytes_field.specs.declared.Bounds.{Bounds}
use Rattle.bytes_laws.specs.WellFormed.{FitType, FitOption, FitNews, FitInit, FitMeta, FitKind}
use Rattle.mir.specs.Lists.{Each}
use Rattle.mir.specs.Lookup.{Types, row_of, recorded_type, is_aggregate, on_some}
use Rattle.fold.specs.declared.Edition.{Edition}
use Rattle.fold.specs.Family.{Marks}
use Rattle.rewrite.specs.declared.Fault.{Fault}
use Rattle.rewrite.specs.State.{AggStates, state_of}
use Rattle.rewrite.specs.Rebuild.{fitted, named, rebuild_at, Rebuilt, keep_value, rebuild_value, one_value, Wanted, rebuild_all, aggregate_type, wanted_arguments, return_type, wanted_returns}
use Rattle.rewrite.specs.Deep.{own_type, wanted_own, kept_parts, loop_fault, begun, whole_then, Inner, deep_value, deep_values, deep_all, rebuild_deep}
use Rattle.rewrite.specs.Run.{rebuilt_return}
use Rattle.rewrite_laws.proofs.Parts.{Parts, FitStates, Holds, state_fit}
use Rattle.bytes_laws_whole.proofs.Whole.{both_lists}

-- an instruction fits wherever its dests are new; it is no Phi
pub record Loose (c : Bounds) (i : Instruction) : Type 0 where
  pub beside : FitMeta i.meta
  pub other : is_phi i.kind ≡ false
  pub fits : (marks : List B.Bool) → FitNews c marks (dests i.kind) → FitKind c marks i.kind

-- the types of a routine, as its byte form bounds them
pub record Typed (c : Bounds) (τ : Types) : Type 0 where
  pub rows : (t : ℕ) (T : MirType) → get_elem? τ.rows t ≡ some T → FitMirType c.list t T
  pub count : length τ.rows ≤ c.types
  pub recorded : (v : ValueId) → FitOption (FitType c) (recorded_type τ v)

module _ (c : Bounds) (top : c.next ≤ 65536) where
  abbrev fit : Value → Type 0
  fit x = FitValue c.next x

  -- ---- one rebuild

  fitted_fit : (k : ℕ) (xs : List Value) → Each fit xs → (length (fitted k xs) ≡ k) × Each fit (fitted k xs)
  unfolding fitted
  fitted_fit zero xs h = (refl, tt)
  fitted_fit (suc k) [] h = let r = fitted_fit k [] tt in (ap (λ n. suc n) r.0, (tt, r.1))
  fitted_fit (suc k) (x ∷ xs) h = let r = fitted_fit k xs h.1 in (ap (λ n. suc n) r.0, (h.0, r.1))

  named_fit : (own : ℕ) (names : List NameId) (fs : List StructField) (xs : List Value) → FitFields own names fs → Each fit xs → (length (named fs xs) ≡ length fs) × Each (FitInit c) (named fs xs)
  unfolding named
  named_fit own names [] xs f h = (refl, tt)
  named_fit own names (t ∷ ts) [] f h = let r = named_fit own (t.name ∷ names) ts [] f.3 tt in (ap (λ n. suc n) r.0, ((f.0, tt), r.1))
  named_fit own names (t ∷ ts) (x ∷ xs) f h = let r = named_fit own (t.name ∷ names) ts xs f.3 h.1 in (ap (λ n. suc n) r.0, ((f.0, h.0), r.1))

  rebuild_fit : (d : ValueId) (xs : List Value) (t : TypeId) (row : Option MirType) → ((T : MirType) → row ≡ some T → FitMirType c.list t.0 T) → t.0 < c.types → Parts c.list c.next xs
      → Each (Loose c) (rebuild_at d xs t row)
  unfolding rebuild_at
  rebuild_fit d xs t none f l p = tt
  rebuild_fit d xs t (some Felt) f l p = tt
  rebuild_fit d xs t (some Bool) f l p = tt
  rebuild_fit d xs t (some U32) f l p = tt
  rebuild_fit d xs t (some (Tuple ts)) f l p =
      let r = fitted_fit (length ts) xs p.1 in
      (record { beside = (tt, tt, tt); other = refl; fits = λ m n. (n.0, (omega (arith, r.0, (f (Tuple ts) refl).0), r.1)) }, tt)
  rebuild_fit d xs t (some (Struct n fs)) f l p =
      let r = named_fit t.0 [] fs xs (f (Struct n fs) refl).2 p.1 in
      (record { beside = (tt, tt, tt); other = refl; fits = λ m n'. (n'.0, (omega (arith, r.0, (f (Struct n fs) refl).1), r.1), l) }, tt)
  rebuild_fit d xs t (some (FixedArray e size)) f l p =
      let g = f (FixedArray e size) refl in
      (record { beside = (tt, tt, tt); other = refl; fits = λ m n. (n.0, p, omega (arith, g.0, l)) }, tt)
  rebuild_fit d xs t (some (Pointer e)) f l p = tt
  rebuild_fit d xs t (some (Function ps r)) f l p = tt
  rebuild_fit d xs t (some Unit) f l p = tt
  rebuild_fit d xs t (some Error) f l p = tt
  rebuild_fit d xs t (some Unknown) f l p = tt

  -- ---- values in a list

  pub record RebuiltFit (many : ℕ) (r : Rebuilt) : Type 0 where
    pub before : Each (Loose c) r.before
    pub values : Each fit r.values
    pub same : length r.values ≡ many
    pub fresh : Each (FitType c) r.fresh

  module _ (τ : Types) (g : Typed c τ) where
    keep_fit : (x : Value) (many : ℕ) (r : Rebuilt) → fit x → RebuiltFit many r → RebuiltFit (suc many) (keep_value x r)
    unfolding keep_value
    keep_fit x many r p h = record { before = h.before; values = (p, h.values); same = ap (λ n. suc n) h.same; fresh = h.fresh }

    anew_fit : (n : ℕ) (t : TypeId) (xs : List Value) (many : ℕ) (r : Rebuilt) → n < c.next → t.0 < c.types → Parts c.list c.next xs → RebuiltFit many r → RebuiltFit (suc many) (rebuild_value τ n t xs r)
    unfolding rebuild_value row_of
    anew_fit n t xs many r l k p h =
        record {
          before = both_lists (Loose c) (rebuild_at (record { 0 = n }) xs t (get_elem? τ.rows t.0)) r.before (rebuild_fit (record { 0 = n }) xs t (get_elem? τ.rows t.0) (λ T e. g.rows t.0 T e) k p) h.before;
          values = ((l, top), h.values);
          same = ap (λ n. suc n) h.same;
          fresh = (k, h.fresh);
        }

    one_fit : (n : ℕ) (x : Value) (rest : ℕ → Rebuilt) (o : Option TypeId) (s : Option (List Value)) (many : ℕ) → fit x → FitOption (FitType c) o → Holds (Parts c.list c.next) s
        → n + length (one_value τ n x rest o s).fresh ≤ c.next → ((m : ℕ) → m + length (rest m).fresh ≤ c.next → RebuiltFit many (rest m)) → RebuiltFit (suc many) (one_value τ n x rest o s)
    unfolding one_value keep_value rebuild_value
    one_fit n x rest none s many p q h l f = keep_fit x many (rest n) p (f n l)
    one_fit n x rest (some t) none many p q h l f = keep_fit x many (rest n) p (f n l)
    one_fit n x rest (some t) (some xs) many p q h l f = anew_fit n t xs many (rest (suc n)) (omega (arith, l)) q h (f (suc n) (omega (arith, l)))

    -- a wanted value: it fits, and so does its type
    abbrev pub FitWanted : Wanted → Type 0
    FitWanted w = fit w.value × FitOption (FitType c) w.at

    pub all_fit : (S : AggStates) → FitStates c.list c.next S → (n : ℕ) (ws : List Wanted) → Each FitWanted ws → n + length (rebuild_all τ S n ws).fresh ≤ c.next → RebuiltFit (length ws) (rebuild_all τ S n ws)
    unfolding rebuild_all
    all_fit S h n [] e l = record { before = tt; values = tt; same = refl; fresh = tt }
    all_fit S h n (w ∷ ws) e l =
        one_fit n w.value (λ m. rebuild_all τ S m ws) w.at (state_of S w.value) (length ws) e.0.0 e.0.1 (state_fit c.list c.next S w.value h) l
        (λ m k. all_fit S h m ws e.1 k)

    -- ---- what Calls and Returns want

    aggregate_fit : (t : TypeId) → FitType c t → FitOption (FitType c) (aggregate_type τ t)
    unfolding aggregate_type
    aggregate_fit t h = at (is_aggregate (row_of τ (some t)))
      where
        at : (x : B.Bool) → FitOption (FitType c) (cond x (some t) none)
        at true = h
        at false = tt

    pub arguments_fit_lem : (xs : List Value) (ts : List TypeId) → Each fit xs → Each (FitType c) ts → Each FitWanted (wanted_arguments τ xs ts) × (length (wanted_arguments τ xs ts) ≡ length xs)
    unfolding wanted_arguments
    arguments_fit_lem [] ts h k = (tt, refl)
    arguments_fit_lem (x ∷ xs) [] h k = let r = arguments_fit_lem xs [] h.1 tt in (((h.0, tt), r.0), ap (λ n. suc n) r.1)
    arguments_fit_lem (x ∷ xs) (t ∷ ts) h k = let r = arguments_fit_lem xs ts h.1 k.1 in (((h.0, aggregate_fit t k.0), r.0), ap (λ n. suc n) r.1)

    return_fit : (x : Value) → FitOption (FitType c) (return_type τ x)
    unfolding return_type
    return_fit (Value.Literal l) = tt
    return_fit (Value.Operand v) = g.recorded v
    return_fit Value.Error = tt

    returns_fit : (xs : List Value) → Each fit xs → Each FitWanted (wanted_returns τ xs) × (length (wanted_returns τ xs) ≡ length xs)
    unfolding wanted_returns
    returns_fit [] h = (tt, refl)
    returns_fit (x ∷ xs) h = let r = returns_fit xs h.1 in (((h.0, return_fit x), r.0), ap (λ n. suc n) r.1)

    -- a value at its recorded aggregate type
    own_fit : (x : Value) → FitOption (FitType c) (own_type τ x)
    unfolding own_type on_some
    own_fit x = at (return_type τ x) (return_fit x)
      where
        at : (o : Option TypeId) → FitOption (FitType c) o → FitOption (FitType c) (on_some o (aggregate_type τ))
        at none h = tt
        at (some t) h = aggregate_fit t h

    own_wanted : (xs : List Value) → Each fit xs → Each FitWanted (wanted_own τ xs) × (length (wanted_own τ xs) ≡ length xs)
    unfolding wanted_own
    own_wanted [] h = (tt, refl)
    own_wanted (x ∷ xs) h = let r = own_wanted xs h.1 in (((h.0, own_fit x), r.0), ap (λ n. suc n) r.1)

    -- ---- edition 2: parts before the whole

    take_fit : (k : ℕ) (xs : List Value) → Each fit xs → (length (take k xs) ≤ length xs) × Each fit (take k xs)
    take_fit zero xs h = (zero-le, tt)
    take_fit (suc k) [] h = (zero-le, tt)
    take_fit (suc k) (x ∷ xs) h = let r = take_fit k xs h.1 in (omega (arith, r.0), (h.0, r.1))

    taken : (k : ℕ) (xs : List Value) → Parts c.list c.next xs → Parts c.list c.next (take k xs)
    taken k xs h = let r = take_fit k xs h.1 in (omega (arith, r.0, h.0), r.1)

    kept_fit : (row : Option MirType) (xs : List Value) → Parts c.list c.next xs → Parts c.list c.next (kept_parts row xs)
    unfolding kept_parts
    kept_fit none xs h = h
    kept_fit (some Felt) xs h = h
    kept_fit (some Bool) xs h = h
    kept_fit (some U32) xs h = h
    kept_fit (some (Tuple ts)) xs h = taken (length ts) xs h
    kept_fit (some (Struct n fs)) xs h = taken (length fs) xs h
    kept_fit (some (FixedArray e size)) xs h = h
    kept_fit (some (Pointer e)) xs h = h
    kept_fit (some (Function ps r)) xs h = h
    kept_fit (some Unit) xs h = h
    kept_fit (some Error) xs h = h
    kept_fit (some Unknown) xs h = h

    -- values from number n on fit, where the numbers they take are below the next value
    abbrev Low : ℕ → ℕ → Rebuilt → Type 0
    Low n many r = n + length r.fresh ≤ c.next → RebuiltFit many r

    whole_fit : (begins : Option Fault) (n : ℕ) (t : TypeId) (xs : List Value) (k many : ℕ) (p : Rebuilt) (rest : ℕ → Rebuilt) → t.0 < c.types → k ≤ c.list → Low n k p → ((m : ℕ) → Low m many (rest m)) → Low n (suc many) (whole_then τ begins n t xs p rest)
    unfolding whole_then row_of
    whole_fit begins n t xs k many p rest l few f y z =
        let m = n + length p.fresh in
        let r = rest (suc m) in
        let e : length (p.fresh ++ (t ∷ r.fresh)) ≡ length p.fresh + suc (length r.fresh) = length-append p.fresh (t ∷ r.fresh) in
        let a = f (omega (arith, e, z)) in
        let b = y (suc m) (omega (arith, e, z)) in
        let is = rebuild_at (record { 0 = m }) p.values t (get_elem? τ.rows t.0) in
        let one = rebuild_fit (record { 0 = m }) p.values t (get_elem? τ.rows t.0) (λ T e. g.rows t.0 T e) l (omega (arith, a.same, few), a.values) in
        record {
          before = both_lists (Loose c) p.before _ a.before (both_lists (Loose c) is r.before one b.before);
          values = ((omega (arith, e, z), top), b.values);
          same = ap (λ n. suc n) b.same;
          fresh = both_lists (FitType c) p.fresh _ a.fresh (l, b.fresh);
        }

    module _ (S : AggStates) (h : FitStates c.list c.next S) where
      module _ (path : Marks) (inner : Inner) (f : (x : Value) (n : ℕ) (ys : List Value) → Each fit ys → Low n (length ys) (inner x n (wanted_own τ ys))) where
        deep_one : (n : ℕ) (x : Value) (many : ℕ) (rest : ℕ → Rebuilt) (o : Option TypeId) (s : Option (List Value)) → fit x → FitOption (FitType c) o → Holds (Parts c.list c.next) s
            → ((m : ℕ) → Low m many (rest m)) → Low n (suc many) (deep_value τ path inner n x rest o s)
        unfolding deep_value keep_value
        deep_one n x many rest none s p q k r z = keep_fit x many (rest n) p (r n z)
        deep_one n x many rest (some t) none p q k r z = keep_fit x many (rest n) p (r n z)
        deep_one n x many rest (some t) (some xs) p q k r z =
            let ys = kept_fit (row_of τ (some t)) xs k in
            whole_fit (loop_fault path x) n t xs _ many _ rest q ys.0 (f x n _ ys.1) r z

        deep_list : (n : ℕ) (xs : List Value) → Each fit xs → Low n (length xs) (deep_values τ S path inner n (wanted_own τ xs))
        unfolding deep_values wanted_own
        deep_list n [] e z = record { before = tt; values = tt; same = refl; fresh = tt }
        deep_list n (x ∷ xs) e z = deep_one n x (length xs) _ (own_type τ x) (state_of S x) e.0 (own_fit x) (state_fit c.list c.next S x h) (λ m. deep_list m xs e.1) z

      depth_fit : (k : ℕ) (path : Marks) (n : ℕ) (xs : List Value) → Each fit xs → Low n (length xs) (deep_all τ S k path n (wanted_own τ xs))
      unfolding deep_all
      depth_fit zero path n xs e z = let a = own_wanted xs e in rw a.1 at (all_fit S h n (wanted_own τ xs) a.0 z)
      depth_fit (suc k) path n xs e z = deep_list path _ (λ x m ys e. depth_fit k (begun path x) m ys e) n xs e z

      -- what stands behind its readings, in edition 2
      pub deep_fit : (n : ℕ) (xs : List Value) → Each fit xs → n + length (rebuild_deep τ S n (wanted_own τ xs)).fresh ≤ c.next → RebuiltFit (length xs) (rebuild_deep τ S n (wanted_own τ xs))
      unfolding rebuild_deep
      deep_fit n xs e z = depth_fit _ _ n xs e z

      -- a Return's values, by the edition
      pub return_values_fit : (e : Edition) (n : ℕ) (xs : List Value) → Each fit xs → n + length (rebuilt_return e τ S n xs).fresh ≤ c.next → RebuiltFit (length xs) (rebuilt_return e τ S n xs)
      unfolding rebuilt_return
      return_values_fit Edition.First n xs q z = let a = returns_fit xs q in rw a.1 at (all_fit S h n (wanted_returns τ xs) a.0 z)
      return_values_fit Edition.Second n xs q z = deep_fit n xs q z
