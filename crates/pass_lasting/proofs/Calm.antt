-- Rebuilds read what is defined before them: the parts of all that is tracked, and fresh numbers already taken.
use mathlib.Core.Path.{◌≡◌, refl}
use Prim.Native.Nat.{ℕ, zero, suc, ◌+◌, ◌≤◌}
use mathlib.Core.Bool.{Bool, false, ◌&&◌}
use mathlib.Core.Option.{Option, none, some}
use mathlib.Core.List.{List, [], ◌∷◌, ◌++◌}
use native.Mathlib.Omega.{arith}
use lib.Dec.{T, ltb, lt→ltb}
use lib.ListN.{length, length-append, take, replicate}
use Rattle.mir.specs.declared.ValueId.{ValueId}
use Rattle.mir.specs.declared.TypeId.{TypeId}
use Rattle.mir.specs.declared.Value.{Value}
use Rattle.mir.specs.MirType.{StructField, MirType}
use Rattle.mir.specs.MirType as Y
use Rattle.mir.specs.Syntax.{Instruction}
use Rattle.mir.specs.Reads.{operand, operands, init_values}
use Rattle.mir.specs.Lookup.{Types, row_of}
use Rattle.fold.specs.Family.{Marks}
use Rattle.rewrite.specs.declared.Fault.{Fault}
use Rattle.rewrite.specs.State.{AggStates, state_of}
use Rattle.rewrite.specs.Rebuild.{fitted, named, rebuild_at, Rebuilt, keep_value, rebuild_value, one_value, Wanted, rebuild_all}
use Rattle.rewrite.specs.Deep.{wanted_own, kept_parts, loop_fault, begun, Inner, whole_then, deep_value, deep_values, deep_all, rebuild_deep}
use Rattle.shelf.specs.Lists.{every}
use Rattle.shelf.proofs.Both.{every_imp}
use Rattle.machine_simulation.proofs.Tools.{both_l, both_r, both, none_some}
use Rattle.machine_simulation.proofs.Frame.{test_head, test_rest, test_cons}
use Rattle.machine_simulation.proofs.Invariant.{numbered}
use Rattle.machine_simulation.proofs.Rebuilds.{low_low, wanted_values}
use Rattle.machine_simulation.proofs.Deep.{own_values}
use Rattle.pass_lasting.proofs.Vocabulary.{AllParts, early, Calm, CalmBefore}

-- ---- early values

-- what is early stays so at later numbers
pub early_later : (q : ℕ → Bool) (a b : ℕ) → a ≤ b → (v : ValueId) → T (early q a v) → T (early q b v)
early_later q a b le v t = both (ltb v.0 b) (q v.0) (low_low a b v.0 le (both_l (ltb v.0 a) (q v.0) t)) (both_r (ltb v.0 a) (q v.0) t)

-- of many values
pub all_later : (q : ℕ → Bool) (a b : ℕ) → a ≤ b → (vs : List ValueId) → T (every (early q a) vs) → T (every (early q b) vs)
all_later q a b le vs t = every_imp (early q a) (early q b) (early_later q a b le) vs t

-- ---- rebuilds one behind another

-- the same next number, written otherwise
pub calm_to : {q : ℕ → Bool} {n k : ℕ} {is : List Instruction} (m : ℕ) → k ≡ m → Calm q n is k → Calm q n is m
calm_to m e c = rw (← e) c

-- one list behind another
calm_then : {q : ℕ → Bool} {n k m : ℕ} {is js : List Instruction} → Calm q n is k → Calm q k js m → Calm q n (is ++ js) m
calm_then Calm.none d = d
calm_then (Calm.build e r c) d = Calm.build e r (calm_then c d)
calm_then (Calm.bare c) d = Calm.bare (calm_then c d)

-- ---- what one rebuild reads

-- a tuple's parts at another count
fitted_pass : (p : ValueId → Bool) (k : ℕ) (xs : List Value) → T (every p (operands xs)) → T (every p (operands (fitted k xs)))
unfolding fitted
fitted_pass p zero xs h = tt
fitted_pass p (suc k) [] h = fitted_pass p k [] tt
fitted_pass p (suc k) (x ∷ xs) h = test_cons p x (operands (fitted k xs)) (test_head p x (operands xs) h) (fitted_pass p k xs (test_rest p x (operands xs) h))

-- a struct's parts under the names of its fields
named_pass : (p : ValueId → Bool) (fs : List StructField) (xs : List Value) → T (every p (operands xs)) → T (every p (operands (init_values (named fs xs))))
unfolding named
named_pass p [] xs h = tt
named_pass p (f ∷ fs) [] h = named_pass p fs [] tt
named_pass p (f ∷ fs) (x ∷ xs) h =
    test_cons p x (operands (init_values (named fs xs))) (test_head p x (operands xs) h) (named_pass p fs xs (test_rest p x (operands xs) h))

-- one rebuild in front of others, or only its number
at_calm : (q : ℕ → Bool) (n k : ℕ) (xs : List Value) (t : TypeId) (row : Option MirType) (is : List Instruction) → T (every (early q n) (operands xs))
    → Calm q (suc n) is k → Calm q n (rebuild_at (numbered n) xs t row ++ is) k
unfolding rebuild_at
at_calm q n k xs t none is h c = Calm.bare c
at_calm q n k xs t (some Y.Felt) is h c = Calm.bare c
at_calm q n k xs t (some Y.Bool) is h c = Calm.bare c
at_calm q n k xs t (some Y.U32) is h c = Calm.bare c
at_calm q n k xs t (some (Y.Tuple ts)) is h c = Calm.build refl (fitted_pass (early q n) (length ts) xs h) c
at_calm q n k xs t (some (Y.Struct a fs)) is h c = Calm.build refl (named_pass (early q n) fs xs h) c
at_calm q n k xs t (some (Y.FixedArray e size)) is h c = Calm.build refl h c
at_calm q n k xs t (some (Y.Pointer e)) is h c = Calm.bare c
at_calm q n k xs t (some (Y.Function ps r)) is h c = Calm.bare c
at_calm q n k xs t (some Y.Unit) is h c = Calm.bare c
at_calm q n k xs t (some Y.Error) is h c = Calm.bare c
at_calm q n k xs t (some Y.Unknown) is h c = Calm.bare c

-- the first of some values
take_pass : (p : ValueId → Bool) (k : ℕ) (xs : List Value) → T (every p (operands xs)) → T (every p (operands (take k xs)))
take_pass p zero xs h = tt
take_pass p (suc k) [] h = tt
take_pass p (suc k) (x ∷ xs) h = test_cons p x (operands (take k xs)) (test_head p x (operands xs) h) (take_pass p k xs (test_rest p x (operands xs) h))

-- the parts that a rebuild keeps
kept_pass : (p : ValueId → Bool) (row : Option MirType) (xs : List Value) → T (every p (operands xs)) → T (every p (operands (kept_parts row xs)))
unfolding kept_parts
kept_pass p none xs h = h
kept_pass p (some Y.Felt) xs h = h
kept_pass p (some Y.Bool) xs h = h
kept_pass p (some Y.U32) xs h = h
kept_pass p (some (Y.Tuple ts)) xs h = take_pass p (length ts) xs h
kept_pass p (some (Y.Struct n fs)) xs h = take_pass p (length fs) xs h
kept_pass p (some (Y.FixedArray e size)) xs h = h
kept_pass p (some (Y.Pointer e)) xs h = h
kept_pass p (some (Y.Function ps r)) xs h = h
kept_pass p (some Y.Unit) xs h = h
kept_pass p (some Y.Error) xs h = h
kept_pass p (some Y.Unknown) xs h = h

-- ---- rebuilds of values in order

module _ (τ : Types) (S : AggStates) (q : ℕ → Bool) (low : ℕ) (fresh : (v : ℕ) → low ≤ v → T (q v)) (parts : AllParts (λ v. ltb v low && q v) S) where
  -- the parts of a tracked value are early
  parts_early : (x : Value) (xs : List Value) → state_of S x ≡ some xs → T (every (early q low) (operands xs))
  unfolding state_of
  parts_early (Value.Literal l) xs e = absurd (none_some e)
  parts_early (Value.Operand v) xs e = parts v.0 xs e
  parts_early Value.Error xs e = absurd (none_some e)

  -- one value kept in front of others
  keep_calm : (n : ℕ) (x : Value) (vs : List Value) (r : Rebuilt) → low ≤ n → CalmBefore q low n vs r → CalmBefore q low n (x ∷ vs) (keep_value x r)
  unfolding keep_value
  keep_calm n x vs r le h =
      let m = n + length r.fresh in
      record {
        before = h.before;
        values = λ t. test_cons (early q m) x (operands r.values) (all_later q low m (omega arith) (operand x []) (test_head (early q low) x (operands vs) t))
            (h.values (test_rest (early q low) x (operands vs) t));
      }

  -- a fresh number in front of others, behind the others' rebuilds
  fresh_front : (n m : ℕ) (x : Value) (vs : List Value) (r : Rebuilt) → low ≤ n → suc n + length r.fresh ≡ m → CalmBefore q low (suc n) vs r
      → T (every (early q low) (operands (x ∷ vs))) → T (every (early q m) (numbered n ∷ operands r.values))
  fresh_front n m x vs r le e h t =
      both (early q m (numbered n)) (every (early q m) (operands r.values)) (both (ltb n m) (q n) (lt→ltb n m (omega (arith, e))) (fresh n le))
      (rw e at (h.values (test_rest (early q low) x (operands vs) t)))

  -- one value, kept or rebuilt, in front of others
  one_calm : (n : ℕ) (x : Value) (vs : List Value) (rest : ℕ → Rebuilt) → low ≤ n → ((m : ℕ) → low ≤ m → CalmBefore q low m vs (rest m))
      → (o : Option TypeId) (s : Option (List Value)) → state_of S x ≡ s → CalmBefore q low n (x ∷ vs) (one_value τ n x rest o s)
  unfolding one_value rebuild_value
  one_calm n x vs rest le h none s e = keep_calm n x vs (rest n) le (h n le)
  one_calm n x vs rest le h (some t) none e = keep_calm n x vs (rest n) le (h n le)
  one_calm n x vs rest le h (some t) (some xs) e =
      let r = rest (suc n) in
      let c = h (suc n) (omega arith) in
      let m = n + suc (length r.fresh) in
      record {
        before = at_calm q n m xs t (row_of τ (some t)) r.before (all_later q low n le (operands xs) (parts_early x xs e)) (calm_to m (omega arith) c.before);
        values = fresh_front n m x vs r le (omega arith) c;
      }

  -- flat rebuilds, at whatever types
  pub rebuilt_calm : (ws : List Wanted) → (n : ℕ) → low ≤ n → CalmBefore q low n (wanted_values ws) (rebuild_all τ S n ws)
  unfolding rebuild_all
  rebuilt_calm [] n le = record { before = calm_to _ (omega arith) Calm.none; values = λ t. tt }
  rebuilt_calm (w ∷ ws) n le =
      one_calm n w.value (wanted_values ws) (λ m. rebuild_all τ S m ws) le (λ m l. rebuilt_calm ws m l) w.at (state_of S w.value) refl

  -- ---- to any depth

  -- the parts p, then the whole, then the rest
  whole_calm : (begins : Option Fault) (n : ℕ) (x : Value) (t : TypeId) (ys zs vs : List Value) (p : Rebuilt) (rest : ℕ → Rebuilt) → low ≤ n
      → T (every (early q low) (operands zs)) → CalmBefore q low n zs p → ((m : ℕ) → low ≤ m → CalmBefore q low m vs (rest m))
      → CalmBefore q low n (x ∷ vs) (whole_then τ begins n t ys p rest)
  unfolding whole_then
  whole_calm begins n x t ys zs vs p rest le z c h =
      let m = n + length p.fresh in
      let r = rest (suc m) in
      let d = h (suc m) (omega arith) in
      let k = n + length (p.fresh ++ (t ∷ r.fresh)) in
      let e : length (p.fresh ++ (t ∷ r.fresh)) ≡ length p.fresh + suc (length r.fresh) = rw length-append in
      record {
        before = calm_then c.before (at_calm q m k p.values t (row_of τ (some t)) r.before (c.values z) (calm_to k (omega (arith, e)) d.before));
        values = fresh_front m k x vs r (omega arith) (omega (arith, e)) d;
      }

  module _ (path : Marks) (inner : Inner) (h : (x : Value) (n : ℕ) (ys : List Value) → low ≤ n → CalmBefore q low n ys (inner x n (wanted_own τ ys))) where
    -- one value with its parts before it, in front of others
    deep_one_calm : (n : ℕ) (x : Value) (vs : List Value) (rest : ℕ → Rebuilt) → low ≤ n → ((m : ℕ) → low ≤ m → CalmBefore q low m vs (rest m))
        → (o : Option TypeId) (s : Option (List Value)) → state_of S x ≡ s → CalmBefore q low n (x ∷ vs) (deep_value τ path inner n x rest o s)
    unfolding deep_value
    deep_one_calm n x vs rest le f none s e = keep_calm n x vs (rest n) le (f n le)
    deep_one_calm n x vs rest le f (some t) none e = keep_calm n x vs (rest n) le (f n le)
    deep_one_calm n x vs rest le f (some t) (some xs) e =
        let ys = kept_parts (row_of τ (some t)) xs in
        whole_calm (loop_fault path x) n x t xs ys vs (inner x n (wanted_own τ ys)) rest le
        (kept_pass (early q low) (row_of τ (some t)) xs (parts_early x xs e)) (h x n ys le) f

    -- values in order
    deep_values_calm : (ws : List Wanted) (n : ℕ) → low ≤ n → CalmBefore q low n (wanted_values ws) (deep_values τ S path inner n ws)
    unfolding deep_values
    deep_values_calm [] n le = record { before = calm_to _ (omega arith) Calm.none; values = λ t. tt }
    deep_values_calm (w ∷ ws) n le =
        deep_one_calm n w.value (wanted_values ws) (λ m. deep_values τ S path inner m ws) le (λ m l. deep_values_calm ws m l) w.at (state_of S w.value) refl

  -- as deep as a number says
  deep_all_calm : (k : ℕ) (path : Marks) (ws : List Wanted) (n : ℕ) → low ≤ n → CalmBefore q low n (wanted_values ws) (deep_all τ S k path n ws)
  unfolding deep_all
  deep_all_calm zero path ws n le = rebuilt_calm ws n le
  deep_all_calm (suc k) path ws n le =
      deep_values_calm path (λ x. deep_all τ S k (begun path x))
      (λ x m ys l. rw (own_values τ ys) at (deep_all_calm k (begun path x) (wanted_own τ ys) m l)) ws n le

  -- to any depth
  pub deep_calm : (ws : List Wanted) → (n : ℕ) → low ≤ n → CalmBefore q low n (wanted_values ws) (rebuild_deep τ S n ws)
  unfolding rebuild_deep
  deep_calm ws n le = deep_all_calm (suc (length τ.recorded)) (replicate (length τ.recorded) false) ws n le
