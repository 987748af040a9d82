-- Laws of edition 2's rebuilds: they stand one behind another, each takes one number, and they stand for the values read.
use Prim.Native.Nat.{ℕ, zero, suc, ◌+◌, ◌≤◌}
use native.Mathlib.Omega.{arith}
use mathlib.Core.Path.{◌≡◌, refl, ap}
use mathlib.Core.List.{List, [], ◌∷◌, ◌++◌}
use mathlib.Core.Bool.{Bool, false}
use mathlib.Core.Option.{Option, none, some}
use lib.ListN.{length, length-append}
use lib.Dec.{T}
use Rattle.mir.specs.declared.TypeId.{TypeId}
use Rattle.mir.specs.declared.Value.{Value}
use Rattle.mir.specs.MirType.{MirType}
use Rattle.mir.specs.Syntax.{Instruction}
use Rattle.mir.specs.Lookup.{Types, row_of, is_tuple, is_struct, is_array, is_aggregate, shape}
use Rattle.fold.specs.Family.{Marks}
use Rattle.rewrite.specs.declared.Fault.{Fault}
use Rattle.rewrite.specs.State.{AggStates, state_of}
use Rattle.rewrite.specs.Rebuild.{Rebuilt, untouched, rebuild_at, keep_value, rebuild_value, one_value, rebuild_all}
use Rattle.rewrite.specs.Deep.{own_type, wanted_own, loop_fault, begun, whole_then, Inner, deep_value, deep_values, deep_all, rebuild_deep}
use Rattle.rewrite.specs.Lowers.{Rebuild, Rebuilds, Builds, Renamed}
use Rattle.rewrite.proofs.Steps.{Allowed, allowed_own, rebuilds_own}

-- what stands before the values xs from number n on: rebuilds one behind another, and of no number nothing at all
pub record Stood (n : ℕ) (xs : List Value) (r : Rebuilt) : Type 0 where
  pub builds : Builds n r.before (n + length r.fresh)
  pub renamed : Renamed n (n + length r.fresh) xs r.values
  pub none : length r.fresh ≡ 0 → r ≡ untouched xs

-- the same numbers, written otherwise
builds_to : {n k : ℕ} {is : List Instruction} (m : ℕ) → k ≡ m → Builds n is k → Builds n is m
builds_to m e b = rw (← e) b

-- one after another
builds_then : {n m k : ℕ} {bs cs : List Instruction} → Builds n bs m → Builds m cs k → Builds n (bs ++ cs) k
builds_then Builds.none c = c
builds_then (Builds.build i b) c = Builds.build i (builds_then b c)

-- there are as many of them as numbers
pub builds_count : {n m : ℕ} {bs : List Instruction} → Builds n bs m → n + length bs ≡ m
builds_count Builds.none = omega arith
builds_count (Builds.build i b) = omega (arith, builds_count b)

-- among more numbers
renamed_wider : {n m : ℕ} {xs ys : List Value} (l k : ℕ) → l ≤ n → m ≤ k → Renamed n m xs ys → Renamed l k xs ys
renamed_wider l k h g Renamed.none = Renamed.none
renamed_wider l k h g (Renamed.same r) = Renamed.same (renamed_wider l k h g r)
renamed_wider l k h g (Renamed.anew j a b r) = Renamed.anew j (omega (arith, h, a)) (omega (arith, g, b)) (renamed_wider l k h g r)

-- no number below itself
pub renamed_none : {n m : ℕ} {xs ys : List Value} → m ≤ n → Renamed n m xs ys → ys ≡ xs
renamed_none h Renamed.none = refl
renamed_none h (Renamed.same r) = rw (renamed_none h r)
renamed_none h (Renamed.anew j a b r) = absurd (omega (arith, h, a, b))

-- each value has one in its place
pub renamed_count : {n m : ℕ} {xs ys : List Value} → Renamed n m xs ys → length ys ≡ length xs
renamed_count Renamed.none = refl
renamed_count (Renamed.same r) = ap suc (renamed_count r)
renamed_count (Renamed.anew j a b r) = ap suc (renamed_count r)

-- a list of which each is rebuilt at once
rebuilds_taken : {b : Bool} {n m : ℕ} {xs ys : List Value} {is : List Instruction} → Rebuilds b n xs ys is m → n ≤ m
rebuilds_taken Rebuilds.none = omega arith
rebuilds_taken (Rebuilds.same r) = rebuilds_taken r
rebuilds_taken (Rebuilds.anew i r) = omega (arith, rebuilds_taken r)
rebuilds_taken (Rebuilds.bare r) = omega (arith, rebuilds_taken r)

rebuilds_build : {n m : ℕ} {xs ys : List Value} {is : List Instruction} → Rebuilds false n xs ys is m → Builds n is m
rebuilds_build Rebuilds.none = Builds.none
rebuilds_build (Rebuilds.same r) = rebuilds_build r
rebuilds_build (Rebuilds.anew i r) = Builds.build i (rebuilds_build r)

rebuilds_rename : {n m : ℕ} {xs ys : List Value} {is : List Instruction} → Rebuilds false n xs ys is m → Renamed n m xs ys
rebuilds_rename Rebuilds.none = Renamed.none
rebuilds_rename (Rebuilds.same r) = Renamed.same (rebuilds_rename r)
rebuilds_rename {n = n} (Rebuilds.anew i r) = Renamed.anew n (omega arith) (omega (arith, rebuilds_taken r)) (renamed_wider _ _ (omega arith) (omega arith) (rebuilds_rename r))

module _ (τ : Types) (S : AggStates) where
  -- values of which none was rebuilt are as they were
  flat_one : (n : ℕ) (x : Value) (rest : ℕ → Rebuilt) (o : Option TypeId) (s : Option (List Value)) (xs : List Value) → length (one_value τ n x rest o s).fresh ≡ 0 → ((m : ℕ) → length (rest m).fresh ≡ 0 → rest m ≡ untouched xs) → one_value τ n x rest o s ≡ untouched (x ∷ xs)
  unfolding one_value keep_value rebuild_value
  flat_one n x rest none s xs e f = rw (f n e)
  flat_one n x rest (some t) none xs e f = rw (f n e)
  flat_one n x rest (some t) (some ys) xs e f = absurd (omega arith)

  flat_none : (n : ℕ) (xs : List Value) → length (rebuild_all τ S n (wanted_own τ xs)).fresh ≡ 0 → rebuild_all τ S n (wanted_own τ xs) ≡ untouched xs
  unfolding rebuild_all wanted_own
  flat_none n [] e = refl
  flat_none n (x ∷ xs) e = flat_one n x _ (own_type τ x) (state_of S x) xs e (λ m. flat_none m xs)

  flat : (n : ℕ) (xs : List Value) → Stood n xs (rebuild_all τ S n (wanted_own τ xs))
  flat n xs = record { builds = rebuilds_build (rebuilds_own τ S n xs); renamed = rebuilds_rename (rebuilds_own τ S n xs); none = flat_none n xs }

  -- an aggregate is rebuilt by one instruction
  at_one : (m k : ℕ) (zs : List Value) (t : TypeId) (row : Option MirType) (is : List Instruction) → T (is_aggregate row) → Builds (suc m) is k → Builds m (rebuild_at (record { 0 = m }) zs t row ++ is) k
  unfolding rebuild_at is_aggregate is_tuple is_struct is_array shape
  at_one m k zs t none is e b = elim e [ ]
  at_one m k zs t (some MirType.Felt) is e b = elim e [ ]
  at_one m k zs t (some MirType.Bool) is e b = elim e [ ]
  at_one m k zs t (some MirType.U32) is e b = elim e [ ]
  at_one m k zs t (some (MirType.Tuple ts)) is e b = Builds.build (Rebuild.tuple _) b
  at_one m k zs t (some (MirType.Struct f fs)) is e b = Builds.build (Rebuild.struct _ _) b
  at_one m k zs t (some (MirType.FixedArray u j)) is e b = Builds.build (Rebuild.array _ _) b
  at_one m k zs t (some (MirType.Pointer u)) is e b = elim e [ ]
  at_one m k zs t (some (MirType.Function ps u)) is e b = elim e [ ]
  at_one m k zs t (some MirType.Unit) is e b = elim e [ ]
  at_one m k zs t (some MirType.Error) is e b = elim e [ ]
  at_one m k zs t (some MirType.Unknown) is e b = elim e [ ]

  -- one value kept in front of others
  stood_keep : (n : ℕ) (x : Value) (xs : List Value) (r : Rebuilt) → Stood n xs r → Stood n (x ∷ xs) (keep_value x r)
  unfolding keep_value
  stood_keep n x xs r h = record { builds = h.builds; renamed = Renamed.same h.renamed; none = λ e. rw (h.none e) }

  -- the parts, the whole, and the rest
  stood_whole : (begins : Option Fault) (n : ℕ) (x : Value) (t : TypeId) (ys zs xs : List Value) (p : Rebuilt) (rest : ℕ → Rebuilt) → T (is_aggregate (row_of τ (some t))) → Stood n zs p → ((m : ℕ) → Stood m xs (rest m)) → Stood n (x ∷ xs) (whole_then τ begins n t ys p rest)
  unfolding whole_then
  stood_whole begins n x t ys zs xs p rest g h f =
      let m = n + length p.fresh in
      let c : length (p.fresh ++ (t ∷ (rest (suc m)).fresh)) ≡ length p.fresh + suc (length (rest (suc m)).fresh) = rw length-append in
      record {
        builds = builds_then h.builds (at_one m _ p.values t (row_of τ (some t)) _ g (builds_to _ (omega (arith, c)) (f (suc m)).builds));
        renamed = Renamed.anew m (omega arith) (omega (arith, c)) (renamed_wider _ _ (omega arith) (omega (arith, c)) (f (suc m)).renamed);
        none = λ e. absurd (omega (arith, c, e));
      }

  module _ (path : Marks) (inner : Inner) (h : (x : Value) (n : ℕ) (ys : List Value) → Stood n ys (inner x n (wanted_own τ ys))) where
    stood_one : (n : ℕ) (x : Value) (xs : List Value) (rest : ℕ → Rebuilt) (o : Option TypeId) (s : Option (List Value)) → Allowed τ false o → ((m : ℕ) → Stood m xs (rest m)) → Stood n (x ∷ xs) (deep_value τ path inner n x rest o s)
    unfolding deep_value
    stood_one n x xs rest none s a f = stood_keep n x xs _ (f n)
    stood_one n x xs rest (some t) none a f = stood_keep n x xs _ (f n)
    stood_one n x xs rest (some t) (some ys) a f = stood_whole (loop_fault path x) n x t ys _ xs _ rest a (h x n _) f

    stood_values : (n : ℕ) (xs : List Value) → Stood n xs (deep_values τ S path inner n (wanted_own τ xs))
    unfolding deep_values wanted_own
    stood_values n [] = record { builds = builds_to _ (omega arith) Builds.none; renamed = Renamed.none; none = λ e. refl }
    stood_values n (x ∷ xs) = stood_one n x xs _ (own_type τ x) (state_of S x) (allowed_own τ x) (λ m. stood_values m xs)

  pub stood_all : (k : ℕ) (path : Marks) (n : ℕ) (xs : List Value) → Stood n xs (deep_all τ S k path n (wanted_own τ xs))
  unfolding deep_all
  stood_all zero path n xs = flat n xs
  stood_all (suc k) path n xs = stood_values path _ (λ x m ys. stood_all k (begun path x) m ys) n xs

  -- with nothing begun
  pub stood : (n : ℕ) (xs : List Value) → Stood n xs (rebuild_deep τ S n (wanted_own τ xs))
  unfolding rebuild_deep
  stood n xs = stood_all _ _ n xs
