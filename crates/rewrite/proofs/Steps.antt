-- Laws of lists that are rebuilt: which numbers are taken, and how many instructions stand before.
use Prim.Native.Nat.{ℕ, suc, ◌+◌, ◌≤◌}
use native.Mathlib.Omega.{arith}
use mathlib.Core.Path.{◌≡◌, refl}
use mathlib.Core.List.{List, [], ◌∷◌, ◌++◌}
use mathlib.Core.Bool.{Bool, true, false, cond, ◌||◌}
use mathlib.Core.Option.{Option, none, some}
use lib.ListN.{length}
use lib.Dec.{T}
use Rattle.mir.specs.declared.TypeId.{TypeId}
use Rattle.mir.specs.declared.Value.{Value}
use Rattle.mir.specs.MirType.{MirType}
use Rattle.mir.specs.Syntax.{Instruction}
use Rattle.mir.specs.Lookup.{Types, row_of, is_tuple, is_struct, is_array, is_aggregate, shape, on_some}
use Rattle.rewrite.specs.State.{AggStates, state_of}
use Rattle.rewrite.specs.Rebuild.{Rebuilt, rebuild_at, keep_value, rebuild_value, one_value, rebuild_all, aggregate_type, wanted_arguments, return_type, wanted_returns}
use Rattle.rewrite.specs.Deep.{own_type, wanted_own}
use Rattle.rewrite.specs.Lowers.{Rebuild, Rebuilds}

-- the same next value, written otherwise
pub to : {b : Bool} {n : ℕ} {xs ys : List Value} {is : List Instruction} {k : ℕ} (m : ℕ) → k ≡ m → Rebuilds b n xs ys is k → Rebuilds b n xs ys is m
to m e r = rw (← e) r

-- a rebuild at a row: one instruction of an aggregate, none of any other, which only a Return may ask for
rebuild_at_lem : (b : Bool) (n m : ℕ) (x : Value) (zs : List Value) (t : TypeId) (row : Option MirType) (xs ys : List Value) (is : List Instruction) → T (b || is_aggregate row) → Rebuilds b (suc n) xs ys is m → Rebuilds b n (x ∷ xs) (Value.Operand (record { 0 = n }) ∷ ys) (rebuild_at (record { 0 = n }) zs t row ++ is) m
unfolding rebuild_at is_aggregate is_tuple is_struct is_array shape
rebuild_at_lem true n m x zs t none xs ys is e r = Rebuilds.bare r
rebuild_at_lem false n m x zs t none xs ys is e r = elim e [ ]
rebuild_at_lem true n m x zs t (some MirType.Felt) xs ys is e r = Rebuilds.bare r
rebuild_at_lem false n m x zs t (some MirType.Felt) xs ys is e r = elim e [ ]
rebuild_at_lem true n m x zs t (some MirType.Bool) xs ys is e r = Rebuilds.bare r
rebuild_at_lem false n m x zs t (some MirType.Bool) xs ys is e r = elim e [ ]
rebuild_at_lem true n m x zs t (some MirType.U32) xs ys is e r = Rebuilds.bare r
rebuild_at_lem false n m x zs t (some MirType.U32) xs ys is e r = elim e [ ]
rebuild_at_lem true n m x zs t (some (MirType.Tuple ts)) xs ys is e r = Rebuilds.anew (Rebuild.tuple _) r
rebuild_at_lem false n m x zs t (some (MirType.Tuple ts)) xs ys is e r = Rebuilds.anew (Rebuild.tuple _) r
rebuild_at_lem true n m x zs t (some (MirType.Struct f fs)) xs ys is e r = Rebuilds.anew (Rebuild.struct _ _) r
rebuild_at_lem false n m x zs t (some (MirType.Struct f fs)) xs ys is e r = Rebuilds.anew (Rebuild.struct _ _) r
rebuild_at_lem true n m x zs t (some (MirType.FixedArray u k)) xs ys is e r = Rebuilds.anew (Rebuild.array _ _) r
rebuild_at_lem false n m x zs t (some (MirType.FixedArray u k)) xs ys is e r = Rebuilds.anew (Rebuild.array _ _) r
rebuild_at_lem true n m x zs t (some (MirType.Pointer u)) xs ys is e r = Rebuilds.bare r
rebuild_at_lem false n m x zs t (some (MirType.Pointer u)) xs ys is e r = elim e [ ]
rebuild_at_lem true n m x zs t (some (MirType.Function ps u)) xs ys is e r = Rebuilds.bare r
rebuild_at_lem false n m x zs t (some (MirType.Function ps u)) xs ys is e r = elim e [ ]
rebuild_at_lem true n m x zs t (some MirType.Unit) xs ys is e r = Rebuilds.bare r
rebuild_at_lem false n m x zs t (some MirType.Unit) xs ys is e r = elim e [ ]
rebuild_at_lem true n m x zs t (some MirType.Error) xs ys is e r = Rebuilds.bare r
rebuild_at_lem false n m x zs t (some MirType.Error) xs ys is e r = elim e [ ]
rebuild_at_lem true n m x zs t (some MirType.Unknown) xs ys is e r = Rebuilds.bare r
rebuild_at_lem false n m x zs t (some MirType.Unknown) xs ys is e r = elim e [ ]

-- a type at which a value may be rebuilt: an aggregate, or any for a Return
abbrev pub Allowed : Types → Bool → Option TypeId → Type 0
Allowed τ b none = Unit {0}
Allowed τ b (some t) = T (b || is_aggregate (row_of τ (some t)))

-- one value in front of others: kept, or rebuilt under the next number
pub rebuild_one : (τ : Types) (b : Bool) (n : ℕ) (x : Value) (xs : List Value) (rest : ℕ → Rebuilt) (o : Option TypeId) (s : Option (List Value)) → Allowed τ b o → ((m : ℕ) → Rebuilds b m xs (rest m).values (rest m).before (m + length (rest m).fresh)) → Rebuilds b n (x ∷ xs) (one_value τ n x rest o s).values (one_value τ n x rest o s).before (n + length (one_value τ n x rest o s).fresh)
unfolding one_value keep_value rebuild_value
rebuild_one τ b n x xs rest none s a r = Rebuilds.same (r n)
rebuild_one τ b n x xs rest (some t) none a r = Rebuilds.same (r n)
rebuild_one τ b n x xs rest (some t) (some zs) a r = rebuild_at_lem b n _ x zs t (row_of τ (some t)) xs _ _ a (to _ (omega arith) (r (suc n)))

allowed_if : (τ : Types) (t : TypeId) (b : Bool) → is_aggregate (row_of τ (some t)) ≡ b → Allowed τ false (cond b (some t) none)
allowed_if τ t true e = (rw e tt)
allowed_if τ t false e = tt

pub allowed : (τ : Types) (t : TypeId) → Allowed τ false (aggregate_type τ t)
unfolding aggregate_type
allowed τ t = allowed_if τ t (is_aggregate (row_of τ (some t))) refl

-- a Call's arguments, a Return's values and a Store's value
pub rebuilds_arguments : (τ : Types) (S : AggStates) (n : ℕ) (xs : List Value) (ts : List TypeId) → let r = rebuild_all τ S n (wanted_arguments τ xs ts) in Rebuilds false n xs r.values r.before (n + length r.fresh)
unfolding rebuild_all wanted_arguments
rebuilds_arguments τ S n [] ts = to _ (omega arith) Rebuilds.none
rebuilds_arguments τ S n (x ∷ xs) [] = rebuild_one τ false n x xs _ none (state_of S x) tt (λ m. rebuilds_arguments τ S m xs [])
rebuilds_arguments τ S n (x ∷ xs) (t ∷ ts) = rebuild_one τ false n x xs _ (aggregate_type τ t) (state_of S x) (allowed τ t) (λ m. rebuilds_arguments τ S m xs ts)

loose : (τ : Types) (o : Option TypeId) → Allowed τ true o
loose τ none = tt
loose τ (some t) = tt

-- of a Return, also at types that are no aggregates
pub rebuilds_returns : (τ : Types) (S : AggStates) (n : ℕ) (xs : List Value) → let r = rebuild_all τ S n (wanted_returns τ xs) in Rebuilds true n xs r.values r.before (n + length r.fresh)
unfolding rebuild_all wanted_returns
rebuilds_returns τ S n [] = to _ (omega arith) Rebuilds.none
rebuilds_returns τ S n (x ∷ xs) = rebuild_one τ true n x xs _ (return_type τ x) (state_of S x) (loose τ (return_type τ x)) (λ m. rebuilds_returns τ S m xs)

-- where numbers are only taken for rebuilds, there are as many of both
pub strict_count : {n m : ℕ} {xs ys : List Value} {bs : List Instruction} → Rebuilds false n xs ys bs m → n + length bs ≡ m
strict_count Rebuilds.none = omega arith
strict_count (Rebuilds.same r) = strict_count r
strict_count (Rebuilds.anew i r) = omega (arith, strict_count r)

-- no more numbers are taken than there are values
pub taken_most : {b : Bool} {n m : ℕ} {xs ys : List Value} {bs : List Instruction} → Rebuilds b n xs ys bs m → m ≤ n + length xs
taken_most Rebuilds.none = omega arith
taken_most (Rebuilds.same r) = omega (arith, taken_most r)
taken_most (Rebuilds.anew i r) = omega (arith, taken_most r)
taken_most (Rebuilds.bare r) = omega (arith, taken_most r)

-- a value's recorded aggregate type
pub allowed_own : (τ : Types) (x : Value) → Allowed τ false (own_type τ x)
unfolding own_type on_some
allowed_own τ x = split (return_type τ x)
  where
    split : (o : Option TypeId) → Allowed τ false (on_some o (aggregate_type τ))
    split none = tt
    split (some t) = allowed τ t

-- values of edition 2, where nothing is rebuilt before them
pub rebuilds_own : (τ : Types) (S : AggStates) (n : ℕ) (xs : List Value) → let r = rebuild_all τ S n (wanted_own τ xs) in Rebuilds false n xs r.values r.before (n + length r.fresh)
unfolding rebuild_all wanted_own
rebuilds_own τ S n [] = to _ (omega arith) Rebuilds.none
rebuilds_own τ S n (x ∷ xs) = rebuild_one τ false n x xs _ (own_type τ x) (state_of S x) (allowed_own τ x) (λ m. rebuilds_own τ S m xs)
