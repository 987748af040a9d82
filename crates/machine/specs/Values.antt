-- The machine's values: "An aggregate is a list of parts, a struct's in its type's field order." What a scalar is stays open.
use Rattle.std.specs.Prelude.{ℕ, zero, suc, Bool, true, false, ◌&&◌}
use Rattle.std.proofs.Math.Option.{Option, none, some}

mutual
  -- a scalar of any carrier, or an aggregate
  pub data Val (A : Type 0) : Type 0 where
    scalar : A → Val A
    aggregate : Vals A → Val A

  -- a list of values
  pub data Vals (A : Type 0) : Type 0 where
    ends : Vals A
    then : Val A → Vals A → Vals A

-- equal sides of an AssertEq: scalars by a test of theirs, aggregates part by part
unfoldable mutual
  pub equal : {A : Type 0} → (A → A → Bool) → Val A → Val A → Bool
  equal same (scalar a) (scalar b) = same a b
  equal same (scalar a) (aggregate ys) = false
  equal same (aggregate xs) (scalar b) = false
  equal same (aggregate xs) (aggregate ys) = equals same xs ys

  pub equals : {A : Type 0} → (A → A → Bool) → Vals A → Vals A → Bool
  equals same ends ends = true
  equals same ends (then y ys) = false
  equals same (then x xs) ends = false
  equals same (then x xs) (then y ys) = equal same x y && equals same xs ys

-- a value in front of others, if all are there
unfoldable pub cons_val : {A : Type 0} → Option (Val A) → Option (Vals A) → Option (Vals A)
cons_val none ys = none
cons_val (some x) none = none
cons_val (some x) (some xs) = some (then x xs)

-- part k; none where it is missing
unfoldable pub nth : {A : Type 0} → Vals A → ℕ → Option (Val A)
nth ends k = none
nth (then x xs) zero = some x
nth (then x xs) (suc k) = nth xs k

-- part k replaced
unfoldable pub put : {A : Type 0} → Vals A → ℕ → Val A → Option (Vals A)
put ends k y = none
put (then x xs) zero y = some (then y xs)
put (then x xs) (suc k) y = cons_val (some x) (put xs k y)

-- a value's part; a scalar has none
unfoldable pub part_of : {A : Type 0} → Val A → ℕ → Option (Val A)
part_of (scalar a) k = none
part_of (aggregate xs) k = nth xs k

-- parts that are there, as one value
unfoldable pub as_aggregate : {A : Type 0} → Option (Vals A) → Option (Val A)
as_aggregate none = none
as_aggregate (some xs) = some (aggregate xs)

-- a value with one part replaced
unfoldable pub with_part : {A : Type 0} → Val A → ℕ → Val A → Option (Val A)
with_part (scalar a) k y = none
with_part (aggregate xs) k y = as_aggregate (put xs k y)
