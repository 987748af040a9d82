-- A list of a walk, by its count, and a place.
use Prim.Native.Nat.{ℕ}
use mathlib.Core.Path.{◌≡◌, sym}
use mathlib.Core.List.{List}
use mathlib.Core.Bool.{Bool, true, false}
use lib.ListN.{drop}
use Rattle.bytes_wire.specs.Parse.{Parse, ok, bad, later, and_then, map_parse, checked}
use Rattle.bytes_wire.specs.Value.{value_id_of}
use Rattle.bytes_wire.specs.declared.Cause.{Cause}
use Rattle.bytes_field.specs.Decode.{count_of}
use Rattle.bytes_field.specs.Walk.{Walk, uses, simple_walk, pair_walk, times, counts, list_walk, any_many, place_walk}
use Rattle.bytes_field.specs.declared.Bounds.{Bounds}
use Rattle.bytes_field.specs.declared.Lists.{Lists}

module _ (b : Bounds) (l : Lists) (c d : ℕ) (w : Walk) (s : List ℕ) where
  -- the count is refused
  pub no_count : {k : Cause} {o : ℕ} → count_of l.most s ≡ bad k o → bad k o ≡ list_walk b l c d w s
  unfolding list_walk
  no_count e = sym (rw e)

  module _ {count n : ℕ} (e : count_of l.most s ≡ ok count n) where
    -- what the list is by whether the count is the one asked for
    abbrev by : Bool → Parse Walk
    by x = and_then s (checked Cause.CallCounts (λ k. x) (ok count n)) (λ k t. times (pair_walk b c d) k w t)

    listed : {x : Bool} → counts l count ≡ x → list_walk b l c d w s ≡ by x
    unfolding list_walk
    listed f = rw (e, f)

    -- it is not
    pub count_other : counts l count ≡ false → bad Cause.CallCounts 0 ≡ list_walk b l c d w s
    count_other f = sym (listed f)

    -- as many elements as the count says
    pub elements : counts l count ≡ true → later n (times (pair_walk b c d) count w (drop n s)) ≡ list_walk b l c d w s
    elements f = sym (listed f)

-- a place is a value number, and the list of its projections
module _ (b : Bounds) (w : Walk) (s : List ℕ) where
  pub no_base : {k : Cause} {o : ℕ} → bad k o ≡ map_parse (uses w) (value_id_of b.next s) → bad k o ≡ place_walk b w s
  unfolding place_walk simple_walk
  no_base e = sym (rw (← e))

  pub place_walked : {v : Walk} {n : ℕ} → ok v n ≡ map_parse (uses w) (value_id_of b.next s) → later n (list_walk b (any_many b.projections) 10 0 v (drop n s)) ≡ place_walk b w s
  unfolding place_walk simple_walk
  place_walked e = sym (rw (← e))
