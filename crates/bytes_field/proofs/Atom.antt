-- A projection, by its kind.
use Prim.Native.Nat.{ℕ, ◌≤◌, ◌<◌}
use mathlib.Core.Path.{◌≡◌, ◌∙◌, sym}
use mathlib.Core.List.{List, [], ◌∷◌}
use borrow.Author.Tests.{le-leb, lt-leb}
use lib.ListN.{length, get_or, drop, get_or-eq_default}
use Rattle.bytes_wire.specs.Parse.{Parse, bad, later, map_parse}
use Rattle.bytes_wire.specs.Number.{u16_of, u32_of}
use Rattle.bytes_wire.specs.Value.{value_of}
use Rattle.bytes_wire.specs.declared.Cause.{Cause}
use Rattle.bytes_wire.proofs.Laws.{map_map, map_later}
use Rattle.mir.specs.declared.Projection.{Projection}
use Rattle.bytes_field.specs.Decode.{name_id_of, projection_of}
use Rattle.bytes_field.specs.Walk.{Walk, uses_value, uses_projection}

-- a projection, by its kind: x is the answer behind the kind, counted from it
module _ (next : ℕ) (w : Walk) (s : List ℕ) where
  -- there is no byte for the kind
  pub no_kind : length s < 1 → ◌≡◌ {A = Parse Walk} (bad Cause.Truncated 0) (map_parse (uses_projection w) (projection_of next s))
  unfolding projection_of
  no_kind h = simp (lt-leb _ _ h)

  -- the kind is a value
  pub index_kind : {x : Parse Walk} → 1 ≤ length s → get_or s 0 0 ≡ 0 → x ≡ later 1 (map_parse (uses_value w) (value_of next (drop 1 s))) → x ≡ map_parse (uses_projection w) (projection_of next s)
  unfolding projection_of
  index_kind h e f = f ∙ sym (simp (le-leb _ _ h, e, map_later, map_map))

  -- a name
  pub name_kind : {x : Parse Walk} → 1 ≤ length s → get_or s 0 0 ≡ 1 → x ≡ later 1 (map_parse (λ y. w) (u16_of (drop 1 s))) → x ≡ map_parse (uses_projection w) (projection_of next s)
  unfolding projection_of
  name_kind h e f = f ∙ sym (simp (le-leb _ _ h, e, map_later, map_map))

  -- an index
  pub tuple_kind_lem : {x : Parse Walk} → 1 ≤ length s → get_or s 0 0 ≡ 2 → x ≡ later 1 (map_parse (λ y. w) (u32_of (drop 1 s))) → x ≡ map_parse (uses_projection w) (projection_of next s)
  unfolding projection_of
  tuple_kind_lem h e f = f ∙ sym (simp (le-leb _ _ h, e, map_later, map_map))

  -- none of these
  pub bad_kind : 1 ≤ length s → 2 < get_or s 0 0 → ◌≡◌ {A = Parse Walk} (bad Cause.Undefined 0) (map_parse (uses_projection w) (projection_of next s))
  unfolding projection_of
  bad_kind h k =
      let t = drop 1 s in
      let e = get_or-eq_default (later 1 (map_parse Projection.Index (value_of next t)) ∷ later 1 (map_parse Projection.Field (name_id_of t)) ∷ later 1 (map_parse Projection.Tuple (u32_of t)) ∷ []) (bad Cause.Undefined 0) {n = get_or s 0 0} k in
      simp (le-leb _ _ h) (rw e)
