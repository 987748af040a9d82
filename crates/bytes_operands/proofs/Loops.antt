-- Laws that the code's functions cite: loops over places, and what is read at one.
use Prim.Native.Nat.{ℕ, zero, suc, ◌+◌, ◌-◌, ◌≤◌, ◌<◌}
use mathlib.Core.Path.{◌≡◌, refl, ap, ◌∙◌, sym}
use mathlib.Core.List.{List, [], ◌∷◌, map}
use Rattle.std.specs.Prelude.{Option, Some}
use native.Mathlib.Omega.{arith}
use lib.ListN.{get_or, drop}
use Rattle.bytes_wire.specs.Parse.{Parse, ok, bad, later, map_parse}
use Rattle.bytes_wire.specs.Number.{number_of, at16, at32}
use Rattle.bytes_wire.specs.Value.{value_of}
use Rattle.bytes_wire.specs.declared.Cause.{Cause}
use Rattle.mir.specs.declared.Value.{Value}
use Rattle.bytes_wire.proofs.Laws.{from_16, from_32}
use Rattle.bytes_wire.proofs.Inv.{no_ok, behind, image, later_inv, map_inv, number_inv, tagged_inv}
use Rattle.mir.specs.declared.Projection.{Projection}
use Rattle.bytes_field.specs.Decode.{name_id_of, projection_of}
use Rattle.bytes_operands.specs.Fields.{value_end, value_step, after}

-- i of k things are behind
pub record Going (end : ℕ → ℕ) (k at here i : ℕ) : Type 0 where
  pub under : i ≤ k
  pub left : after end k at ≡ after end (k - i) here

-- one more
pub again : (end : ℕ → ℕ) (k at here i : ℕ) (there : ℕ) → Going end k at here i → i < k → there ≡ end here → Going end k at there (i + 1)
unfolding after
again end k at here i there g h e =
    let z : k - i ≡ suc (k - (i + 1)) = omega arith in
    record { under = omega arith; left = rw e (rw z at g.left) }

-- all are
pub gone : (end : ℕ → ℕ) (k at here i : ℕ) → Going end k at here i → k ≤ i → here ≡ after end k at
unfolding after
gone end k at here i g h = let z : k - i ≡ 0 = omega arith in sym (rw z at g.left)

-- values with nothing between them
pub plain_step : (t : List ℕ) (at : ℕ) → value_end t at ≡ value_step t 0 0 at
plain_step t at = sym (let z : at + 0 ≡ at = omega arith in rw z (omega arith))

pub plain_values : (t : List ℕ) (k at : ℕ) → after (value_step t 0 0) k at ≡ after (value_end t) k at
unfolding after
plain_values t zero at = refl
plain_values t (suc k) at = ap (after (value_step t 0 0) k) (sym (plain_step t at)) ∙ plain_values t k (value_end t at)

-- the decoders of projections, by their kind byte
abbrev steps : ℕ → List (List ℕ → Parse Projection)
steps next = (λ t. map_parse Projection.Index (value_of next t)) ∷ (λ t. map_parse Projection.Field (name_id_of t)) ∷ (λ t. map_parse Projection.Tuple (number_of 4 t)) ∷ []

module _ (next : ℕ) (s : List ℕ) {p : Projection} {n : ℕ} (e : projection_of next s ≡ ok p n) where
  -- what the kind byte chose
  chose : get_or (map (λ f. later 1 (f (drop 1 s))) (steps next)) (get_or s 0 0) (bad Cause.Undefined 0) ≡ ok p n
  unfolding projection_of
  chose = (tagged_inv (steps next) s e).1

  -- an Index has the value behind it
  pub step_index_lem : {r : Option Projection} → get_or s 0 0 ≡ 0 → ((x : Value) (m : ℕ) → value_of next (drop 1 s) ≡ ok x m → r ≡ Some (Projection.Index x)) → r ≡ Some p
  step_index_lem {r} z f =
      let h : later 1 (map_parse Projection.Index (value_of next (drop 1 s))) ≡ ok p n = rw z at chose in
      elim (later_inv 1 (map_parse Projection.Index (value_of next (drop 1 s))) h) [
        | behind k q l ↦ elim (map_inv Projection.Index (value_of next (drop 1 s)) q) [ image x g i ↦ rw i (f x k g) ]
      ]

  -- a Field the name
  pub step_field : get_or s 0 0 ≡ 1 → Some (Projection.Field (record { 0 = at16 s 1 })) ≡ Some p
  step_field z =
      let h : later 1 (map_parse Projection.Field (name_id_of (drop 1 s))) ≡ ok p n = rw z at chose in
      elim (later_inv 1 (map_parse Projection.Field (name_id_of (drop 1 s))) h) [
        | behind k q l ↦
            elim (map_inv Projection.Field (name_id_of (drop 1 s)) q) [
              | image x g i ↦
                  elim (map_inv (λ y. record { 0 = y }) (number_of 2 (drop 1 s)) g) [
                    | image y f j ↦ let v : y ≡ at16 s 1 = (number_inv 2 (drop 1 s) f).1 ∙ from_16 s 1 in rw (i, j, v)
                  ]
            ]
      ]

  -- and a Tuple the index
  pub step_tuple : (get_or s 0 0 ≡ 0 → ⊥) → (get_or s 0 0 ≡ 1 → ⊥) → Some (Projection.Tuple (at32 s 1)) ≡ Some p
  step_tuple z z' = go (get_or s 0 0) z z' chose
    where
      go : (k : ℕ) → (k ≡ 0 → ⊥) → (k ≡ 1 → ⊥) → get_or (map (λ f. later 1 (f (drop 1 s))) (steps next)) k (bad Cause.Undefined 0) ≡ ok p n → Some (Projection.Tuple (at32 s 1)) ≡ Some p
      go zero f g h = absurd (f refl)
      go (suc zero) f g h = absurd (g refl)
      go (suc (suc zero)) f g h =
          elim (later_inv 1 (map_parse Projection.Tuple (number_of 4 (drop 1 s))) h) [
            | behind k q l ↦
                elim (map_inv Projection.Tuple (number_of 4 (drop 1 s)) q) [
                  | image x f i ↦ let v : x ≡ at32 s 1 = (number_inv 4 (drop 1 s) f).1 ∙ from_32 s 1 in rw (i, v)
                ]
          ]
      go (suc (suc (suc k))) f g h = absurd (no_ok h)
