-- What stands where in a Return.
use Prim.Native.Nat.{ℕ, suc, ◌-◌}
use mathlib.Core.Path.{◌≡◌, refl, ap}
use mathlib.Core.List.{List, [], ◌∷◌, ◌++◌, append-nil}
use native.Mathlib.Omega.{arith}
use lib.ListN.{length, get_or, take, drop}
use Rattle.bytes_wire.specs.Parse.{ok, later}
use Rattle.bytes_wire.specs.Value.{value_of, value_bytes}
use Rattle.bytes_wire.specs.WellFormed.{Bytes}
use Rattle.mir.specs.declared.Value.{Value}
use Rattle.bytes_wire.proofs.Inv.{behind, image, later_inv, map_inv, tagged_inv}
use Rattle.mir.specs.Syntax.{Terminator, Return}
use Rattle.bytes_field.specs.Decode.{list_of, return_of, terminators, terminator_of}
use Rattle.bytes_field.specs.Encode.{each_bytes, terminator_bytes}
use Rattle.bytes_field.specs.declared.Bounds.{Bounds}
use Rattle.bytes_laws.proofs.Instruction.{terminator_canon}
use Rattle.mir.specs.Lookup.{Types}
use Rattle.rewrite.specs.Rebuild.{wanted_returns}
use Rattle.rewrite_wanted.specs.declared.Asks.{Asks}
use Rattle.rewrite_wanted.specs.Asked.{asked_list}
use Rattle.rewrite_list.specs.Lists.{Lies}
use Rattle.rewrite_before.specs.Materialized.{return_list, list_end, with_values, Around}
use Rattle.rewrite_before.proofs.Fields.{to_lies, values_field}
use Rattle.rewrite_before.proofs.Standing.{over}

-- the recorded types are asked for
pub asked_returns : (τ : Types) (t : List ℕ) (i : ℕ) (xs : List Value) → asked_list τ t Asks.Recorded i xs ≡ wanted_returns τ xs
unfolding asked_list wanted_returns
asked_returns τ t i [] = refl
asked_returns τ t i (x ∷ xs) = rw (asked_returns τ t (suc i) xs) refl

module _ (b : Bounds) (t : List ℕ) (xs : List Value) (n : ℕ) (h : Bytes t) (e : terminator_of b t ≡ ok (Return xs) n) where
  -- its bytes, and what follows
  shown : t ≡ (3 ∷ length xs ∷ each_bytes value_bytes xs) ++ drop n t
  unfolding terminator_bytes
  shown = over (terminator_bytes (Return xs)) t n (terminator_canon b t h e)

  kind : get_or t 0 0 ≡ 3
  kind = ap (λ l. get_or l 0 0) shown

  pub return_many : get_or t 1 0 ≡ length xs
  return_many = ap (λ l. get_or l 1 0) shown

  pub return_around : Around t (return_list t) 0
  return_around = record { before = omega arith; behind = omega arith }

  pub return_bytes : (ys : List Value) → length ys ≡ length xs → with_values t (return_list t) 0 ys ≡ terminator_bytes (Return ys)
  unfolding terminator_bytes
  return_bytes ys j =
      let a : take 2 t ≡ 3 ∷ length xs ∷ [] = ap (take 2) shown in
      let z : 0 - list_end t (return_list t) ≡ 0 = omega arith in
      rw (a, z, append-nil, ← j) refl

  pub return_lies : Lies b.next t 2 xs
  unfolding terminator_of return_of
  return_lies =
      let c : later 1 (return_of b (drop 1 t)) ≡ ok (Return xs) n = rw kind at (tagged_inv (terminators b) t e).1 in
      elim (later_inv 1 (return_of b (drop 1 t)) c) [
        | behind k q l ↦
            elim (map_inv Terminator.Return (list_of b.list (value_of b.next) (drop 1 t)) q) [
              | image ys p r ↦
                  let z : xs ≡ ys = cc in
                  rw z (to_lies ((values_field b [] t {p = 1}).each ys k p).0.0)
            ]
      ]
