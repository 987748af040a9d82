-- The terminators, field by field.
use Prim.Native.Nat.{ℕ, ◌+◌}
use mathlib.Core.Path.{◌≡◌}
use mathlib.Core.List.{List}
use mathlib.Core.Bool.{Bool, ◌&&◌}
use lib.ListN.{length, get_or}
use lib.Dec.{ltb}
use Rattle.bytes_wire.specs.declared.Cause.{Cause}
use Rattle.mir.specs.declared.Value.{Value}
use Rattle.bytes_field.specs.Decode.{if_of, branch_of, return_of, block_id_of}
use Rattle.bytes_field.specs.declared.Bounds.{Bounds}
use Rattle.bytes_operands.specs.Fields.{value_end}
use Rattle.bytes_operands.proofs.Places as P
use Rattle.bytes_operands.proofs.Places.{Stand, then, last, fixed, takes_map, takes_checked, takes_number}
use Rattle.rewrite_parts.specs.Rows.{ValueAt}
use Rattle.mir.specs.Lookup.{Types}
use Rattle.shelf.specs.Lists.{every}
use Rattle.shelf.specs.Agrees.{is_scalar, is_condition, is_known, end_agrees}
use Rattle.shelf_field.proofs.Standing.{value_field, operation_field}
use Rattle.shelf_list.specs.Lists.{ValuesAt}
use Rattle.shelf_list.proofs.Standing.{values_field}

module _ (b : Bounds) (t : List ℕ) where
  block_field : {p : ℕ} → P.Field t p (block_id_of b.blocks) (λ k. Unit {0}) (p + 2)
  block_field = fixed (takes_map _ (takes_checked Cause.OutOfRange (λ x. ltb x b.blocks) (takes_number 2)))

  module _ (τ : Types) {r : Bool} where
    pub if_agrees : ((x : Value) → ValueAt b.next t 0 x → r ≡ is_condition τ x) → Stand t 0 (if_of b) (λ i e. r ≡ end_agrees τ i)
    unfolding if_of end_agrees
    if_agrees f = then (value_field b t) (λ x p. then block_field (λ k u. last _ block_field (λ l v. f x p)))

    pub branch_agrees : ((x y : Value) → ValueAt b.next t 1 x → ValueAt b.next t (value_end t 1) y → r ≡ (is_scalar τ x && is_scalar τ y)) → Stand t 0 (branch_of b) (λ i e. r ≡ end_agrees τ i)
    unfolding branch_of end_agrees
    branch_agrees f = then (operation_field b t 26) (λ o w. then (value_field b t) (λ x p. then (value_field b t) (λ y q. then block_field (λ k u. last _ block_field (λ l v. f x y p q)))))

    pub return_agrees : ((xs : List Value) → ValuesAt b.next t 1 xs → length xs ≡ get_or t 0 0 → r ≡ every (is_known τ) xs) → Stand t 0 (return_of b) (λ i e. r ≡ end_agrees τ i)
    unfolding return_of end_agrees
    return_agrees f = last _ (values_field b t) (λ xs q. f xs q.0 q.1)
