-- Fields, wherever they stand: what is read there, and the place behind.
use Prim.Native.Nat.{ℕ, ◌+◌}
use mathlib.Core.Path.{◌≡◌, ap, ◌∙◌, sym}
use mathlib.Core.List.{List}
use mathlib.Core.Bool.{Bool, false, not}
use lib.ListN.{get_or, drop}
use lib.Dec.{ltb}
use Rattle.bytes_wire.specs.Number.{number_of, at16, at32, below}
use Rattle.bytes_wire.specs.Value.{value_of, value_id_of}
use Rattle.bytes_wire.specs.declared.Cause.{Cause}
use Rattle.mir.specs.declared.ValueId.{ValueId}
use Rattle.bytes_wire.proofs.Laws.{from_16, from_32}
use Rattle.bytes_wire.proofs.Inv.{image, map_inv, checked_inv, number_inv, below_inv}
use Rattle.bytes_field.specs.Decode.{type_id_of, name_id_of, defined_of, operation_of}
use Rattle.bytes_field.specs.declared.Bounds.{Bounds}
use Rattle.bytes_field.proofs.Laws.{head}
use Rattle.bytes_operands.specs.Fields.{value_size, value_end}
use Rattle.bytes_operands.proofs.Places.{Field, takes_number, takes_checked, fixed}
use Rattle.bytes_operands.proofs.EachKind.{value_size_lem}
use Rattle.bytes_struct.proofs.Placed as P
use Rattle.rewrite_parts.specs.Rows.{ValueAt, stands}
use Rattle.shelf_field.specs.Fields.{IdAt, TypeAt}

module _ (b : Bounds) (t : List ℕ) where
  pub id_field : {p : ℕ} → Field t p (value_id_of b.next) (IdAt b.next t p) (p + 2)
  id_field {p} =
      record {
        each = λ d n e.
            elim (map_inv (λ x. record { 0 = x }) (below b.next (drop p t)) e) [
              | image x f g ↦
                  let h = below_inv b.next (drop p t) f in
                  let k = number_inv 2 (drop p t) h.0 in
                  let i = ap (λ (a : ValueId). a.0) g in
                  (record { told = i ∙ k.1 ∙ from_16 t p; low = rw i h.1 }, ap (λ m. p + m) k.2)
            ];
      }

  pub dest_field : (seen : List Bool) {p : ℕ} → Field t p (defined_of b.next seen) (IdAt b.next t p) (p + 2)
  dest_field seen {p} = record { each = λ d n e. id_field.each d n (checked_inv Cause.Redefined (λ d. not (get_or seen d.0 false)) (value_id_of b.next (drop p t)) e).0 }

  pub type_field : {p : ℕ} → Field t p (type_id_of b.types) (TypeAt b.types t p) (p + 2)
  type_field = record { each = λ a n e. let h = (P.type_field b.types t).each a n e in (record { told = sym h.0.number; low = h.0.under }, h.1) }

  pub name_field : {p : ℕ} → Field t p name_id_of (λ a. a.0 ≡ at16 t p) (p + 2)
  name_field = record { each = λ a n e. let h = (P.name_field t).each a n e in (sym h.0, h.1) }

  pub long_field : {p : ℕ} → Field t p (number_of 4) (λ k. k ≡ at32 t p) (p + 4)
  long_field {p} = record { each = λ a n e. let h = number_inv 4 (drop p t) e in (h.1 ∙ from_32 t p, ap (λ m. p + m) h.2) }

  pub value_field : {p : ℕ} → Field t p (value_of b.next) (ValueAt b.next t p) (value_end t p)
  value_field {p} = record { each = λ a n e. (stands n e, ap (λ m. p + m) (value_size_lem b.next (drop p t) e ∙ ap value_size (head t p))) }

  pub operation_field : {p : ℕ} (many : ℕ) → Field t p (operation_of many) (λ a. Unit {0}) (p + 1)
  operation_field many = fixed (takes_checked Cause.Undefined (λ x. ltb x many) (takes_number 1))
