-- Where a build's dest stands in an accepted instruction.
use Prim.Native.Nat.{ℕ, ◌<◌}
use mathlib.Core.Path.{◌≡◌, refl, ap, ◌∙◌, sym}
use mathlib.Core.List.{List}
use mathlib.Core.Bool.{Bool, false, not}
use mathlib.Core.Option.{some}
use lib.ListN.{get_or, drop}
use Rattle.bytes_wire.specs.Parse.{ok}
use Rattle.bytes_wire.specs.Number.{at16, below}
use Rattle.bytes_wire.specs.Value.{value_id_of, value_of}
use Rattle.bytes_wire.specs.declared.Cause.{Cause}
use Rattle.mir.specs.declared.ValueId.{ValueId}
use Rattle.bytes_wire.proofs.Laws.{from_16}
use Rattle.bytes_wire.proofs.Inv.{both, image, and_inv, map_inv, checked_inv, number_inv, below_inv}
use Rattle.mir.specs.Syntax.{Instruction, InstructionKind}
use Rattle.mir.specs.Syntax.{MakeTuple, MakeStruct, MakeFixedArray}
use Rattle.mir.specs.Reads.{kind_number}
use Rattle.bytes_field.specs.Decode.{bit, defined_of, list_of, field_init_of, type_id_of, instruction_of, make_tuple_of, make_struct_of, make_array_of}
use Rattle.bytes_field.specs.declared.Bounds.{Bounds}
use Rattle.bytes_operands.specs.Fields.{fields_place}
use Rattle.bytes_operands.proofs.Instruction.{chosen, instruction_fields}
use Rattle.fold.specs.Family.{build_dest}

-- a value's number at a place
pub id_at : (next : ℕ) (t : List ℕ) (p : ℕ) {d : ValueId} {n : ℕ} → value_id_of next (drop p t) ≡ ok d n → (d.0 ≡ at16 t p) × (d.0 < next) × (n ≡ 2)
id_at next t p e =
    elim (map_inv (λ x. record { 0 = x }) (below next (drop p t)) e) [
      | image x f g ↦
          let h = below_inv next (drop p t) f in
          let k = number_inv 2 (drop p t) h.0 in
          let i = ap (λ (a : ValueId). a.0) g in
          (i ∙ k.1 ∙ from_16 t p, rw i h.1, k.2)
    ]

pub dest_at : (next : ℕ) (seen : List Bool) (t : List ℕ) {d : ValueId} {n : ℕ} → defined_of next seen t ≡ ok d n → (d.0 ≡ at16 t 0) × (d.0 < next) × (n ≡ 2)
dest_at next seen t e = id_at next t 0 (checked_inv Cause.Redefined (λ d. not (get_or seen d.0 false)) (value_id_of next t) e).0

-- a build's dest is its first field
pub data DestAt (next : ℕ) (t : List ℕ) (i : InstructionKind) : Type 0 where
  dest : (d : ValueId) → build_dest i ≡ some d → d.0 ≡ at16 t 0 → d.0 < next → DestAt next t i

module _ (b : Bounds) (seen : List Bool) (t : List ℕ) (i : InstructionKind) (n : ℕ) where
  tuple_dest : make_tuple_of b seen t ≡ ok i n → DestAt b.next t i
  unfolding make_tuple_of build_dest
  tuple_dest e =
      elim (and_inv t (defined_of b.next seen t) _ e) [
        | both d m k p q r ↦
            elim (map_inv (λ xs. MakeTuple d xs) (list_of b.list (value_of b.next) (drop m t)) q) [
              | image xs f g ↦ let h = dest_at b.next seen t p in dest d (rw g refl) h.0 h.1
            ]
      ]

  struct_dest : make_struct_of b seen t ≡ ok i n → DestAt b.next t i
  unfolding make_struct_of build_dest
  struct_dest e =
      elim (and_inv t (defined_of b.next seen t) _ e) [
        | both d m k p q r ↦
            elim (and_inv (drop m t) (list_of b.list (field_init_of b) (drop m t)) _ q) [
              | both fs m' k' p' q' r' ↦
                  elim (map_inv (λ t. MakeStruct d fs t) (type_id_of b.types (drop m' (drop m t))) q') [
                    | image u f g ↦ let h = dest_at b.next seen t p in dest d (rw g refl) h.0 h.1
                  ]
            ]
      ]

  array_dest : (c : Bool) → make_array_of b seen c t ≡ ok i n → DestAt b.next t i
  unfolding make_array_of build_dest
  array_dest c e =
      elim (and_inv t (defined_of b.next seen t) _ e) [
        | both d m k p q r ↦
            elim (and_inv (drop m t) (list_of b.list (value_of b.next) (drop m t)) _ q) [
              | both xs m' k' p' q' r' ↦
                  elim (map_inv (λ t. MakeFixedArray d xs t c) (type_id_of b.types (drop m' (drop m t))) q') [
                    | image u f g ↦ let h = dest_at b.next seen t p in dest d (rw g refl) h.0 h.1
                  ]
            ]
      ]

-- of an instruction: t are its own fields
module _ (b : Bounds) (seen : List Bool) (late : Bool) (s : List ℕ) (i : Instruction) (n : ℕ) (e : instruction_of b seen late s ≡ ok i n) where
  -- its kind is its second byte
  pub kind_at : kind_number i.kind ≡ get_or s 1 0
  kind_at = (instruction_fields b seen late s i n e).numbered

  read_as : (k : ℕ) → kind_number i.kind ≡ k → chosen b seen (get_or s 0 0) k (drop (fields_place s) s) ≡ ok i.kind (instruction_fields b seen late s i n e).size
  read_as k h = rw (sym kind_at ∙ h) at (instruction_fields b seen late s i n e).read

  pub tuple_place : kind_number i.kind ≡ 10 → DestAt b.next (drop (fields_place s) s) i.kind
  tuple_place h = tuple_dest b seen (drop (fields_place s) s) i.kind _ (read_as 10 h)

  pub struct_place : kind_number i.kind ≡ 12 → DestAt b.next (drop (fields_place s) s) i.kind
  struct_place h = struct_dest b seen (drop (fields_place s) s) i.kind _ (read_as 12 h)

  pub array_place : kind_number i.kind ≡ 16 → DestAt b.next (drop (fields_place s) s) i.kind
  array_place h = array_dest b seen (drop (fields_place s) s) i.kind _ (bit 3 (get_or s 0 0)) (read_as 16 h)
