-- What the bytes of a type's row say of the type.
use Prim.Native.Nat.{ℕ, ◌<◌}
use mathlib.Core.Path.{◌≡◌, refl, ap, ◌∙◌, sym}
use mathlib.Core.List.{List, []}
use mathlib.Core.Bool.{false}
use mathlib.Core.Option.{some}
use native.Mathlib.Omega.{arith}
use lib.ListN.{length, get_or, take, drop}
use lib.Seq.{get_or-take, drop-drop}
use Rattle.bytes_wire.specs.Parse.{ok, and_then, map_parse}
use Rattle.bytes_wire.specs.Number.{from_bytes, u32_of, below, at16, at32}
use Rattle.bytes_wire.specs.WellFormed.{Bytes}
use Rattle.mir.specs.declared.ValueId.{ValueId}
use Rattle.mir.specs.declared.NameId.{NameId}
use Rattle.mir.specs.declared.TypeId.{TypeId}
use Rattle.mir.specs.declared.Value.{Value}
use Rattle.bytes_wire.proofs.Inv.{both, behind, image, later_inv, and_inv, map_inv, number_inv, below_inv, tagged_inv}
use Rattle.bytes_wire.proofs.Laws.{from_16, from_32}
use Rattle.bytes_field.specs.Decode.{type_id_of}
use Rattle.mir.specs.MirType.{StructField, MirType, Felt, Bool, U32, Tuple, Struct, FixedArray, Pointer, Function, Unit, Error, Unknown}
use Rattle.bytes_types.specs.Encode.{type_bytes}
use Rattle.bytes_types.specs.Decode.{type_kinds, type_of}
use Rattle.bytes_types.proofs.Canon.{type_canon}
use Rattle.rewrite.specs.Rebuild.{rebuild_at, clashes}
use Rattle.rewrite.specs.Deep.{kept_parts}
use Rattle.bytes_struct.specs.Fields.{first_name, Names}
use Rattle.bytes_struct.proofs.Placed.{type_fields}

-- the bytes of a type stand in its row, and so do a struct's names; an array's numbers are those that stand there
record InRow (row : List ℕ) (T : MirType) : Type 0 where
  byte : (j : ℕ) → j < length (type_bytes T) → get_or row j 0 ≡ get_or (type_bytes T) j 0
  names : (n : NameId) (fs : List StructField) → T ≡ Struct n fs → Names row first_name fs
  array : (t : TypeId) (z : ℕ) → T ≡ FixedArray t z → (t ≡ record { 0 = at16 row 1 }) × (z ≡ at32 row 3)

-- an array's numbers, by its kind
array_numbers : (most own : ℕ) (row : List ℕ) (t : TypeId) (z n : ℕ) → type_of most own row ≡ ok (FixedArray t z) n → get_or row 0 0 ≡ 5 → (t ≡ record { 0 = at16 row 1 }) × (z ≡ at32 row 3)
unfolding type_of
array_numbers most own row t z n e h =
    let s = drop 1 row in
    elim (later_inv 1 (and_then s (type_id_of own s) (λ x u. map_parse (λ y. FixedArray x y) (u32_of u))) (rw h at (tagged_inv (type_kinds most own) row e).1)) [
      | behind k p q ↦
          elim (and_inv s (type_id_of own s) (λ x u. map_parse (λ y. FixedArray x y) (u32_of u)) p) [
            | both x m j a b r ↦
                elim (map_inv (λ y. FixedArray x y) (u32_of (drop m s)) b) [
                  | image y f g ↦
                      elim (map_inv (λ w. record { 0 = w }) (below own s) a) [
                        | image w u v ↦
                            let i = number_inv 2 s (below_inv own s u).0 in
                            let ew : w ≡ at16 row 1 = i.1 ∙ from_16 row 1 in
                            let ey : y ≡ at32 row 3 = (number_inv 4 (drop m s) f).1 ∙ ap (λ l. from_bytes (take 4 l)) (ap (λ o. drop o s) i.2 ∙ drop-drop 2 1 row) ∙ from_32 row 3 in
                            let et : t ≡ x = cc in
                            let ez : z ≡ y = cc in
                            (et ∙ v ∙ ap (λ o. record { 0 = o }) ew, ez ∙ ey)
                      ]
                ]
          ]
    ]

-- what was read stands in the row
in_row : (most own : ℕ) (row : List ℕ) (T : MirType) (n : ℕ) → Bytes row → type_of most own row ≡ ok T n → InRow row T
unfolding type_bytes
in_row most own row T n h e =
    let c = type_canon most own row h e in
    let at : ((j : ℕ) → j < length (type_bytes T) → get_or row j 0 ≡ get_or (type_bytes T) j 0) = λ j l. sym (ap (λ b. get_or b j 0) c.same ∙ get_or-take n row j 0 (omega (arith, c.size))) in
    record {
      byte = at;
      names = λ m fs g. (type_fields most own row e g).names;
      array = λ t z g.
          let l : 0 < length (type_bytes T) = rw g (omega arith) in
          let k : get_or row 0 0 ≡ 5 = at 0 l ∙ ap (λ U. get_or (type_bytes U) 0 0) g in
          array_numbers most own row t z n (rw g at e) k;
    }

-- the type, by its kind
pub data Shape (row : List ℕ) (T : MirType) : Type 0 where
  tuple : get_or row 0 0 ≡ 3 → (ts : List TypeId) → T ≡ Tuple ts → length ts ≡ get_or row 1 0 → Shape row T
  struct : get_or row 0 0 ≡ 4 → (n : NameId) (fs : List StructField) → T ≡ Struct n fs → length fs ≡ get_or row 3 0 → Names row first_name fs → Shape row T
  array : get_or row 0 0 ≡ 5 → (e : TypeId) (z : ℕ) → T ≡ FixedArray e z → e ≡ record { 0 = at16 row 1 } → z ≡ at32 row 3 → Shape row T
  other : (get_or row 0 0 ≡ 3 → ⊥) → (get_or row 0 0 ≡ 4 → ⊥) → (get_or row 0 0 ≡ 5 → ⊥) → ((d : ValueId) (xs : List Value) (t : TypeId) → rebuild_at d xs t (some T) ≡ []) → ((xs : List Value) → clashes xs (some T) ≡ false) → ((xs : List Value) → kept_parts (some T) xs ≡ xs) → Shape row T

-- which it has
shape_in : (row : List ℕ) (T : MirType) → InRow row T → Shape row T
unfolding type_bytes rebuild_at clashes kept_parts
shape_in row Felt r = let k : get_or row 0 0 ≡ 0 = r.byte 0 (omega arith) in other (λ e. omega arith) (λ e. omega arith) (λ e. omega arith) (λ d xs t. refl) (λ xs. refl) (λ xs. refl)
shape_in row Bool r = let k : get_or row 0 0 ≡ 1 = r.byte 0 (omega arith) in other (λ e. omega arith) (λ e. omega arith) (λ e. omega arith) (λ d xs t. refl) (λ xs. refl) (λ xs. refl)
shape_in row U32 r = let k : get_or row 0 0 ≡ 2 = r.byte 0 (omega arith) in other (λ e. omega arith) (λ e. omega arith) (λ e. omega arith) (λ d xs t. refl) (λ xs. refl) (λ xs. refl)
shape_in row (Tuple ts) r = tuple (r.byte 0 (omega arith)) ts refl (sym (r.byte 1 (omega arith)))
shape_in row (Struct n fs) r = struct (r.byte 0 (omega arith)) n fs refl (sym (r.byte 3 (omega arith))) (r.names n fs refl)
shape_in row (FixedArray e z) r = array (r.byte 0 (omega arith)) e z refl (r.array e z refl).0 (r.array e z refl).1
shape_in row (Pointer e) r = let k : get_or row 0 0 ≡ 6 = r.byte 0 (omega arith) in other (λ e. omega arith) (λ e. omega arith) (λ e. omega arith) (λ d xs t. refl) (λ xs. refl) (λ xs. refl)
shape_in row (Function ps e) r = let k : get_or row 0 0 ≡ 7 = r.byte 0 (omega arith) in other (λ e. omega arith) (λ e. omega arith) (λ e. omega arith) (λ d xs t. refl) (λ xs. refl) (λ xs. refl)
shape_in row Unit r = let k : get_or row 0 0 ≡ 8 = r.byte 0 (omega arith) in other (λ e. omega arith) (λ e. omega arith) (λ e. omega arith) (λ d xs t. refl) (λ xs. refl) (λ xs. refl)
shape_in row Error r = let k : get_or row 0 0 ≡ 9 = r.byte 0 (omega arith) in other (λ e. omega arith) (λ e. omega arith) (λ e. omega arith) (λ d xs t. refl) (λ xs. refl) (λ xs. refl)
shape_in row Unknown r = let k : get_or row 0 0 ≡ 10 = r.byte 0 (omega arith) in other (λ e. omega arith) (λ e. omega arith) (λ e. omega arith) (λ d xs t. refl) (λ xs. refl) (λ xs. refl)

-- the type that was read from a row
pub shape_of : (most own : ℕ) (row : List ℕ) (T : MirType) (n : ℕ) → Bytes row → type_of most own row ≡ ok T n → Shape row T
shape_of most own row T n h e = shape_in row T (in_row most own row T n h e)
