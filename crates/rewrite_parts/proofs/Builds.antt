-- Where the values of an accepted build stand in the input, as the promises of the code ask for them.
use Prim.Native.Nat.{ℕ, zero, suc, ◌+◌}
use mathlib.Core.Path.{◌≡◌, refl, ap, ◌∙◌, sym}
use mathlib.Core.List.{List}
use mathlib.Core.Bool.{Bool, false, not}
use native.Mathlib.Nat.{add-zero}
use native.Mathlib.Omega.{arith}
use lib.ListN.{length, get_or, drop}
use lib.Seq.{drop-drop, get_or-drop}
use lib.Dec.{ltb}
use Rattle.bytes_wire.specs.Parse.{ok}
use Rattle.bytes_wire.specs.Number.{at16}
use Rattle.bytes_wire.specs.Value.{value_of}
use Rattle.bytes_wire.specs.declared.Cause.{Cause}
use Rattle.mir.specs.declared.Value.{Value}
use Rattle.mir.specs.declared.ValueId.{ValueId}
use Rattle.mir.specs.declared.TypeId.{TypeId}
use Rattle.mir.specs.Syntax.{FieldInit, Instruction, InstructionKind}
use Rattle.mir.specs.Reads.{kind_number}
use Rattle.bytes_field.specs.Decode.{list_of, field_init_of, make_struct_of, instruction_of}
use Rattle.bytes_field.specs.declared.Bounds.{Bounds}
use Rattle.bytes_field.proofs.Laws.{head}
use Rattle.bytes_operands.specs.Fields.{list_values, fields_place, value_size, value_end, after, value_step, list_row, list_at, list_count}
use Rattle.bytes_operands.proofs.Places.{Stand, Field, then, last, takes_number, takes_map, takes_checked, fixed, Listed, listed_each, list}
use Rattle.bytes_operands.proofs.EachKind.{At, at, Stands, value_size_lem}
use Rattle.bytes_operands.proofs.Values.{value_behind}
use Rattle.bytes_operands.proofs.Instruction.{instruction_fields, instruction_stands}
use Rattle.rewrite_parts.specs.Rows.{item_offset, Values, Inits, no_init}
use Rattle.bytes_struct.proofs.Placed.{name_field}

-- places behind `off` bytes
place_behind : (s : List ℕ) (off before k p : ℕ) → off + item_offset (drop off s) before p k ≡ item_offset s before (off + p) k
unfolding after
place_behind s off before zero p = refl
place_behind s off before (suc k) p =
    let e : value_size (get_or (drop off s) (p + before) 0) ≡ value_size (get_or s (off + p + before) 0) =
    ap value_size (get_or-drop off s (p + before) 0 ∙ (let z : off + (p + before) ≡ off + p + before = omega arith in ap (λ i. get_or s i 0) z)) in
    let q : off + value_step (drop off s) before 0 p ≡ value_step s before 0 (off + p) = omega arith in
    place_behind s off before k (value_step (drop off s) before 0 p) ∙ ap (after (value_step s before 0) k) q

-- values one behind another
pub values_behind : (next : ℕ) (s : List ℕ) (off before p : ℕ) (xs : List Value) → Listed (λ q. At (value_of next) (drop off s) (q + before)) (value_step (drop off s) before 0) p xs → Values next s before (off + p) xs
values_behind next s off before p xs l =
    record {
      each = λ k h.
          value_behind next s off (item_offset (drop off s) before p k + before) (item_offset s before (off + p) k + before) (get_or xs k Value.Error) (omega (arith, place_behind s off before k p)) (listed_each Value.Error l k h);
    }

-- the list of an accepted instruction that stands at a place of s
pub build_values : (b : Bounds) (seen : List Bool) (late : Bool) (s : List ℕ) (p : ℕ) (i : Instruction) (n : ℕ) → instruction_of b seen late (drop p s) ≡ ok i n
    → (off j : ℕ) → off ≡ p + fields_place (drop p s) → j ≡ get_or (drop p s) 1 0
    → Values b.next s (list_row j).before (off + (list_at (drop off s) j + 1)) (list_values i.kind) × (length (list_values i.kind) ≡ list_count (drop off s) j)
build_values b seen late s p i n e off j f g =
    let t : drop (fields_place (drop p s)) (drop p s) ≡ drop off s = drop-drop (fields_place (drop p s)) p s ∙ ap (λ o. drop o s) (sym f) in
    let w : Stands b.next (drop off s) j i.kind = rw (g, ← t) (instruction_stands b seen late (drop p s) i n e) in
    (values_behind b.next s off (list_row j).before (list_at (drop off s) j + 1) (list_values i.kind) w.values, w.listed)

-- an init at a place: its name, and behind it its value
pub record OneInit (next : ℕ) (t : List ℕ) (q : ℕ) (f : FieldInit) : Type 0 where
  pub named : at16 t q ≡ f.name.0
  pub value : At (value_of next) t (q + 2) f.value

module _ (b : Bounds) (t : List ℕ) where
  -- a value, wherever it stands
  value_field : {p : ℕ} → Field t p (value_of b.next) (At (value_of b.next) t p) (value_end t p)
  value_field {p} = record { each = λ a n e. (at n e, ap (λ m. p + m) (value_size_lem b.next (drop p t) e ∙ ap value_size (head t p))) }

  -- a list of inits
  inits_field : {p : ℕ} → Field t p (list_of b.list (field_init_of b)) (λ fs. Listed (OneInit b.next t) (value_step t 2 0) (p + 1) fs × (length fs ≡ get_or t p 0)) (after (value_step t 2 0) (get_or t p 0) (p + 1))
  inits_field {p} =
      list {Q = OneInit b.next t}
      (λ q. then (name_field t) (λ k u. last _ value_field (λ x r. (record { named = u; value = r }, sym (add-zero _)))))
      b.list p

  -- a struct build: its inits stand behind its dest
  data StructAt : InstructionKind → Type 0 where
    struct_at : (d : ValueId) (fs : List FieldInit) (y : TypeId) → Listed (OneInit b.next t) (value_step t 2 0) 3 fs → length fs ≡ get_or t 2 0 → StructAt (InstructionKind.MakeStruct d fs y)

  -- so they do where one is read
  struct_build : (seen : List Bool) → Stand t 0 (make_struct_of b seen) (λ i e. StructAt i)
  unfolding make_struct_of
  struct_build seen =
      then (fixed (takes_checked Cause.Redefined (λ d. not (get_or seen d.0 false)) (takes_map _ (takes_checked Cause.OutOfRange (λ x. ltb x b.next) (takes_number 2))))) (λ d u.
      then inits_field (λ fs p.
      last _ (fixed (takes_map _ (takes_checked Cause.OutOfRange (λ x. ltb x b.types) (takes_number 2)))) (λ y v. struct_at d fs y p.0 p.1)))

  -- the inits of the build
  struct_inits : {k : InstructionKind} {d : ValueId} {fs : List FieldInit} {y : TypeId} → StructAt k → k ≡ InstructionKind.MakeStruct d fs y → Listed (OneInit b.next t) (value_step t 2 0) 3 fs × (length fs ≡ get_or t 2 0)
  struct_inits {k} {d} {fs} {y} (struct_at d' gs y' l m) e = let z : fs ≡ gs = cc in rw z (l, m)

-- the names and values behind `off` bytes
pub inits_behind : (next : ℕ) (s : List ℕ) (off p : ℕ) (fs : List FieldInit) → Listed (OneInit next (drop off s)) (value_step (drop off s) 2 0) p fs → Inits next s (off + p) fs
inits_behind next s off p fs l =
    record {
      named = λ k h.
          let z : off + (item_offset (drop off s) 2 p k + 1) ≡ item_offset s 2 (off + p) k + 1 = omega (arith, place_behind s off 2 k p) in
          rw (get_or-drop off s (item_offset (drop off s) 2 p k) 0, get_or-drop off s (item_offset (drop off s) 2 p k + 1) 0, z, place_behind s off 2 k p) at (listed_each no_init l k h).named;
      each = λ k h.
          value_behind next s off (item_offset (drop off s) 2 p k + 2) (item_offset s 2 (off + p) k + 2) (get_or fs k no_init).value (omega (arith, place_behind s off 2 k p)) (listed_each no_init l k h).value;
    }

-- the inits of an accepted struct build that stands at a place of s
pub build_inits : (b : Bounds) (seen : List Bool) (late : Bool) (s : List ℕ) (p : ℕ) (i : Instruction) (n : ℕ) {d : ValueId} {fs : List FieldInit} {y : TypeId} → instruction_of b seen late (drop p s) ≡ ok i n → i.kind ≡ InstructionKind.MakeStruct d fs y
    → (off : ℕ) → off ≡ p + fields_place (drop p s) → Inits b.next s (off + 3) fs × (length fs ≡ get_or s (off + 2) 0)
build_inits b seen late s p i n {d} {fs} {y} e k off f =
    let t : drop (fields_place (drop p s)) (drop p s) ≡ drop off s = drop-drop (fields_place (drop p s)) p s ∙ ap (λ o. drop o s) (sym f) in
    let h = instruction_fields b seen late (drop p s) i n e in
    let j : get_or (drop p s) 1 0 ≡ 12 = sym h.numbered ∙ ap kind_number k in
    let r : make_struct_of b seen (drop off s) ≡ ok i.kind h.size = rw (t, j) at h.read in
    let w = struct_inits b (drop off s) ((struct_build b (drop off s) seen).each i.kind h.size r) k in
    (inits_behind b.next s off 3 fs w.0, w.1 ∙ get_or-drop off s 2 0)

-- the same in its own fields
pub own_inits : (b : Bounds) (seen : List Bool) (late : Bool) (t : List ℕ) (i : Instruction) (n : ℕ) {d : ValueId} {fs : List FieldInit} {y : TypeId} → instruction_of b seen late t ≡ ok i n → i.kind ≡ InstructionKind.MakeStruct d fs y
    → Inits b.next (drop (fields_place t) t) 3 fs × (length fs ≡ get_or (drop (fields_place t) t) 2 0)
own_inits b seen late t i n {d} {fs} {y} e k =
    let u = drop (fields_place t) t in
    let h = instruction_fields b seen late t i n e in
    let j : get_or t 1 0 ≡ 12 = sym h.numbered ∙ ap kind_number k in
    let w = struct_inits b u ((struct_build b u seen).each i.kind h.size (rw j at h.read)) k in
    (inits_behind b.next u 0 3 fs w.0, w.1)
