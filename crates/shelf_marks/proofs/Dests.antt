-- Where the dests of each kind stand.
use Prim.Native.Nat.{ℕ, zero, suc, ◌+◌, ◌<◌}
use mathlib.Core.Path.{◌≡◌, refl, ap, ◌∙◌}
use mathlib.Core.List.{List, [], ◌∷◌}
use mathlib.Core.Bool.{Bool, false, not}
use native.Mathlib.Omega.{arith}
use lib.ListN.{length, get_or, drop}
use lib.Seq.{drop-drop}
use lib.Dec.{leb, ltb}
use Rattle.bytes_wire.specs.Parse.{Parse, ok, bad, and_then, map_parse}
use Rattle.bytes_wire.specs.Number.{u8_of, u16_of, u32_of, below, at16}
use Rattle.bytes_wire.specs.Value.{value_of, value_id_of}
use Rattle.bytes_wire.specs.declared.Cause.{Cause}
use Rattle.mir.specs.declared.ValueId.{ValueId}
use Rattle.bytes_wire.proofs.Laws.{from_8, from_16, map_and, map_map}
use Rattle.bytes_wire.proofs.Inv.{no_ok, both, image, and_inv, map_inv, checked_inv, number_inv, below_inv}
use Rattle.mir.specs.Syntax.{Instruction, InstructionKind}
use Rattle.mir.specs.Syntax.{Assign, UnaryOp, BinaryOp, Call, Cast, Load, Store, Debug, Nop, Phi}
use Rattle.mir.specs.Syntax.{MakeTuple, ExtractTupleElement, MakeStruct, ExtractStructField, InsertField, InsertTuple, MakeFixedArray, AssertEq, HeapAllocCells}
use Rattle.mir.specs.Reads.{dests, kind_number}
use Rattle.bytes_field.specs.Decode.{count_of, type_id_of, name_id_of, list_of, mark, defined_of, defined_seq, defineds_of, operation_of, place_of, source_of, field_init_of, returns_of, bit, instruction_of}
use Rattle.bytes_field.specs.Decode.{assign_of, unary_of, binary_of, call_of, cast_of, load_of, phi_of, make_tuple_of, extract_tuple_of, make_struct_of, extract_field_of, insert_field_of, insert_tuple_of, make_array_of, heap_alloc_of}
use Rattle.bytes_field.specs.declared.Bounds.{Bounds}
use Rattle.bytes_operands.specs.Fields.{fields_place}
use Rattle.bytes_operands.proofs.Instruction.{chosen, instruction_fields}
use Rattle.mir.specs.Lists.{Each}
use Rattle.shelf_marks.specs.Tests.{dest_count, dest_first, dests_at}

-- two things that are always made alike
same_made : {A B : Type 0} (f g : A → B) (d : Parse A) {a : A} {n : ℕ} → map_parse f d ≡ map_parse g d → d ≡ ok a n → f a ≡ g a
same_made f g (ok b m) e q = cc
same_made f g (bad c o) e q = absurd (no_ok q)

-- a value that is defined at a place
record New (next : ℕ) (u : List ℕ) (at : ℕ) (d : ValueId) (n : ℕ) : Type 0 where
  same : d.0 ≡ at16 u at
  low : d.0 < next
  took : n ≡ 2

new_at : (next : ℕ) (seen : List Bool) (u : List ℕ) (at : ℕ) {d : ValueId} {n : ℕ} → defined_of next seen (drop at u) ≡ ok d n → New next u at d n
new_at next seen u at {d} {n} e =
    elim (map_inv (λ x. record { 0 = x }) (below next (drop at u)) (checked_inv Cause.Redefined (λ d. not (get_or seen d.0 false)) (value_id_of next (drop at u)) e).0) [
      | image x f g ↦
          let h = below_inv next (drop at u) f in
          let k = number_inv 2 (drop at u) h.0 in
          let z : d.0 ≡ x = ap (λ y. y.0) g in
          record { same = z ∙ k.1 ∙ from_16 u at; low = omega (arith, h.1); took = k.2 }
    ]

-- what is known of the dests of an instruction with the fields u
pub record DestsIn (next : ℕ) (u : List ℕ) (first count : ℕ) (i : InstructionKind) : Type 0 where
  pub same : dests i ≡ dests_at u first count
  pub low : Each (λ d. d.0 < next) (dests i)

module _ (b : Bounds) (seen : List Bool) (u : List ℕ) where
  -- one dest, and the rest behind it
  one : (at : ℕ) (f : ValueId → List ℕ → Parse InstructionKind) {k : InstructionKind} {n : ℕ} → and_then (drop at u) (defined_of b.next seen (drop at u)) f ≡ ok k n → ((d : ValueId) (s : List ℕ) → map_parse dests (f d s) ≡ map_parse (λ i. d ∷ []) (f d s)) → DestsIn b.next u at 1 k
  unfolding dests_at
  one at f {k} e g =
      elim (and_inv (drop at u) (defined_of b.next seen (drop at u)) f e) [
        | both d m j p q r ↦
            let w = new_at b.next seen u at p in
            let z : dests k ≡ d ∷ [] = same_made dests (λ i. d ∷ []) (f d (drop m (drop at u))) (g d (drop m (drop at u))) q in
            let y : d ≡ record { 0 = at16 u at } = ap (λ x. record { 0 = x }) w.same in
            record { same = z ∙ ap (λ x. x ∷ []) y; low = rw z (w.low, tt) }
      ]

  -- behind an operation
  behind_op : (most : ℕ) (f : ℕ → ValueId → List ℕ → Parse InstructionKind) {k : InstructionKind} {n : ℕ} → and_then u (operation_of most u) (λ op s. and_then s (defined_of b.next seen s) (f op)) ≡ ok k n → ((op : ℕ) (d : ValueId) (s : List ℕ) → map_parse dests (f op d s) ≡ map_parse (λ i. d ∷ []) (f op d s)) → DestsIn b.next u 1 1 k
  behind_op most f {k} e g =
      elim (and_inv u (operation_of most u) (λ op s. and_then s (defined_of b.next seen s) (f op)) e) [
        | both op m j p q r ↦
            let o : m ≡ 1 = (number_inv 1 u (checked_inv Cause.Undefined (λ x. ltb x most) (u8_of u) p).0).2 in
            let z : and_then (drop 1 u) (defined_of b.next seen (drop 1 u)) (f op) ≡ ok k j = rw o at q in
            one 1 (f op) z (g op)
      ]

-- several
news_at : (next : ℕ) (seen : List Bool) (u : List ℕ) (k at : ℕ) {ds : List ValueId} {n : ℕ} → defined_seq next seen k (drop at u) ≡ ok ds n → (ds ≡ dests_at u at k) × Each (λ d. d.0 < next) ds
unfolding defined_seq dests_at
news_at next seen u zero at {ds} e = let z : ds ≡ [] = cc in rw z (refl, tt)
news_at next seen u (suc k) at {ds} e =
    elim (and_inv (drop at u) (defined_of next seen (drop at u)) (λ d t. map_parse (λ ds. d ∷ ds) (defined_seq next (mark seen d) k t)) e) [
      | both d m j p q r ↦
          let w = new_at next seen u at p in
          let here : drop m (drop at u) ≡ drop (at + 2) u = drop-drop m at u ∙ ap (λ y. drop (at + y) u) w.took in
          elim (map_inv (λ ds. d ∷ ds) (defined_seq next (mark seen d) k (drop m (drop at u))) q) [
            | image es f g ↦
                let h = news_at next (mark seen d) u k (at + 2) (rw here at f) in
                let y : d ≡ record { 0 = at16 u at } = ap (λ x. record { 0 = x }) w.same in
                rw g (ap (λ x. x ∷ es) y ∙ ap (λ x. record { 0 = at16 u at } ∷ x) h.0, (w.low, h.1))
          ]
    ]

defineds_at : (most next : ℕ) (seen : List Bool) (u : List ℕ) {ds : List ValueId} {n : ℕ} → defineds_of most next seen u ≡ ok ds n → (ds ≡ dests_at u 1 (get_or u 0 0)) × Each (λ d. d.0 < next) ds
unfolding defineds_of
defineds_at most next seen u {ds} e =
    elim (and_inv u (count_of most u) (λ n t. defined_seq next seen n t) e) [
      | both k m j p q r ↦
          let c = number_inv 1 u (checked_inv Cause.TooMany (λ n. leb n most) (u8_of u) p).0 in
          let z : k ≡ get_or u 0 0 = c.1 ∙ from_8 u 0 in
          let y : defined_seq next seen k (drop 1 u) ≡ ok ds j = rw c.2 at q in
          let h = news_at next seen u k 1 y in
          (h.0 ∙ ap (λ x. dests_at u 1 x) z, h.1)
    ]

module _ (b : Bounds) (u : List ℕ) where
  call : {k : InstructionKind} {n : ℕ} → call_of b [] u ≡ ok k n → DestsIn b.next u 1 (get_or u 0 0) k
  unfolding call_of
  call {k} e =
      let rest : List ValueId → List ℕ → Parse InstructionKind = (λ ds s. and_then s (u16_of s) (λ f s. and_then s (list_of b.list (value_of b.next) s) (λ xs s. and_then s (list_of b.list (type_id_of b.types) s) (λ ps s. map_parse (λ rs. Call ds f xs ps rs) (returns_of b [] (length ds) s))))) in
      elim (and_inv u (defineds_of b.list b.next [] u) rest e) [
        | both ds m j p q r ↦
            let h = defineds_at b.list b.next [] u p in
            let z : dests k ≡ ds = same_made dests (λ i. ds) (rest ds (drop m u)) (simp (map_and, map_map)) q in
            record { same = z ∙ h.0; low = rw z h.1 }
      ]

  assign : {k : InstructionKind} {n : ℕ} → assign_of b [] u ≡ ok k n → DestsIn b.next u 0 1 k
  unfolding assign_of
  assign e = one b [] u 0 (λ d s. and_then s (value_of b.next s) (λ x s. map_parse (λ t. Assign d x t) (type_id_of b.types s))) e (λ d s. simp (map_and, map_map))

  unary : {k : InstructionKind} {n : ℕ} → unary_of b [] u ≡ ok k n → DestsIn b.next u 1 1 k
  unfolding unary_of
  unary e = behind_op b [] u 16 (λ op. λ d s. map_parse (λ x. UnaryOp op d x) (value_of b.next s)) e (λ op d s. simp (map_map))

  binary : {k : InstructionKind} {n : ℕ} → binary_of b [] u ≡ ok k n → DestsIn b.next u 1 1 k
  unfolding binary_of
  binary e = behind_op b [] u 26 (λ op. λ d s. and_then s (value_of b.next s) (λ x s. map_parse (λ y. BinaryOp op d x y) (value_of b.next s))) e (λ op d s. simp (map_and, map_map))

  cast : {k : InstructionKind} {n : ℕ} → cast_of b [] u ≡ ok k n → DestsIn b.next u 0 1 k
  unfolding cast_of
  cast e = one b [] u 0 (λ d s. and_then s (value_of b.next s) (λ x s. and_then s (type_id_of b.types s) (λ t s. map_parse (λ u. Cast d x t u) (type_id_of b.types s)))) e (λ d s. simp (map_and, map_map))

  load : {k : InstructionKind} {n : ℕ} → load_of b [] u ≡ ok k n → DestsIn b.next u 0 1 k
  unfolding load_of
  load e = one b [] u 0 (λ d s. and_then s (place_of b s) (λ p s. map_parse (λ t. Load d p t) (type_id_of b.types s))) e (λ d s. simp (map_and, map_map))

  phi : {k : InstructionKind} {n : ℕ} → phi_of b [] u ≡ ok k n → DestsIn b.next u 0 1 k
  unfolding phi_of
  phi e = one b [] u 0 (λ d s. and_then s (type_id_of b.types s) (λ t s. map_parse (λ ss. Phi d t ss) (list_of b.list (source_of b) s))) e (λ d s. simp (map_and, map_map))

  make_tuple : {k : InstructionKind} {n : ℕ} → make_tuple_of b [] u ≡ ok k n → DestsIn b.next u 0 1 k
  unfolding make_tuple_of
  make_tuple e = one b [] u 0 (λ d s. map_parse (λ xs. MakeTuple d xs) (list_of b.list (value_of b.next) s)) e (λ d s. simp (map_map))

  extract_tuple : {k : InstructionKind} {n : ℕ} → extract_tuple_of b [] u ≡ ok k n → DestsIn b.next u 0 1 k
  unfolding extract_tuple_of
  extract_tuple e = one b [] u 0 (λ d s. and_then s (value_of b.next s) (λ x s. and_then s (u32_of s) (λ k s. map_parse (λ t. ExtractTupleElement d x k t) (type_id_of b.types s)))) e (λ d s. simp (map_and, map_map))

  make_struct : {k : InstructionKind} {n : ℕ} → make_struct_of b [] u ≡ ok k n → DestsIn b.next u 0 1 k
  unfolding make_struct_of
  make_struct e = one b [] u 0 (λ d s. and_then s (list_of b.list (field_init_of b) s) (λ fs s. map_parse (λ t. MakeStruct d fs t) (type_id_of b.types s))) e (λ d s. simp (map_and, map_map))

  extract_field : {k : InstructionKind} {n : ℕ} → extract_field_of b [] u ≡ ok k n → DestsIn b.next u 0 1 k
  unfolding extract_field_of
  extract_field e = one b [] u 0 (λ d s. and_then s (value_of b.next s) (λ x s. and_then s (name_id_of s) (λ n s. map_parse (λ t. ExtractStructField d x n t) (type_id_of b.types s)))) e (λ d s. simp (map_and, map_map))

  insert_field : {k : InstructionKind} {n : ℕ} → insert_field_of b [] u ≡ ok k n → DestsIn b.next u 0 1 k
  unfolding insert_field_of
  insert_field e = one b [] u 0 (λ d s. and_then s (value_of b.next s) (λ x s. and_then s (name_id_of s) (λ n s. and_then s (value_of b.next s) (λ y s. map_parse (λ t. InsertField d x n y t) (type_id_of b.types s))))) e (λ d s. simp (map_and, map_map))

  insert_tuple : {k : InstructionKind} {n : ℕ} → insert_tuple_of b [] u ≡ ok k n → DestsIn b.next u 0 1 k
  unfolding insert_tuple_of
  insert_tuple e = one b [] u 0 (λ d s. and_then s (value_of b.next s) (λ x s. and_then s (u32_of s) (λ k s. and_then s (value_of b.next s) (λ y s. map_parse (λ t. InsertTuple d x k y t) (type_id_of b.types s))))) e (λ d s. simp (map_and, map_map))

  make_array : (c : Bool) {k : InstructionKind} {n : ℕ} → make_array_of b [] c u ≡ ok k n → DestsIn b.next u 0 1 k
  unfolding make_array_of
  make_array c e = one b [] u 0 (λ d s. and_then s (list_of b.list (value_of b.next) s) (λ xs s. map_parse (λ t. MakeFixedArray d xs t c) (type_id_of b.types s))) e (λ d s. simp (map_and, map_map))

  heap_alloc : {k : InstructionKind} {n : ℕ} → heap_alloc_of b [] u ≡ ok k n → DestsIn b.next u 0 1 k
  unfolding heap_alloc_of
  heap_alloc e = one b [] u 0 (λ d s. map_parse (λ x. HeapAllocCells d x) (value_of b.next s)) e (λ d s. simp (map_map))

  -- each kind's
  fields_dests : (x j : ℕ) (i : InstructionKind) {n : ℕ} → chosen b [] x j u ≡ ok i n → kind_number i ≡ j → DestsIn b.next u (dest_first j) (dest_count u j) i
  unfolding dests_at
  fields_dests x j (Assign d v t) {n} e k = let z : assign_of b [] u ≡ ok (Assign d v t) n = rw (← k) at e in rw (← k) (assign z)
  fields_dests x j (UnaryOp op d v) {n} e k = let z : unary_of b [] u ≡ ok (UnaryOp op d v) n = rw (← k) at e in rw (← k) (unary z)
  fields_dests x j (BinaryOp op d v w) {n} e k = let z : binary_of b [] u ≡ ok (BinaryOp op d v w) n = rw (← k) at e in rw (← k) (binary z)
  fields_dests x j (Call ds f xs ps rs) {n} e k = let z : call_of b [] u ≡ ok (Call ds f xs ps rs) n = rw (← k) at e in rw (← k) (call z)
  fields_dests x j (Cast d v t w) {n} e k = let z : cast_of b [] u ≡ ok (Cast d v t w) n = rw (← k) at e in rw (← k) (cast z)
  fields_dests x j (Load d p t) {n} e k = let z : load_of b [] u ≡ ok (Load d p t) n = rw (← k) at e in rw (← k) (load z)
  fields_dests x j (Store p v t) e k = rw (← k) record { same = refl; low = tt }
  fields_dests x j (Debug m xs) e k = rw (← k) record { same = refl; low = tt }
  fields_dests x j Nop e k = rw (← k) record { same = refl; low = tt }
  fields_dests x j (Phi d t ss) {n} e k = let z : phi_of b [] u ≡ ok (Phi d t ss) n = rw (← k) at e in rw (← k) (phi z)
  fields_dests x j (MakeTuple d xs) {n} e k = let z : make_tuple_of b [] u ≡ ok (MakeTuple d xs) n = rw (← k) at e in rw (← k) (make_tuple z)
  fields_dests x j (ExtractTupleElement d v m t) {n} e k = let z : extract_tuple_of b [] u ≡ ok (ExtractTupleElement d v m t) n = rw (← k) at e in rw (← k) (extract_tuple z)
  fields_dests x j (MakeStruct d fs t) {n} e k = let z : make_struct_of b [] u ≡ ok (MakeStruct d fs t) n = rw (← k) at e in rw (← k) (make_struct z)
  fields_dests x j (ExtractStructField d v m t) {n} e k = let z : extract_field_of b [] u ≡ ok (ExtractStructField d v m t) n = rw (← k) at e in rw (← k) (extract_field z)
  fields_dests x j (InsertField d v m w t) {n} e k = let z : insert_field_of b [] u ≡ ok (InsertField d v m w t) n = rw (← k) at e in rw (← k) (insert_field z)
  fields_dests x j (InsertTuple d v m w t) {n} e k = let z : insert_tuple_of b [] u ≡ ok (InsertTuple d v m w t) n = rw (← k) at e in rw (← k) (insert_tuple z)
  fields_dests x j (MakeFixedArray d xs t c) {n} e k = let z : make_array_of b [] (bit 3 x) u ≡ ok (MakeFixedArray d xs t c) n = rw (← k) at e in rw (← k) (make_array (bit 3 x) z)
  fields_dests x j (AssertEq v w) e k = rw (← k) record { same = refl; low = tt }
  fields_dests x j (HeapAllocCells d v) {n} e k = let z : heap_alloc_of b [] u ≡ ok (HeapAllocCells d v) n = rw (← k) at e in rw (← k) (heap_alloc z)

-- an accepted instruction's dests
pub dests_in : (b : Bounds) (t : List ℕ) (i : Instruction) (n : ℕ) → instruction_of b [] false t ≡ ok i n → DestsIn b.next (drop (fields_place t) t) (dest_first (kind_number i.kind)) (dest_count (drop (fields_place t) t) (kind_number i.kind)) i.kind
dests_in b t i n e =
    let h = instruction_fields b [] false t i n e in
    rw h.numbered (fields_dests b (drop (fields_place t) t) (get_or t 0 0) (get_or t 1 0) i.kind h.read h.numbered)
