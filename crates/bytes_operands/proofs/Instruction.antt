-- An instruction's own fields stand behind what stands beside its kind, and lookups find them there.
use Prim.Native.Nat.{ℕ, ◌+◌, ◌≤◌, ◌<◌}
use mathlib.Core.Path.{◌≡◌, refl, ap, ◌∙◌, sym}
use mathlib.Core.List.{List, map, []}
use mathlib.Core.Bool.{Bool, true, false, not, cond, ◌&&◌}
use mathlib.Core.Option.{Option, none, some}
use native.Mathlib.Omega.{arith}
use borrow.Author.Tests.{ltb-true}
use lib.ListN.{length, get_or, get_elem?, drop}
use lib.Seq.{drop-drop}
use lib.Dec.{ltb, eqb}
use Rattle.bytes_wire.specs.Parse.{Parse, ok, bad, checked}
use Rattle.bytes_wire.specs.Number.{u8_of}
use Rattle.bytes_wire.specs.Value.{value_of}
use Rattle.bytes_wire.specs.declared.Cause.{Cause}
use Rattle.mir.specs.declared.Value.{Value}
use Rattle.bytes_wire.proofs.Laws.{from_8}
use Rattle.bytes_wire.proofs.Inv.{both, image, and_inv, map_inv, checked_inv, number_inv}
use Rattle.mir.specs.declared.Projection.{Projection}
use Rattle.mir.specs.Syntax.{Instruction, InstructionKind}
use Rattle.mir.specs.Syntax.{Assign, UnaryOp, BinaryOp, Call, Cast, Load, Store, Debug, Nop, Phi}
use Rattle.mir.specs.Syntax.{MakeTuple, ExtractTupleElement, MakeStruct, ExtractStructField, InsertField, InsertTuple, MakeFixedArray, AssertEq, HeapAllocCells}
use Rattle.mir.specs.Reads.{kind_number}
use Rattle.bytes_field.specs.Decode.{kinds, bit, optional, projection_of, meta_of, defined_bits, bits_of, kind_of, instruction_of}
use Rattle.bytes_field.specs.declared.Bounds.{Bounds}
use Rattle.bytes_field.proofs.Rows.{kind_number_lem}
use Rattle.bytes_operands.specs.Fields.{operand_fields, place_steps, meta_size, fields_place, projection_end, after, value_step, operand_row, operand_first, steps_at, step_count}
use Rattle.bytes_operands.proofs.Places.{Takes, takes_number, takes_map, takes_and, listed_at, listed_past}
use Rattle.bytes_operands.proofs.EachKind.{at, Stands, fields}

-- the code's table counts the operand fields of each kind
pub operand_many : (i : InstructionKind) → length (operand_fields i) ≡ (operand_row (kind_number i)).count
operand_many (Assign d x t) = refl
operand_many (UnaryOp op d x) = refl
operand_many (BinaryOp op d x y) = refl
operand_many (Call ds f xs ps rs) = refl
operand_many (Cast d x t u) = refl
operand_many (Load d p t) = refl
operand_many (Store p x t) = refl
operand_many (Debug m xs) = refl
operand_many Nop = refl
operand_many (Phi d t ss) = refl
operand_many (MakeTuple d xs) = refl
operand_many (ExtractTupleElement d x k t) = refl
operand_many (MakeStruct d fs t) = refl
operand_many (ExtractStructField d x n t) = refl
operand_many (InsertField d x n y t) = refl
operand_many (InsertTuple d x k y t) = refl
operand_many (MakeFixedArray d xs t c) = refl
operand_many (AssertEq x y) = refl
operand_many (HeapAllocCells d x) = refl

-- a field whose bit may stand
takes_optional : {A : Type 0} {dec : List ℕ → Parse A} {w : ℕ} (c : Bool) → Takes dec w → Takes (optional c dec) (cond c w 0)
takes_optional true x = takes_map some x
takes_optional false x = record { each = λ s a n e. cc }

-- what stands beside the kind takes what the bits say
pub meta_size_lem : (bits : ℕ) → Takes (meta_of bits) (meta_size bits)
unfolding meta_of
meta_size_lem bits =
    takes_and (takes_optional (bit 0 bits) (takes_and (takes_number 4) (λ a. takes_map _ (takes_number 4)))) (λ p.
    takes_and (takes_optional (bit 1 bits) (takes_and (takes_number 4) (λ a. takes_map _ (takes_number 8)))) (λ e.
    takes_map _ (takes_optional (bit 2 bits) (takes_number 4))))

-- what the decoder of the kind with number k reads, behind the bit map x
abbrev pub chosen : Bounds → List Bool → ℕ → ℕ → List ℕ → Parse InstructionKind
chosen b seen x k t = get_or (map (λ f. f t) (kinds b seen (bit 3 x))) k (bad Cause.Undefined 0)

-- the decoder of the kind that the second byte names read the kind, from the place of the fields on
pub record KindAt (b : Bounds) (seen : List Bool) (s : List ℕ) (i : Instruction) (n : ℕ) : Type 0 where
  pub size : ℕ
  pub known : get_or s 1 0 < 19
  pub numbered : kind_number i.kind ≡ get_or s 1 0
  pub read : chosen b seen (get_or s 0 0) (get_or s 1 0) (drop (fields_place s) s) ≡ ok i.kind size
  pub whole : n ≡ fields_place s + size

-- an accepted instruction is one
pub instruction_fields : (b : Bounds) (seen : List Bool) (late : Bool) (s : List ℕ) (i : Instruction) (n : ℕ) → instruction_of b seen late s ≡ ok i n → KindAt b seen s i n
unfolding instruction_of
instruction_fields b seen late s i n e =
    elim (and_inv s (bits_of s) _ e) [
      | both x m j p q r ↦
          let c = number_inv 1 s (checked_inv Cause.Undefined (defined_bits s) (u8_of s) p).0 in
          let o : m ≡ 1 = c.2 in
          let x' : x ≡ get_or s 0 0 = c.1 ∙ from_8 s 0 in
          elim (and_inv (drop m s) (kind_of late (drop m s)) _ q) [
            | both k m' j' p' q' r' ↦
                let d = checked_inv Cause.LatePhi (λ k. not (late && eqb k 9)) (checked Cause.Undefined (λ k. ltb k 19) (u8_of (drop m s))) p' in
                let d' = checked_inv Cause.Undefined (λ k. ltb k 19) (u8_of (drop m s)) d.0 in
                let y = number_inv 1 (drop m s) d'.0 in
                let k' : k ≡ get_or s 1 0 = y.1 ∙ rw o (from_8 s 1) in
                let l : k < 19 = ltb-true k 19 d'.1 in
                let u = drop m' (drop m s) in
                elim (and_inv u (meta_of x u) _ q') [
                  | both w m'' j'' p'' q'' r'' ↦
                      elim (map_inv (λ i. record { meta = w; kind = i }) (chosen b seen x k (drop m'' u)) q'') [
                        | image h f g ↦
                            let z : m'' ≡ meta_size x = (meta_size_lem x).each u w m'' p'' in
                            let v : meta_size x ≡ meta_size (get_or s 0 0) = ap meta_size x' in
                            let far : m + (m' + m'') ≡ fields_place s = omega (arith, y.2) in
                            let here : drop m'' u ≡ drop (fields_place s) s = drop-drop m'' m' (drop m s) ∙ drop-drop (m' + m'') m s ∙ ap (λ a. drop a s) far in
                            let known : h ≡ i.kind = sym (ap (λ a. a.kind) g) in
                            let own = drop (fields_place s) s in
                            let read : chosen b seen (get_or s 0 0) (get_or s 1 0) own ≡ ok i.kind j'' =
                            sym (ap (λ a. chosen b seen x k a) here ∙ ap (λ a. chosen b seen a k own) x' ∙ ap (λ a. chosen b seen (get_or s 0 0) a own) k') ∙ f ∙ ap (λ a. ok a j'') known in
                            let l' : get_or s 1 0 < 19 = rw k' at l in
                            record {
                              size = j'';
                              known = l';
                              numbered = kind_number_lem b seen (bit 3 (get_or s 0 0)) (get_or s 1 0) (drop (fields_place s) s) i.kind j'' l' read;
                              read = read;
                              whole = omega (arith, far);
                            }
                      ]
                ]
          ]
    ]

-- the kind and the fields as code finds them: the decoder of the kind has read the fields
pub fields_read : (b : Bounds) (t : List ℕ) {u : List ℕ} {fp kind : ℕ} → fp ≡ fields_place t → u ≡ drop fp t → kind ≡ get_or t 1 0 → (i : Instruction) (n : ℕ) (e : instruction_of b [] false t ≡ ok i n) (j : ℕ) → kind ≡ j → chosen b [] (get_or t 0 0) j u ≡ ok i.kind (instruction_fields b [] false t i n e).size
fields_read b t {u} ef eu ek i n e j h =
    let own : u ≡ drop (fields_place t) t = eu ∙ ap (λ a. drop a t) ef in
    ap (λ a. chosen b [] (get_or t 0 0) a u) (sym h ∙ ek) ∙ ap (λ a. chosen b [] (get_or t 0 0) (get_or t 1 0) a) own ∙ (instruction_fields b [] false t i n e).read

-- what stands where in an accepted instruction
pub instruction_stands : (b : Bounds) (seen : List Bool) (late : Bool) (s : List ℕ) (i : Instruction) (n : ℕ) → instruction_of b seen late s ≡ ok i n → Stands b.next (drop (fields_place s) s) (get_or s 1 0) i.kind
instruction_stands b seen late s i n e =
    let h = instruction_fields b seen late s i n e in
    (fields b seen (bit 3 (get_or s 0 0)) (drop (fields_place s) s) (get_or s 1 0)).each i.kind h.size h.read

-- the lookups, where t are the instruction's own fields and j is its kind
module _ (b : Bounds) (seen : List Bool) (late : Bool) (s : List ℕ) (i : Instruction) (n : ℕ) (e : instruction_of b seen late s ≡ ok i n) (t : List ℕ) (j k : ℕ) (h : t ≡ drop (fields_place s) s) (g : j ≡ get_or s 1 0) where
  -- what is known of them, and how many operand fields there are
  known : Stands b.next t j i.kind
  known = rw (h, g) (instruction_stands b seen late s i n e)

  many : length (operand_fields i.kind) ≡ (operand_row j).count
  many = operand_many i.kind ∙ ap (λ m. (operand_row m).count) ((instruction_fields b seen late s i n e).numbered ∙ sym g)

  -- past the count there is none
  pub no_operand : (operand_row j).count ≤ k → none ≡ get_elem? (operand_fields i.kind) k
  no_operand l = listed_past (operand_fields i.kind) k (omega (arith, many))

  pub no_step : step_count t j ≤ k → none ≡ get_elem? (place_steps i.kind) k
  no_step l = listed_past (place_steps i.kind) k (omega (arith, known.stepped))

  -- below it, what stands at the place is the one
  pub operand_at : {r : Option Value} (p : ℕ) → k < (operand_row j).count → p ≡ after (value_step t 0 (operand_row j).apart) k (operand_first t j) → ((x : Value) (m : ℕ) → value_of b.next (drop p t) ≡ ok x m → r ≡ some x) → r ≡ get_elem? (operand_fields i.kind) k
  operand_at p l q f = listed_at known.operands k (λ x y. elim y [ at m u ↦ f x m (rw q u) ]) (omega (arith, many))

  pub step_at : {r : Option Projection} (p : ℕ) → k < step_count t j → p ≡ after (projection_end t) k (steps_at j + 1) → ((x : Projection) (m : ℕ) → projection_of b.next (drop p t) ≡ ok x m → r ≡ some x) → r ≡ get_elem? (place_steps i.kind) k
  step_at p l q f = listed_at known.steps k (λ x y. elim y [ at m u ↦ f x m (rw q u) ]) (omega (arith, known.stepped))
