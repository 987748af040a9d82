-- What is known of an instruction that is kept, as the code finds it.
use Prim.Native.Nat.{ℕ, zero, suc, ◌+◌, ◌-◌, ◌≤◌, ◌<◌}
use mathlib.Core.Path.{◌≡◌, refl, ap, ◌∙◌, sym}
use mathlib.Core.List.{List, [], ◌∷◌, ◌++◌}
use mathlib.Core.Bool.{Bool, true, false, true≢false}
use native.Mathlib.Nat.{le_refl}
use native.Mathlib.Omega.{arith}
use lib.ListN.{length, get_or, drop, length-append, take-append-drop}
use Rattle.bytes_wire.specs.Number.{at16}
use Rattle.bytes_wire.specs.Value.{value_bytes}
use Rattle.bytes_wire.specs.WellFormed.{Bytes, FitValue}
use Rattle.bytes_wire.proofs.Canon.{Canon, bytes_drop}
use Rattle.mir.specs.declared.Value.{Value}
use Rattle.mir.specs.Syntax.{Instruction}
use Rattle.bytes_field.specs.Decode.{bit}
use Rattle.bytes_field.specs.Encode.{field_bytes, meta_bytes, instruction_bytes}
use Rattle.bytes_index.specs.declared.code.Code.{Code}
use Rattle.bytes_index.specs.Table.{place_in, end_in, kind_in}
use Rattle.bytes_operands.specs.Fields.{ValueAt, fields_place}
use Rattle.bytes_operands.proofs.Instruction.{KindAt, instruction_fields}
use Rattle.bytes_laws.specs.WellFormed.{Wide, FitKind, FitInstruction}
use Rattle.bytes_laws.proofs.Exact.{whole}
use Rattle.bytes_laws.proofs.EachKind.{fields_most, fields}
use Rattle.bytes_laws.proofs.Instruction.{instruction, instruction_canon}
use Rattle.rewrite.specs.Readings.{readings}
use Rattle.rewrite_patch.specs.Chunks.{Chunk, stays, valued, based, field_chunks, chunks, number_places, reading_places}
use Rattle.rewrite_patch.specs.Places.{count_in, number_in, is_base}
use Rattle.rewrite_patch.specs.Kept.{Kept}
use Rattle.rewrite_patch.proofs.EachKind.{values_in, layout, field_readings}
use Rattle.rewrite_patch.proofs.Renewed.{all_read}
use Rattle.rewrite_patch.proofs.Found.{count_found, number_found}
use Rattle.rewrite_patch.proofs.Bare.{bare, bare_kind, Standing, kinded, alone, standing}
use Rattle.rewrite_patch.proofs.Fits.{readings_fit, readings_most, each_at, value_stands, number_stands}

-- places further behind
pub shifted : (l : List Chunk) (a b j : ℕ) → j < length (values_in l) → get_or (number_places (a + b) l) j 0 ≡ a + get_or (number_places b l) j 0
unfolding number_places values_in
shifted [] a b j h = absurd (omega arith)
shifted (stays w ∷ l) a b j h = let z : a + b + length w ≡ a + (b + length w) = omega arith in rw z (shifted l a (b + length w) j h)
shifted (valued x ∷ l) a b zero h = omega arith
shifted (valued x ∷ l) a b (suc j) h = let z : a + b + length (value_bytes x) ≡ a + (b + length (value_bytes x)) = omega arith in rw z (shifted l a (b + length (value_bytes x)) j (omega arith))
shifted (based v ∷ l) a b zero h = refl
shifted (based v ∷ l) a b (suc j) h = let z : a + b + 2 ≡ a + (b + 2) = omega arith in rw z (shifted l a (b + 2) j (omega arith))

-- the instruction in a slot, from its place on
module _ (code : Code) (slot : ℕ) (i : Instruction) (k : Kept code slot i) where
  abbrev s : List ℕ
  s = drop (place_in code.facts.now slot) code.bytes.now

  abbrev n : ℕ
  n = end_in code.facts.now slot - place_in code.facts.now slot

  abbrev f : List ℕ
  f = drop (fields_place s) s

  s_bytes : Bytes s
  s_bytes = bytes_drop code.bytes.now (place_in code.facts.now slot) k.bytes

  f_bytes : Bytes f
  f_bytes = bytes_drop s (fields_place s) s_bytes

  known : KindAt code.bounds [] s i n
  known = instruction_fields code.bounds [] false s i n k.line.read

  whole_canon : Canon (instruction_bytes i) s n
  whole_canon = instruction_canon code.bounds [] false s s_bytes k.line.read

  field_canon : Canon (field_bytes i.kind) f known.size
  field_canon = ((whole (fields code.bounds [] (bit 3 (get_or s 0 0)) (get_or s 1 0)) (le_refl (fields_most code.bounds))).each f i.kind known.size f_bytes known.read).canon

  over : (w t : List ℕ) (m : ℕ) → Canon w t m → t ≡ w ++ drop m t
  over w t m c = sym (ap (λ l. l ++ drop m t) c.same ∙ take-append-drop m t)

  -- it is one of the kinds
  pub kind_known : kind_in code.facts.now slot < 19
  kind_known = omega (arith, k.line.kind, known.numbered, known.known)

  -- its own fields stand behind what stands beside its kind
  meta_long : fields_place s ≡ 2 + length (meta_bytes i.meta)
  unfolding instruction_bytes
  meta_long = omega (arith, whole_canon.size, field_canon.size, known.whole, length-append (meta_bytes i.meta) (field_bytes i.kind))

  -- how many readings it has
  pub count_is : (kind : ℕ) (g : List ℕ) → kind ≡ kind_in code.facts.now slot → g ≡ f → count_in g kind ≡ length (readings i.kind)
  count_is kind g e h = rw (h, e, k.line.kind) (count_found i.kind f (drop known.size f) (over (field_bytes i.kind) f known.size field_canon))

  -- where their numbers stand
  pub place_is : (kind : ℕ) (g : List ℕ) (j : ℕ) → kind ≡ kind_in code.facts.now slot → g ≡ f → j < length (readings i.kind) → fields_place s + number_in g kind j ≡ get_or (reading_places i) j 0
  unfolding chunks number_places
  place_is kind g j e h l =
      let m = length (meta_bytes i.meta) in
      let l' : j < length (values_in (field_chunks i.kind)) = rw (field_readings i.kind) l in
      rw (h, e, k.line.kind, number_found i.kind f (drop known.size f) (over (field_bytes i.kind) f known.size field_canon) j l)
      (sym (ap (λ a. get_or (number_places a (field_chunks i.kind)) j 0) (omega (arith, meta_long)) ∙ shifted (field_chunks i.kind) (fields_place s) 0 j l'))

  -- the reading stands there
  reading_there : (j : ℕ) → j < length (readings i.kind) → Standing s (get_or (reading_places i) j 0) (get_or (readings i.kind) j Value.Error) (is_base (kind_in code.facts.now slot) j)
  unfolding chunks bare
  reading_there j l =
      rw (← all_read i, k.line.kind, ← bare_kind i.kind j)
      (standing (chunks i) s (drop n s) 0 j (over (instruction_bytes i) s n whole_canon ∙ ap (λ w. w ++ drop n s) (sym (layout i))) (rw (all_read i) l))

  kind_fits : Wide code.bounds → FitKind code.bounds [] i.kind
  kind_fits w =
      let g : FitInstruction code.bounds [] false i = ((instruction code.bounds [] false).each s i n s_bytes k.line.read).good w in
      g.1

  pub few_are : Wide code.bounds → length (readings i.kind) ≤ 16
  few_are w = readings_most code.bounds [] i.kind k.listed k.projected (kind_fits w)

  -- and each has a byte form
  pub fit : (j : ℕ) → j < length (readings i.kind) → Wide code.bounds → FitValue code.bounds.next (get_or (readings i.kind) j Value.Error)
  fit j l w = each_at (FitValue code.bounds.next) (readings i.kind) (readings_fit code.bounds [] i.kind w (kind_fits w)) j l

  -- a value that has a kind byte
  pub value_is : (j p : ℕ) → j < length (readings i.kind) → is_base (kind_in code.facts.now slot) j ≡ false → Wide code.bounds → p ≡ get_or (reading_places i) j 0 → ValueAt code.bounds.next s (p - 1) (get_or (readings i.kind) j Value.Error)
  value_is j p l e w q = rw q (go (is_base (kind_in code.facts.now slot) j) e (reading_there j l))
    where
      go : (b : Bool) → b ≡ false → Standing s (get_or (reading_places i) j 0) (get_or (readings i.kind) j Value.Error) b → ValueAt code.bounds.next s (get_or (reading_places i) j 0 - 1) (get_or (readings i.kind) j Value.Error)
      go false e (kinded r d) = value_stands code.bounds.next s r (get_or (reading_places i) j 0 - 1) (get_or (readings i.kind) j Value.Error) (fit j l w) d
      go true e x = absurd (true≢false e)

  -- and one that has none
  pub base_is : (j p : ℕ) → j < length (readings i.kind) → is_base (kind_in code.facts.now slot) j ≡ true → Wide code.bounds → p ≡ get_or (reading_places i) j 0 → Value.Operand (record { 0 = at16 s p }) ≡ get_or (readings i.kind) j Value.Error
  base_is j p l e w q = rw q (go (is_base (kind_in code.facts.now slot) j) e (reading_there j l))
    where
      go : (b : Bool) → b ≡ true → Standing s (get_or (reading_places i) j 0) (get_or (readings i.kind) j Value.Error) b → Value.Operand (record { 0 = at16 s (get_or (reading_places i) j 0) }) ≡ get_or (readings i.kind) j Value.Error
      go true e (alone v r x d) =
          let g : FitValue code.bounds.next (Value.Operand v) = rw x at (fit j l w) in
          rw (x, number_stands s r (get_or (reading_places i) j 0) v (omega (arith, g.0, g.1)) d) refl
      go false e x = absurd (true≢false (sym e))
