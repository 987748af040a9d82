-- Scanning one instruction, by its kind.
use Prim.Native.Nat.{ℕ, ◌<◌}
use mathlib.Core.Path.{◌≡◌, refl, ap, ◌∙◌, sym}
use mathlib.Core.List.{List, [], ◌∷◌}
use mathlib.Core.Bool.{Bool, true, false, ◌||◌}
use mathlib.Core.Option.{some}
use native.Mathlib.Omega.{arith}
use lib.ListN.{length, drop}
use lib.Dec.{eqb}
use Rattle.bytes_wire.specs.Parse.{ok}
use Rattle.mir.specs.declared.ValueId.{ValueId}
use Rattle.mir.specs.Syntax.{Instruction, InstructionKind}
use Rattle.mir.specs.Syntax.{Assign, UnaryOp, BinaryOp, Call, Cast, Load, Store, Debug, Nop, Phi}
use Rattle.mir.specs.Syntax.{MakeTuple, ExtractTupleElement, MakeStruct, ExtractStructField, InsertField, InsertTuple, MakeFixedArray, AssertEq, HeapAllocCells}
use Rattle.mir.specs.Reads.{kind_number, reads}
use Rattle.bytes_field.specs.Decode.{instruction_of}
use Rattle.bytes_index.specs.declared.code.Code.{Code}
use Rattle.fold_scan.specs.declared.ValueFacts.{ValueFacts}
use Rattle.bytes_index.specs.Table.{place_in, kind_in, read_in, ReadsIn}
use Rattle.bytes_operands.specs.Fields.{fields_place}
use Rattle.fold.specs.declared.Settings.{Settings}
use Rattle.mir.specs.Lookup.{Types, is_tuple, is_array}
use Rattle.fold.specs.Family.{build_dest}
use Rattle.fold.specs.Tables.{ShapesAt}
use Rattle.fold.specs.Climb.{buildable}
use Rattle.fold_climb.proofs.Found.{dest, DestAt, tuple_place, struct_place, array_place}
use Rattle.fold_scan.specs.Noted.{dest_in, noted_reads, passes_by, PlaceNoted, BuildNoted, OneScanned}
use Rattle.fold_scan.proofs.Sorts.{idle, calls, walks}
use Rattle.fold_scan.proofs.Extend.{idle_step, call_step, walk_step, build_step}

-- the conditions of a tuple, and of an array, by the tables
module _ (σ : Settings) (τ : Types) (values : ValueFacts) (facts : ShapesAt σ τ values.shapes.now values.eligible.now) (d : ValueId) (low : d.0 < length τ.recorded) where
  passes_tuple : (i : InstructionKind) → kind_number i ≡ 10 → build_dest i ≡ some d → passes_by values d.0 1 ≡ buildable σ τ values.cross.now i
  unfolding buildable build_dest is_tuple
  passes_tuple (Assign d' x t) h e = absurd (omega arith)
  passes_tuple (UnaryOp op d' x) h e = absurd (omega arith)
  passes_tuple (BinaryOp op d' x y) h e = absurd (omega arith)
  passes_tuple (Call ds f xs ps rs) h e = absurd (omega arith)
  passes_tuple (Cast d' x t u) h e = absurd (omega arith)
  passes_tuple (Load d' p t) h e = absurd (omega arith)
  passes_tuple (Store p x t) h e = absurd (omega arith)
  passes_tuple (Debug n xs) h e = absurd (omega arith)
  passes_tuple Nop h e = absurd (omega arith)
  passes_tuple (Phi d' t ss) h e = absurd (omega arith)
  passes_tuple (MakeTuple d' xs) h e = let z : d' ≡ d = cc in rw (z, facts.shaped d.0 low, facts.fits d.0 low)
  passes_tuple (ExtractTupleElement d' x k t) h e = absurd (omega arith)
  passes_tuple (MakeStruct d' fs t) h e = absurd (omega arith)
  passes_tuple (ExtractStructField d' x n t) h e = absurd (omega arith)
  passes_tuple (InsertField d' x n y t) h e = absurd (omega arith)
  passes_tuple (InsertTuple d' x k y t) h e = absurd (omega arith)
  passes_tuple (MakeFixedArray d' xs t c) h e = absurd (omega arith)
  passes_tuple (AssertEq x y) h e = absurd (omega arith)
  passes_tuple (HeapAllocCells d' x) h e = absurd (omega arith)

  passes_array : (i : InstructionKind) → kind_number i ≡ 16 → build_dest i ≡ some d → passes_by values d.0 3 ≡ buildable σ τ values.cross.now i
  unfolding buildable build_dest is_array
  passes_array (Assign d' x t) h e = absurd (omega arith)
  passes_array (UnaryOp op d' x) h e = absurd (omega arith)
  passes_array (BinaryOp op d' x y) h e = absurd (omega arith)
  passes_array (Call ds f xs ps rs) h e = absurd (omega arith)
  passes_array (Cast d' x t u) h e = absurd (omega arith)
  passes_array (Load d' p t) h e = absurd (omega arith)
  passes_array (Store p x t) h e = absurd (omega arith)
  passes_array (Debug n xs) h e = absurd (omega arith)
  passes_array Nop h e = absurd (omega arith)
  passes_array (Phi d' t ss) h e = absurd (omega arith)
  passes_array (MakeTuple d' xs) h e = absurd (omega arith)
  passes_array (ExtractTupleElement d' x k t) h e = absurd (omega arith)
  passes_array (MakeStruct d' fs t) h e = absurd (omega arith)
  passes_array (ExtractStructField d' x n t) h e = absurd (omega arith)
  passes_array (InsertField d' x n y t) h e = absurd (omega arith)
  passes_array (InsertTuple d' x k y t) h e = absurd (omega arith)
  passes_array (MakeFixedArray d' xs t c) h e = let z : d' ≡ d = cc in rw (z, facts.shaped d.0 low, facts.fits d.0 low)
  passes_array (AssertEq x y) h e = absurd (omega arith)
  passes_array (HeapAllocCells d' x) h e = absurd (omega arith)

module _ (code : Code) (slot : ℕ) (values : ValueFacts) (given : Bool) (g : List ℕ) (kind : ℕ) (k : kind ≡ kind_in code.facts.now slot) where
  -- an instruction that adds nothing
  pub one_idle : (kind ≡ 3 → ⊥) → (kind ≡ 5 → ⊥) → (kind ≡ 6 → ⊥) → (kind ≡ 10 → ⊥) → (kind ≡ 12 → ⊥) → (kind ≡ 16 → ⊥) → OneScanned code slot values given g g
  one_idle h3 h5 h6 h10 h12 h16 σ τ is i at known ready pass small hold =
      let z : kind ≡ kind_number i.kind = k ∙ at.kind in
      idle_step σ τ values.cross.now is i g hold ready.few
      (idle i.kind (λ p. h3 (z ∙ p)) (λ p. h5 (z ∙ p)) (λ p. h6 (z ∙ p)) (λ p. h10 (z ∙ p)) (λ p. h12 (z ∙ p)) (λ p. h16 (z ∙ p)))

  module _ (u : List ℕ) where
    pub one_call : kind ≡ 3 → ((ws : List ValueId) → ReadsIn code.facts.now slot ws → u ≡ noted_reads kind 0 g ws) → OneScanned code slot values given g u
    one_call h f σ τ is i at known ready pass small hold =
        call_step σ τ values.cross.now is i g hold ready.few ready.room (calls i.kind (sym (k ∙ at.kind) ∙ h)) 0 u (rw h at (f (reads i.kind) at.reads_in))

    -- a Load or Store
    pub one_walk : (eqb kind 5 || eqb kind 6) ≡ true → PlaceNoted code slot g u → OneScanned code slot values given g u
    one_walk h f σ τ is i at known ready pass small hold =
        let w = walks i.kind (ap (λ (n : ℕ). eqb n 5 || eqb n 6) (sym (k ∙ at.kind)) ∙ h) in
        let r : ReadsIn code.facts.now slot (w.base ∷ w.rest) = rw w.first at at.reads_in in
        walk_step σ τ values.cross.now is i g hold ready.few ready.room w (read_in code.facts.now slot 0) (r.each 0 (omega arith)) u (f i at)

    module _ (d : ValueId) (q : d.0 ≡ dest_in code.bytes.now code.facts.now slot) (good : Bool) where
      -- a build of the kind with number j
      build : (j : ℕ) → eqb j 3 ≡ false → kind ≡ j → BuildNoted code.facts.now slot kind d good g u
          → ((i : Instruction) (n : ℕ) → instruction_of code.bounds [] false (drop (place_in code.facts.now slot) code.bytes.now) ≡ ok i n → kind_number i.kind ≡ j → DestAt code.bounds.next (drop (fields_place (drop (place_in code.facts.now slot) code.bytes.now)) (drop (place_in code.facts.now slot) code.bytes.now)) i.kind)
          → ((σ : Settings) (τ : Types) (i : Instruction) (v : ValueId) → ShapesAt σ τ values.shapes.now values.eligible.now → (kind_number i.kind ≡ 12 → given ≡ buildable σ τ values.cross.now i.kind) → kind_number i.kind ≡ j → build_dest i.kind ≡ some v → v.0 < length τ.recorded → d.0 ≡ v.0 → good ≡ buildable σ τ values.cross.now i.kind)
          → OneScanned code slot values given g u
      build j apart h noted found able σ τ is i at known ready pass small hold =
          let n : kind_number i.kind ≡ j = sym (k ∙ at.kind) ∙ h in
          elim (found i _ at.read n) [
            | dest v y w low ↦
                let e : d.0 ≡ v.0 = q ∙ sym w in
                let low' : v.0 < length τ.recorded = rw ready.next at low in
                build_step σ τ values.cross.now is i g hold ready.few ready.room v y low' small good (able σ τ i v known pass n y low' e) d.0 (sym e) j n apart u (rw h at (noted (reads i.kind) at.reads_in))
          ]

      pub one_tuple : kind ≡ 10 → good ≡ passes_by values d.0 1 → BuildNoted code.facts.now slot kind d good g u → OneScanned code slot values given g u
      one_tuple h p noted =
          build 10 refl h noted (λ i n e. tuple_place code.bounds [] false (drop (place_in code.facts.now slot) code.bytes.now) i n e)
          (λ σ τ i v known pass n y low e. p ∙ ap (λ (x : ℕ). passes_by values x 1) e ∙ passes_tuple σ τ values known v low i.kind n y)

      pub one_array : kind ≡ 16 → good ≡ passes_by values d.0 3 → BuildNoted code.facts.now slot kind d good g u → OneScanned code slot values given g u
      one_array h p noted =
          build 16 refl h noted (λ i n e. array_place code.bounds [] false (drop (place_in code.facts.now slot) code.bytes.now) i n e)
          (λ σ τ i v known pass n y low e. p ∙ ap (λ (x : ℕ). passes_by values x 3) e ∙ passes_array σ τ values known v low i.kind n y)

      pub one_struct : kind ≡ 12 → good ≡ given → BuildNoted code.facts.now slot kind d good g u → OneScanned code slot values given g u
      one_struct h p noted =
          build 12 refl h noted (λ i n e. struct_place code.bounds [] false (drop (place_in code.facts.now slot) code.bytes.now) i n e)
          (λ σ τ i v known pass n y low e. p ∙ pass n)
