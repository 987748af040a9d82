-- The value that a reading is stands where its number does: behind its kind byte, or with none before it.
use Prim.Native.Nat.{ℕ, zero, suc, ◌+◌, ◌-◌, ◌<◌}
use mathlib.Core.Path.{◌≡◌, refl, ◌∙◌, sym}
use mathlib.Core.List.{List, [], ◌∷◌, ◌++◌, append_assoc}
use mathlib.Core.Bool.{Bool, true, false, ◌&&◌}
use native.Mathlib.Omega.{arith}
use borrow.Author.Tests.{ne_eqb}
use lib.ListN.{length, get_or, drop}
use lib.Dec.{eqb}
use Rattle.bytes_wire.specs.Value.{value_bytes}
use Rattle.mir.specs.declared.Value.{Value}
use Rattle.mir.specs.declared.ValueId.{ValueId}
use Rattle.mir.specs.declared.Projection.{Projection}
use Rattle.mir.specs.declared.Projection.TheVariants.{Index, Field, Tuple}
use Rattle.mir.specs.Syntax.{FieldInit, InstructionKind}
use Rattle.mir.specs.Syntax.{Assign, UnaryOp, BinaryOp, Call, Cast, Load, Store, Debug, Nop, Phi}
use Rattle.mir.specs.Syntax.{MakeTuple, ExtractTupleElement, MakeStruct, ExtractStructField, InsertField, InsertTuple, MakeFixedArray, AssertEq, HeapAllocCells}
use Rattle.mir.specs.Reads.{kind_number}
use Rattle.bytes_field.specs.Encode.{list_bytes, value_id_bytes, type_id_bytes}
use Rattle.rewrite_patch.specs.Chunks.{Chunk, stays, valued, based, value_chunks, init_chunks, step_chunks, field_chunks, number_places}
use Rattle.rewrite_patch.proofs.EachKind.{bytes_in, values_in}
use Rattle.rewrite_patch.proofs.Walked.{behind_run}

-- whether reading j has no kind byte
unfoldable pub bare : List Chunk → ℕ → Bool
bare [] j = false
bare (stays w ∷ l) j = bare l j
bare (valued x ∷ l) zero = false
bare (valued x ∷ l) (suc j) = bare l j
bare (based v ∷ l) zero = true
bare (based v ∷ l) (suc j) = bare l j

-- none of values, inits and projections in front of others
pub bare_values : (xs : List Value) (l : List Chunk) → ((j : ℕ) → bare l j ≡ false) → (j : ℕ) → bare (value_chunks xs l) j ≡ false
unfolding bare value_chunks
bare_values [] l f j = f j
bare_values (x ∷ xs) l f zero = refl
bare_values (x ∷ xs) l f (suc j) = bare_values xs l f j

bare_inits : (fs : List FieldInit) (l : List Chunk) → ((j : ℕ) → bare l j ≡ false) → (j : ℕ) → bare (init_chunks fs l) j ≡ false
unfolding bare init_chunks
bare_inits [] l f j = f j
bare_inits (x ∷ fs) l f zero = refl
bare_inits (x ∷ fs) l f (suc j) = bare_inits fs l f j

bare_steps : (ps : List Projection) (l : List Chunk) → ((j : ℕ) → bare l j ≡ false) → (j : ℕ) → bare (step_chunks ps l) j ≡ false
unfolding bare step_chunks
bare_steps [] l f j = f j
bare_steps (Index x ∷ ps) l f zero = refl
bare_steps (Index x ∷ ps) l f (suc j) = bare_steps ps l f j
bare_steps (Field n ∷ ps) l f j = bare_steps ps l f j
bare_steps (Tuple k ∷ ps) l f j = bare_steps ps l f j

bare_last : (x : Value) (w : List ℕ) (j : ℕ) → bare (valued x ∷ stays w ∷ []) j ≡ false
unfolding bare
bare_last x w zero = refl
bare_last x w (suc j) = refl

-- a Load's base alone
pub bare_kind : (k : InstructionKind) (j : ℕ) → bare (field_chunks k) j ≡ eqb (kind_number k) 5 && eqb j 0
unfolding bare field_chunks
bare_kind (Assign d x t) zero = refl
bare_kind (Assign d x t) (suc j) = refl
bare_kind (UnaryOp op d x) zero = refl
bare_kind (UnaryOp op d x) (suc j) = refl
bare_kind (BinaryOp op d x y) zero = refl
bare_kind (BinaryOp op d x y) (suc zero) = refl
bare_kind (BinaryOp op d x y) (suc (suc j)) = refl
bare_kind (Call ds f xs ps rs) j = bare_values xs (stays (list_bytes type_id_bytes ps ++ list_bytes type_id_bytes rs) ∷ []) (λ j. refl) j
bare_kind (Cast d x t u) zero = refl
bare_kind (Cast d x t u) (suc j) = refl
bare_kind (Load d p t) zero = refl
bare_kind (Load d p t) (suc j) = bare_steps p.projections (stays (type_id_bytes t) ∷ []) (λ j. refl) j ∙ sym (ne_eqb (suc j) 0 (λ o. omega arith))
bare_kind (Store p x t) j = bare_steps p.projections (valued x ∷ stays (type_id_bytes t) ∷ []) (bare_last x (type_id_bytes t)) j
bare_kind (Debug m xs) j = bare_values xs [] (λ j. refl) j
bare_kind Nop j = refl
bare_kind (Phi d t ss) j = refl
bare_kind (MakeTuple d xs) j = bare_values xs [] (λ j. refl) j
bare_kind (ExtractTupleElement d x k t) zero = refl
bare_kind (ExtractTupleElement d x k t) (suc j) = refl
bare_kind (MakeStruct d fs t) j = bare_inits fs (stays (type_id_bytes t) ∷ []) (λ j. refl) j
bare_kind (ExtractStructField d x n t) zero = refl
bare_kind (ExtractStructField d x n t) (suc j) = refl
bare_kind (InsertField d x n y t) zero = refl
bare_kind (InsertField d x n y t) (suc zero) = refl
bare_kind (InsertField d x n y t) (suc (suc j)) = refl
bare_kind (InsertTuple d x k y t) zero = refl
bare_kind (InsertTuple d x k y t) (suc zero) = refl
bare_kind (InsertTuple d x k y t) (suc (suc j)) = refl
bare_kind (MakeFixedArray d xs t c) j = bare_values xs (stays (type_id_bytes t) ∷ []) (λ j. refl) j
bare_kind (AssertEq x y) zero = refl
bare_kind (AssertEq x y) (suc zero) = refl
bare_kind (AssertEq x y) (suc (suc j)) = refl
bare_kind (HeapAllocCells d x) zero = refl
bare_kind (HeapAllocCells d x) (suc j) = refl

-- a value x whose number stands at p
pub data Standing (s : List ℕ) (p : ℕ) (x : Value) : Bool → Type 0 where
  kinded : (r : List ℕ) → drop (p - 1) s ≡ value_bytes x ++ r → Standing s p x false
  alone : (v : ValueId) (r : List ℕ) → x ≡ Value.Operand v → drop p s ≡ value_id_bytes v ++ r → Standing s p x true

-- reading j stands where its number does
pub standing : (l : List Chunk) (s r : List ℕ) (at j : ℕ) → drop at s ≡ bytes_in l ++ r → j < length (values_in l) → Standing s (get_or (number_places at l) j 0) (get_or (values_in l) j Value.Error) (bare l j)
unfolding bare values_in number_places
standing [] s r at j e h = absurd (omega arith)
standing (stays w ∷ l) s r at j e h =
    standing l s r (at + length w) j (behind_run s w (bytes_in l ++ r) at (e ∙ append_assoc w (bytes_in l) r)) h
standing (valued x ∷ l) s r at zero e h =
    let z : at + 1 - 1 ≡ at = omega arith in
    kinded (bytes_in l ++ r) (rw z (e ∙ append_assoc (value_bytes x) (bytes_in l) r))
standing (valued x ∷ l) s r at (suc j) e h =
    standing l s r (at + length (value_bytes x)) j (behind_run s (value_bytes x) (bytes_in l ++ r) at (e ∙ append_assoc (value_bytes x) (bytes_in l) r)) (omega arith)
standing (based v ∷ l) s r at zero e h = alone v (bytes_in l ++ r) refl (e ∙ append_assoc (value_id_bytes v) (bytes_in l) r)
standing (based v ∷ l) s r at (suc j) e h =
    standing l s r (at + 2) j (behind_run s (value_id_bytes v) (bytes_in l ++ r) at (e ∙ append_assoc (value_id_bytes v) (bytes_in l) r)) (omega arith)
