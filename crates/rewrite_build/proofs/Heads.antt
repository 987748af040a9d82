-- What stands in front of a Make's parts, and behind them.
use Prim.Native.Nat.{ℕ, ◌+◌}
use mathlib.Core.Path.{◌≡◌, ap, ◌∙◌, sym}
use mathlib.Core.List.{List, [], ◌∷◌, ◌++◌}
use mathlib.Core.Bool.{false}
use native.Mathlib.Omega.{arith}
use lib.ListN.{length, length-append}
use lib.Seq.{sets}
use Rattle.bytes_wire.specs.Value.{value_bytes}
use Rattle.mir.specs.declared.ValueId.{ValueId}
use Rattle.mir.specs.declared.TypeId.{TypeId}
use Rattle.mir.specs.declared.Value.{Value}
use Rattle.mir.specs.Syntax.{InstructionKind, plain}
use Rattle.bytes_field.specs.Encode.{each_bytes, value_id_bytes, type_id_bytes, field_init_bytes, field_bytes, instruction_bytes}
use Rattle.bytes_emit.proofs.Sets.{sets_append}
use Rattle.mir.specs.MirType.{StructField}
use Rattle.rewrite.specs.Rebuild.{fitted, named}
use Rattle.bytes_emit.specs.Written.{Writes}
use Rattle.rewrite.proofs.Parts.{length_fitted}
use Rattle.rewrite_build.proofs.Writing.{fitted_same, length_named}

-- no bits, the kind, what is defined, and the count
abbrev pub head : ℕ → ValueId → ℕ → List ℕ
head kind d n = 0 ∷ kind ∷ (value_id_bytes d ++ (n ∷ []))

module _ (kind n to r : ℕ) (d : ValueId) (out out₁ out₂ : List ℕ) (h : out₁ ≡ sets out to (head kind d n)) where
  -- what is written behind a head is written with it
  headed : (b : List ℕ) → Writes b out₁ out₂ (to + 5) r → Writes (head kind d n ++ b) out out₂ to r
  headed b w = (omega (arith, w.0), w.1 ∙ ap (λ l. sets l (to + 5) b) h ∙ sym (sets_append out to (head kind d n) b))

  -- and so is a type number behind that
  ended : (b out₃ : List ℕ) (t : TypeId) → Writes b out₁ out₂ (to + 5) r → out₃ ≡ sets out₂ r (type_id_bytes t) → Writes (head kind d n ++ (b ++ type_id_bytes t)) out out₃ to (r + 2)
  ended b out₃ t w e =
      let z = sets_append (sets out to (head kind d n)) (to + 5) b (type_id_bytes t) in
      (omega (arith, w.0, length-append b (type_id_bytes t)), e ∙ ap (λ l. sets l r (type_id_bytes t)) (w.1 ∙ ap (λ l. sets l (to + 5) b) h) ∙ ap (λ j. sets (sets (sets out to (head kind d n)) (to + 5) b) j (type_id_bytes t)) w.0 ∙ sym z ∙ sym (sets_append out to (head kind d n) (b ++ type_id_bytes t)))

module _ (to r : ℕ) (d : ValueId) (out out₁ out₂ : List ℕ) (xs : List Value) where
  -- a tuple's
  pub tuple_writes : (want : ℕ) → out₁ ≡ sets out to (head 10 d want) → Writes (each_bytes value_bytes (fitted want xs)) out₁ out₂ (to + 5) r → Writes (instruction_bytes (plain (InstructionKind.MakeTuple d (fitted want xs)))) out out₂ to r
  unfolding instruction_bytes field_bytes
  tuple_writes want h w = rw (length_fitted want xs) (headed 10 want to r d out out₁ out₂ h (each_bytes value_bytes (fitted want xs)) w)

  -- a struct's
  pub struct_writes : (want : ℕ) (out₃ : List ℕ) (fs : List StructField) (t : TypeId) → length fs ≡ want → out₁ ≡ sets out to (head 12 d want) → Writes (each_bytes field_init_bytes (named fs xs)) out₁ out₂ (to + 5) r → out₃ ≡ sets out₂ r (type_id_bytes t) → Writes (instruction_bytes (plain (InstructionKind.MakeStruct d (named fs xs) t))) out out₃ to (r + 2)
  unfolding instruction_bytes field_bytes
  struct_writes want out₃ fs t k h w e = rw (length_named fs xs, k) (ended 12 want to r d out out₁ out₂ h (each_bytes field_init_bytes (named fs xs)) out₃ t w e)

  -- an array's, of all the parts
  pub array_writes : (n : ℕ) (out₃ : List ℕ) (t : TypeId) → length xs ≡ n → out₁ ≡ sets out to (head 16 d n) → Writes (each_bytes value_bytes (fitted n xs)) out₁ out₂ (to + 5) r → out₃ ≡ sets out₂ r (type_id_bytes t) → Writes (instruction_bytes (plain (InstructionKind.MakeFixedArray d xs t false))) out out₃ to (r + 2)
  unfolding instruction_bytes field_bytes
  array_writes n out₃ t k h w e =
      let f : fitted n xs ≡ xs = ap (λ j. fitted j xs) (sym k) ∙ fitted_same xs in
      rw k (ended 16 n to r d out out₁ out₂ h (each_bytes value_bytes xs) out₃ t (rw f at w) e)
