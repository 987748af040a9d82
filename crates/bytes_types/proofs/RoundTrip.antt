-- A type table that is written is read back.
use Prim.Native.Nat.{ℕ, ◌+◌, ◌≤◌, ◌<◌}
use mathlib.Core.Path.{ap}
use mathlib.Core.List.{List, [], ◌∷◌, ◌++◌}
use mathlib.Core.Bool.{not}
use native.Mathlib.Omega.{arith}
use borrow.Author.Tests.{le-leb}
use lib.ListN.{length, length-append}
use lib.Dec.{leb}
use Rattle.bytes_wire.specs.declared.Cause.{Cause}
use Rattle.mir.specs.declared.NameId.{NameId}
use Rattle.mir.specs.declared.TypeId.{TypeId}
use Rattle.bytes_field.specs.Decode.{type_id_of, list_of}
use Rattle.bytes_field.specs.Encode.{type_id_bytes, each_bytes, list_bytes}
use Rattle.bytes_laws.specs.WellFormed.{FitList}
use Rattle.bytes_laws.proofs.Back.{Back, then, last, alone, tested, number, byte, list, tag}
use Rattle.bytes_laws.proofs.BackFields.{name, type}
use Rattle.mir.specs.MirType.{StructField, MirType}
use Rattle.bytes_types.specs.Decode.{has_name, struct_fields, struct_of, type_kinds, type_of, has_type, type_seq, types_of}
use Rattle.bytes_types.specs.Encode.{struct_field_bytes, type_bytes, types_bytes}
use Rattle.bytes_types.specs.WellFormed.{FitPart, FitFields, FitMirType, FitTypes}
use Rattle.bytes_types.proofs.Canon.{only}

module _ (most own : ℕ) (m : most ≤ 255) (l : own ≤ 65536) where
  -- the number of an earlier type
  part : (t : TypeId) → FitPart own t → Back (type_id_of own) (type_id_bytes t) t
  part t h = type (only own) (record { types = l; next = omega arith; blocks = omega arith; list = omega arith; projections = omega arith }) t h

  parts : (ts : List TypeId) → FitList most (FitPart own) ts → Back (list_of most (type_id_of own)) (list_bytes type_id_bytes ts) ts
  parts ts h = list most m part ts h

  -- the fields of a Struct
  fields : (names : List NameId) (fs : List StructField) → FitFields own names fs → Back (struct_fields own names (length fs)) (each_bytes struct_field_bytes fs) fs
  unfolding struct_fields
  fields names [] h = alone
  fields names (f ∷ fs) h = then _ (tested Cause.Repeated (λ x. not (has_name x names)) (ap not h.1) (name f.name h.0)) (then _ (part f.part h.2) (last _ (fields (f.name ∷ names) fs h.3)))

  -- a type
  pub type_back : (t : MirType) → FitMirType most own t → Back (type_of most own) (type_bytes t) t
  unfolding type_of type_bytes struct_of
  type_back MirType.Felt h = tag (type_kinds most own) 0 alone
  type_back MirType.Bool h = tag (type_kinds most own) 1 alone
  type_back MirType.U32 h = tag (type_kinds most own) 2 alone
  type_back (MirType.Tuple ts) h = tag (type_kinds most own) 3 (last _ (parts ts h))
  type_back (MirType.Struct n fs) h =
      let k = length fs in
      let c : k < 256 = omega (arith, h.1) in
      tag (type_kinds most own) 4 (then _ (name n h.0) (then _ (tested Cause.TooMany (λ k. leb k most) (le-leb k most h.1) (byte k c)) (last _ (fields [] fs h.2))))
  type_back (MirType.FixedArray t size) h = tag (type_kinds most own) 5 (then _ (part t h.0) (last _ (number 4 size h.1)))
  type_back (MirType.Pointer t) h = tag (type_kinds most own) 6 (last _ (part t h))
  type_back (MirType.Function ps r) h = tag (type_kinds most own) 7 (then _ (parts ps h.0) (last _ (part r h.1)))
  type_back MirType.Unit h = tag (type_kinds most own) 8 alone
  type_back MirType.Error h = tag (type_kinds most own) 9 alone
  type_back MirType.Unknown h = tag (type_kinds most own) 10 alone

-- types of which none is equal to an earlier one
types : (most : ℕ) → most ≤ 255 → (earlier ts : List MirType) → length earlier + length ts ≤ 65535 → FitTypes most earlier ts → Back (type_seq most earlier (length ts)) (each_bytes type_bytes ts) ts
unfolding type_seq
types most m earlier [] l h = alone
types most m earlier (t ∷ ts) l h =
    then _ (tested Cause.Repeated (λ t. not (has_type t earlier)) (ap not h.1) (type_back most (length earlier) m (omega arith) t h.0))
    (last _ (types most m (earlier ++ (t ∷ [])) ts (omega (arith, length-append earlier (t ∷ []))) h.2))

-- "u16 type count, types"
pub types_back : (most_types most : ℕ) (ts : List MirType) → most_types ≤ 65535 → most ≤ 255 → length ts ≤ most_types → FitTypes most [] ts → Back (types_of most_types most) (types_bytes ts) ts
unfolding types_of types_bytes
types_back most_types most ts w m l h =
    let k = length ts in
    let c : k < 65536 = omega arith in
    then _ (tested Cause.TooMany (λ n. leb n most_types) (le-leb k most_types l) (number 2 k c)) (types most m [] ts (omega arith) h)
