-- The type table that was read is written as it stood, and has a byte form.
use Prim.Native.Nat.{ℕ, zero, suc, ◌+◌, ◌*◌, ◌≤◌, zero-le}
use mathlib.Core.Path.{◌≡◌, refl, ap}
use mathlib.Core.List.{List, [], ◌∷◌, ◌++◌}
use mathlib.Core.Bool.{false, not}
use native.Mathlib.Nat.{le_refl, suc-mul, mul-le-mul_right}
use native.Mathlib.Omega.{arith}
use borrow.Author.Tests.{leb-true, not-true}
use lib.ListN.{length}
use lib.Dec.{leb}
use Rattle.bytes_wire.specs.Parse.{ok}
use Rattle.bytes_wire.specs.Number.{to_bytes}
use Rattle.bytes_wire.specs.WellFormed.{Bytes}
use Rattle.bytes_wire.specs.declared.Cause.{Cause}
use Rattle.mir.specs.declared.NameId.{NameId}
use Rattle.bytes_wire.proofs.Canon.{Canon}
use Rattle.bytes_field.specs.Decode.{type_id_of, list_of}
use Rattle.bytes_field.specs.Encode.{type_id_bytes, name_id_bytes, each_bytes, list_bytes}
use Rattle.bytes_field.specs.declared.Bounds.{Bounds}
use Rattle.bytes_laws.specs.WellFormed.{FitList, FitName}
use Rattle.bytes_laws.proofs.Exact.{Exact, After, then, last, just, alone, whole, within, tested, because, number, byte, list}
use Rattle.bytes_laws.proofs.Fields.{type, name}
use Rattle.bytes_laws.proofs.Rows.{none, ◌&◌, tag}
use Rattle.mir.specs.MirType.{MirType}
use Rattle.bytes_types.specs.Decode.{has_name, new_name_of, struct_fields, struct_of, type_of, has_type, type_seq, types_of}
use Rattle.bytes_types.specs.Encode.{struct_field_bytes, type_bytes, types_bytes}
use Rattle.bytes_types.specs.WellFormed.{FitPart, FitFields, FitMirType, FitTypes}

-- bounds of which only the types count
abbrev pub only : ℕ → Bounds
only own = record { types = own; next = 0; blocks = 0; list = 0; projections = 0 }

-- the number of an earlier type
part : (own : ℕ) → Exact (type_id_of own) type_id_bytes (FitPart own) 2
part own = type (only own)

parts : (most own : ℕ) → Exact (list_of most (type_id_of own)) (list_bytes type_id_bytes) (FitList most (FitPart own)) (1 + most * 2)
parts most own = list most (part own)

-- a name that none of the names before is
new_name : (names : List NameId) → Exact (new_name_of names) name_id_bytes (λ n. FitName n × (has_name n names ≡ false)) 2
new_name names = because (tested Cause.Repeated (λ x. not (has_name x names)) name) (λ n p. (p.0, not-true _ p.1))

-- the fields of a Struct
fields : (own : ℕ) (names : List NameId) (k : ℕ) → Exact (struct_fields own names k) (each_bytes struct_field_bytes) (λ fs. (length fs ≡ k) × FitFields own names fs) (k * 4)
unfolding struct_fields
fields own names zero = whole (alone refl (refl, tt)) zero-le
fields own names (suc k) =
    whole
    (then (new_name names) (λ n p.
    then (part own) (λ t q.
    last _ (fields own (n ∷ names) k) (λ fs r. (refl, (ap suc r.0, (p.0, p.1, q, r.1)))))))
    (omega (arith, suc-mul k 4))

-- "Struct u16 name, u8 count, pairs of u16 name, u16 type", behind its kind
struct : (most own : ℕ) → After (λ w. 4 ∷ w) (struct_of most own) type_bytes (FitMirType most own) (3 + most * 4)
unfolding struct_of type_bytes
struct most own =
    within
    (then name (λ n p.
    then (tested Cause.TooMany (λ k. leb k most) byte) (λ k q.
    let l : k ≤ most = leb-true k most q.1 in
    within (last _ (fields own [] k) (λ fs r. (ap (λ c. 4 ∷ (name_id_bytes n ++ (c ∷ each_bytes struct_field_bytes fs))) r.0, (p, rw r.0 l, r.1)))) (mul-le-mul_right 4 l))))
    (omega arith)

-- a type: the kinds in order
pub type_exact : (most own : ℕ) → Exact (type_of most own) type_bytes (FitMirType most own) (1 + (6 + most * 4))
unfolding type_of type_bytes
type_exact most own =
    tag
    (within (alone refl tt) zero-le
    & within (alone refl tt) zero-le
    & within (alone refl tt) zero-le
    & within (last _ (parts most own) (λ ts p. (refl, p))) (omega arith)
    & within (struct most own) (omega arith)
    & within (then (part own) (λ t p. last _ (number 4) (λ n q. (refl, (p, q))))) (omega arith)
    & within (last _ (part own) (λ t p. (refl, p))) (omega arith)
    & within (then (parts most own) (λ ps p. last _ (part own) (λ r q. (refl, (p, q))))) (omega arith)
    & within (alone refl tt) zero-le
    & within (alone refl tt) zero-le
    & within (alone refl tt) zero-le
    & none)

-- k types, none of them equal to an earlier one
types : (most : ℕ) (earlier : List MirType) (k : ℕ) → Exact (type_seq most earlier k) (each_bytes type_bytes) (λ ts. (length ts ≡ k) × FitTypes most earlier ts) (k * (7 + most * 4))
unfolding type_seq
types most earlier zero = whole (alone refl (refl, tt)) zero-le
types most earlier (suc k) =
    whole
    (then (tested Cause.Repeated (λ t. not (has_type t earlier)) (type_exact most (length earlier))) (λ t p.
    last _ (types most (earlier ++ (t ∷ [])) k) (λ ts q. (refl, (ap suc q.0, (p.0, not-true _ p.1, q.1))))))
    (omega (arith, suc-mul k (7 + most * 4)))

-- "u16 type count, types"
pub types_exact : (most_types most : ℕ) → Exact (types_of most_types most) types_bytes (λ ts. (length ts ≤ most_types) × FitTypes most [] ts) (2 + most_types * (7 + most * 4))
unfolding types_of types_bytes
types_exact most_types most =
    whole
    (then (tested Cause.TooMany (λ n. leb n most_types) (number 2)) (λ k p.
    let l : k ≤ most_types = leb-true k most_types p.1 in
    within (just (types most [] k) (λ ts q. (ap (λ n. to_bytes 2 n ++ each_bytes type_bytes ts) q.0, (rw q.0 l, q.1)))) (mul-le-mul_right (7 + most * 4) l)))
    (le_refl _)

-- a type that was read is written as it stood
pub type_canon : (most own : ℕ) (s : List ℕ) {t : MirType} {n : ℕ} → Bytes s → type_of most own s ≡ ok t n → Canon (type_bytes t) s n
type_canon most own s {t} {n} h e = ((type_exact most own).each s t n h e).canon

-- and has a byte form
pub type_fit : (most own : ℕ) (s : List ℕ) {t : MirType} {n : ℕ} → Bytes s → type_of most own s ≡ ok t n → FitMirType most own t
type_fit most own s {t} {n} h e = ((type_exact most own).each s t n h e).good
