-- The bytes of a type tell which type it is.
use Prim.Native.Nat.{ℕ, ◌≤◌}
use mathlib.Core.Path.{◌≡◌, ap}
use mathlib.Core.List.{List, [], ◌∷◌, ◌++◌}
use native.Mathlib.Nat.{le_refl, le_trans}
use Rattle.bytes_wire.specs.Parse.{ok}
use Rattle.bytes_wire.specs.WellFormed.{Bytes}
use Rattle.mir.specs.declared.NameId.{NameId}
use Rattle.mir.specs.declared.TypeId.{TypeId}
use Rattle.mir.specs.Lists.{Each}
use Rattle.mir.specs.MirType.{StructField, MirType}
use Rattle.bytes_types.specs.Encode.{type_bytes}
use Rattle.bytes_types.specs.Decode.{type_of}
use Rattle.bytes_types.specs.WellFormed.{FitPart, FitFields, FitMirType}
use Rattle.bytes_types.proofs.Canon.{type_fit}
use Rattle.bytes_types.proofs.RoundTrip.{type_back}

-- what fits below `own` fits below any `top` from there on
module _ (most own top : ℕ) (l : own ≤ top) where
  parts_wider : (ts : List TypeId) → Each (FitPart own) ts → Each (FitPart top) ts
  parts_wider [] h = tt
  parts_wider (t ∷ ts) h = (le_trans h.0 l, parts_wider ts h.1)

  fields_wider : (names : List NameId) (fs : List StructField) → FitFields own names fs → FitFields top names fs
  fields_wider names [] h = tt
  fields_wider names (f ∷ fs) h = (h.0, h.1, le_trans h.2 l, fields_wider (f.name ∷ names) fs h.3)

  type_wider : (t : MirType) → FitMirType most own t → FitMirType most top t
  type_wider (MirType.Tuple ts) h = (h.0, parts_wider ts h.1)
  type_wider (MirType.Struct n fs) h = (h.0, h.1, fields_wider [] fs h.2)
  type_wider (MirType.FixedArray t size) h = (le_trans h.0 l, h.1)
  type_wider (MirType.Pointer t) h = le_trans h l
  type_wider (MirType.Function ps r) h = ((h.0.0, parts_wider ps h.0.1), le_trans h.1 l)
  type_wider MirType.Felt h = tt
  type_wider MirType.Bool h = tt
  type_wider MirType.U32 h = tt
  type_wider MirType.Unit h = tt
  type_wider MirType.Error h = tt
  type_wider MirType.Unknown h = tt

-- types that have a byte form are equal where their bytes are
pub type_bytes_one : (most own : ℕ) {t u : MirType} → most ≤ 255 → own ≤ 65536 → FitMirType most own t → FitMirType most own u → type_bytes t ≡ type_bytes u → t ≡ u
type_bytes_one most own {t} {u} m l f g e =
    let p = (type_back most own m l t f).says [] in
    let q = (type_back most own m l u g).says [] in
    let r : type_of most own (type_bytes t ++ []) ≡ type_of most own (type_bytes u ++ []) = ap (λ b. type_of most own (b ++ [])) e in
    cc

-- so of two types that were read, at whichever numbers
pub types_read_one : (most own own' : ℕ) (s s' : List ℕ) {t u : MirType} {n n' : ℕ} → most ≤ 255 → own ≤ 65536 → own' ≤ 65536 → Bytes s → Bytes s' → type_of most own s ≡ ok t n → type_of most own' s' ≡ ok u n' → type_bytes t ≡ type_bytes u → t ≡ u
types_read_one most own own' s s' {t} {u} m l l' h h' f g e = type_bytes_one most 65536 m (le_refl 65536) (type_wider most own 65536 l t (type_fit most own s h f)) (type_wider most own' 65536 l' u (type_fit most own' s' h' g)) e
