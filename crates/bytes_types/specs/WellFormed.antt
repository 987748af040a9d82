-- Which types have a byte form, in the words and the order of document 01, "The routine in bytes".
use Rattle.std.specs.Prelude.{ℕ, ◌<◌, ◌≤◌, ◌≡◌, List, [], ◌∷◌, ◌++◌, false, length}
use Rattle.mir.specs.declared.NameId.{NameId}
use Rattle.mir.specs.declared.TypeId.{TypeId}
use Rattle.bytes_laws.specs.WellFormed.{FitList, Fit32, FitName}
use Rattle.mir.specs.MirType.{StructField, MirType}
use Rattle.bytes_types.specs.Decode.{has_name, has_type}

-- "type number not below its own": `own` is the number of the type that has this part
abbrev pub FitPart : ℕ → TypeId → Type 0
FitPart own t = t.0 < own

-- no "field name twice in a struct"; `names` are those before
abbrev pub FitFields : ℕ → List NameId → List StructField → Type 0
FitFields own names [] = Unit {0}
FitFields own names (f ∷ fs) = FitName f.name × (has_name f.name names ≡ false) × FitPart own f.part × FitFields own (f.name ∷ names) fs

-- "Tuple u8 count, u16 types; Struct u16 name, u8 count, pairs of u16 name, u16 type; FixedArray u16 type, u32 size;
-- Pointer u16; Function u8 count, u16 types, u16 return"; `most` is the most of a list
abbrev pub FitMirType : ℕ → ℕ → MirType → Type 0
FitMirType most own MirType.Felt = Unit {0}
FitMirType most own MirType.Bool = Unit {0}
FitMirType most own MirType.U32 = Unit {0}
FitMirType most own (MirType.Tuple ts) = FitList most (FitPart own) ts
FitMirType most own (MirType.Struct n fs) = FitName n × (length fs ≤ most) × FitFields own [] fs
FitMirType most own (MirType.FixedArray t size) = FitPart own t × Fit32 size
FitMirType most own (MirType.Pointer t) = FitPart own t
FitMirType most own (MirType.Function ps r) = FitList most (FitPart own) ps × FitPart own r
FitMirType most own MirType.Unit = Unit {0}
FitMirType most own MirType.Error = Unit {0}
FitMirType most own MirType.Unknown = Unit {0}

-- no "type equal to an earlier one"; a type's number is how many stand before it
abbrev pub FitTypes : ℕ → List MirType → List MirType → Type 0
FitTypes most earlier [] = Unit {0}
FitTypes most earlier (t ∷ ts) = FitMirType most (length earlier) t × (has_type t earlier ≡ false) × FitTypes most (earlier ++ (t ∷ [])) ts
