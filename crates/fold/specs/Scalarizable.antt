-- The usual settings, and which types the settings let the pass take apart.
use Rattle.std.specs.Prelude.{true, false, ◌&&◌, length, leb}
use Rattle.std.proofs.Math.Bool as B
use Rattle.std.proofs.Math.Option.{Option, none, some}
use Rattle.mir.specs.MirType.{MirType, Felt, Bool, U32, Tuple, Struct, FixedArray, Pointer, Function, Unit, Error, Unknown}
use Rattle.fold.specs.declared.Edition.{Edition}
use Rattle.fold.specs.declared.Settings.{Settings}

-- `Config::default()`, edition 1
abbrev pub defaults : Settings
defaults = record { tuples = true; structs = true; most = 8; edition = Edition.First }

-- sroa.rs 172, `is_scalarizable`
unfoldable pub is_scalarizable : Settings → Option MirType → B.Bool
is_scalarizable σ none = false
is_scalarizable σ (some Felt) = false
is_scalarizable σ (some Bool) = false
is_scalarizable σ (some U32) = false
is_scalarizable σ (some (Tuple ts)) = σ.tuples && leb (length ts) σ.most
is_scalarizable σ (some (Struct n fs)) = σ.structs && leb (length fs) σ.most
is_scalarizable σ (some (FixedArray t size)) = σ.tuples && leb size σ.most
is_scalarizable σ (some (Pointer t)) = false
is_scalarizable σ (some (Function ps r)) = false
is_scalarizable σ (some Unit) = false
is_scalarizable σ (some Error) = false
is_scalarizable σ (some Unknown) = false
