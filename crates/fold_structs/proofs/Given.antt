-- Each field of a struct's row is given in a build.
use Prim.Native.Nat.{ℕ, suc, ◌+◌, ◌*◌, ◌<◌}
use mathlib.Core.Path.{◌≡◌, refl}
use mathlib.Core.List.{List, [], ◌∷◌}
use mathlib.Core.Bool.{◌&&◌}
use mathlib.Core.Option.{Option, none, some}
use native.Mathlib.Nat.{add-zero}
use native.Mathlib.Omega.{arith}
use lib.ListN.{length, get_or}
use Rattle.std.specs.List.{list_all, range_with_len}
use Rattle.bytes_wire.specs.Number.{at16}
use Rattle.mir.specs.MirType.{StructField}
use Rattle.mir.specs.Syntax.{FieldInit}
use Rattle.mir.specs.Parts.{given, cons_part, from_struct_fields}
use Rattle.mir.specs.Lookup.{is_some}
use Rattle.fold_structs.specs.Told.{Gives}
use Rattle.rewrite_parts.specs.declared.listed.Listed.{Listed}
use Rattle.rewrite_parts.specs.Rows.{InitAt}
use Rattle.rewrite_parts.specs.Filled.{FindsInit}
use Rattle.bytes_struct.specs.Fields.{no_field}
use Rattle.std.specs.Prelude.{Some, None, Option as Answered, is_some as found}
use Rattle.mir.specs.declared.Value.{Value}
use Rattle.mir.specs.declared.NameId.{NameId}

-- what was found of one name
init_told : (next : ℕ) (t : List ℕ) (o : Option Value) (r : Answered ℕ) → InitAt next t o r → found r ≡ is_some o
unfolding is_some
init_told next t o None a = rw a
init_told next t o (Some place) a = rw a.is

pub gives_told : (inits : Listed) (name : NameId) (r : Answered ℕ) → FindsInit inits name r → Gives inits name (found r)
gives_told inits name r finds next fs a l = init_told next inits.bytes.now (given name fs) r (finds next fs a l)

-- all parts of a struct are there where each is
both_parts : (o : Option Value) (p : Option (List Value)) → (is_some o && is_some p) ≡ is_some (cons_part o p)
unfolding is_some cons_part
both_parts none p = refl
both_parts (some x) none = refl
both_parts (some x) (some xs) = refl

pub all_named : (row : List ℕ) (first : ℕ) (fs : List FieldInit) (ts : List StructField)
    → ((i : ℕ) → i < length ts → at16 row (4 + 4 * (first + i)) ≡ (get_or ts i no_field).name.0)
    → list_all (λ i. is_some (given (record { 0 = at16 row (4 + 4 * i) }) fs)) (range_with_len first (length ts)) ≡ is_some (from_struct_fields fs ts)
unfolding from_struct_fields is_some
all_named row first fs [] each = refl
all_named row first fs (t ∷ ts) each =
    let z : at16 row (4 + 4 * first) ≡ t.name.0 = rw add-zero at (each 0 (omega arith)) in
    let ih = all_named row (first + 1) fs ts (λ i l. let e : first + suc i ≡ first + 1 + i = omega arith in rw e at (each (suc i) (omega arith))) in
    rw (z, ih) (both_parts (given t.name fs) (from_struct_fields fs ts))
