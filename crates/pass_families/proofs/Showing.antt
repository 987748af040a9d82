-- What a line says of a build is so.
use Prim.Native.Nat.{ℕ}
use mathlib.Core.Path.{◌≡◌, refl, ap, ◌∙◌}
use mathlib.Core.List.{List}
use mathlib.Core.Bool.{Bool, false}
use native.Mathlib.Omega.{arith}
use lib.ListN.{length, replicate, length-replicate}
use Rattle.fold.specs.Family.{Marks}
use Rattle.fold_family.specs.Turns.{size}
use Rattle.fold_family.proofs.Dynamic.{dynamics_length}
use Rattle.fold_looked.specs.Looked.{Looking, FindsBuild}
use Rattle.text.specs.Written.{Written}
use Rattle.text.proofs.Writing.{written_as}
use Rattle.text_lines.specs.Lines.{numbers_line}
use Rattle.pass_families.specs.Shown.{found_numbers, PutsBuild}
use Rattle.fold_looked.specs.declared.BuildFamily.{BuildFamily}
use Rattle.fold_looked.specs.declared.tables.Tables.{Tables}
use Rattle.bytes_index.specs.declared.code.Code.{Code}

-- a line is put of what was found
pub puts_build : (named : Bool) (code : Code) (k j slot : ℕ) (tables : Tables) (clear marks : Marks) (room members : List ℕ) (r : BuildFamily)
    → (text after : List ℕ) (n : ℕ)
    → FindsBuild code slot tables clear marks room members r → clear ≡ replicate (length tables.dynamic.now) false → length room ≡ 256
    → Written (numbers_line (found_numbers named k j r marks)) 0 text after n
    → PutsBuild named code k j slot tables text after n
puts_build named code k j slot tables clear marks room members r text after n finds cl wide w τ is i d p at h =
    let q = p.looking in
    let many : length tables.dynamic.now ≡ length τ.recorded =
    ap length q.dynamic_all ∙ dynamics_length (replicate (length τ.recorded) false) is ∙ length-replicate (length τ.recorded) false in
    let looking : Looking τ is tables.copies.now tables.dynamic.now clear room = record {
      rows = q.rows;
      short = q.short;
      few = q.few;
      wide = omega (arith, wide);
      cleared = cl ∙ ap (λ (m : ℕ). replicate m false) many;
      dynamic_all = q.dynamic_all;
    } in
    let x = finds p.settings τ is i d p.eligible looking p.shaped p.values at h in
    let f = x.family in
    written_as (ap numbers_line (rw (x.dest, f.same, f.listed.many ∙ ap size f.same, f.turned, x.looked) refl)) w
