-- A value that no copy has as its source is its whole family.
use Prim.Native.Nat.{ℕ, suc, ◌+◌, ◌<◌}
use mathlib.Core.Path.{◌≡◌, refl, ap, ◌∙◌, sym}
use mathlib.Core.List.{List, [], ◌∷◌}
use mathlib.Core.Bool.{true, false, ◌||◌}
use native.Mathlib.Omega.{arith}
use lib.ListN.{length, get_or, set, replicate}
use lib.Seq.{get_or-set_other}
use lib.Dec.{eqb}
use Rattle.table.proofs.Elements.{clear_at}
use Rattle.mir.specs.declared.ValueId.{ValueId}
use Rattle.mir.specs.Syntax.{Instruction}
use Rattle.mir.specs.Lookup.{Types, value_row, shape}
use Rattle.mir.specs.Most.{most_values}
use Rattle.fold.specs.Family.{mark, family}
use Rattle.fold_family.specs.Copies.{Copy, copies, no_copy, joining, join_all, firsts_at, last, RowsAt}
use Rattle.fold_family.proofs.Sweeps.{kept_marks, family_copies, rounds_still}
use Rattle.fold_family.proofs.Rows.{none_behind}

-- a sweep changes nothing then
apart_joins : (root n v : ℕ) (cs : List Copy) → ((j : ℕ) → j < length cs → (get_or cs j no_copy).source ≡ v → ⊥)
    → join_all root (set (replicate n false) v true) cs ≡ set (replicate n false) v true
unfolding joining join_all
apart_joins root n v [] f = refl
apart_joins root n v (c ∷ cs) f =
    let m = set (replicate n false) v true in
    let e : get_or m c.source false ≡ false = get_or-set_other (replicate n false) v c.source true false (f 0 (omega arith)) ∙ clear_at n c.source in
    let s : joining root m c ≡ m = rw e (kept_marks (eqb c.asked 0 || eqb c.asked root) m) in
    ap (λ x. join_all root x cs) s ∙ apart_joins root n v cs (λ j h. f (suc j) (omega arith))

pub alone : (table : List ℕ) (v : ValueId) → v.0 < most_values → get_or table (firsts_at + v.0) 0 ≡ 0
    → (τ : Types) (is : List Instruction) → RowsAt table (copies τ is) → family τ v is ≡ mark (replicate (length τ.recorded) false) v
alone table v l e τ is a =
    let cs = copies τ is in
    let z : last cs v.0 (length cs) ≡ 0 = sym (a.first v.0 l) ∙ e in
    family_copies τ v is
    ∙ rounds_still (shape (value_row τ v)) (length is) (mark (replicate (length τ.recorded) false) v) cs
    (apart_joins (shape (value_row τ v)) (length τ.recorded) v.0 cs (λ j h q. none_behind cs v.0 (length cs) j (omega (arith, z)) h q))
