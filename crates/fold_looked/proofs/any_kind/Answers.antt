use Rattle.std.proofs.Common.{refl, arith, ◌≡◌, ◌+◌, ◌-◌, rules, false}
use Rattle.std.proofs.lemmas.Iterator.{YieldsList-from_range, cases_from_any}
use Rattle.std.proofs.lemmas.List.FromFn.{length-range_with_len, get_or-range_with_len}
use Rattle.mir.specs.declared.kind.Kind.{Kind}
use Rattle.mir.specs.Kind.{number_of_kind}
use Rattle.mir.proofs.Numbers.{names_one}
use Rattle.bytes_index.specs.Table.{kind_in}
use Rattle.fold_looked.proofs.any_kind.Given as given
use Rattle.fold_looked.proofs.any_kind.Goals as goal

pub returns : goal.returns
returns g c e slot kind l h k =
    let a = c.args in
    let n = a.to - a.from in
    let w = cases_from_any _ _ c.any.result (λ s. Unit {0}) (λ s. (kind : Kind) → kind_in a.facts.now s ≡ number_of_kind kind → given.F-post g a.test kind false)
    c.any.ensures.ran (YieldsList-from_range a.from a.to n refl refl) (λ x q k. tt) (λ x q k. (search rules, λ j m. search (rules, m, k, names_one))) in
    let z : a.from + (slot - a.from) ≡ slot = omega arith in
    let y = rw e at w in
    rw (z) at (rw (get_or-range_with_len a.from n (slot - a.from) 0 (omega arith)) at (y (slot - a.from) 0 (omega arith) (rw length-range_with_len (omega arith)))) kind k
