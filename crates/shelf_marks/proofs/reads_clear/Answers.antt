use Rattle.std.proofs.Common.{refl, arith, rules, tests, true, false, not, Bool, ℕ, ◌≡◌, ◌∙◌, get_or}
use Rattle.std.proofs.lemmas.Iterator.{YieldsList-from_range, cases_from_all}
use Rattle.bytes_index.specs.Table.{read_in}
use Rattle.shelf_marks.proofs.Scanning.{answers, clear_answered}
use Rattle.shelf_marks.proofs.reads_clear.Goals as goal

pub returns : goal.returns
returns c = λ vs h.
    let a = c.args in
    let n = c.read_count-n.result in
    let post = λ (k : ℕ) (b : Bool). b ≡ not (get_or a.marks.now (read_in a.facts.now a.slot k) false) in
    let e = c.read_count-n.ensures ∙ h.many in
    clear_answered (read_in a.facts.now a.slot) n a.marks.now vs e (λ k l. h.each k (omega (arith, e, h.many))) c.all.result
    (answers post 0 n c.all.result
    (cases_from_all _ _ _ (λ x. post x true) (λ x. post x false) c.all.ensures.ran
    (YieldsList-from_range 0 n n refl (omega arith)) (λ x q k. search (rules, tests)) (λ x q k. search (rules, tests))))
