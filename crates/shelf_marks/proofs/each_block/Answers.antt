use Rattle.std.proofs.Common.{refl, arith, rules, tests, true, false, ℕ}
use Rattle.std.proofs.lemmas.Iterator.{YieldsList-from_range, cases_from_all}
use Rattle.shelf_marks.proofs.Scanning.{answers, blocks_answered}
use Rattle.shelf_marks.proofs.each_block.Goals as goal

pub returns : goal.returns
returns g c =
    let n = c.args.code.bounds.blocks in
    let post = λ (k : ℕ). goal.F-post g c.args.test (record { 0 = k }) in
    blocks_answered c.args.code (goal.F-post g c.args.test) c.all.result (omega arith)
    (answers post 0 n c.all.result
    (cases_from_all _ _ _ (λ x. post x true) (λ x. post x false) c.all.ensures.ran
    (YieldsList-from_range 0 n n refl (omega arith)) (λ x q k. search (rules, tests)) (λ x q k. search (rules, tests))))
