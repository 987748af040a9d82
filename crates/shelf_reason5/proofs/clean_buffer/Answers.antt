use Rattle.std.proofs.Common.{refl, arith, rules, tests, true, false, not, Bool, ℕ, ◌≡◌, get_or}
use Rattle.std.proofs.lemmas.Iterator.{YieldsList-from_range, cases_from_all}
use Rattle.shelf_marks.proofs.Scanning.{answers, clear_answered}
use Rattle.shelf_reason5.proofs.clean_buffer.Goals as goal

pub returns : goal.returns
returns c = λ vs h.
    let a = c.args in
    let post = λ (k : ℕ) (b : Bool). b ≡ not (get_or a.dropped.now (get_or a.buffer.now k 0) false) in
    clear_answered (λ k. get_or a.buffer.now k 0) a.n a.dropped.now vs h.many h.each c.all.result
    (answers post 0 a.n c.all.result
    (cases_from_all _ _ _ (λ x. post x true) (λ x. post x false) c.all.ensures.ran
    (YieldsList-from_range 0 a.n a.n refl (omega arith)) (λ x q k. search (rules, tests)) (λ x q k. search (rules, tests))))
