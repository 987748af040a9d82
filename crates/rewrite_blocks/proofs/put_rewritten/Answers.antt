use Prim.Native.Nat.{◌+◌}
use Rattle.std.proofs.Common.{refl, rules, ◌≡◌, Err}
use native.Mathlib.Omega.{arith}
use Rattle.rewrite_arms.specs.declared.Used.{Used}
use Rattle.rewrite_progress.specs.declared.Progress.{Progress}
use Rattle.rewrite_step.specs.Stepping.{lent_as}
use Rattle.rewrite_perform.proofs.Lows.{low_mono}
use Rattle.rewrite_blocks.proofs.Laying.{block_fault, block_end, low_begun, low_walked, low_end}
use Rattle.rewrite_blocks.proofs.put_rewritten.Goals as goal

pub put_end-done-requires : goal.put_end-done-requires
put_end-done-requires c =
    let t = c.put_instructions in
    let body = c.moved-body in
    low_mono (4800 + 129) 8000 _ (omega arith)
    (low_walked 4800 c.block_slots-at.result.count _ _ c.block_slots-at.ensures.most
    (c.in_ok-q.ensures.by_index (4800 + 1) (low_begun 4800 c.args.p body.result body.ensures c.requires.0)))

pub returns-in_err-q-clause-one_put : goal.returns-in_err-q-clause-one_put
returns-in_err-q-clause-one_put c = let a = c.args in
    let pre = c.requires in
    let t = c.put_instructions in
    let body = c.moved-body in
    let at = c.block_slots-at in
    let cleared = c.clear in
    let l = lent_as cleared.new.tracked a.dropped.now a.work.now a.out.now in
    let w : Used Progress = record { value = body.result; used = 256 } in
    let l' = lent_as t.new.tracked t.new.dropped t.new.work t.new.out in
    let e : c.from_residual.result ≡ Err c.in_err-q.field-0.0 = search rules in
    λ off τ ch ks co fo h z en. rw e (block_fault a.run a.k.0 a.p off at.result at.ensures l w pre.1.1 body.ensures
    (λ next s rows x y. cleared.ensures next s rows 256 x (omega arith) pre.1.0 y) refl τ ch ks co fo h en l' t.result
    t.ensures.instructions_put _ c.in_err-q.was)

pub returns : goal.returns
returns c = let a = c.args in
    let pre = c.requires in
    let t = c.put_instructions in
    let body = c.moved-body in
    let at = c.block_slots-at in
    let cleared = c.clear in
    let l = lent_as cleared.new.tracked a.dropped.now a.work.now a.out.now in
    let w : Used Progress = record { value = body.result; used = 256 } in
    let l' = lent_as t.new.tracked t.new.dropped t.new.work t.new.out in
    let v = c.put_count in record {
      by_index = λ n y. low_end n _ _ v.result
          (low_walked n at.result.count _ _ at.ensures.most (c.in_ok-q.ensures.by_index (n + 1) (low_begun n a.p body.result body.ensures y)))
          c.put_end-done.ensures.by_index v.ensures.by_index;
      one_put = λ off τ ch ks co fo h z en. block_end a.run a.k.0 a.p off at.result at.ensures l w pre.1.1
          body.ensures (λ next s rows x y. cleared.ensures next s rows 256 x (omega arith) pre.1.0 y) refl τ ch ks co fo h en l' t.result
          t.ensures.instructions_put _ c.put_end-done.new.work _ _ _ v.result c.in_ok-q.was (rw c.end.ensures at c.put_end-done.ensures.end_put) v.ensures.count_put z;
    }
