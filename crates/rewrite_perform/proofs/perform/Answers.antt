use native.Mathlib.Omega.{arith}
use mathlib.Core.Path.{refl}
use Rattle.std.proofs.Common.{rules, ◌≡◌}
use Rattle.std.specs.Prelude.{Err}
use Rattle.rewrite_arms.specs.declared.Counted.{Counted}
use Rattle.rewrite_perform.proofs.Lows.{low_raised}
use Rattle.rewrite_perform.proofs.Performing.{keep_full, does_keep, does_track, assign_full, does_assign, assign_low}
use Rattle.rewrite_perform.proofs.perform.Goals as goal

pub returns-in_err-one_more-in-Keep-clause-performs : goal.returns-in_err-one_more-in-Keep-clause-performs
returns-in_err-one_more-in-Keep-clause-performs c =
    let a = c.args in
    let z : c.from_residual.result ≡ Err c.in_err-one_more-in-Keep.field-0.0 = search rules in
    rw z (λ τ S i q types g line d. keep_full a.code S i q a.action d a.out.now _ types a.dropped.now _ a.p _ c.in-Keep.is
    c.in_err-one_more-in-Keep.ensures)

pub returns-in_ok-one_more-in-Keep-clause-performs : goal.returns-in_ok-one_more-in-Keep-clause-performs
returns-in_ok-one_more-in-Keep-clause-performs c =
    let a = c.args in
    λ τ S i q types g line d. does_keep a.code S i q a.action d a.out.now _ types a.dropped.now _
    a.p _ τ a.slot _ c.in-Keep.is c.in_ok-one_more-in-Keep.ensures refl g line c.slot_bytes.ensures
    c.put_part.ensures.part_put

pub returns-in-Track-clause-performs : goal.returns-in-Track-clause-performs
returns-in-Track-clause-performs c =
    let a = c.args in
    λ τ S i q types g line d. does_track a.code S i q a.action d a.out.now _ types a.dropped.now _ a.p _ _ _
    c.in-Track.is refl c.put.ensures c.left_out.ensures

pub returns-in_err-one_more-in-Assign-clause-performs : goal.returns-in_err-one_more-in-Assign-clause-performs
returns-in_err-one_more-in-Assign-clause-performs c =
    let a = c.args in
    let z : c.from_residual-in_err-one_more-in-Assign.result ≡ Err c.in_err-one_more-in-Assign.field-0.0 = search rules in
    rw z (λ τ S i q types g line d. assign_full a.code S i q a.action d a.out.now _ types a.dropped.now _ a.p _ _ _ _
    c.in-Assign.is c.in_err-one_more-in-Assign.ensures)

pub returns-in_ok-one_more-in-Assign : goal.returns-in_ok-one_more-in-Assign
returns-in_ok-one_more-in-Assign c =
    let a = c.args in record {
      by_index = λ k l. rw (c.moved.ensures, c.left_out-q.ensures)
          (low_raised k a.p l Counted.Extract _ _ (assign_low _ _ _ a.p.to _ c.put_assign-to.ensures.0) (omega arith));
      performs = λ τ S i q types g line d. does_assign a.code S i q a.action d a.out.now _ types a.dropped.now _ a.p _ _ _ _ _ _ _
          c.in-Assign.is c.in_ok-one_more-in-Assign.ensures refl c.value_at.ensures c.put_assign-to.ensures c.left_out-q.ensures
          c.moved.ensures;
    }
