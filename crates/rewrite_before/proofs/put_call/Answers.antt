use native.Mathlib.Omega.{arith}
use Rattle.std.proofs.Common.{rules, ◌≡◌}
use Rattle.std.specs.Prelude.{Err}
use Rattle.rewrite_before.proofs.Calling.{call_refused, call_full, call_stayed, call_built}
use Rattle.rewrite_before.proofs.put_call.Goals as goal

pub returns-in_err-q-clause-call_put : goal.returns-in_err-q-clause-call_put
returns-in_err-q-clause-call_put c =
    let z : c.from_residual.result ≡ Err c.in_err-q.field-0.0 = search rules in
    rw z (call_refused (record {
      code = c.args.site.code;
      fields = c.own_fields-fields.result;
      list = c.call_list-list.result;
      tracked = c.args.site.tracked;
      near = omega (arith, c.call_list-list.ensures.1);
    })
    _ _ c.args.work.now _ _ c.instruction-t.ensures c.own_fields-fields.ensures
    c.call_list-list.ensures.0 _ _ c.put_builds.new.work c.put_builds.ensures.all_put _ c.in_err-q.was)

pub returns-in_err-one_more-clause-call_put : goal.returns-in_err-one_more-clause-call_put
returns-in_err-one_more-clause-call_put c =
    let z : c.from_residual-in_err-one_more.result ≡ Err c.in_err-one_more.field-0.0 = search rules in
    rw z (call_full (record {
      code = c.args.site.code;
      fields = c.own_fields-fields.result;
      list = c.call_list-list.result;
      tracked = c.args.site.tracked;
      near = omega (arith, c.call_list-list.ensures.1);
    })
    _ _ c.args.work.now _ _ c.instruction-t.ensures c.own_fields-fields.ensures
    c.call_list-list.ensures.0 _ _ c.put_builds.new.work c.put_builds.ensures.all_put _ c.in_ok-q.was _ c.in_err-one_more.ensures)

pub returns-then-q-p-clause-call_put : goal.returns-then-q-p-clause-call_put
returns-then-q-p-clause-call_put c =
    call_stayed (record {
      code = c.args.site.code;
      fields = c.own_fields-fields.result;
      list = c.call_list-list.result;
      tracked = c.args.site.tracked;
      near = omega (arith, c.call_list-list.ensures.1);
    })
    _ _ c.args.work.now _ _ c.instruction-t.ensures c.own_fields-fields.ensures
    c.call_list-list.ensures.0 _ _ c.put_builds.new.work c.put_builds.ensures.all_put
    _ c.in_ok-q.was c.in_ok-one_more.ensures _ _ _ c.if-q-p.true c.put_kept.ensures.instruction_written
    c.put_kept.ensures.onward

pub returns-clause-call_put : goal.returns-clause-call_put
returns-clause-call_put c =
    call_built (record {
      code = c.args.site.code;
      fields = c.own_fields-fields.result;
      list = c.call_list-list.result;
      tracked = c.args.site.tracked;
      near = omega (arith, c.call_list-list.ensures.1);
    })
    _ _ c.args.work.now _ _ c.instruction-t.ensures c.own_fields-fields.ensures
    c.call_list-list.ensures.0 _ _ c.put_builds.new.work c.put_builds.ensures.all_put
    _ c.in_ok-q.was c.in_ok-one_more.ensures _ _ _ _ c.if-q-p.false
    (omega (arith, c.saturating_sub-end.ensures, c.slot_size.ensures, c.fields_place.ensures)) c.call_list-list.ensures.1
    c.put_call_anew-to.ensures.call_written c.put_further.ensures
