use Rattle.std.proofs.Common.{rules, ◌≡◌}
use Rattle.std.specs.Prelude.{Err}
use Rattle.rewrite_before.proofs.Storing.{store_refused, store_full, store_stayed, store_made}
use Rattle.rewrite_before.proofs.put_store.Goals as goal

pub returns-in_err-q-clause-store_put : goal.returns-in_err-q-clause-store_put
returns-in_err-q-clause-store_put c =
    let z : c.from_residual.result ≡ Err c.in_err-q.field-0.0 = search rules in
    rw z (store_refused (record {
      code = c.args.site.code;
      fields = c.instruction-fields.result;
      list = c.store_list-list.result;
      tracked = c.args.site.tracked;
      near = c.store_list-list.ensures.1;
    })
    _ _ c.args.work.now _ c.instruction-fields.ensures c.store_list-list.ensures.0 _ _
    c.put_builds.new.work c.put_builds.ensures.all_put _ c.in_err-q.was)

pub returns-in_err-one_more-clause-store_put : goal.returns-in_err-one_more-clause-store_put
returns-in_err-one_more-clause-store_put c =
    let z : c.from_residual-in_err-one_more.result ≡ Err c.in_err-one_more.field-0.0 = search rules in
    rw z (store_full (record {
      code = c.args.site.code;
      fields = c.instruction-fields.result;
      list = c.store_list-list.result;
      tracked = c.args.site.tracked;
      near = c.store_list-list.ensures.1;
    })
    _ _ c.args.work.now _ c.instruction-fields.ensures c.store_list-list.ensures.0 _ _
    c.put_builds.new.work c.put_builds.ensures.all_put _ c.in_ok-q.was _ c.in_err-one_more.ensures)

pub returns-then-q-p-clause-store_put : goal.returns-then-q-p-clause-store_put
returns-then-q-p-clause-store_put c =
    store_stayed (record {
      code = c.args.site.code;
      fields = c.instruction-fields.result;
      list = c.store_list-list.result;
      tracked = c.args.site.tracked;
      near = c.store_list-list.ensures.1;
    })
    _ _ c.args.work.now _ c.instruction-fields.ensures c.store_list-list.ensures.0 _ _
    c.put_builds.new.work c.put_builds.ensures.all_put
    _ c.in_ok-q.was c.in_ok-one_more.ensures _ _ _ c.if-q-p.true c.put_kept.ensures.instruction_written
    c.put_kept.ensures.onward

pub returns-clause-store_put : goal.returns-clause-store_put
returns-clause-store_put c =
    store_made (record {
      code = c.args.site.code;
      fields = c.instruction-fields.result;
      list = c.store_list-list.result;
      tracked = c.args.site.tracked;
      near = c.store_list-list.ensures.1;
    })
    _ _ c.args.work.now _ c.instruction-fields.ensures c.store_list-list.ensures.0 _ _
    c.put_builds.new.work c.put_builds.ensures.all_put
    _ c.in_ok-q.was c.in_ok-one_more.ensures _ _ _ _ c.if-q-p.false c.slot_size.ensures c.put_anew-to.ensures.anew_written
    c.put_further.ensures
