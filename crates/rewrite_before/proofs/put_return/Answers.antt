use native.Mathlib.Omega.{arith}
use mathlib.Core.Path.{ap}
use Rattle.rewrite_wanted.specs.declared.Asks.{Asks}
use Rattle.std.proofs.Common.{rules, ◌≡◌}
use Rattle.std.specs.Prelude.{Err}
use Rattle.rewrite_before.proofs.Whole.{return_refused, return_went}
use Rattle.rewrite_before.proofs.put_return.Goals as goal

pub returns-in_err-q-clause-return_put : goal.returns-in_err-q-clause-return_put
returns-in_err-q-clause-return_put c =
    let z : c.from_residual.result ≡ Err c.in_err-q.field-0.0 = search rules in
    rw z (return_refused (record {
      code = c.args.site.code;
      fields = c.instruction-fields.result;
      list = (record { first = 2; many = c.byte_at.result; asks = Asks.Recorded });
      tracked = c.args.site.tracked;
      near = omega arith;
    })
    _ _ c.args.work.now _ c.instruction-fields.ensures
    (ap (λ m. record { first = 2; many = m; asks = Asks.Recorded }) c.byte_at.ensures) _ _ c.put_builds.new.work
    c.put_builds.ensures.all_put _ c.in_err-q.was)

pub returns-clause-return_put : goal.returns-clause-return_put
returns-clause-return_put c =
    return_went (record {
      code = c.args.site.code;
      fields = c.instruction-fields.result;
      list = (record { first = 2; many = c.byte_at.result; asks = Asks.Recorded });
      tracked = c.args.site.tracked;
      near = omega arith;
    })
    _ _ c.args.work.now _ c.instruction-fields.ensures
    (ap (λ m. record { first = 2; many = m; asks = Asks.Recorded }) c.byte_at.ensures) _ _ c.put_builds.new.work
    c.put_builds.ensures.all_put _ _ _ _ c.in_ok-q.was c.put_anew-to.ensures.anew_written c.put_further.ensures
