use native.Mathlib.Omega.{arith}
use Rattle.std.proofs.Common.{rules, refl, ◌≡◌}
use Rattle.std.specs.Prelude.{Err}
use Rattle.rewrite_keep.proofs.Lows.{low_room, low_further}
use Rattle.rewrite_keep.proofs.Returning.{return_copied, return_refused, return_made}
use Rattle.rewrite_keep.proofs.put_return_behind.Goals as goal

pub put_readings-requires : goal.put_readings-requires
put_readings-requires c = (low_room c.args.p c.requires, refl)

pub returns-in_err-q-clause-return_put : goal.returns-in_err-q-clause-return_put
returns-in_err-q-clause-return_put c =
    let z : c.from_residual.result ≡ Err c.in_err-q.field-0.0 = search rules in
    rw z (return_refused c.args.site _ _ c.args.p _ c.put_readings.new.work _ _ c.put_readings.ensures.readings_put _ c.in_err-q.was)

pub returns-clause-return_put : goal.returns-clause-return_put
returns-clause-return_put c =
    return_made c.args.site _ _ c.args.p _ c.put_readings.new.work _ _ c.put_readings.ensures.readings_put _ _ _ _ _ c.in_ok-q.was
    (return_copied c.args.site.code _ _ _ _ _ _ c.slot_bytes.ensures c.copy_bytes-to.ensures.writes) c.put_return_numbers.ensures c.put_further.ensures

pub returns-clause-by_index : goal.returns-clause-by_index
returns-clause-by_index c = λ k l.
    low_further _ k _ 0 _ c.args.p _ _ c.in_ok-q.ensures.put_deeper c.copy_bytes-to.ensures.upper_bound (omega arith) refl c.put_further.ensures l
