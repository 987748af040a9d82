use Rattle.std.proofs.Common.{arith, rules, sym, ◌≡◌, Ok, Err}
use Rattle.bytes_row.proofs.Rows.{digit_again, digits_done}
use Rattle.bytes_row.proofs.then_row.Goals as goal

pub returns-in_err-w-2 : goal.returns-in_err-w-2
returns-in_err-w-2 c =
    let q : c.args.p ≡ Ok c.in_ok-w.w = search rules in
    let z : c.from_residual-in_err-w-2.result ≡ Err c.in_err-w-2.field-0.0 = search rules in
    rw (z, q) (sym (digit_again _ _ _ _ _ _ _ c.loop.invariant.3 _ (omega (arith, c.loop-test.true)) c.in_err-w-2.ensures).digits)

pub loop-preserved : goal.loop-preserved
loop-preserved c = (
  search rules,
  search rules,
  search rules,
  digit_again _ _ _ _ _ _ _ c.loop.invariant.3 _ (omega (arith, c.loop-test.true)) c.in_ok-w-2.ensures,
)

pub returns : goal.returns
returns c =
    let q : c.args.p ≡ Ok c.in_ok-w.w = search rules in
    rw q (digits_done _ _ _ _ _ _ _ c.loop.invariant.3 (omega (arith, c.loop-test.false)))
