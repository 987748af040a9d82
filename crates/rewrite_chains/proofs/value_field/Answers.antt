use Rattle.rewrite_chains.proofs.Fields.{recorded_some, recorded_none}
use Rattle.rewrite_chains.proofs.value_field.Goals as goal
use Rattle.std.proofs.Common.{refl}

pub returns-in_err-t : goal.returns-in_err-t
returns-in_err-t c = λ most τ k m h. rw c.from_residual.ensures (recorded_none most _ _ _ τ _ c.in_err-t.ensures k h _ refl)

pub returns : goal.returns
returns c = λ most τ k m h. recorded_some most _ _ _ τ _ c.in_ok-t.ensures k h _ _ refl (c.find_field.ensures most τ.rows k.rows m)
