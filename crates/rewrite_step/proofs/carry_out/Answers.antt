use Rattle.rewrite_step.specs.Stepping.{lent_as}
use Rattle.rewrite_step.proofs.Turns.{put_does, put_forwarded, put_called, put_stored, put_second}
use Rattle.rewrite_step.proofs.carry_out.Goals as goal

pub returns-in-Does-clause-puts_piece : goal.returns-in-Does-clause-puts_piece
returns-in-Does-clause-puts_piece c =
    let a = c.args in
    λ τ S used i q h z bd. put_does a.site.code a.site.slot τ S used i q
    (lent_as a.site.tracked.now a.dropped.now a.work.now a.out.now) a.p a.rewrite h z _ _ _ _ c.in-Does.is
    c.perform.ensures.performs

pub returns-in-Forwarded-clause-puts_piece : goal.returns-in-Forwarded-clause-puts_piece
returns-in-Forwarded-clause-puts_piece c =
    let a = c.args in
    λ τ S used i q h z bd. put_forwarded a.site.code a.site.slot τ S used i q
    (lent_as a.site.tracked.now a.dropped.now a.work.now a.out.now) a.p a.rewrite h z _ c.in-Forwarded.is c.left_out.ensures

pub returns-in-Call-clause-puts_piece : goal.returns-in-Call-clause-puts_piece
returns-in-Call-clause-puts_piece c =
    let a = c.args in
    λ τ S used i q h z bd. put_called a.site.code a.site.slot τ S used i q
    (lent_as a.site.tracked.now a.dropped.now a.work.now a.out.now) a.p a.rewrite h z
    (lent_as a.site.tracked.now a.dropped.now c.put_call.new.work c.put_call.new.out) _ c.in-Call.is
    (λ ds f xs ps rs y k e. c.put_call.ensures.call_put τ S used i ds f xs ps rs a.dropped.now q y k e bd)

pub returns-in-Store-clause-puts_piece : goal.returns-in-Store-clause-puts_piece
returns-in-Store-clause-puts_piece c =
    let a = c.args in
    λ τ S used i q h z bd. put_stored a.site.code a.site.slot τ S used i q
    (lent_as a.site.tracked.now a.dropped.now a.work.now a.out.now) a.p a.rewrite h z
    (lent_as a.site.tracked.now a.dropped.now c.put_store.new.work c.put_store.new.out) _ c.in-Store.is
    (λ v x t y k e. c.put_store.ensures.store_put τ S used i v x t a.dropped.now q y k e bd)

pub returns-in-Behind-clause-puts_piece : goal.returns-in-Behind-clause-puts_piece
returns-in-Behind-clause-puts_piece c =
    let a = c.args in
    λ τ S used i q h z bd. put_second a.site.code a.site.slot τ S used i q
    (lent_as a.site.tracked.now a.dropped.now a.work.now a.out.now) a.p a.rewrite h z
    (lent_as a.site.tracked.now a.dropped.now c.put_behind.new.work c.put_behind.new.out) _ c.in-Behind.is
    (λ y e. c.put_behind.ensures.behind_put τ S used i a.dropped.now q y e bd)
