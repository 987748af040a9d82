use Rattle.rewrite_build.proofs.put_value_at.Goals as goal

pub returns-clause-writes : goal.returns-clause-writes
returns-clause-writes c = λ x h. rw (← c.value_at.ensures x h) c.put_value.ensures
