use mathlib.Core.Path.{ap, ◌∙◌, sym}
use mathlib.Core.Bool.{not}
use Rattle.mir.specs.declared.kind.Kind.{Kind}
use Rattle.mir.proofs.Numbers.{names_one, kind_other, kind_found}
use Rattle.rewrite_step.proofs.Turns.{call_settles, other_settles, store_off}
use Rattle.rewrite_step.proofs.settle.Goals as goal

pub returns-then-eq-clause-settles_all : goal.returns-then-eq-clause-settles_all
returns-then-eq-clause-settles_all c = let a = c.args in λ τ S folds n i h room f.
    rw c.staying.ensures
    (call_settles a.turn.settings τ folds S n i a.turn.code.bounds.next a.turn.code.bytes.now a.tracked.now a.rows.now a.used
    (sym h.line.kind ∙ kind_found _ _ Kind.Call c.instruction_kind-kind.ensures (ap not c.if-eq.ensures)) h.rep)

pub returns-then-ne-clause-settles_all : goal.returns-then-ne-clause-settles_all
returns-then-ne-clause-settles_all c = let a = c.args in λ τ S folds n i h room f.
    rw c.as_decided.ensures
    (other_settles a.turn.settings τ folds S n i a.turn.code.bounds.next a.turn.code.bytes.now _ _ _ _
    (λ z. kind_other _ Kind.Call (ap not c.if-eq.ensures) (names_one _ _ Kind.Call c.instruction_kind-kind.ensures (h.line.kind ∙ z)))
    (λ z. kind_other _ Kind.Store c.if-ne.ensures (names_one _ _ Kind.Store c.instruction_kind-kind.ensures (h.line.kind ∙ z)))
    (c.decide-d.ensures.step_decided τ S folds n i h room
    (λ z. kind_other _ Kind.Call (ap not c.if-eq.ensures) (names_one _ _ Kind.Call c.instruction_kind-kind.ensures (h.line.kind ∙ z)))
    (λ z. kind_other _ Kind.Store c.if-ne.ensures (names_one _ _ Kind.Store c.instruction_kind-kind.ensures (h.line.kind ∙ z))) f))

pub returns-then-not-turn-clause-settles_all : goal.returns-then-not-turn-clause-settles_all
returns-then-not-turn-clause-settles_all c = let a = c.args in λ τ S folds n i h room f.
    rw c.staying-then-not-turn.ensures
    (store_off a.turn.settings τ folds S n i a.turn.code.bounds.next a.turn.code.bytes.now a.tracked.now a.rows.now a.used
    (sym h.line.kind ∙ kind_found _ _ Kind.Store c.instruction_kind-kind.ensures c.if-ne.ensures) c.if-not-turn.true h.rep)

pub returns-clause-settles_all : goal.returns-clause-settles_all
returns-clause-settles_all c = λ τ S folds n i h room f.
    c.settle_store.ensures.settles_store τ S folds n i h room
    (sym h.line.kind ∙ kind_found _ _ Kind.Store c.instruction_kind-kind.ensures c.if-ne.ensures) c.if-not-turn.false
