use Rattle.std.proofs.Common.{get_or}
use mathlib.Core.Path.{ap, ◌∙◌}
use Rattle.bytes_wire.specs.Number.{at16}
use Rattle.bytes_sections.specs.Index.{recorded_from}
use Rattle.fold_structs.specs.Told.{goes_by}
use Rattle.fold_structs.proofs.Conditions.{goes_told, passes_short, passes_type, passes_marked, passes_told}
use Rattle.fold_structs.proofs.struct_passes.Goals as goal

pub returns-then-size-lt-ID : goal.returns-then-size-lt-ID
returns-then-size-lt-ID c =
    let a = c.args in
    passes_short a.code a.settings a.cross.now a.t.now a.size c.if-size-lt-ID.true

pub returns-then-not-type_eligible : goal.returns-then-not-type_eligible
returns-then-not-type_eligible c =
    let a = c.args in
    passes_type a.code a.settings a.cross.now a.t.now a.size c.last_type-named.result (c.last_type-named.ensures c.if-size-lt-ID.false) c.type_eligible.result
    c.type_eligible.ensures c.if-not-type_eligible.true

pub returns-then-flag : goal.returns-then-flag
returns-then-flag c =
    let a = c.args in
    passes_marked a.code a.settings a.cross.now a.t.now a.size c.last_type-named.result (c.last_type-named.ensures c.if-size-lt-ID.false) c.type_eligible.result
    c.type_eligible.ensures c.if-not-type_eligible.false c.dest-d.result.0
    (c.dest-d.ensures ∙ ap (λ u. at16 u 0) c.own_fields-own.ensures) c.flag.result
    c.flag.ensures c.if-flag.true

pub returns : goal.returns
returns c =
    let a = c.args in
    passes_told a.code a.settings a.cross.now a.t.now a.size c.last_type-named.result (c.last_type-named.ensures c.if-size-lt-ID.false) c.type_eligible.result
    c.type_eligible.ensures c.if-not-type_eligible.false c.dest-d.result.0
    (c.dest-d.ensures ∙ ap (λ u. at16 u 0) c.own_fields-own.ensures) c.flag.result
    c.flag.ensures c.if-flag.false c.unwrap_or.result
    (c.unwrap_or.ensures ∙ goes_told c.recorded_type-recorded.result c.last_type-named.result
    ∙ ap (λ o. goes_by o c.last_type-named.result) (c.recorded_type-recorded.ensures ∙ ap (λ u. recorded_from (get_or u c.dest-d.result.0 0)) c.recorded.ensures))
    c.told_by.result (rw c.own_fields-own.ensures at c.told_by.ensures)
