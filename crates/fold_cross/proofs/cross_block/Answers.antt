use mathlib.Core.Path.{refl}
use mathlib.Core.Bool.{false}
use Rattle.std.proofs.lemmas.List.{take-replicate}
use Rattle.fold_cross.proofs.Crossing.{block_idle, block_copies}
use Rattle.fold_cross.proofs.cross_block.Goals as goal

pub returns-then-not-has_build : goal.returns-then-not-has_build
returns-then-not-has_build c =
    let a = c.args in
    λ τ ks h σ r l. block_idle a.known a.k.0 c.block_slots-slots.result c.block_slots-slots.ensures a.marks.now (c.has_build.ensures c.if-not-has_build.true) σ τ ks r h

pub returns : goal.returns
returns c =
    let a = c.args in
    λ τ ks h σ r. c.cross_builds.ensures τ ks h
    (block_copies a.known a.k.0 c.block_slots-slots.result c.block_slots-slots.ensures _ _ _ _ c.scan_copies.ensures refl σ τ ks r h)
    (take-replicate a.known.code.bounds.next 256 false a.known.few)
    σ r
