use Rattle.std.proofs.Common.{◌||◌}
use mathlib.Core.Path.{refl, ap}
use mathlib.Core.Logic.{inl, inr}
use lib.Dec.{eqb}
use Rattle.mir.specs.declared.kind.Kind.{Kind}
use Rattle.mir.specs.Kind.{number_of_kind}
use Rattle.mir.proofs.Numbers.{one_kind}
use Rattle.fold_scan.proofs.One.{one_idle, one_call, one_walk, one_tuple, one_array, one_struct}
use Rattle.fold_scan.proofs.scan_one.Goals as goal

pub returns-in-Call : goal.returns-in-Call
returns-in-Call c =
    let a = c.args in
    one_call a.code a.slot a.values a.pass a.graph.now _ c.in-Some.ensures _ (ap number_of_kind c.in-Call.is) c.note_reads.ensures

pub returns-in-Load : goal.returns-in-Load
returns-in-Load c =
    let a = c.args in
    one_walk a.code a.slot a.values a.pass a.graph.now _ c.in-Some.ensures _
    (elim c.in-Load.is [
      | inl p ↦ ap (λ (k : Kind). eqb (number_of_kind k) 5 || eqb (number_of_kind k) 6) p
      | inr p ↦ ap (λ (k : Kind). eqb (number_of_kind k) 5 || eqb (number_of_kind k) 6) p
    ])
    c.note_place.ensures

pub returns-in-MakeTuple : goal.returns-in-MakeTuple
returns-in-MakeTuple c =
    let a = c.args in
    one_tuple a.code a.slot a.values a.pass a.graph.now _ c.in-Some.ensures _ _ refl _
    (ap number_of_kind c.in-MakeTuple.is) refl c.note_shaped.ensures

pub returns-in-MakeStruct : goal.returns-in-MakeStruct
returns-in-MakeStruct c =
    let a = c.args in
    one_struct a.code a.slot a.values a.pass a.graph.now _ c.in-Some.ensures _ c.dest.result c.dest.ensures a.pass
    (ap number_of_kind c.in-MakeStruct.is) refl c.note_build.ensures

pub returns-in-MakeFixedArray : goal.returns-in-MakeFixedArray
returns-in-MakeFixedArray c =
    let a = c.args in
    one_array a.code a.slot a.values a.pass a.graph.now _ c.in-Some.ensures _ _ refl _
    (ap number_of_kind c.in-MakeFixedArray.is) refl c.note_shaped-in-MakeFixedArray.ensures

pub returns-in_default-kind : goal.returns-in_default-kind
returns-in_default-kind c =
    let a = c.args in
    let n = c.in_default-kind in
    one_idle a.code a.slot a.values a.pass a.graph.now _ c.in-Some.ensures (λ e. n.not-Call (one_kind _ Kind.Call e))
    (λ e. n.not-Load (one_kind _ Kind.Load e)) (λ e. n.not-Store (one_kind _ Kind.Store e)) (λ e. n.not-MakeTuple (one_kind _ Kind.MakeTuple e))
    (λ e. n.not-MakeStruct (one_kind _ Kind.MakeStruct e)) (λ e. n.not-MakeFixedArray (one_kind _ Kind.MakeFixedArray e))
