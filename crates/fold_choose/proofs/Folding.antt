-- What is decided of one build.
use Prim.Native.Nat.{ℕ, ◌<◌}
use mathlib.Core.Path.{◌≡◌, refl, ap, ◌∙◌, sym}
use mathlib.Core.List.{List}
use mathlib.Core.Bool.{Bool, true, false, ◌||◌, true≢false}
use mathlib.Core.Option.{some, none-ne-some}
use borrow.Author.Tests.{eq-eqb, ne_eqb}
use lib.Dec.{eqb}
use lib.ListN.{length}
use Rattle.mir.specs.declared.ValueId.{ValueId}
use Rattle.mir.specs.Syntax.{Instruction, InstructionKind}
use Rattle.mir.specs.Syntax.{Assign, UnaryOp, BinaryOp, Call, Cast, Load, Store, Debug, Nop, Phi}
use Rattle.mir.specs.Syntax.{MakeTuple, ExtractTupleElement, MakeStruct, ExtractStructField, InsertField, InsertTuple, MakeFixedArray, AssertEq, HeapAllocCells}
use Rattle.mir.specs.Reads.{kind_number}
use Rattle.bytes_index.specs.declared.code.Code.{Code}
use Rattle.bytes_index.specs.Table.{kind_in}
use Rattle.fold.specs.declared.Settings.{Settings}
use Rattle.mir.specs.Lookup.{Types}
use Rattle.fold.specs.Family.{Marks, build_dest, has_dynamic_index}
use Rattle.fold.specs.Climb.{build_of}
use Rattle.rewrite.specs.Run.{folds_build}
use Rattle.fold_climb.specs.Decided.{Decided, FoldsBy}
use Rattle.fold_scan.specs.Noted.{dest_in}
use Rattle.fold_scan.proofs.Placed.{build_kind_lem, build_at, build_place}
use Rattle.mir.specs.Kind.{build_kind}
use Rattle.fold_choose.specs.Chosen.{Answers}

neither : (t u : Bool) → (t || u) ≡ false → (t ≡ false) × (u ≡ false)
neither true u h = absurd (true≢false h)
neither false u h = (refl, h)

-- the decision on a value is the one on its build
fold_any : (σ : Settings) (τ : Types) (cross : Marks) (is : List Instruction) (i : InstructionKind) (v : ValueId) (kind : ℕ) (looked r : Bool) → kind ≡ kind_number i → build_dest i ≡ some v → build_of σ τ cross v is ≡ some i → Decided σ τ cross is v kind looked r → (kind ≡ 16 → looked ≡ has_dynamic_index τ v is) → r ≡ folds_build σ τ cross is (some i)
unfolding build_dest folds_build
fold_any σ τ cross is (Assign d x t) v kind looked r h e o w l = absurd (none-ne-some _ e)
fold_any σ τ cross is (UnaryOp op d x) v kind looked r h e o w l = absurd (none-ne-some _ e)
fold_any σ τ cross is (BinaryOp op d x y) v kind looked r h e o w l = absurd (none-ne-some _ e)
fold_any σ τ cross is (Call ds f xs ps rs) v kind looked r h e o w l = absurd (none-ne-some _ e)
fold_any σ τ cross is (Cast d x t u) v kind looked r h e o w l = absurd (none-ne-some _ e)
fold_any σ τ cross is (Load d p t) v kind looked r h e o w l = absurd (none-ne-some _ e)
fold_any σ τ cross is (Store p x t) v kind looked r h e o w l = absurd (none-ne-some _ e)
fold_any σ τ cross is (Debug n xs) v kind looked r h e o w l = absurd (none-ne-some _ e)
fold_any σ τ cross is Nop v kind looked r h e o w l = absurd (none-ne-some _ e)
fold_any σ τ cross is (Phi d t ss) v kind looked r h e o w l = absurd (none-ne-some _ e)
fold_any σ τ cross is (MakeTuple d xs) v kind looked r h e o w l = let q : d ≡ v = cc in rw q (w.tuple xs h (rw q at o))
fold_any σ τ cross is (ExtractTupleElement d x k t) v kind looked r h e o w l = absurd (none-ne-some _ e)
fold_any σ τ cross is (MakeStruct d fs t) v kind looked r h e o w l = let q : d ≡ v = cc in rw q (w.struct h)
fold_any σ τ cross is (ExtractStructField d x n t) v kind looked r h e o w l = absurd (none-ne-some _ e)
fold_any σ τ cross is (InsertField d x n y t) v kind looked r h e o w l = absurd (none-ne-some _ e)
fold_any σ τ cross is (InsertTuple d x k y t) v kind looked r h e o w l = absurd (none-ne-some _ e)
fold_any σ τ cross is (MakeFixedArray d xs t c) v kind looked r h e o w l = let q : d ≡ v = cc in rw q (w.array h (l h))
fold_any σ τ cross is (AssertEq x y) v kind looked r h e o w l = absurd (none-ne-some _ e)
fold_any σ τ cross is (HeapAllocCells d x) v kind looked r h e o w l = absurd (none-ne-some _ e)

-- a number that is none of three is no build's
pub none_of_three : (n : ℕ) → (n ≡ 10 → ⊥) → (n ≡ 12 → ⊥) → (n ≡ 16 → ⊥) → build_kind n ≡ false
none_of_three n a b c = rw (ne_eqb n 10 a, ne_eqb n 12 b, ne_eqb n 16 c) refl

-- an instruction of another kind is no build
pub no_build : (i : InstructionKind) (v : ValueId) (kind : ℕ) → kind ≡ kind_number i → build_kind kind ≡ false → build_dest i ≡ some v → ⊥
no_build i v kind k f h =
    let w = neither (eqb kind 10) (eqb kind 12 || eqb kind 16) f in
    let u = neither (eqb kind 12) (eqb kind 16) w.1 in
    build_kind_lem i v h (λ z. true≢false (sym (eq-eqb kind 10 (k ∙ z)) ∙ w.0)) (λ z. true≢false (sym (eq-eqb kind 12 (k ∙ z)) ∙ u.0)) (λ z. true≢false (sym (eq-eqb kind 16 (k ∙ z)) ∙ u.1))

module _ (σ : Settings) (shapes graph : List ℕ) (looked : Bool) (code : Code) (slot kind : ℕ) (ks : kind ≡ kind_in code.facts.now slot) where
  pub decided : (d : ℕ) → d ≡ dest_in code.bytes.now code.facts.now slot → (r : Bool) → FoldsBy σ shapes graph (record { 0 = d }) kind looked r → Answers σ shapes graph looked code slot r
  decided d ds r folds τ cross is i v seen l few at h o looks =
      elim (build_place code.bounds code.bytes.now code.facts.now slot i v at h) [
        | build_at a low ↦
            let q : d ≡ v.0 = ds ∙ sym a in
            let z : record { 0 = d } ≡ v = ap (λ (x : ℕ). record { 0 = x }) q in
            let x : d < length τ.recorded = rw (q, l) low in
            let dec = rw z at (folds τ cross is seen.eligible seen.facts seen.scanned (rw l few) x) in
            fold_any σ τ cross is i.kind v kind looked r (ks ∙ at.kind) h o dec (λ k. looks (sym at.kind ∙ sym ks ∙ k))
      ]

  pub decided_none : (build : Bool) → build ≡ build_kind kind → build ≡ false → Answers σ shapes graph looked code slot false
  decided_none build bs f τ cross is i v seen l few at h o looks = absurd (no_build i.kind v kind (ks ∙ at.kind) (sym bs ∙ f) h)
