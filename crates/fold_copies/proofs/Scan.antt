-- The scan of a block: its copies, noted one after another.
use Prim.Native.Nat.{ℕ, zero, suc, ◌+◌, ◌≤◌, ◌<◌, zero-le}
use mathlib.Core.Path.{◌≡◌, refl, ap, ◌∙◌, sym, subst}
use mathlib.Core.List.{List, [], ◌∷◌, ◌++◌, append_assoc, append-nil}
use mathlib.Core.Option.{Option, none, some}
use mathlib.Core.Bool.{Bool, true, false, cond}
use mathlib.Core.Logic.{◌⊎◌, inl, inr, ⊎_elim}
use native.Mathlib.Nat.{add-zero}
use native.Mathlib.Numerals.{add-one}
use native.Mathlib.Omega.{arith}
use borrow.Author.Tests.{eqb-true, eqb-false}
use lib.Dec.{eqb}
use lib.ListN.{length, get_or, set, drop, replicate, length-append, length-set, length-replicate, get_or-append}
use lib.Seq.{get_or-set_same, get_or-set_other, get_or_at, drop-cons, drop-length}
use Rattle.std.proofs.lemmas.List.{get_or-replicate}
use Rattle.mir.specs.Syntax.{Instruction}
use Rattle.bytes_index.specs.declared.code.Code.{Code}
use Rattle.bytes_index.specs.Table.{row_at as slot_row}
use Rattle.bytes_index.specs.Code.{no_instruction, InstructionsIn}
use Rattle.bytes_types.specs.Index.{TypesAt}
use Rattle.mir.specs.Lookup.{Types}
use Rattle.mir.specs.Most.{most_values, most_instructions}
use Rattle.fold.specs.Family.{Marks, accessed}
use Rattle.fold_family.specs.Copies.{Copy, no_copy, copy_of, before, copies, last, row_at, firsts_at, table_size, RowsAt, dynamic_place, dynamics}
use Rattle.fold_family.proofs.Rows.{newest}
use Rattle.fold_copies.specs.Found.{RowOf, ScanCopies, CopyFound, CopyNoted, DynamicNoted}

-- the last row of a value among some copies, with another behind them: those in front tell it, or it is the new one
last_front : (cs : List Copy) (c : Copy) (v e : ℕ) → e ≤ length cs → last (cs ++ (c ∷ [])) v e ≡ last cs v e
unfolding last
last_front cs c v zero h = refl
last_front cs c v (suc j) h =
    rw (get_or-append cs (c ∷ []) no_copy j (omega arith), last_front cs c v j (omega arith)) refl

last_new : (cs : List Copy) (c : Copy) (v : ℕ) → last (cs ++ (c ∷ [])) v (suc (length cs)) ≡ cond (eqb c.source v) (suc (length cs)) (last cs v (length cs))
unfolding last
last_new cs c v =
    rw (get_or_at cs c [] no_copy (length cs) refl, last_front cs c v (length cs) (omega arith)) refl

-- one more copy
module _ (l : List ℕ) (n : ℕ) (cs : List Copy) (c : Copy)
    (a : RowsAt l cs) (many : length cs ≡ n) (room : length l ≡ table_size) (low : n < most_instructions)
  where
    abbrev l₁ : List ℕ
    l₁ = set l (row_at n) c.dest

    abbrev l₂ : List ℕ
    l₂ = set l₁ (row_at n + 1) c.asked

    abbrev l₃ : List ℕ
    l₃ = set l₂ (row_at n + 2) (get_or l₂ (firsts_at + c.source) 0)

    abbrev l₄ : List ℕ
    l₄ = set l₃ (firsts_at + c.source) (n + 1)

    -- the numbers that are not written
    kept : (j : ℕ) → (j < row_at n) ⊎ (firsts_at ≤ j) → (j ≡ firsts_at + c.source → ⊥) → get_or l₄ j 0 ≡ get_or l j 0
    kept j h o =
        get_or-set_other l₃ (firsts_at + c.source) j (n + 1) 0 o
        ∙ get_or-set_other l₂ (row_at n + 2) j (get_or l₂ (firsts_at + c.source) 0) 0 (λ z. ⊎_elim (λ y. omega arith) (λ y. omega arith) h)
        ∙ get_or-set_other l₁ (row_at n + 1) j c.asked 0 (λ z. ⊎_elim (λ y. omega arith) (λ y. omega arith) h)
        ∙ get_or-set_other l (row_at n) j c.dest 0 (λ z. ⊎_elim (λ y. omega arith) (λ y. omega arith) h)

    -- the last row of the source so far
    head : get_or l₂ (firsts_at + c.source) 0 ≡ get_or l (firsts_at + c.source) 0
    head =
        get_or-set_other l₁ (row_at n + 1) (firsts_at + c.source) c.asked 0 (λ z. omega arith)
        ∙ get_or-set_other l (row_at n) (firsts_at + c.source) c.dest 0 (λ z. omega arith)

    -- the new row
    new_dest : get_or l₄ (row_at n) 0 ≡ c.dest
    new_dest =
        get_or-set_other l₃ (firsts_at + c.source) (row_at n) (n + 1) 0 (λ z. omega arith)
        ∙ get_or-set_other l₂ (row_at n + 2) (row_at n) (get_or l₂ (firsts_at + c.source) 0) 0 (λ z. omega arith)
        ∙ get_or-set_other l₁ (row_at n + 1) (row_at n) c.asked 0 (λ z. omega arith)
        ∙ get_or-set_same l (row_at n) c.dest 0 (omega (arith, room))

    new_asked : get_or l₄ (row_at n + 1) 0 ≡ c.asked
    new_asked =
        get_or-set_other l₃ (firsts_at + c.source) (row_at n + 1) (n + 1) 0 (λ z. omega arith)
        ∙ get_or-set_other l₂ (row_at n + 2) (row_at n + 1) (get_or l₂ (firsts_at + c.source) 0) 0 (λ z. omega arith)
        ∙ get_or-set_same l₁ (row_at n + 1) c.asked 0 (omega (arith, room, length-set l (row_at n) c.dest))

    new_next : get_or l₄ (row_at n + 2) 0 ≡ get_or l (firsts_at + c.source) 0
    new_next =
        get_or-set_other l₃ (firsts_at + c.source) (row_at n + 2) (n + 1) 0 (λ z. omega arith)
        ∙ get_or-set_same l₂ (row_at n + 2) (get_or l₂ (firsts_at + c.source) 0) 0
        (omega (arith, room, length-set l (row_at n) c.dest, length-set l₁ (row_at n + 1) c.asked))
        ∙ head

    abbrev all : List Copy
    all = cs ++ (c ∷ [])

    counted : length all ≡ suc n
    counted = omega (arith, length-append cs (c ∷ []), many)

    -- what holds of each row
    each : (P : ℕ → Copy → Type 0) → ((k : ℕ) → k < length cs → P k (get_or cs k no_copy)) → P n c → (k : ℕ) → k < length all → P k (get_or all k no_copy)
    each P old new k h =
        ⊎_elim
        (λ q. subst (λ j. P j (get_or all j no_copy)) (sym q) (subst (P n) (sym (get_or_at cs c [] no_copy n many)) new))
        (λ q. let m : k < length cs = omega (arith, many) in subst (P k) (sym (get_or-append cs (c ∷ []) no_copy k m)) (old k m))
        (newest k n (omega (arith, counted)))

    rows_first : (v : ℕ) → v < most_values → (b : Bool) → eqb c.source v ≡ b → get_or l₄ (firsts_at + v) 0 ≡ last all v (length all)
    rows_first v h true e =
        let z : c.source ≡ v = eqb-true c.source v e in
        ap (λ x. get_or l₄ (firsts_at + x) 0) (sym z)
        ∙ get_or-set_same l₃ (firsts_at + c.source) (n + 1) 0
        (omega (
          arith,
          room,
          length-set l (row_at n) c.dest,
          length-set l₁ (row_at n + 1) c.asked,
          length-set l₂ (row_at n + 2) (get_or l₂ (firsts_at + c.source) 0),
        ))
        ∙ omega (arith, many)
        ∙ sym (ap (λ b. cond b (suc (length cs)) (last cs v (length cs))) e)
        ∙ sym (last_new cs c v)
        ∙ ap (λ x. last all v x) (ap suc many ∙ sym counted)
    rows_first v h false e =
        kept (firsts_at + v) (inr (omega arith)) (λ z. eqb-false c.source v e (omega arith))
        ∙ a.first v h
        ∙ sym (ap (λ b. cond b (suc (length cs)) (last cs v (length cs))) e)
        ∙ sym (last_new cs c v)
        ∙ ap (λ x. last all v x) (ap suc many ∙ sym counted)

    rows_next : (v : ℕ) (k : ℕ) → k < length all → (get_or all k no_copy).source ≡ v → v < most_values → get_or l₄ (row_at k + 2) 0 ≡ last all v k
    rows_next v =
        each (λ k x. x.source ≡ v → v < most_values → get_or l₄ (row_at k + 2) 0 ≡ last all v k)
        (λ k h s w.
        kept (row_at k + 2) (inl (omega (arith, many))) (λ z. omega (arith, many)) ∙ a.next k v h s w ∙ sym (last_front cs c v k (omega arith)))
        (λ s w.
        new_next ∙ ap (λ x. get_or l (firsts_at + x) 0) s ∙ a.first v w ∙ ap (λ x. last cs v x) many ∙ sym (last_front cs c v n (omega (arith, many))))

    rows_all : RowsAt l₄ all
    rows_all =
        record {
          dest = each (λ k x. get_or l₄ (row_at k) 0 ≡ x.dest)
              (λ k h. kept (row_at k) (inl (omega (arith, many))) (λ z. omega (arith, many)) ∙ a.dest k h) new_dest;
          asked = each (λ k x. get_or l₄ (row_at k + 1) 0 ≡ x.asked)
              (λ k h. kept (row_at k + 1) (inl (omega (arith, many))) (λ z. omega (arith, many)) ∙ a.asked k h) new_asked;
          next = λ k v h s w. rows_next v k h s w;
          first = λ v h. rows_first v h (eqb c.source v) refl;
        }

    pub rows_more : {a₁ a₂ a₃ a₄ : List ℕ} {x : ℕ} → a₁ ≡ set l (row_at n + 0) c.dest → a₂ ≡ set a₁ (row_at n + 1) c.asked
        → x ≡ get_or a₂ (firsts_at + c.source) 0 → a₃ ≡ set a₂ (row_at n + 2) x
        → a₄ ≡ set a₃ (firsts_at + c.source) (n + 1) → RowsAt a₄ all × (length all ≡ n + 1)
    rows_more e₁ e₂ ex e₃ e₄ = (rw (e₄, e₃, ex, e₂, e₁, add-zero) rows_all, omega (arith, counted))

-- a clear table has no rows
rows_none : RowsAt (replicate table_size 0) []
unfolding last
rows_none =
    record {
      dest = λ k h. absurd (omega arith);
      asked = λ k h. absurd (omega arith);
      next = λ k v h s w. absurd (omega arith);
      first = λ v h. get_or-replicate {A = ℕ} table_size (firsts_at + v) 0 0 (omega arith);
    }

-- k instructions of a block are behind
pub record Left (τ : Types) (is : List Instruction) (l : List ℕ) (n : ℕ) (dyn₀ dyn : Marks) (k : ℕ) : Type 0 where
  pub done : List Copy
  pub noted : RowsAt l done
  pub many : length done ≡ n
  pub rest : copies τ is ≡ done ++ copies τ (drop k is)
  pub dynamic : dynamics dyn₀ is ≡ dynamics dyn (drop k is)

-- the copies behind one, at the end of others
grouped : (cs : List Copy) (o : Option Copy) (ds : List Copy) → cs ++ before o ds ≡ (cs ++ before o []) ++ ds
grouped cs none ds = rw append-nil
grouped cs (some c) ds = sym (append_assoc cs (c ∷ []) ds)

-- the next is behind
left_more : (τ : Types) (is : List Instruction) (l : List ℕ) (n : ℕ) (dyn₀ dyn : Marks) (k : ℕ) (l' : List ℕ) (n' : ℕ) (dyn' : Marks)
    → k < length is
    → (o : Option Copy)
    → o ≡ copy_of τ (get_or is k no_instruction).kind
    → ((cs : List Copy) → RowsAt l cs → length cs ≡ n → RowsAt l' (cs ++ before o []) × (length (cs ++ before o []) ≡ n'))
    → dyn' ≡ dynamic_place dyn (accessed (get_or is k no_instruction).kind)
    → Left τ is l n dyn₀ dyn k
    → Left τ is l' n' dyn₀ dyn' (k + 1)
unfolding copies dynamics
left_more τ is l n dyn₀ dyn k l' n' dyn' h o eo f ed u =
    let e : drop k is ≡ get_or is k no_instruction ∷ drop (k + 1) is = rw (add-one k) (drop-cons is k no_instruction h) in
    record {
      done = u.done ++ before o [];
      noted = (f u.done u.noted u.many).0;
      many = (f u.done u.noted u.many).1;
      rest = u.rest ∙ ap (λ x. u.done ++ copies τ x) e ∙ ap (λ x. u.done ++ before x (copies τ (drop (k + 1) is))) (sym eo) ∙ grouped u.done o (copies τ (drop (k + 1) is));
      dynamic = u.dynamic ∙ ap (λ x. dynamics dyn x) e ∙ ap (λ x. dynamics x (drop (k + 1) is)) (sym ed);
    }

module _ (code : Code) (first count : ℕ) (l₀ : List ℕ) (dyn₀ : Marks) where
  -- the instructions of the block
  abbrev Here : List Instruction → Type 0
  Here is = InstructionsIn code.bounds code.bytes.now code.facts.now first is

  -- k of them are behind
  pub record Scanning (l : List ℕ) (dyn : Marks) (n k : ℕ) : Type 0 where
    pub under : k ≤ count
    pub few : n ≤ k
    pub long : length l ≡ length l₀
    pub left : (most : ℕ) (τ : Types) (is : List Instruction) → TypesAt most code.bytes.now code.facts.now τ.rows → length τ.rows ≡ code.bounds.types → Here is → length is ≡ count → l₀ ≡ replicate table_size 0 → Left τ is l n dyn₀ dyn k

  pub scan_start : Scanning l₀ dyn₀ 0 0
  scan_start =
      record {
        under = zero-le;
        few = zero-le;
        long = refl;
        left = λ most τ is a m p q r. record { done = []; noted = rw r rows_none; many = refl; rest = refl; dynamic = refl };
      }

  pub scan_again : (l : List ℕ) (dyn : Marks) (n k : ℕ) (row l' : List ℕ) (dyn' : Marks) (n' : ℕ) (o : Option Copy)
      → Scanning l dyn n k
      → k < count
      → row ≡ drop (slot_row (first + k)) code.facts.now
      → CopyFound code row o
      → n' ≤ n + 1
      → CopyNoted o n n' l l'
      → DynamicNoted code row dyn dyn'
      → length l' ≡ length l
      → Scanning l' dyn' n' (k + 1)
  scan_again l dyn n k row l' dyn' n' o u h er ec hn ef ey ll =
      record {
        under = omega arith;
        few = omega (arith, u.few);
        long = ll ∙ u.long;
        left = λ most τ is a m p q r.
            let g : k < length is = omega arith in
            let i : RowOf code row (get_or is k no_instruction) = record { slot = first + k; behind = er; stands = p k g } in
            left_more τ is l n dyn₀ dyn k l' n' dyn' g o (ec most τ _ a m i) (λ cs z w. ef cs z w (u.long ∙ ap length r ∙ length-replicate {A = ℕ} table_size 0)) (ey _ i) (u.left most τ is a m p q r);
      }

  -- all are behind
  pub scan_done : (l : List ℕ) (dyn : Marks) (n k : ℕ) → Scanning l dyn n k → count ≤ k → ScanCopies code first count l₀ l dyn₀ dyn
  unfolding copies dynamics
  scan_done l dyn n k u h most τ is a m p q w r =
      let f = u.left most τ is a m p q r in
      let z : k ≡ length is = omega (arith, u.under) in
      let e : drop k is ≡ [] = rw z (drop-length is) in
      let g : copies τ is ≡ f.done = f.rest ∙ ap (λ y. f.done ++ copies τ y) e ∙ append-nil f.done in
      record {
        copied_all = rw g f.noted;
        dynamic_all = sym (f.dynamic ∙ ap (λ y. dynamics dyn y) e);
      }
