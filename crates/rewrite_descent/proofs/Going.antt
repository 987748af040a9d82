-- The loop over the parts of a value.
use Prim.Native.Nat.{ℕ, zero, suc, ◌+◌, ◌≤◌, ◌<◌}
use mathlib.Core.Path.{◌≡◌, refl, ap, ◌∙◌, sym}
use mathlib.Core.List.{List, [], ◌∷◌}
use mathlib.Core.Bool.{Bool, true, false, true≢false}
use mathlib.Core.Option.{some}
use native.Mathlib.Omega.{arith}
use lib.ListN.{length, get_or, set, length-set, length-take}
use lib.Seq.{get_or-take}
use Rattle.std.specs.Prelude.{Ok, Err, Some, None, IfOk, Option as Answered, Result}
use Rattle.mir.specs.declared.Value.{Value}
use Rattle.mir.specs.Lookup.{Types, row_of}
use Rattle.fold.specs.Family.{Marks, mark}
use Rattle.fold_climb.specs.Edges.{unmarked}
use Rattle.fold_climb.proofs.Depth.{unmarked_set}
use Rattle.rewrite.specs.declared.Fault.{Fault}
use Rattle.rewrite.specs.State.{AggStates}
use Rattle.rewrite.specs.Deep.{own_type, kept_parts, whole_then}
use Rattle.rewrite_parts.specs.Rows.{ValueAt, rows_in, fresh_in}
use Rattle.rewrite_progress.specs.declared.Progress.{Progress}
use Rattle.rewrite_progress.specs.Effect.{output_of, rebuilt_effect, Puts}
use Rattle.rewrite_progress.proofs.Laws.{behind_none}
use Rattle.rewrite_progress.proofs.Faults.{puts_fault, puts_effect, met_first, first_assoc}
use Rattle.rewrite_wanted.specs.declared.Asks.{Asks}
use Rattle.rewrite_wanted.specs.declared.Build.{Build}
use Rattle.rewrite_wanted.specs.Asked.{Setting, Told, WantedAt}
use Rattle.rewrite_descent.specs.declared.Site.{Site}
use Rattle.rewrite_descent.specs.Descent.{deep_own, number_taken, Spacious, Deeper, PutDeeper, PartStands, OwnBuild, Begun, Begins, WholePut, DeepPut}
use Rattle.rewrite_descent.proofs.Deepening.{deep_stays, deep_of, deep_built, deep}
use Rattle.rewrite_descent.proofs.Descending.{Left, left_start, left_again, left_fault, left_done, part_fault, whole_behind}

-- not further, and further in two steps
pub deeper_none : (next : ℕ) (p : Progress) → Spacious p → Deeper next p p
deeper_none next p r = record { to = omega arith; lines = omega arith; taken = omega arith; fresh = omega (arith, r.fresh); numbered = λ h. h; counts = refl }

pub deeper_then : (next : ℕ) (p q r : Progress) → Deeper next p q → Deeper next q r → Deeper next p r
deeper_then next p q r a b = record {
  to = omega (arith, a.to, b.to);
  lines = omega (arith, a.lines, b.lines);
  taken = omega (arith, a.taken, b.taken);
  fresh = b.fresh;
  numbered = λ h. b.numbered (a.numbered h);
  counts = b.counts ∙ a.counts;
}

pub then_deeper : (next : ℕ) (p q : Progress) (r : Result Progress Fault) → Deeper next p q → PutDeeper next q r → PutDeeper next p r
then_deeper next p q (Err f) a b = tt
then_deeper next p q (Ok u) a b = deeper_then next p q u a b

-- and there is room still
pub spacious_still : (next : ℕ) (p q : Progress) → Spacious p → Deeper next p q → Spacious q
spacious_still next p q r a = record { to = omega (arith, r.to, a.to); fresh = a.fresh }

-- a mark that is put and taken away
pub unmark : (m : Marks) (v : ℕ) → get_or m v true ≡ false → set (set m v true) v false ≡ m
unmark [] v h = absurd (true≢false h)
unmark (a ∷ m) zero h = ap (λ (b : Bool). b ∷ m) (sym h)
unmark (a ∷ m) (suc v) h = ap (λ (l : Marks). a ∷ l) (unmark m v h)

pub if_kept : {m m' : Marks} (r : Result Progress Fault) → m' ≡ m → IfOk r (λ q. m' ≡ m)
if_kept (Err f) e = tt
if_kept (Ok q) e = e

-- the loop over the parts: those before the k-th are put out
pub record Going (site : Site) (z : Build) (many : ℕ) (path₀ : Marks) (out₀ work₀ : List ℕ) (p₀ : Progress) (out work : List ℕ) (q : Progress) (path : Marks) (nums : List ℕ) (k : ℕ) : Type 0 where
  pub under : k ≤ many
  pub few : many ≤ 16
  pub size : length nums ≡ 16
  pub room : Spacious p₀
  pub deeper : Deeper site.code.bounds.next p₀ q
  pub len : length out ≡ length out₀
  pub len_work : length work ≡ length work₀
  pub rows : rows_in work ≡ rows_in work₀
  pub clear : get_or path₀ z.value.0 true ≡ false
  pub marked : path ≡ set path₀ z.value.0 true
  pub begun : Begins site.code work₀ path₀ z (Ok many)
  pub left : (dropped : Marks) (τ : Types) (S : AggStates) (xs : List Value) → Setting site.code site.tracked.now (rows_in work₀) τ S → OwnBuild τ S z xs → length path₀ ≡ site.code.bounds.next → site.code.bounds.next + p₀.fresh < 65536
      → Left τ S (mark path₀ z.value) site.code.bounds.next (kept_parts (row_of τ (some z.named)) xs) (output_of out₀ (fresh_in work₀) dropped p₀) (output_of out (fresh_in work) dropped q) nums k

module _ (site : Site) (z : Build) (many : ℕ) (path₀ : Marks) (out₀ work₀ : List ℕ) (p₀ : Progress) where
  pub going_start : (path : Marks) (nums : List ℕ) → many ≤ 16 → length nums ≡ 16 → Spacious p₀ → get_or path₀ z.value.0 true ≡ false → path ≡ set path₀ z.value.0 true → Begins site.code work₀ path₀ z (Ok many) → Going site z many path₀ out₀ work₀ p₀ out₀ work₀ p₀ path nums 0
  going_start path nums f s r h m b = record {
    under = omega arith;
    few = f;
    size = s;
    room = r;
    deeper = deeper_none _ p₀ r;
    len = refl;
    len_work = refl;
    rows = refl;
    clear = h;
    marked = m;
    begun = b;
    left = λ dropped τ S xs e o l n. left_start τ S _ _ _ (output_of out₀ (fresh_in work₀) dropped p₀) nums n;
  }

  module _ (out work : List ℕ) (q : Progress) (path : Marks) (nums : List ℕ) (k : ℕ) (c : Going site z many path₀ out₀ work₀ p₀ out work q path nums k) where
    -- fewer marks are clear
    pub going_less : unmarked path < unmarked path₀
    going_less = rw c.marked (omega (arith, unmarked_set path₀ z.value.0 c.clear))

    -- as many parts as there are marks for
    kept_many : (τ : Types) (xs : List Value) → Begun τ path₀ z xs many → length (kept_parts (row_of τ (some z.named)) xs) ≡ many
    kept_many τ xs b = rw b.kept (omega (arith, length-take many xs, b.within))

    module _ (h : k < many) (place : ℕ) (st : PartStands work z.value k place) (part : Answered Build) (wt : WantedAt site.code site.code.bytes.now place site.tracked.now Asks.Own k part) (out' work' : List ℕ) (r : Result Progress Fault) (dp : DeepPut site path part out work q out' work' r) where
      -- of the value that stands here
      module _ (τ : Types) (S : AggStates) (xs : List Value) (e : Setting site.code site.tracked.now (rows_in work₀) τ S) (o : OwnBuild τ S z xs) (l : length path₀ ≡ site.code.bounds.next) where
        b_here : Begun τ path₀ z xs many
        b_here = c.begun l τ S site.tracked.now xs e o

        abbrev here : Value
        here = get_or (kept_parts (row_of τ (some z.named)) xs) k Value.Error

        e_here : Setting site.code site.tracked.now (rows_in work) τ S
        e_here = rw c.rows e

        told_here : Told τ S here (own_type τ here) part
        told_here =
            let g : here ≡ get_or xs k Value.Error = ap (λ (l : List Value). get_or l k Value.Error) b_here.kept ∙ get_or-take many xs k Value.Error h in
            let w : ValueAt site.code.bounds.next site.code.bytes.now place here = rw g (st _ _ _ e_here.used S xs e_here.rep o.parts (omega (arith, h, b_here.within))) in
            wt τ S (rows_in work) here e_here w

        puts_here : (dropped : Marks) → site.code.bounds.next + q.fresh < 65536 → Puts (output_of out (fresh_in work) dropped q) (rebuilt_effect (deep_own τ S (mark path₀ z.value) (site.code.bounds.next + q.fresh) (here ∷ []))) (deep_own τ S (mark path₀ z.value) (site.code.bounds.next + q.fresh) (here ∷ [])).fault out' (fresh_in work') dropped r
        puts_here dropped n =
            let m : length path ≡ site.code.bounds.next = rw c.marked (length-set path₀ z.value.0 true ∙ l) in
            rw c.marked at (dp τ S here e_here told_here m n dropped)

        here_within : k < length (kept_parts (row_of τ (some z.named)) xs)
        here_within = omega (arith, h, kept_many τ xs b_here)

      pub going_again : (q' : Progress) (path' : Marks) (number : ℕ) (nums' : List ℕ) → r ≡ Ok q' → Deeper site.code.bounds.next q q' → length out' ≡ length out → length work' ≡ length work → rows_in work' ≡ rows_in work → path' ≡ path
          → (site.code.bounds.next + q'.fresh < 65536 → number ≡ number_taken site.code.bounds.next q.fresh q'.fresh) → nums' ≡ set nums k number
          → Going site z many path₀ out₀ work₀ p₀ out' work' q' path' nums' (k + 1)
      going_again q' path' number nums' y d a b w m n f = record {
        under = omega arith;
        few = c.few;
        size = rw f (length-set nums k number ∙ c.size);
        room = c.room;
        deeper = deeper_then _ p₀ q q' c.deeper d;
        len = a ∙ c.len;
        len_work = b ∙ c.len_work;
        rows = w ∙ c.rows;
        clear = c.clear;
        marked = m ∙ c.marked;
        begun = c.begun;
        left = λ dropped τ S xs e o l u.
            let L = c.left dropped τ S xs e o l u in
            let p = puts_here τ S xs e o l dropped L.number in
            rw f (left_again τ S (mark path₀ z.value) site.code.bounds.next (kept_parts (row_of τ (some z.named)) xs) (output_of out₀ (fresh_in work₀) dropped p₀) (output_of out (fresh_in work) dropped q) nums k L (here_within τ S xs e o l)
            (output_of out' (fresh_in work') dropped q') number (omega (arith, h, c.few, c.size)) e.ground.values (told_here τ S xs e o l) (d.numbered L.number) (n (d.numbered L.number)) (p.went q' y));
      }

      -- a fault of a part is the value's
      pub going_fault : (wants : Answered Build) (f : Fault) → wants ≡ Some z → r ≡ Err f → DeepPut site path₀ wants out₀ work₀ p₀ out' work' (Err f)
      going_fault wants f i y = λ τ S x e t l u dropped.
          elim (deep_built τ S path₀ (site.code.bounds.next + p₀.fresh) x z t i) [
            | deep xs o p a ↦
                let L = c.left dropped τ S xs e o l u in
                let g = (puts_here τ S xs e o l dropped L.number).refused f y in
                let o₀ = output_of out₀ (fresh_in work₀) dropped p₀ in
                let v = left_fault τ S (mark path₀ z.value) site.code.bounds.next (kept_parts (row_of τ (some z.named)) xs) o₀ (output_of out (fresh_in work) dropped q) nums k L (here_within τ S xs e o l) f g in
                rw a (puts_fault o₀ _ (deep_of τ S path₀ z xs (site.code.bounds.next + p₀.fresh)).fault out' (fresh_in work') dropped f
                (part_fault τ S path₀ site.code.bounds.next z xs o₀ c.clear (b_here τ S xs e o l).none f v))
          ]

    -- behind all parts the whole
    pub going_whole : (wants : Answered Build) (out' work' : List ℕ) (r : Result Progress Fault) → many ≤ k → wants ≡ Some z → WholePut site.code z nums out work q out' work' r → DeepPut site path₀ wants out₀ work₀ p₀ out' work' r
    going_whole wants out' work' r h i w = λ τ S x e t l u dropped.
        elim (deep_built τ S path₀ (site.code.bounds.next + p₀.fresh) x z t i) [
          | deep xs o p a ↦
              let L = c.left dropped τ S xs e o l u in
              let b = c.begun l τ S site.tracked.now xs e o in
              let o₀ = output_of out₀ (fresh_in work₀) dropped p₀ in
              let o₁ = output_of out (fresh_in work) dropped q in
              let D = left_done τ S (mark path₀ z.value) site.code.bounds.next (kept_parts (row_of τ (some z.named)) xs) o₀ o₁ nums k L (omega (arith, h, c.under, kept_many τ xs b)) in
              rw a (whole_behind τ S path₀ site.code.bounds.next z xs o₀ c.clear o₁ nums b.none D (w L.number τ S site.tracked.now xs (rw c.rows e) o dropped))
        ]

-- a value that stays
pub nothing_put : (site : Site) (path : Marks) (wants : Answered Build) (out work : List ℕ) (p : Progress) → wants ≡ None → DeepPut site path wants out work p out work (Ok p)
unfolding rebuilt_effect
nothing_put site path wants out work p i = λ τ S x e t l u dropped.
    rw (deep_stays τ S path (site.code.bounds.next + p.fresh) x t i) (puts_effect (output_of out (fresh_in work) dropped p) _ _ out (fresh_in work) dropped p refl (sym (behind_none (output_of out (fresh_in work) dropped p))))

-- a value whose rebuild does not begin
pub not_begun : (site : Site) (path : Marks) (wants : Answered Build) (z : Build) (out work out' work' : List ℕ) (p : Progress) (f : Fault) → wants ≡ Some z → Begins site.code work path z (Err f) → DeepPut site path wants out work p out' work' (Err f)
unfolding whole_then
not_begun site path wants z out work out' work' p f i b = λ τ S x e t l u dropped.
    elim (deep_built τ S path (site.code.bounds.next + p.fresh) x z t i) [
      | deep xs o w a ↦
          rw a (puts_fault (output_of out (fresh_in work) dropped p) _ (deep_of τ S path z xs (site.code.bounds.next + p.fresh)).fault out' (fresh_in work') dropped f
          (sym (first_assoc _ _ _) ∙ met_first _ f (b l τ S site.tracked.now xs e o)))
    ]
