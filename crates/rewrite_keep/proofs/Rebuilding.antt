-- The loop over the values that are read in a slot.
use Prim.Native.Nat.{ℕ, ◌+◌, ◌≤◌, ◌<◌}
use mathlib.Core.Path.{◌≡◌, refl, ap, ◌∙◌}
use mathlib.Core.List.{List, [], ◌∷◌}
use mathlib.Core.Bool.{false}
use native.Mathlib.Omega.{arith}
use lib.ListN.{length, get_or, set, replicate, length-set, length-replicate}
use Rattle.std.specs.Prelude.{Ok, Err, Option as Answered, Result}
use Rattle.mir.specs.declared.Value.{Value}
use Rattle.mir.specs.Lookup.{Types}
use Rattle.fold.specs.Family.{Marks}
use Rattle.rewrite.specs.declared.Fault.{Fault}
use Rattle.rewrite.specs.State.{AggStates}
use Rattle.rewrite.specs.Deep.{own_type}
use Rattle.rewrite_parts.specs.Rows.{rows_in, fresh_in}
use Rattle.rewrite_progress.specs.declared.Progress.{Progress}
use Rattle.rewrite_progress.specs.Effect.{Output, output_of, rebuilt_effect, further, behind, Puts}
use Rattle.rewrite_progress.proofs.Faults.{puts_fault, puts_effect}
use Rattle.rewrite_wanted.specs.declared.Build.{Build}
use Rattle.rewrite_wanted.specs.Asked.{Setting, Told, OwnWanted}
use Rattle.rewrite_before.specs.declared.Site.{Site}
use Rattle.rewrite_descent.specs.Descent.{deep_own, number_taken, Spacious, Deeper, DeepPut}
use Rattle.rewrite_descent.proofs.Descending.{Left, left_start, left_again, left_fault, left_done}
use Rattle.rewrite_descent.proofs.Going.{deeper_none, deeper_then}
use Rattle.rewrite_descent.proofs.Top.{deep_top}
use Rattle.rewrite_keep.specs.declared.Reader.{Reader}
use Rattle.rewrite_keep.specs.Keeping.{ReadBy, CountRead, ValueRead, ReadingsPut}
use Rattle.rewrite_keep.proofs.Numbers.{same_numbered, Replacing, replacing_more, taken_operand}

-- with nothing begun
abbrev unbegun : Site → Marks
unbegun site = replicate site.code.bounds.next false

-- what is left of the values xs from the k-th on, and the numbers of those before replace operands
pub record Rest (τ : Types) (S : AggStates) (path : Marks) (next : ℕ) (xs : List Value) (o₀ o : Output) (nums : List ℕ) (k : ℕ) : Type 0 where
  pub left : Left τ S path next xs o₀ o nums k
  pub replaces : Replacing xs nums k

-- the values before the k-th are rebuilt
pub record Rebuilding (site : Site) (reader : Reader) (count : ℕ) (out₀ work₀ : List ℕ) (p₀ : Progress) (out work : List ℕ) (q : Progress) (path : Marks) (nums : List ℕ) (k : ℕ) : Type 0 where
  pub under : k ≤ count
  pub counted : CountRead site.code site.slot reader count
  pub size : length nums ≡ 16
  pub room : Spacious p₀
  pub deeper : Deeper site.code.bounds.next p₀ q
  pub len : length out ≡ length out₀
  pub len_work : length work ≡ length work₀
  pub rows : rows_in work ≡ rows_in work₀
  pub clear : site.code.bounds.next ≤ 256 → path ≡ unbegun site
  pub rest : (dropped : Marks) (τ : Types) (S : AggStates) (xs : List Value) → Setting site.code site.tracked.now (rows_in work₀) τ S → ReadBy site.code site.slot reader xs → site.code.bounds.next + p₀.fresh < 65536
      → Rest τ S (unbegun site) site.code.bounds.next xs (output_of out₀ (fresh_in work₀) dropped p₀) (output_of out (fresh_in work) dropped q) nums k

module _ (site : Site) (reader : Reader) (count : ℕ) (out₀ work₀ : List ℕ) (p₀ : Progress) where
  abbrev next : ℕ
  next = site.code.bounds.next

  abbrev o₀ : Marks → Output
  o₀ dropped = output_of out₀ (fresh_in work₀) dropped p₀

  pub rebuilding_start : (path : Marks) (nums : List ℕ) → CountRead site.code site.slot reader count → length nums ≡ 16 → Spacious p₀ → (next ≤ 256 → path ≡ unbegun site) → Rebuilding site reader count out₀ work₀ p₀ out₀ work₀ p₀ path nums 0
  rebuilding_start path nums c s r m = record {
    under = omega arith;
    counted = c;
    size = s;
    room = r;
    deeper = deeper_none _ p₀ r;
    len = refl;
    len_work = refl;
    rows = refl;
    clear = m;
    rest = λ dropped τ S xs e k n. record { left = left_start τ S _ _ _ (o₀ dropped) nums n; replaces = λ i h. absurd (omega (arith, h)) };
  }

  module _ (out work : List ℕ) (q : Progress) (path : Marks) (nums : List ℕ) (k : ℕ) (c : Rebuilding site reader count out₀ work₀ p₀ out work q path nums k) where
    abbrev o : Marks → Output
    o dropped = output_of out (fresh_in work) dropped q

    module _ (h : k < count) (x : Value) (vr : ValueRead site.code site.slot reader k x) (wants : Answered Build) (ow : OwnWanted site.code site.tracked.now x wants) (out' work' : List ℕ) (r : Result Progress Fault) (dp : DeepPut (record { code = site.code; tracked = site.tracked }) path wants out work q out' work' r) where
      -- of the value that is read here
      module _ (τ : Types) (S : AggStates) (xs : List Value) (e : Setting site.code site.tracked.now (rows_in work₀) τ S) (y : ReadBy site.code site.slot reader xs) where
        abbrev here : Value
        here = get_or xs k Value.Error

        within : k < length xs
        within = omega (arith, h, (c.counted xs y).0)

        e_here : Setting site.code site.tracked.now (rows_in work) τ S
        e_here = rw c.rows e

        told_here : Told τ S here (own_type τ here) wants
        told_here = let v = vr xs y within in rw v.0 at (ow τ S (rows_in work) e_here v.1)

        puts_here : (dropped : Marks) → next + q.fresh < 65536 → Puts (o dropped) (rebuilt_effect (deep_own τ S (unbegun site) (next + q.fresh) (here ∷ []))) (deep_own τ S (unbegun site) (next + q.fresh) (here ∷ [])).fault out' (fresh_in work') dropped r
        puts_here dropped n =
            let m : path ≡ unbegun site = c.clear e.ground.few in
            let l : length path ≡ next = rw m (length-replicate next false) in
            rw m at (dp τ S here e_here told_here l n dropped)

      pub rebuilding_again : (q' : Progress) (path' : Marks) (number : ℕ) (nums' : List ℕ) → r ≡ Ok q' → Deeper next q q' → length out' ≡ length out → length work' ≡ length work → rows_in work' ≡ rows_in work → path' ≡ path
          → (next + q'.fresh < 65536 → number ≡ number_taken next q.fresh q'.fresh) → nums' ≡ set nums k number
          → Rebuilding site reader count out₀ work₀ p₀ out' work' q' path' nums' (k + 1)
      unfolding behind further rebuilt_effect
      rebuilding_again q' path' number nums' z d a b w m n f = record {
        under = omega arith;
        counted = c.counted;
        size = rw f (length-set nums k number ∙ c.size);
        room = c.room;
        deeper = deeper_then _ p₀ q q' c.deeper d;
        len = a ∙ c.len;
        len_work = b ∙ c.len_work;
        rows = w ∙ c.rows;
        clear = λ l. m ∙ c.clear l;
        rest = λ dropped τ S xs e y u.
            let L = c.rest dropped τ S xs e y u in
            let p = (puts_here τ S xs e y dropped L.left.number).went q' z in
            let t = told_here τ S xs e y in
            let u' = d.numbered L.left.number in
            let l : k < length nums = omega (arith, h, (c.counted xs y).0, (c.counted xs y).1, c.size) in
            record {
              left = rw f (left_again τ S (unbegun site) next xs (o₀ dropped) (o dropped) nums k L.left (within τ S xs e y) (output_of out' (fresh_in work') dropped q') number l e.ground.values t u' (n u') p);
              replaces = rw f (replacing_more xs nums k number l L.replaces
                  (taken_operand τ S (unbegun site) next q.fresh q'.fresh number (get_or xs k Value.Error) t (ap (λ (j : Output). j.progress.fresh) p.1) (n u')));
            };
      }

      -- a fault of a value is one of all
      pub rebuilding_fault : (f : Fault) (nums' : List ℕ) → r ≡ Err f → ReadingsPut site reader out₀ work₀ p₀ out' work' nums' (Err f)
      rebuilding_fault f nums' z = λ τ S xs e y u. (
        λ dropped.
            let L = (c.rest dropped τ S xs e y u).left in
            let v = (puts_here τ S xs e y dropped L.number).refused f z in
            let same = deep_top τ S (next + p₀.fresh) xs (unbegun site) (rw e.ground.values refl) in
            rw (← same) (puts_fault (o₀ dropped) _ (deep_own τ S (unbegun site) (next + p₀.fresh) xs).fault out' (fresh_in work') dropped f
            (left_fault τ S (unbegun site) next xs (o₀ dropped) (o dropped) nums k L (within τ S xs e y) f v)),
        tt,
      )

    -- none is left
    pub rebuilding_done : count ≤ k → ReadingsPut site reader out₀ work₀ p₀ out work nums (Ok q)
    rebuilding_done h = λ τ S xs e y u.
        let m : k ≡ length xs = omega (arith, h, c.under, (c.counted xs y).0) in
        let same = deep_top τ S (next + p₀.fresh) xs (unbegun site) (rw e.ground.values refl) in
        let rest = λ (dropped : Marks). c.rest dropped τ S xs e y u in
        let done = λ (dropped : Marks). left_done τ S (unbegun site) next xs (o₀ dropped) (o dropped) nums k (rest dropped).left m in
        rw (← same) (
          (λ dropped. let D = done dropped in puts_effect (o₀ dropped) _ (deep_own τ S (unbegun site) (next + p₀.fresh) xs).fault out (fresh_in work) dropped q D.fault D.effect),
          record { made = same_numbered nums xs ∙ (done []).made; replaces = λ j l. (rest []).replaces j (omega (arith, l, m)) },
        )
