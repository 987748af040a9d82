-- The parts of a value, one after another, then the whole.
use Prim.Native.Nat.{ℕ, suc, ◌+◌, ◌<◌}
use mathlib.Core.Path.{◌≡◌, refl, ap, ◌∙◌, sym}
use mathlib.Core.List.{List, [], ◌∷◌, ◌++◌, append-nil, append_assoc}
use mathlib.Core.Option.{none, some}
use mathlib.Core.Bool.{true, false}
use native.Mathlib.Nat.{add_assoc}
use native.Mathlib.Numerals.{add-one}
use native.Mathlib.Omega.{arith}
use lib.ListN.{length, length-append, get_or, set, take, drop}
use lib.Seq.{drop-cons, drop-length, take_all}
use Rattle.std.specs.Prelude.{Option as Answered, Result}
use Rattle.mir.specs.declared.Value.{Value}
use Rattle.mir.specs.Lookup.{Types, row_of}
use Rattle.bytes_field.specs.Encode.{instruction_bytes}
use Rattle.fold.specs.Family.{Marks, mark}
use Rattle.rewrite.specs.declared.Fault.{Fault}
use Rattle.rewrite.specs.State.{AggStates}
use Rattle.rewrite.specs.Fault.{first_met}
use Rattle.rewrite.specs.Rebuild.{Rebuilt, untouched, clash_fault, added_fault}
use Rattle.rewrite.specs.Deep.{own_type, kept_parts, loop_fault, whole_then}
use Rattle.rewrite.proofs.Within.{met_left, met_right}
use Rattle.rewrite_build.specs.Written.{numbered_part, renumbered}
use Rattle.rewrite_progress.specs.declared.Progress.{Progress}
use Rattle.rewrite_progress.specs.Effect.{Output, rebuilt_effect, then_effect, behind, further, Puts}
use Rattle.rewrite_progress.proofs.Laws.{each_append, behind_then, behind_none}
use Rattle.rewrite_progress.proofs.Faults.{met_first, met_next}
use Rattle.rewrite_list.proofs.Joining.{joined, join_effect}
use Rattle.rewrite_wanted.specs.declared.Build.{Build}
use Rattle.rewrite_wanted.specs.Asked.{Told}
use Rattle.rewrite_descent.specs.Descent.{deep_own, number_taken, begin_fault, whole_of}
use Rattle.rewrite_descent.proofs.Numbering.{renumbered_nil, renumbered_next}
use Rattle.rewrite_descent.proofs.Deepening.{refaulted, deep_join, deep_none, deep_of, fuel_left, made_value}

spent : (o : Output) (A : Rebuilt) → (behind o (rebuilt_effect A)).progress.fresh ≡ o.progress.fresh + length A.fresh
unfolding behind further rebuilt_effect
spent o A = refl

lined : (o : Output) (A : Rebuilt) → (behind o (rebuilt_effect A)).progress.lines ≡ o.progress.lines + length A.before
unfolding behind further rebuilt_effect
lined o A = refl

module _ (τ : Types) (S : AggStates) (path : Marks) (next : ℕ) (ys : List Value) where
  -- values from the output o on
  abbrev from : Output → List Value → Rebuilt
  from o zs = deep_own τ S path (next + o.progress.fresh) zs

  -- what is left of the parts ys from the k-th on, where o is the output so far, and these are the numbers of those before
  pub record Left (o₀ o : Output) (nums : List ℕ) (k : ℕ) : Type 0 where
    pub number : next + o.progress.fresh < 65536
    pub fault : (from o₀ ys).fault o₀.progress.lines ≡ (from o (drop k ys)).fault o.progress.lines
    pub effect : behind o (rebuilt_effect (from o (drop k ys))) ≡ behind o₀ (rebuilt_effect (from o₀ ys))
    pub made : renumbered nums (take k ys) ++ (from o (drop k ys)).values ≡ (from o₀ ys).values

  pub left_start : (o : Output) (nums : List ℕ) → next + o.progress.fresh < 65536 → Left o o nums 0
  left_start o nums h = record { number = h; fault = refl; effect = refl; made = rw (renumbered_nil nums) refl }

  module _ (o₀ o : Output) (nums : List ℕ) (k : ℕ) (c : Left o₀ o nums k) (h : k < length ys) where
    abbrev here : Value
    here = get_or ys k Value.Error

    abbrev one : Rebuilt
    one = from o (here ∷ [])

    abbrev others : Rebuilt
    others = deep_own τ S path (next + o.progress.fresh + length one.fresh) (drop (suc k) ys)

    split : from o (drop k ys) ≡ joined one others
    split = ap (from o) (drop-cons ys k Value.Error h) ∙ deep_join τ S path (next + o.progress.fresh) here (drop (suc k) ys)

    -- one more is done
    pub left_again : (o' : Output) (number : ℕ) {w : Answered Build} → k < length nums → length τ.recorded ≡ next → Told τ S here (own_type τ here) w → next + o'.progress.fresh < 65536
        → number ≡ number_taken next o.progress.fresh o'.progress.fresh
        → (one.fault o.progress.lines ≡ none) × (o' ≡ behind o (rebuilt_effect one))
        → Left o₀ o' (set nums k number) (k + 1)
    left_again o' number l many t small e g =
        let A = one in
        let B = others in
        let far : o'.progress.fresh ≡ o.progress.fresh + length A.fresh = ap (λ z. z.progress.fresh) g.1 ∙ spent o A in
        let same : next + o'.progress.fresh ≡ next + o.progress.fresh + length A.fresh = ap (λ z. next + z) far ∙ sym (add_assoc next o.progress.fresh (length A.fresh)) in
        let down : o'.progress.lines ≡ o.progress.lines + length A.before = ap (λ z. z.progress.lines) g.1 ∙ lined o A in
        let v : A.values ≡ numbered_part number here ∷ [] = made_value τ S path next o.progress.fresh here many t ∙ ap (λ (j : ℕ). numbered_part j here ∷ []) (ap (λ j. number_taken next o.progress.fresh j) (sym far) ∙ sym e) in
        let j : renumbered nums (take k ys) ++ (A.values ++ B.values) ≡ (from o₀ ys).values = ap (λ (R : Rebuilt). renumbered nums (take k ys) ++ R.values) (sym split) ∙ c.made in
        record {
          number = small;
          fault = rw (same, add-one k, down) (c.fault ∙ ap (λ (R : Rebuilt). R.fault o.progress.lines) split ∙ met_next (B.fault (o.progress.lines + length A.before)) g.0);
          effect = rw (same, add-one k, g.1) (behind_then o (rebuilt_effect A) (rebuilt_effect B) ∙ ap (behind o) (sym (join_effect A B)) ∙ ap (λ (R : Rebuilt). behind o (rebuilt_effect R)) (sym split) ∙ c.effect);
          made = rw (same, add-one k, renumbered_next nums ys k number Value.Error l h) (append_assoc (renumbered nums (take k ys)) (numbered_part number here ∷ []) B.values ∙ ap (λ (zs : List Value). renumbered nums (take k ys) ++ (zs ++ B.values)) (sym v) ∙ j);
        }

    -- a fault now is that of all parts
    pub left_fault : (f : Fault) → one.fault o.progress.lines ≡ some f → (from o₀ ys).fault o₀.progress.lines ≡ some f
    left_fault f g = c.fault ∙ ap (λ (R : Rebuilt). R.fault o.progress.lines) split ∙ met_first (others.fault (o.progress.lines + length one.before)) f g

  -- nothing is left
  pub record Done (o₀ o : Output) (nums : List ℕ) : Type 0 where
    pub fault : (from o₀ ys).fault o₀.progress.lines ≡ none
    pub effect : o ≡ behind o₀ (rebuilt_effect (from o₀ ys))
    pub made : renumbered nums ys ≡ (from o₀ ys).values

  pub left_done : (o₀ o : Output) (nums : List ℕ) (k : ℕ) → Left o₀ o nums k → k ≡ length ys → Done o₀ o nums
  unfolding rebuilt_effect
  left_done o₀ o nums k c h =
      let e : drop k ys ≡ [] = ap (λ j. drop j ys) h ∙ drop-length ys in
      let n : from o (drop k ys) ≡ untouched [] = ap (from o) e ∙ deep_none τ S path (next + o.progress.fresh) in
      let a : take k ys ≡ ys = take_all k ys (omega (arith, h)) in
      record {
        fault = c.fault ∙ ap (λ (R : Rebuilt). R.fault o.progress.lines) n;
        effect = sym (behind_none o) ∙ ap (λ (R : Rebuilt). behind o (rebuilt_effect R)) (sym n) ∙ c.effect;
        made = sym (append-nil (renumbered nums ys)) ∙ ap (λ (zs : List Value). renumbered nums zs ++ []) (sym a) ∙ ap (λ (R : Rebuilt). renumbered nums (take k ys) ++ R.values) (sym n) ∙ c.made;
      }

-- the parts P, then the whole
module _ (τ : Types) (path : Marks) (z : Build) (xs : List Value) (nums : List ℕ) (n : ℕ) (P : Rebuilt) where
  abbrev behind_parts : Rebuilt
  behind_parts = whole_of τ z nums xs (n + length P.fresh)

  abbrev both : Rebuilt
  both = record {
    before = P.before ++ behind_parts.before;
    values = behind_parts.values;
    fresh = P.fresh ++ behind_parts.fresh;
    fault = λ l. first_met (P.fault l) (behind_parts.fault (l + length P.before));
  }

  whole_both : begin_fault τ path z xs ≡ none → renumbered nums (kept_parts (row_of τ (some z.named)) xs) ≡ P.values → whole_then τ (loop_fault path (Value.Operand z.value)) n z.named xs P (λ m. untouched []) ≡ both
  unfolding whole_then whole_of added_fault
  whole_both b e =
      let g : loop_fault path (Value.Operand z.value) ≡ none = met_left _ _ b in
      let k : clash_fault xs (row_of τ (some z.named)) ≡ none = met_right _ _ b in
      rw (← e, append-nil) (refaulted _ _ (λ l. met_next _ g ∙ met_next _ k))

  both_effect : rebuilt_effect both ≡ then_effect (rebuilt_effect P) (rebuilt_effect behind_parts)
  unfolding rebuilt_effect then_effect
  both_effect = rw (each_append instruction_bytes P.before behind_parts.before, length-append P.before behind_parts.before) refl

-- a value's rebuild
module _ (τ : Types) (S : AggStates) (path : Marks) (next : ℕ) (z : Build) (xs : List Value) (o₀ : Output) (h : get_or path z.value.0 true ≡ false) where
  abbrev kept : List Value
  kept = kept_parts (row_of τ (some z.named)) xs

  abbrev parts : Rebuilt
  parts = deep_own τ S (mark path z.value) (next + o₀.progress.fresh) kept

  abbrev all : Rebuilt
  all = deep_of τ S path z xs (next + o₀.progress.fresh)

  own : all ≡ whole_then τ (loop_fault path (Value.Operand z.value)) (next + o₀.progress.fresh) z.named xs parts (λ m. untouched [])
  own = ap (λ (P : Rebuilt). whole_then τ (loop_fault path (Value.Operand z.value)) (next + o₀.progress.fresh) z.named xs P (λ m. untouched [])) (fuel_left τ S path z xs (next + o₀.progress.fresh) h)

  -- a fault of a part
  pub part_fault : begin_fault τ path z xs ≡ none → (f : Fault) → parts.fault o₀.progress.lines ≡ some f → all.fault o₀.progress.lines ≡ some f
  unfolding whole_then
  part_fault b f g = ap (λ (R : Rebuilt). R.fault o₀.progress.lines) own ∙ met_next _ (met_left _ _ b) ∙ met_next _ (met_right _ _ b) ∙ met_first _ f g

  -- the whole, behind all parts
  pub whole_behind : (o : Output) (nums : List ℕ) {buffer types : List ℕ} {dropped : Marks} {r : Result Progress Fault} → begin_fault τ path z xs ≡ none → Done τ S (mark path z.value) next kept o₀ o nums
      → Puts o (rebuilt_effect (whole_of τ z nums xs (next + o.progress.fresh))) (whole_of τ z nums xs (next + o.progress.fresh)).fault buffer types dropped r
      → Puts o₀ (rebuilt_effect all) all.fault buffer types dropped r
  whole_behind o nums b d w =
      let n = next + o₀.progress.fresh in
      let a : all ≡ both τ path z xs nums n parts = own ∙ whole_both τ path z xs nums n parts b d.made in
      let W = whole_of τ z nums xs (n + length parts.fresh) in
      let far : o.progress.fresh ≡ o₀.progress.fresh + length parts.fresh = ap (λ u. u.progress.fresh) d.effect ∙ spent o₀ parts in
      let same : next + o.progress.fresh ≡ n + length parts.fresh = ap (λ u. next + u) far ∙ sym (add_assoc next o₀.progress.fresh (length parts.fresh)) in
      let down : o.progress.lines ≡ o₀.progress.lines + length parts.before = ap (λ u. u.progress.lines) d.effect ∙ lined o₀ parts in
      let m : all.fault o₀.progress.lines ≡ (whole_of τ z nums xs (next + o.progress.fresh)).fault o.progress.lines = rw (same, down) (ap (λ (R : Rebuilt). R.fault o₀.progress.lines) a ∙ met_next _ d.fault) in
      let e : behind o (rebuilt_effect (whole_of τ z nums xs (next + o.progress.fresh))) ≡ behind o₀ (rebuilt_effect all) = rw (same, d.effect) (behind_then o₀ (rebuilt_effect parts) (rebuilt_effect W) ∙ ap (behind o₀) (sym (both_effect τ path z xs nums n parts)) ∙ ap (λ (R : Rebuilt). behind o₀ (rebuilt_effect R)) (sym a)) in
      record { refused = λ f y. m ∙ w.refused f y; went = λ q y. let v = w.went q y in (m ∙ v.0, v.1 ∙ e) }
