-- What becomes of values with those of their parts before them: of the first, then of the others.
use Prim.Native.Nat.{ℕ, zero, suc, ◌+◌, ◌-◌, ◌<◌}
use mathlib.Core.Path.{◌≡◌, refl, ap, ◌∙◌, sym, fun_ext}
use mathlib.Core.List.{List, [], ◌∷◌, ◌++◌, append-nil, append_assoc}
use mathlib.Core.Bool.{Bool, true, false}
use mathlib.Core.Option.{Option, none, some}
use native.Mathlib.Nat.{add-zero}
use native.Mathlib.Omega.{arith}
use borrow.Author.Tests.{eq-eqb, ne_eqb, ltb-true, ltb-false}
use Rattle.std.proofs.lemmas.List.{get_or_past}
use lib.ListN.{length, length-append, get_or}
use lib.Dec.{eqb, ltb}
use Rattle.std.specs.Prelude.{Some, None, Option as Answered}
use Rattle.mir.specs.declared.ValueId.{ValueId}
use Rattle.mir.specs.declared.TypeId.{TypeId}
use Rattle.mir.specs.declared.Value.{Value}
use Rattle.mir.specs.Lookup.{Types, row_of, recorded_type, on_some}
use Rattle.fold.specs.Family.{Marks, mark}
use Rattle.fold_climb.specs.Edges.{unmarked}
use Rattle.fold_climb.proofs.Depth.{unmarked_set}
use Rattle.rewrite.specs.declared.Fault.{Fault}
use Rattle.rewrite.specs.State.{AggStates, state_of}
use Rattle.rewrite.specs.Fault.{first_met, full_fault, lines_fault}
use Rattle.rewrite.specs.Rebuild.{Rebuilt, untouched, rebuild_at, clash_fault, added_fault, keep_value, rebuild_value, one_value, return_type}
use Rattle.rewrite.specs.Deep.{own_type, wanted_own, kept_parts, loop_fault, begun, whole_then, Inner, deep_value, deep_values, deep_all}
use Rattle.rewrite_build.specs.Written.{numbered_part}
use Rattle.rewrite_progress.proofs.Faults.{first_none, first_assoc}
use Rattle.rewrite_list.proofs.Joining.{joined}
use Rattle.rewrite_wanted.specs.declared.Build.{Build}
use Rattle.rewrite_wanted.specs.Asked.{Told, stays, build}
use Rattle.rewrite_descent.specs.Descent.{deep_own, number_taken, OwnBuild}

-- under another name of its fault
pub refaulted : (r : Rebuilt) (f : ℕ → Option Fault) → ((l : ℕ) → r.fault l ≡ f l) → r ≡ record { before = r.before; values = r.values; fresh = r.fresh; fault = f }
refaulted r f h = ap (λ (z : ℕ → Option Fault). record { before = r.before; values = r.values; fresh = r.fresh; fault = z }) (fun_ext h)

-- the faults of a whole, before others' and alone
whole_fault : (a b c k f d : Option Fault) → first_met a (first_met b (first_met c (first_met k (first_met f d)))) ≡ first_met (first_met a (first_met b (first_met c (first_met k (first_met f none))))) d
whole_fault a b c k f d = rw (first_none f, first_assoc a _ d, first_assoc b _ d, first_assoc c _ d, first_assoc k f d) refl

module _ (τ : Types) (path : Marks) (inner : Inner) where
  -- the whole of the first alone
  abbrev alone : ℕ → Value → Option TypeId → Option (List Value) → Rebuilt
  alone n x o s = deep_value τ path inner n x (λ m. untouched []) o s

  join_whole : (g : Option Fault) (n : ℕ) (t : TypeId) (xs : List Value) (p : Rebuilt) (rest : ℕ → Rebuilt) → whole_then τ g n t xs p rest ≡ joined (whole_then τ g n t xs p (λ m. untouched [])) (rest (n + length (p.fresh ++ (t ∷ []))))
  unfolding whole_then added_fault
  join_whole g n t xs p rest =
      let m = n + length p.fresh in
      let is = rebuild_at (record { 0 = m }) p.values t (row_of τ (some t)) in
      let e : n + length (p.fresh ++ (t ∷ [])) ≡ suc m = omega (arith, length-append p.fresh (t ∷ [])) in
      let r = rest (suc m) in
      let far : ((l : ℕ) → l + length p.before + length is ≡ l + length (p.before ++ is)) = λ l. omega (arith, length-append p.before is) in
      rw (e, append-nil is, ← append_assoc p.before is r.before, ← append_assoc p.fresh (t ∷ []) r.fresh)
      (refaulted _ _ (λ l. whole_fault g (clash_fault xs (row_of τ (some t))) (p.fault l) (full_fault m) (lines_fault (l + length p.before) is) (r.fault (l + length p.before + length is)) ∙ ap (λ j. first_met ((whole_then τ g n t xs p (λ m. untouched [])).fault l) (r.fault j)) (far l)))

  join_value : (n : ℕ) (x : Value) (rest : ℕ → Rebuilt) (o : Option TypeId) (s : Option (List Value)) → deep_value τ path inner n x rest o s ≡ joined (alone n x o s) (rest (n + length (alone n x o s).fresh))
  unfolding deep_value keep_value first_met whole_then
  join_value n x rest none s = rw (add-zero n) (refaulted (keep_value x (rest n)) _ (λ l. ap (rest n).fault (sym (add-zero l))))
  join_value n x rest (some t) none = rw (add-zero n) (refaulted (keep_value x (rest n)) _ (λ l. ap (rest n).fault (sym (add-zero l))))
  join_value n x rest (some t) (some xs) = join_whole (loop_fault path x) n t xs (inner x n (wanted_own τ (kept_parts (row_of τ (some t)) xs))) rest

  -- a value that stays at once stays
  stays_value : (n : ℕ) (x : Value) (rest : ℕ → Rebuilt) (o : Option TypeId) (s : Option (List Value)) → ((n : ℕ) (rest : ℕ → Rebuilt) → one_value τ n x rest o s ≡ keep_value x (rest n)) → deep_value τ path inner n x rest o s ≡ keep_value x (rest n)
  unfolding deep_value one_value rebuild_value keep_value
  stays_value n x rest none s h = refl
  stays_value n x rest (some t) none h = refl
  stays_value n x rest (some t) (some xs) h = absurd (let e : ◌≡◌ {A = ℕ} 1 0 = ap (λ (r : Rebuilt). length r.fresh) (h 0 (λ m. untouched [])) in omega (arith, e))

module _ (τ : Types) (S : AggStates) (path : Marks) where
  -- how the parts are rebuilt
  abbrev inner_of : Inner
  inner_of = λ y m ws. deep_all τ S (unmarked path) (begun path y) m ws

  pub deep_join : (n : ℕ) (x : Value) (xs : List Value) → deep_own τ S path n (x ∷ xs) ≡ joined (deep_own τ S path n (x ∷ [])) (deep_own τ S path (n + length (deep_own τ S path n (x ∷ [])).fresh) xs)
  unfolding deep_all deep_values wanted_own
  deep_join n x xs = join_value τ path inner_of n x (λ m. deep_values τ S path inner_of m (wanted_own τ xs)) (own_type τ x) (state_of S x)

  -- of no values
  pub deep_none : (n : ℕ) → deep_own τ S path n [] ≡ untouched []
  unfolding deep_all deep_values wanted_own
  deep_none n = refl

  -- a value that stays
  pub deep_stays : (n : ℕ) (x : Value) {w : Answered Build} → Told τ S x (own_type τ x) w → w ≡ None → deep_own τ S path n (x ∷ []) ≡ untouched (x ∷ [])
  unfolding deep_all deep_values wanted_own keep_value
  deep_stays n x (stays f) e = stays_value τ path inner_of n x (λ m. untouched []) (own_type τ x) (state_of S x) f
  deep_stays n x (build v t xs p q r l) e = absurd (let z : ◌≡◌ {A = ℕ} 0 1 = cc in omega arith)

  -- the rebuild of z from xs, its parts before it
  abbrev pub parts_of : Build → List Value → ℕ → Rebuilt
  parts_of z xs n = deep_all τ S (unmarked path) (mark path z.value) n (wanted_own τ (kept_parts (row_of τ (some z.named)) xs))

  abbrev pub deep_of : Build → List Value → ℕ → Rebuilt
  deep_of z xs n = whole_then τ (loop_fault path (Value.Operand z.value)) n z.named xs (parts_of z xs n) (λ m. untouched [])

  -- a value that is rebuilt
  pub data DeepBuilt (n : ℕ) (x : Value) (z : Build) : Type 0 where
    deep : (xs : List Value) → OwnBuild τ S z xs → x ≡ Value.Operand z.value → deep_own τ S path n (x ∷ []) ≡ deep_of z xs n → DeepBuilt n x z

  pub deep_built : (n : ℕ) (x : Value) (z : Build) {w : Answered Build} → Told τ S x (own_type τ x) w → w ≡ Some z → DeepBuilt n x z
  unfolding deep_all deep_values wanted_own deep_value state_of begun
  deep_built n x z (stays f) e = absurd (let z : ◌≡◌ {A = ℕ} 0 1 = cc in omega arith)
  deep_built n x z (build v' t' xs p q r l) e =
      let same : record { value = v'; named = t' } ≡ z = cc in
      let a : v' ≡ z.value = ap (λ (y : Build). y.value) same in
      let b : t' ≡ z.named = ap (λ (y : Build). y.named) same in
      let r' : S z.value.0 ≡ some xs = rw (← a) r in
      let p' : x ≡ Value.Operand z.value = rw (← a) p in
      let q' : own_type τ (Value.Operand z.value) ≡ some z.named = rw (← p', ← b) q in
      deep xs (record { typed = q'; parts = r' }) p' (rw (p', q', r') refl)

  -- the fuel of the parts is theirs
  pub fuel_left : (z : Build) (xs : List Value) (n : ℕ) → get_or path z.value.0 true ≡ false → parts_of z xs n ≡ deep_own τ S (mark path z.value) n (kept_parts (row_of τ (some z.named)) xs)
  fuel_left z xs n h = ap (λ k. deep_all τ S k (mark path z.value) n (wanted_own τ (kept_parts (row_of τ (some z.named)) xs))) (sym (unmarked_set path z.value.0 h))

-- what has a recorded type is one of the values there are
pub own_below : (τ : Types) (v : ValueId) (t : TypeId) → own_type τ (Value.Operand v) ≡ some t → v.0 < length τ.recorded
unfolding own_type return_type recorded_type on_some
own_below τ v t e = go (ltb v.0 (length τ.recorded)) refl
  where
    go : (b : Bool) → ltb v.0 (length τ.recorded) ≡ b → v.0 < length τ.recorded
    go true h = ltb-true v.0 (length τ.recorded) h
    go false h =
        let z : none ≡ some t = rw (get_or_past τ.recorded v.0 none (ltb-false v.0 (length τ.recorded) h)) at e in
        absurd (let y : ◌≡◌ {A = ℕ} 0 1 = cc in omega arith)

numbered_some : (k : ℕ) (x : Value) → (k ≡ 0 → ⊥) → numbered_part k x ≡ Value.Operand (record { 0 = k })
unfolding numbered_part
numbered_some zero x f = absurd (f refl)
numbered_some (suc k) x f = refl

-- no number was taken
taken_none : (next b : ℕ) (x : Value) → numbered_part (number_taken next b (b + 0)) x ≡ x
unfolding numbered_part
taken_none next b x = rw (eq-eqb b (b + 0) (omega arith)) refl

-- or some, of which it has the last
taken_last : (next b k m : ℕ) (x : Value) → m ≡ next + b + k → (m ≡ 0 → ⊥) → numbered_part (number_taken next b (b + suc k)) x ≡ Value.Operand (record { 0 = m })
taken_last next b k m x e f =
    let d : eqb b (b + suc k) ≡ false = ne_eqb b (b + suc k) (λ z. omega arith) in
    let g : next + (b + suc k - 1) ≡ m = omega (arith, e) in
    rw (d, g) (numbered_some m x f)

-- the value that is put in, by the numbers taken
module _ (τ : Types) (S : AggStates) (path : Marks) (next b : ℕ) (x : Value) (many : length τ.recorded ≡ next) where
  made_built : (z : Build) → DeepBuilt τ S path (next + b) x z → (deep_own τ S path (next + b) (x ∷ [])).values ≡ numbered_part (number_taken next b (b + length (deep_own τ S path (next + b) (x ∷ [])).fresh)) x ∷ []
  unfolding whole_then
  made_built z (deep xs o p a) =
      let P = parts_of τ S path z xs (next + b) in
      let l : length (P.fresh ++ (z.named ∷ [])) ≡ suc (length P.fresh) = omega (arith, length-append P.fresh (z.named ∷ [])) in
      rw (a, l) (ap (λ (y : Value). y ∷ []) (sym (taken_last next b (length P.fresh) (next + b + length P.fresh) x refl (λ y. omega (arith, y, own_below τ z.value z.named o.typed, many)))))

  pub made_value : {w : Answered Build} → Told τ S x (own_type τ x) w → (deep_own τ S path (next + b) (x ∷ [])).values ≡ numbered_part (number_taken next b (b + length (deep_own τ S path (next + b) (x ∷ [])).fresh)) x ∷ []
  made_value (stays f) = rw (deep_stays τ S path (next + b) x (stays f) refl) (ap (λ (y : Value). y ∷ []) (sym (taken_none next b x)))
  made_value (build v t xs p q r l) = made_built (record { value = v; named = t }) (deep_built τ S path (next + b) x (record { value = v; named = t }) (build v t xs p q r l) refl)
