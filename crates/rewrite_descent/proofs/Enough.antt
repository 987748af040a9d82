-- "The recursion's fuel is never what ends it": where there is more of it than values not yet begun, more changes nothing that is answered.
use Prim.Native.Nat.{ℕ, zero, suc, ◌+◌, ◌<◌}
use native.Mathlib.Omega.{arith}
use mathlib.Core.Path.{◌≡◌, refl, ap, ◌∙◌}
use mathlib.Core.List.{List, [], ◌∷◌}
use mathlib.Core.Bool.{Bool, true, false, cond}
use mathlib.Core.Option.{Option, none, some}
use lib.ListN.{length, get_or, set, length-set}
use Rattle.mir.specs.declared.ValueId.{ValueId}
use Rattle.mir.specs.declared.TypeId.{TypeId}
use Rattle.mir.specs.declared.Value.{Value}
use Rattle.mir.specs.Syntax.{Instruction}
use Rattle.mir.specs.Lookup.{Types, row_of}
use Rattle.fold.specs.Family.{Marks, marked, mark}
use Rattle.fold_climb.specs.Edges.{unmarked}
use Rattle.fold_climb.proofs.Depth.{unmarked_set}
use Rattle.rewrite.specs.declared.Fault.{Fault}
use Rattle.rewrite.specs.State.{AggStates, state_of}
use Rattle.rewrite.specs.Fault.{first_met}
use Rattle.rewrite.proofs.Within.{met_left, met_right}
use Rattle.rewrite_descent.proofs.Deepening.{own_below}
use Rattle.rewrite.specs.Rebuild.{Rebuilt, rebuild_at, added_fault, keep_value}
use Rattle.rewrite.specs.Deep.{own_type, wanted_own, loop_fault, begun, whole_then, Inner, deep_value, deep_values, deep_all}

-- the same instructions, values and numbers
pub record Same (r s : Rebuilt) : Type 0 where
  pub before : r.before ≡ s.before
  pub values : r.values ≡ s.values
  pub fresh : r.fresh ≡ s.fresh

-- the same fault, and where there is none the same of all else
pub record AlikeAt (l : ℕ) (r s : Rebuilt) : Type 0 where
  pub fault : r.fault l ≡ s.fault l
  pub same : r.fault l ≡ none → Same r s

abbrev pub Alike : Rebuilt → Rebuilt → Type 0
Alike r s = (l : ℕ) → AlikeAt l r s

alike_self : (r : Rebuilt) → Alike r r
alike_self r l = record { fault = refl; same = λ e. record { before = refl; values = refl; fresh = refl } }

-- what is met behind a fault does not matter
met_if : (a b c : Option Fault) → (a ≡ none → b ≡ c) → first_met a b ≡ first_met a c
unfolding first_met
met_if none b c h = h refl
met_if (some f) b c h = refl

keep_alike : (x : Value) (r s : Rebuilt) → Alike r s → Alike (keep_value x r) (keep_value x s)
unfolding keep_value
keep_alike x r s h l =
    record {
      fault = (h l).fault;
      same = λ e. let q : Same r s = (h l).same e in record { before = q.before; values = ap (λ vs. x ∷ vs) q.values; fresh = q.fresh };
    }

added_alike : (n l : ℕ) (is : List Instruction) (r s : Rebuilt) → Alike r s → added_fault n l is r.fault ≡ added_fault n l is s.fault
unfolding added_fault
added_alike n l is r s h = met_if _ _ _ (λ a. met_if _ _ _ (λ b. (h (l + length is)).fault))

added_rest : (n l : ℕ) (is : List Instruction) (f : ℕ → Option Fault) → added_fault n l is f ≡ none → f (l + length is) ≡ none
unfolding added_fault
added_rest n l is f e = met_right _ _ (met_right _ _ e)

module _ (τ : Types) where
  -- the parts alike, and the rest
  whole_alike : (begins : Option Fault) (n : ℕ) (t : TypeId) (xs : List Value) (p q : Rebuilt) (f g : ℕ → Rebuilt) → (begins ≡ none → Alike p q) → ((m : ℕ) → Alike (f m) (g m)) → Alike (whole_then τ begins n t xs p f) (whole_then τ begins n t xs q g)
  unfolding whole_then
  whole_alike begins n t xs p q f g h k l =
      record {
        fault = met_if _ _ _ (λ b. met_if _ _ _ (λ c. parts (h b l)));
        same = λ e. all (h (met_left _ _ e) l) (met_right _ _ (met_right _ _ e));
      }
    where
      is : Rebuilt → List Instruction
      is r = rebuild_at (record { 0 = n + length r.fresh }) r.values t (row_of τ (some t))

      rest : (r : Rebuilt) → (ℕ → Rebuilt) → Option Fault
      rest r j = added_fault (n + length r.fresh) (l + length r.before) (is r) (j (suc (n + length r.fresh))).fault

      onto : Same p q → rest p f ≡ rest q g
      onto s = rw (s.fresh, s.before, s.values) (added_alike (n + length q.fresh) (l + length q.before) (is q) _ _ (k (suc (n + length q.fresh))))

      parts : AlikeAt l p q → first_met (p.fault l) (rest p f) ≡ first_met (q.fault l) (rest q g)
      parts a = met_if _ _ _ (λ e. onto (a.same e)) ∙ rw a.fault

      all : AlikeAt l p q → first_met (p.fault l) (rest p f) ≡ none → Same (whole_then τ begins n t xs p f) (whole_then τ begins n t xs q g)
      all a e = joined (a.same (met_left _ _ e)) (met_right _ _ e)
        where
          joined : Same p q → rest p f ≡ none → Same (whole_then τ begins n t xs p f) (whole_then τ begins n t xs q g)
          joined s z =
              let m = suc (n + length p.fresh) in
              let y : Same (f m) (g m) = (k m _).same (added_rest (n + length p.fresh) (l + length p.before) (is p) (f m).fault z) in
              record {
                before = rw (s.fresh, s.before, s.values) (rw (rw s.fresh at y.before));
                values = rw s.fresh (rw (rw s.fresh at y.values));
                fresh = rw s.fresh (rw (rw s.fresh at y.fresh));
              }

-- a mark that is not set, of a value there is
unset : (m : Marks) (v : ℕ) → v < length m → get_or m v false ≡ false → get_or m v true ≡ false
unset [] v h e = absurd (omega (arith, h))
unset (b ∷ m) zero h e = e
unset (b ∷ m) (suc v) h e = unset m v (omega (arith, h)) e

-- a value whose rebuild has not begun
not_begun : (path : Marks) (v : ValueId) → loop_fault path (Value.Operand v) ≡ none → marked path v ≡ false
unfolding loop_fault
not_begun path v = split (marked path v)
  where
    split : (b : Bool) → cond b (some Fault.Looped) none ≡ none → b ≡ false
    split true e = let z : ◌≡◌ {A = ℕ} 0 1 = cc (e) in absurd (omega (arith, z))
    split false e = refl

module _ (τ : Types) (path : Marks) (long : length path ≡ length τ.recorded) (a b : Inner) where
  -- two ways to rebuild parts, alike where the value's rebuild begins anew
  abbrev Begins : Type 0
  Begins = (v : ValueId) → v.0 < length path → marked path v ≡ false → (m : ℕ) (ys : List Value) → Alike (a (Value.Operand v) m (wanted_own τ ys)) (b (Value.Operand v) m (wanted_own τ ys))

  none_alike : (n : ℕ) (x : Value) (f g : ℕ → Rebuilt) (o : Option TypeId) → ((m : ℕ) → Alike (f m) (g m)) → Alike (deep_value τ path a n x f o none) (deep_value τ path b n x g o none)
  unfolding deep_value
  none_alike n x f g none k = keep_alike x _ _ (k n)
  none_alike n x f g (some t) k = keep_alike x _ _ (k n)

  some_alike : (n : ℕ) (v : ValueId) (f g : ℕ → Rebuilt) (o : Option TypeId) (s : Option (List Value)) → own_type τ (Value.Operand v) ≡ o → Begins → ((m : ℕ) → Alike (f m) (g m)) → Alike (deep_value τ path a n (Value.Operand v) f o s) (deep_value τ path b n (Value.Operand v) g o s)
  unfolding deep_value
  some_alike n v f g none s e h k = keep_alike _ _ _ (k n)
  some_alike n v f g (some t) none e h k = keep_alike _ _ _ (k n)
  some_alike n v f g (some t) (some xs) e h k = whole_alike τ (loop_fault path (Value.Operand v)) n t xs _ _ f g (λ z. h v (omega (arith, own_below τ v t e, long)) (not_begun path v z) n _) k

  module _ (S : AggStates) (h : Begins) where
    value_alike : (n : ℕ) (x : Value) (f g : ℕ → Rebuilt) → ((m : ℕ) → Alike (f m) (g m)) → Alike (deep_value τ path a n x f (own_type τ x) (state_of S x)) (deep_value τ path b n x g (own_type τ x) (state_of S x))
    unfolding state_of
    value_alike n (Value.Literal l) f g k = none_alike n _ f g _ k
    value_alike n (Value.Operand v) f g k = some_alike n v f g _ _ refl h k
    value_alike n Value.Error f g k = none_alike n _ f g _ k

    values_alike : (n : ℕ) (xs : List Value) → Alike (deep_values τ S path a n (wanted_own τ xs)) (deep_values τ S path b n (wanted_own τ xs))
    unfolding deep_values wanted_own
    values_alike n [] = alike_self _
    values_alike n (x ∷ xs) = value_alike n x _ _ (λ m. values_alike m xs)

module _ (τ : Types) (S : AggStates) where
  -- more of it than values not yet begun
  pub deep_enough : (k j : ℕ) (path : Marks) (n : ℕ) (xs : List Value) → length path ≡ length τ.recorded → unmarked path < k → unmarked path < j → Alike (deep_all τ S k path n (wanted_own τ xs)) (deep_all τ S j path n (wanted_own τ xs))
  unfolding deep_all begun
  deep_enough zero j path n xs long h g = absurd (omega (arith, h))
  deep_enough (suc k) zero path n xs long h g = absurd (omega (arith, g))
  deep_enough (suc k) (suc j) path n xs long h g =
      values_alike τ path long _ _ S (λ v l e m ys.
      let u : suc (unmarked (set path v.0 true)) ≡ unmarked path = unmarked_set path v.0 (unset path v.0 l e) in
      deep_enough k j (mark path v) m ys (length-set path v.0 true ∙ long) (omega (arith, u, h)) (omega (arith, u, g)))
      n xs
