-- "15 when the next value or a block's instruction count would pass 65,535": what has no fault stays within, in both editions.
use Prim.Native.Nat.{ℕ, zero, suc, ◌+◌, ◌≤◌}
use native.Mathlib.Omega.{arith}
use mathlib.Core.Path.{◌≡◌, refl}
use mathlib.Core.List.{List, [], ◌∷◌, ◌++◌}
use mathlib.Core.Bool.{Bool, true, false, cond}
use mathlib.Core.Option.{Option, none, some}
use lib.ListN.{length, length-append}
use lib.Dec.{ltb}
use borrow.Author.Tests.{ltb-true}
use Rattle.mir.specs.declared.TypeId.{TypeId}
use Rattle.mir.specs.declared.Value.{Value}
use Rattle.mir.specs.Syntax.{Instruction}
use Rattle.mir.specs.Lookup.{Types, row_of}
use Rattle.fold.specs.Family.{Marks}
use Rattle.rewrite.specs.declared.Fault.{Fault}
use Rattle.rewrite.specs.State.{AggStates, state_of}
use Rattle.rewrite.specs.Fault.{first_met, full_fault, lines_fault, last_number}
use Rattle.rewrite.specs.Rebuild.{Rebuilt, Wanted, rebuild_at, added_fault, keep_value, rebuild_value, one_value, rebuild_all}
use Rattle.rewrite.specs.Deep.{loop_fault, begun, whole_then, Inner, deep_value, deep_values, deep_all, rebuild_deep}

-- of two, neither is met
pub met_left : (a b : Option Fault) → first_met a b ≡ none → a ≡ none
unfolding first_met
met_left none b e = refl
met_left (some f) b e = e

pub met_right : (a b : Option Fault) → first_met a b ≡ none → b ≡ none
unfolding first_met
met_right none b e = e
met_right (some f) b e = let z : ◌≡◌ {A = ℕ} 0 1 = cc (e) in absurd (omega (arith, z))

full_split : (n : ℕ) (b : Bool) → ltb n last_number ≡ b → cond b none (some Fault.Overfull) ≡ none → suc n ≤ last_number
full_split n true e h = omega (arith, ltb-true n last_number e)
full_split n false e h = let z : ◌≡◌ {A = ℕ} 0 1 = cc (h) in absurd (omega (arith, z))

pub full_none : (n : ℕ) → full_fault n ≡ none → suc n ≤ last_number
unfolding full_fault
full_none n h = full_split n (ltb n last_number) refl h

pub lines_none : (l : ℕ) (is : List Instruction) → l ≤ last_number → lines_fault l is ≡ none → l + length is ≤ last_number
unfolding lines_fault
lines_none l [] h e = omega (arith, h)
lines_none l (i ∷ is) h e = omega (arith, lines_none (suc l) is (full_none l (met_left _ _ e)) (met_right _ _ e))

-- so many numbers and instructions more
pub record Within (n l : ℕ) (fresh : List TypeId) (out : List Instruction) : Type 0 where
  pub numbers : n + length fresh ≤ last_number
  pub lines : l + length out ≤ last_number

-- values that are rebuilt from number n on
abbrev pub Safe : ℕ → Rebuilt → Type 0
Safe n r = (l : ℕ) → n ≤ last_number → l ≤ last_number → r.fault l ≡ none → Within n l r.fresh r.before

-- a number, then instructions, then what comes behind them
within_added : (n l : ℕ) (t : TypeId) (is : List Instruction) (r : Rebuilt) → Safe (suc n) r → l ≤ last_number → added_fault n l is r.fault ≡ none → Within n l (t ∷ r.fresh) (is ++ r.before)
unfolding added_fault
within_added n l t is r s h e =
    let a : suc n ≤ last_number = full_none n (met_left _ _ e) in
    let b : l + length is ≤ last_number = lines_none l is h (met_left _ _ (met_right _ _ e)) in
    let w : Within (suc n) (l + length is) r.fresh r.before = s (l + length is) a b (met_right _ _ (met_right _ _ e)) in
    record { numbers = omega (arith, w.numbers); lines = rw length-append (omega (arith, w.lines)) }

module _ (τ : Types) (S : AggStates) where
  safe_keep : (n : ℕ) (x : Value) (r : Rebuilt) → Safe n r → Safe n (keep_value x r)
  unfolding keep_value
  safe_keep n x r s = s

  safe_one : (n : ℕ) (x : Value) (rest : ℕ → Rebuilt) (o : Option TypeId) (s : Option (List Value)) → ((m : ℕ) → Safe m (rest m)) → Safe n (one_value τ n x rest o s)
  unfolding one_value rebuild_value
  safe_one n x rest none s f = safe_keep n x _ (f n)
  safe_one n x rest (some t) none f = safe_keep n x _ (f n)
  safe_one n x rest (some t) (some xs) f = λ l h g e. within_added n l t _ (rest (suc n)) (f (suc n)) g (met_right _ _ e)

  -- values rebuilt at once
  pub safe_all : (n : ℕ) (ws : List Wanted) → Safe n (rebuild_all τ S n ws)
  unfolding rebuild_all
  safe_all n [] = λ l h g e. record { numbers = omega (arith, h); lines = omega (arith, g) }
  safe_all n (w ∷ ws) = safe_one n w.value _ w.at (state_of S w.value) (λ m. safe_all m ws)

  safe_whole : (begins : Option Fault) (n : ℕ) (t : TypeId) (xs : List Value) (p : Rebuilt) (rest : ℕ → Rebuilt) → Safe n p → ((m : ℕ) → Safe m (rest m)) → Safe n (whole_then τ begins n t xs p rest)
  unfolding whole_then
  safe_whole begins n t xs p rest s f l h g e =
      let m = n + length p.fresh in
      let is = rebuild_at (record { 0 = m }) p.values t (row_of τ (some t)) in
      let d : first_met (p.fault l) (added_fault m (l + length p.before) is (rest (suc m)).fault) ≡ none = met_right _ _ (met_right _ _ e) in
      let a : Within n l p.fresh p.before = s l h g (met_left _ _ d) in
      let b : Within m (l + length p.before) (t ∷ (rest (suc m)).fresh) (is ++ (rest (suc m)).before) =
      within_added m _ t is (rest (suc m)) (f (suc m)) a.lines (met_right _ _ d) in
      record { numbers = rw length-append (omega (arith, b.numbers)); lines = rw length-append (omega (arith, b.lines)) }

  module _ (path : Marks) (inner : Inner) (h : (x : Value) (n : ℕ) (ws : List Wanted) → Safe n (inner x n ws)) where
    safe_deep : (n : ℕ) (x : Value) (rest : ℕ → Rebuilt) (o : Option TypeId) (s : Option (List Value)) → ((m : ℕ) → Safe m (rest m)) → Safe n (deep_value τ path inner n x rest o s)
    unfolding deep_value
    safe_deep n x rest none s f = safe_keep n x _ (f n)
    safe_deep n x rest (some t) none f = safe_keep n x _ (f n)
    safe_deep n x rest (some t) (some xs) f = safe_whole (loop_fault path x) n t xs _ rest (h x n _) f

    safe_values : (n : ℕ) (ws : List Wanted) → Safe n (deep_values τ S path inner n ws)
    unfolding deep_values
    safe_values n [] = λ l a b e. record { numbers = omega (arith, a); lines = omega (arith, b) }
    safe_values n (w ∷ ws) = safe_deep n w.value _ w.at (state_of S w.value) (λ m. safe_values m ws)

  safe_depth : (k : ℕ) (path : Marks) (n : ℕ) (ws : List Wanted) → Safe n (deep_all τ S k path n ws)
  unfolding deep_all
  safe_depth zero path n ws = safe_all n ws
  safe_depth (suc k) path n ws = safe_values path _ (λ x m us. safe_depth k (begun path x) m us) n ws

  -- and with their parts before them
  pub safe_second : (n : ℕ) (ws : List Wanted) → Safe n (rebuild_deep τ S n ws)
  unfolding rebuild_deep
  safe_second n ws = safe_depth _ _ n ws
