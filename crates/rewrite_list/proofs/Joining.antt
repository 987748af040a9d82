-- What is rebuilt of a list: of its first value, then of the others.
use Prim.Native.Nat.{ℕ, suc, ◌+◌, ◌<◌}
use mathlib.Core.Path.{◌≡◌, refl, ap, sym, fun_ext}
use mathlib.Core.List.{List, [], ◌∷◌, ◌++◌, append-nil}
use mathlib.Core.Option.{Option, none, some}
use native.Mathlib.Nat.{add-zero}
use native.Mathlib.Numerals.{add-one}
use native.Mathlib.Omega.{arith}
use lib.ListN.{length, length-append}
use Rattle.mir.specs.declared.ValueId.{ValueId}
use Rattle.mir.specs.declared.TypeId.{TypeId}
use Rattle.mir.specs.declared.Value.{Value}
use Rattle.bytes_field.specs.Encode.{instruction_bytes}
use Rattle.mir.specs.Lookup.{Types, row_of}
use Rattle.rewrite.specs.declared.Fault.{Fault}
use Rattle.rewrite.specs.Fault.{first_met, full_fault, lines_fault}
use Rattle.rewrite.specs.State.{AggStates, state_of}
use Rattle.rewrite.specs.Rebuild.{Rebuilt, Wanted, untouched, rebuild_at, clash_fault, added_fault, keep_value, rebuild_value, one_value, rebuild_all}
use Rattle.rewrite_progress.specs.Effect.{rebuilt_effect, then_effect}
use Rattle.rewrite_progress.proofs.Laws.{each_append}
use Rattle.rewrite_progress.proofs.Faults.{first_none}
use Rattle.rewrite_wanted.specs.declared.Build.{Build}
use Rattle.std.specs.Prelude.{Some, None, Option as Answered}
use Rattle.rewrite_wanted.specs.Asked.{Told, stays, build}

-- two lists, one behind the other
abbrev pub joined : Rebuilt → Rebuilt → Rebuilt
joined a b = record { before = a.before ++ b.before; values = a.values ++ b.values; fresh = a.fresh ++ b.fresh; fault = λ l. first_met (a.fault l) (b.fault (l + length a.before)) }

-- a rebuild's fault, before others' and alone
join_fault : (k a b c : Option Fault) → first_met k (first_met a (first_met b c)) ≡ first_met (first_met k (first_met a (first_met b none))) c
unfolding first_met
join_fault none none b c = ap (λ z. first_met z c) (sym (first_none b))
join_fault none (some f) b c = refl
join_fault (some f) a b c = refl

-- under another name of its fault
with_fault : (r : Rebuilt) (f : ℕ → Option Fault) → ((l : ℕ) → r.fault l ≡ f l) → r ≡ record { before = r.before; values = r.values; fresh = r.fresh; fault = f }
with_fault r f h = ap (λ (z : ℕ → Option Fault). record { before = r.before; values = r.values; fresh = r.fresh; fault = z }) (fun_ext h)

-- the first value, then the others
join_one : (τ : Types) (n : ℕ) (x : Value) (rest : ℕ → Rebuilt) (o : Option TypeId) (s : Option (List Value)) → one_value τ n x rest o s ≡ joined (one_value τ n x (λ m. untouched []) o s) (rest (n + length (one_value τ n x (λ m. untouched []) o s).fresh))
unfolding one_value keep_value rebuild_value added_fault first_met
join_one τ n x rest none s = rw (add-zero n) (with_fault (keep_value x (rest n)) _ (λ l. ap (rest n).fault (sym (add-zero l))))
join_one τ n x rest (some t) none = rw (add-zero n) (with_fault (keep_value x (rest n)) _ (λ l. ap (rest n).fault (sym (add-zero l))))
join_one τ n x rest (some t) (some xs) =
    let is = rebuild_at (record { 0 = n }) xs t (row_of τ (some t)) in
    let f = λ (l : ℕ). join_fault (clash_fault xs (row_of τ (some t))) (full_fault n) (lines_fault l is) ((rest (suc n)).fault (l + length is)) in
    rw (add-one n, append-nil) (with_fault (rebuild_value τ n t xs (rest (suc n))) _ f)

pub join_first : (τ : Types) (S : AggStates) (n : ℕ) (w : Wanted) (ws : List Wanted) → rebuild_all τ S n (w ∷ ws) ≡ joined (rebuild_all τ S n (w ∷ [])) (rebuild_all τ S (n + length (rebuild_all τ S n (w ∷ [])).fresh) ws)
unfolding rebuild_all
join_first τ S n w ws = join_one τ n w.value (λ m. rebuild_all τ S m ws) w.at (state_of S w.value)

-- their effects, one after the other
pub join_effect : (a b : Rebuilt) → rebuilt_effect (joined a b) ≡ then_effect (rebuilt_effect a) (rebuilt_effect b)
unfolding rebuilt_effect then_effect
join_effect a b = rw (each_append instruction_bytes a.before b.before, length-append a.before b.before) refl

-- one value that stays
pub one_stays : (τ : Types) (S : AggStates) (n : ℕ) (x : Value) (o : Option TypeId) {w : Answered Build} → Told τ S x o w → w ≡ None → rebuild_all τ S n (record { value = x; at = o } ∷ []) ≡ untouched (x ∷ [])
unfolding rebuild_all keep_value
one_stays τ S n x o (stays f) e = f n (λ m. untouched [])
one_stays τ S n x o (build v t xs p q r l) e = absurd (let z : ◌≡◌ {A = ℕ} 0 1 = cc in omega arith)

-- one that is rebuilt
pub data OneBuilt (τ : Types) (S : AggStates) (n : ℕ) (x : Value) (o : Option TypeId) (v : ValueId) (t : TypeId) : Type 0 where
  built : (xs : List Value) → S v.0 ≡ some xs → t.0 < length τ.rows → rebuild_all τ S n (record { value = x; at = o } ∷ []) ≡ rebuild_value τ n t xs (untouched []) → OneBuilt τ S n x o v t

pub one_built : (τ : Types) (S : AggStates) (n : ℕ) (x : Value) (o : Option TypeId) (z : Build) {w : Answered Build} → Told τ S x o w → w ≡ Some z → OneBuilt τ S n x o z.value z.named
unfolding rebuild_all one_value state_of
one_built τ S n x o z (stays f) e = absurd (let z : ◌≡◌ {A = ℕ} 0 1 = cc in omega arith)
one_built τ S n x o z (build v' t' xs p q r l) e =
    let same : record { value = v'; named = t' } ≡ z = cc in
    let a : v' ≡ z.value = ap (λ (y : Build). y.value) same in
    let b : t' ≡ z.named = ap (λ (y : Build). y.named) same in
    let r' : S z.value.0 ≡ some xs = rw (← a) r in
    let q' : o ≡ some z.named = rw (← b) q in
    let p' : x ≡ Value.Operand z.value = rw (← a) p in
    built xs r' (rw (← b) l) (rw (p', q', r') refl)
