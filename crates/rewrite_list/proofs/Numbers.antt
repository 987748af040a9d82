-- Where nothing is refused, there are numbers enough.
use Prim.Native.Nat.{ℕ, suc, ◌+◌, ◌<◌}
use mathlib.Core.Path.{◌≡◌}
use mathlib.Core.List.{List, [], ◌∷◌}
use mathlib.Core.Option.{Option, none, some}
use native.Mathlib.Omega.{arith}
use lib.ListN.{length}
use Rattle.mir.specs.declared.TypeId.{TypeId}
use Rattle.mir.specs.declared.Value.{Value}
use Rattle.mir.specs.Lookup.{Types, row_of}
use Rattle.rewrite.specs.State.{AggStates, state_of}
use Rattle.rewrite.specs.Rebuild.{Rebuilt, Wanted, rebuild_at, added_fault, keep_value, rebuild_value, one_value, rebuild_all}
use Rattle.rewrite.proofs.Within.{full_none}
use Rattle.rewrite_progress.proofs.Faults.{none_of_both}

fits_one : (τ : Types) (n l : ℕ) (x : Value) (rest : ℕ → Rebuilt) (o : Option TypeId) (s : Option (List Value)) → ((m k : ℕ) → m < 65536 → (rest m).fault k ≡ none → m + length (rest m).fresh < 65536) → n < 65536 → (one_value τ n x rest o s).fault l ≡ none → n + length (one_value τ n x rest o s).fresh < 65536
unfolding one_value keep_value rebuild_value added_fault
fits_one τ n l x rest none s h k e = h n l k e
fits_one τ n l x rest (some t) none h k e = h n l k e
fits_one τ n l x rest (some t) (some xs) h k e =
    let number = none_of_both _ _ (none_of_both _ _ e).1 in
    let last = h (suc n) (l + length (rebuild_at (record { 0 = n }) xs t (row_of τ (some t)))) (omega (arith, full_none n number.0)) (none_of_both _ _ number.1).1 in
    omega (arith, last)

-- the numbers that a list's rebuilds take, and the next one, are numbers
pub fits : (τ : Types) (S : AggStates) (ws : List Wanted) (n l : ℕ) → n < 65536 → (rebuild_all τ S n ws).fault l ≡ none → n + length (rebuild_all τ S n ws).fresh < 65536
unfolding rebuild_all
fits τ S [] n l k e = omega arith
fits τ S (w ∷ ws) n l k e = fits_one τ n l w.value (λ m. rebuild_all τ S m ws) w.at (state_of S w.value) (λ m j. fits τ S ws m j) k e
