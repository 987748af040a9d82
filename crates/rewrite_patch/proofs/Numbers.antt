-- Values with fresh numbers, one by one.
use Prim.Native.Nat.{ℕ, suc, ◌+◌, ◌<◌}
use mathlib.Core.Path.{◌≡◌, refl, ap, ◌∙◌, sym}
use mathlib.Core.List.{List, [], ◌∷◌}
use native.Mathlib.Omega.{arith}
use lib.ListN.{length, get_or, drop}
use lib.Seq.{get_or-drop}
use Rattle.mir.specs.declared.Value.{Value}
use Rattle.rewrite_patch.specs.Chunks.{or_number, numbered}

-- values each of which is the old one or a fresh number are the old ones with fresh numbers
pub numbered_each : (xs vs : List Value) (ns : List ℕ) → length vs ≡ length xs → ((j : ℕ) → j < length xs → get_or vs j Value.Error ≡ or_number (get_or xs j Value.Error) (get_or ns j 0)) → vs ≡ numbered xs ns
unfolding numbered
numbered_each [] [] ns e f = refl
numbered_each [] (v ∷ vs) ns e f = absurd (omega (arith, e))
numbered_each (x ∷ xs) [] ns e f = absurd (omega (arith, e))
numbered_each (x ∷ xs) (v ∷ vs) ns e f =
    let g : v ≡ or_number x (get_or ns 0 0) = f 0 (omega arith) in
    let h : vs ≡ numbered xs (drop 1 ns) =
    numbered_each xs vs (drop 1 ns) (omega (arith, e)) (λ j l. f (suc j) (omega arith) ∙ ap (or_number (get_or xs j Value.Error)) (next j)) in
    rw (g, h) refl
  where
    next : (j : ℕ) → get_or ns (suc j) 0 ≡ get_or (drop 1 ns) j 0
    next j = (let y : suc j ≡ 1 + j = omega arith in rw y (sym (get_or-drop 1 ns j 0)))
