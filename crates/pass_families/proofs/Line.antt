-- The numbers of a line, as they are put together.
use Prim.Native.Nat.{ℕ, suc, ◌+◌, ◌≤◌}
use mathlib.Core.Path.{◌≡◌, refl}
use mathlib.Core.List.{List, [], ◌∷◌, ◌++◌, append-nil}
use mathlib.Core.Bool.{Bool, true, false}
use mir.Val.{bool_byte}
use native.Mathlib.Omega.{arith}
use lib.ListN.{length, take}
use Rattle.fold.specs.Family.{Marks}
use Rattle.fold_family.specs.Turns.{one}
use Rattle.text.specs.Written.{Written}
use Rattle.pass_input.proofs.Copied.{take_sets}
use Rattle.pass_families.specs.Lines.{marked_from}
use Rattle.pass_families.specs.Shown.{found_numbers}
use Rattle.fold_looked.specs.declared.BuildFamily.{BuildFamily}

-- a flag as a number
flag_number : (b : Bool) → bool_byte b ≡ one b
flag_number true = refl
flag_number false = refl

-- the members behind the six
behind_six : (a b c d e f n : ℕ) (rest members : List ℕ) → take n rest ≡ members
    → take (6 + n) (a ∷ b ∷ c ∷ d ∷ e ∷ f ∷ (rest ++ [])) ≡ a ∷ b ∷ c ∷ d ∷ e ∷ f ∷ members
behind_six a b c d e f n rest members t =
    let z : 6 + n ≡ suc (suc (suc (suc (suc (suc n))))) = omega arith in
    rw (z, append-nil rest, t) refl

-- all numbers of a line, where the members are asked for
pub with_members : (named : Bool) (k j : ℕ) (r : BuildFamily) (m : Marks) (room rest : List ℕ) (n : ℕ)
    → named ≡ true → Written (marked_from 0 m) 0 room rest n → n ≤ length m → length m ≤ 256 → length room ≡ 256
    → take (6 + n) (k ∷ j ∷ r.dest.0 ∷ r.found.members ∷ r.found.turns ∷ bool_byte r.looked ∷ (rest ++ [])) ≡ found_numbers named k j r m
with_members named k j r m room rest n on w few low long =
    let z : n ≡ length (marked_from 0 m) = omega (arith, w.place) in
    let t : take n rest ≡ marked_from 0 m = rw (z, w.stored) (take_sets (marked_from 0 m) room (omega (arith, z))) in
    rw (on, flag_number r.looked) (behind_six k j r.dest.0 r.found.members r.found.turns (one r.looked) n rest (marked_from 0 m) t)
