-- The marked values of a family, listed.
use Prim.Native.Nat.{ℕ, ◌+◌, ◌≤◌, ◌<◌}
use mathlib.Core.Path.{◌≡◌, refl, ap}
use mathlib.Core.List.{List, [], ◌∷◌, ◌++◌}
use mathlib.Core.Bool.{true, false}
use native.Mathlib.Numerals.{add-one}
use native.Mathlib.Omega.{arith}
use lib.ListN.{length, get_or, set, drop, drop_of_length-le}
use lib.Seq.{drop-cons}
use Rattle.fold.specs.Family.{Marks}
use Rattle.text.specs.Written.{Written}
use Rattle.text.proofs.Writing.{Writing, writing_start, writing_on, writing_done}
use Rattle.pass_families.specs.Lines.{marked_from}

module _ (m : Marks) (v : ℕ) (h : v < length m) where
  -- value v comes first of those that are left, where it is marked,
  marked_here : get_or m v false ≡ true → marked_from v (drop v m) ≡ (v ∷ []) ++ marked_from (v + 1) (drop (v + 1) m)
  unfolding marked_from
  marked_here e = rw (drop-cons m v false h, e, add-one v) refl

  -- and not where it is not
  marked_later : get_or m v false ≡ false → marked_from v (drop v m) ≡ [] ++ marked_from (v + 1) (drop (v + 1) m)
  unfolding marked_from
  marked_later e = rw (drop-cons m v false h, e, add-one v) refl

-- the marked values below v are listed
pub record Listing (m : Marks) (line₀ line : List ℕ) (v n : ℕ) : Type 0 where
  pub low : n ≤ v
  pub high : v ≤ length m
  pub left : Writing (marked_from 0 m) (marked_from v (drop v m)) line₀ line 0 n

pub listing : (m : Marks) (line : List ℕ) → Listing m line line 0 0
listing m line = record { low = omega arith; high = omega arith; left = writing_start (marked_from 0 m) line 0 }

module _ (m : Marks) (line₀ line : List ℕ) (v n : ℕ) (inv : Listing m line₀ line v n) where
  pub listing_room : length m ≤ length line₀ → v < length m → n < length line
  listing_room l h = omega (arith, inv.low, inv.left.len)

  pub listing_on : v < length m → get_or m v false ≡ true → Listing m line₀ (set line n v) (v + 1) (n + 1)
  listing_on h e =
      record {
        low = omega (arith, inv.low);
        high = omega arith;
        left = writing_on _ _ _ _ _ _ inv.left (v ∷ []) _ (set line n v) (n + 1) (marked_here m v h e) (record { place = refl; stored = refl });
      }

  pub listing_past : v < length m → get_or m v false ≡ false → Listing m line₀ line (v + 1) n
  listing_past h e =
      record {
        low = omega (arith, inv.low);
        high = omega arith;
        left = writing_on _ _ _ _ _ _ inv.left [] _ line n (marked_later m v h e) (record { place = omega arith; stored = refl });
      }

  pub listed : length m ≤ v → Written (marked_from 0 m) 0 line₀ line n
  unfolding marked_from
  listed h = writing_done _ _ _ _ _ _ inv.left (ap (marked_from v) (drop_of_length-le m h))

  pub listed_few : n ≤ length m
  listed_few = omega (arith, inv.low, inv.high)
