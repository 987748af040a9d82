-- Tests of things that stand one behind another.
use Rattle.std.specs.Prelude.{ℕ, suc, ◌+◌, ◌≤◌, Bool, true, false}

-- the place of a thing of a list that begins at `from`: there are no more than 255 things, of 16 bytes and less
abbrev pub Among : ℕ → ℕ → Type 0
Among from at = at ≤ from + 4080

-- of n things from the place `at` on, the first with number i, each passes its test; they are asked until one does not
pub data Passes (test : ℕ → ℕ → Bool → Type 0) (behind : ℕ → ℕ → Type 0) : ℕ → ℕ → ℕ → Bool → Type 0 where
  all_passed : {i at : ℕ} → Passes test behind 0 i at true
  one_fails : {n i at : ℕ} → test i at false → Passes test behind (suc n) i at false
  one_passes : {n i at to : ℕ} {r : Bool} → test i at true → behind at to → Passes test behind n (i + 1) to r → Passes test behind (suc n) i at r
