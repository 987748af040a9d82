-- What a writer does.
use Rattle.std.specs.Prelude.{ℕ, ◌+◌, ◌≡◌, List, length}
use Rattle.std.proofs.lemmas.List.Edits.{sets}

-- some bytes are stored at a place, as far as there is room, and the answer is the place behind them
pub record Written (bytes : List ℕ) (to : ℕ) (text text' : List ℕ) (r : ℕ) : Type 0 where
  pub place : r ≡ to + length bytes
  pub stored : text' ≡ sets text to bytes
