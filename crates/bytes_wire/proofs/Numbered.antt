-- Kinds and their numbers.
use Rattle.std.proofs.Common.{ℕ, ◌≡◌, ◌∙◌, ap, sym}

-- what is the number of a kind is that of the kind that this is
pub kind_is : {K : Type 0} (number : K → ℕ) {n : ℕ} {k l : K} → k ≡ l → number k ≡ n → n ≡ number l
kind_is number p q = sym q ∙ ap number p
