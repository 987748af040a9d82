-- Loops that write one thing behind another.
use Prim.Native.Nat.{ℕ, ◌+◌, ◌≤◌, ◌<◌}
use mathlib.Core.Path.{◌≡◌, refl, ap, ◌∙◌, sym}
use mathlib.Core.List.{List, [], ◌∷◌, ◌++◌}
use native.Mathlib.Numerals.{add-one}
use native.Mathlib.Omega.{arith}
use lib.ListN.{length, length-append, get_or, drop, drop_of_length-le}
use lib.Seq.{sets, length-sets, drop-cons}
use Rattle.bytes_emit.proofs.Sets.{sets_append}
use Rattle.text.specs.Digits.{hexadecimal}
use Rattle.text.specs.Written.{Written}

-- of all that is to stand at a place, this is left, behind what is written
pub record Writing (all rest text₀ text : List ℕ) (to at : ℕ) : Type 0 where
  pub place : at + length rest ≡ to + length all
  pub len : length text ≡ length text₀
  pub left : sets text at rest ≡ sets text₀ to all

-- nothing is written yet
pub writing_start : (all text : List ℕ) (to : ℕ) → Writing all all text text to to
writing_start all text to = record { place = refl; len = refl; left = refl }

-- one thing more is
pub writing_on : (all rest text₀ text : List ℕ) (to at : ℕ) → Writing all rest text₀ text to at → (part rest' text' : List ℕ) (at' : ℕ) → rest ≡ part ++ rest' → Written part at text text' at' → Writing all rest' text₀ text' to at'
writing_on all rest text₀ text to at w part rest' text' at' e p = record {
  place = omega (arith, w.place, p.place, ap length e, length-append part rest');
  len = ap length p.stored ∙ length-sets text at part ∙ w.len;
  left = rw (p.place, p.stored) (sym (ap (sets text at) e ∙ sets_append text at part rest')) ∙ w.left;
}

-- all is
pub writing_done : (all rest text₀ text : List ℕ) (to at : ℕ) → Writing all rest text₀ text to at → rest ≡ [] → Written all to text₀ text at
writing_done all rest text₀ text to at w e = record { place = omega (arith, w.place, ap length e); stored = sym (ap (sets text at) e) ∙ w.left }

-- two things, the second behind the first
pub written_behind : {a b text mid text' : List ℕ} {to at r : ℕ} → Written a to text mid at → Written b at mid text' r → Written (a ++ b) to text text' r
written_behind {a} {b} {text} {mid} {text'} {to} {at} {r} p q = record { place = omega (arith, p.place, q.place, length-append a b); stored = q.stored ∙ rw (p.place, p.stored) (sym (sets_append text to a b)) }

-- bytes in hexadecimal: one more is written
pub hexadecimal_on : (bytes text₀ text text' : List ℕ) (to at i : ℕ) → i < length bytes → Writing (hexadecimal bytes) (hexadecimal (drop i bytes)) text₀ text to at → text' ≡ sets text at (hexadecimal (get_or bytes i 0 ∷ [])) → Writing (hexadecimal bytes) (hexadecimal (drop (i + 1) bytes)) text₀ text' to (at + 2)
unfolding hexadecimal
hexadecimal_on bytes text₀ text text' to at i h w e =
    let k : hexadecimal (drop i bytes) ≡ hexadecimal (get_or bytes i 0 ∷ []) ++ hexadecimal (drop (i + 1) bytes) = rw (drop-cons bytes i 0 h, add-one i) refl in
    writing_on _ _ _ _ _ _ w (hexadecimal (get_or bytes i 0 ∷ [])) _ text' (at + 2) k (record { place = refl; stored = e })

-- all are written
pub hexadecimal_done : (bytes text₀ text : List ℕ) (to at i : ℕ) → length bytes ≤ i → Writing (hexadecimal bytes) (hexadecimal (drop i bytes)) text₀ text to at → Written (hexadecimal bytes) to text₀ text at
unfolding hexadecimal
hexadecimal_done bytes text₀ text to at i h w = writing_done _ _ _ _ _ _ w (ap hexadecimal (drop_of_length-le bytes h))

-- the same bytes, said otherwise
pub written_as : {a b text text' : List ℕ} {to r : ℕ} → a ≡ b → Written a to text text' r → Written b to text text' r
written_as {a} {b} {text} {text'} {to} {r} e w = record { place = w.place ∙ ap (λ l. to + length l) e; stored = w.stored ∙ ap (sets text to) e }
