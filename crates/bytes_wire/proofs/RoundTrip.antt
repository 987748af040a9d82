-- What is written is read back.
use Prim.Native.Nat.{ℕ, zero, suc, ◌*◌, ◌/◌, ◌^◌, ◌<◌, ◌≤◌}
use mathlib.Core.Path.{◌≡◌, refl, ap, ◌∙◌}
use mathlib.Core.List.{List, ◌∷◌, ◌++◌}
use mathlib.Core.Bool.{true, false}
use native.Mathlib.Nat.{pow-zero, pow-suc, mod-add-div, div-lt_iff_lt-mul}
use native.Mathlib.Omega.{arith}
use borrow.Author.Tests.{le-leb, lt-ltb}
use lib.ListN.{length, length-append}
use lib.Seq.{take_at}
use lib.Dec.{leb}
use Rattle.bytes_wire.specs.Parse.{ok}
use Rattle.bytes_wire.specs.Number.{from_bytes, to_bytes, number_of}
use Rattle.bytes_wire.specs.Value.{value_of, value_bytes}
use Rattle.bytes_wire.specs.WellFormed.{FitValue}
use Rattle.mir.specs.declared.Literal.{Literal}
use Rattle.mir.specs.declared.Value.{Value}
use Rattle.bytes_wire.proofs.Laws.{number_some}

-- w bytes are w
pub length_to_bytes : (w x : ℕ) → length (to_bytes w x) ≡ w
length_to_bytes zero x = refl
length_to_bytes (suc w) x = ap suc (length_to_bytes w (x / 256))

-- a number that fits w bytes is the number of its w bytes
from_to : (w x : ℕ) → x < 256 ^ w → from_bytes (to_bytes w x) ≡ x
from_to zero x h = omega (arith, rw pow-zero at h)
from_to (suc w) x h =
    let k : x < 256 ^ w * 256 = rw pow-suc at h in
    let g : x / 256 < 256 ^ w = (div-lt_iff_lt-mul {k = 256} (omega arith)).1 k in
    rw (from_to w (x / 256) g) (mod-add-div x 256)

-- a number that fits its width, whatever follows
pub number_back : (w x : ℕ) (t : List ℕ) → x < 256 ^ w → number_of w (to_bytes w x ++ t) ≡ ok x w
number_back w x t h =
    let l : w ≤ length (to_bytes w x ++ t) = omega (arith, length-append (to_bytes w x) t, length_to_bytes w x) in
    number_some w (to_bytes w x ++ t) l ∙ rw (take_at (to_bytes w x) t w (length_to_bytes w x), from_to w x h)

-- there is a first byte
some_bytes : (a : ℕ) (t : List ℕ) → leb 1 (length (a ∷ t)) ≡ true
some_bytes a t = le-leb 1 (length (a ∷ t)) (omega arith)

-- a value
pub value_back : (next : ℕ) (v : Value) (t : List ℕ) → FitValue next v → value_of next (value_bytes v ++ t) ≡ ok v (length (value_bytes v))
unfolding value_of
value_back next (Value.Literal (Literal.Integer x)) t h = simp (some_bytes, number_back 4 x t h)
value_back next (Value.Literal (Literal.Boolean true)) t h = simp (some_bytes, number_back 1 1 t (omega arith))
value_back next (Value.Literal (Literal.Boolean false)) t h = simp (some_bytes, number_back 1 0 t (omega arith))
value_back next (Value.Literal Literal.Unit) t h = simp some_bytes
value_back next (Value.Operand v) t h = simp (some_bytes, number_back 2 v.0 t (omega arith), lt-ltb _ _ h.0)
value_back next Value.Error t h = simp some_bytes
