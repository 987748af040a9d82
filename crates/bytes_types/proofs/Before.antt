-- A type that is equal to an earlier one.
use Prim.Native.Nat.{ℕ, zero, suc, ◌+◌, ◌≤◌, ◌<◌}
use mathlib.Core.Path.{◌≡◌, ◌∙◌, sym}
use mathlib.Core.List.{List}
use mathlib.Core.Bool.{Bool}
use native.Mathlib.Omega.{arith}
use lib.ListN.{length, get_or, take, drop, drop_of_length-le}
use lib.Seq.{drop-cons}
use Rattle.bytes_wire.specs.Parse.{ok}
use Rattle.bytes_wire.specs.WellFormed.{Bytes}
use Rattle.bytes_wire.proofs.Canon.{bytes_drop}
use Rattle.mir.specs.MirType.{MirType}
use Rattle.bytes_before.specs.Before.{part, among_parts}
use Rattle.bytes_types.specs.Encode.{type_bytes}
use Rattle.bytes_types.specs.Decode.{type_of, has_type}
use Rattle.bytes_types.specs.Index.{TypesAt, TestedBefore}
use Rattle.bytes_types.proofs.Canon.{type_canon}

-- the bytes of a type that was read are those it was read from
type_part : (most own : ℕ) (s : List ℕ) (at : ℕ) {t : MirType} {n : ℕ} → Bytes s → type_of most own (drop at s) ≡ ok t n → take n (drop at s) ≡ type_bytes t
type_part most own s at h e = sym (type_canon most own (drop at s) (bytes_drop s at h) e).same

-- its bytes are among those of the k types from type j on where it is one of these
among : (most : ℕ) (s starts : List ℕ) (ts : List MirType) (t : MirType) (x : List ℕ) → x ≡ type_bytes t → Bytes s → TypesAt most s starts ts → (k j : ℕ) → j + k ≡ length ts → among_parts x s starts j k ≡ has_type t (drop j ts)
unfolding among_parts has_type
among most s starts ts t x e b a zero j l = let g : length ts ≤ j = omega arith in rw (drop_of_length-le ts g)
among most s starts ts t x e b a (suc k) j l =
    let g : j < length ts = omega arith in
    rw (drop-cons ts j MirType.Unit g, e, type_part most j s (get_or starts j 0) b (a.each j g), ← e, among most s starts ts t x e b a k (suc j) (omega arith))

-- so the search tells
pub tested : (s starts : List ℕ) (k at end : ℕ) (r : Bool) → r ≡ among_parts (part s at end) s starts 0 k → TestedBefore s starts k at end r
tested s starts k at end r e most own ts t b l a f = e ∙ among most s starts ts t (part s at end) (type_part most own s at b f) b a k 0 (omega (arith, l))
