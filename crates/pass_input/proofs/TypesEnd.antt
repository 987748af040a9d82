-- Where the type table ends: at the place behind its last type.
use Prim.Native.Nat.{ℕ, zero, suc, ◌+◌, ◌-◌, ◌≤◌, ◌<◌}
use mathlib.Core.Path.{◌≡◌, ap, ◌∙◌, sym}
use mathlib.Core.List.{List, [], ◌∷◌, ◌++◌, append-nil}
use native.Mathlib.Omega.{arith}
use lib.ListN.{length, get_or, take, drop, length-append}
use lib.Seq.{take-suc, take-length}
use Rattle.bytes_wire.specs.WellFormed.{Bytes}
use Rattle.bytes_wire.proofs.Canon.{bytes_drop}
use Rattle.bytes_field.specs.Encode.{each_bytes}
use Rattle.mir.specs.MirType.{MirType}
use Rattle.bytes_types.specs.Encode.{type_bytes, types_bytes}
use Rattle.bytes_types.specs.Index.{TypesAt}
use Rattle.bytes_types.proofs.Canon.{type_canon}
use Rattle.rewrite_progress.proofs.Laws.{each_append}

-- one more type
one_more : (xs : List MirType) (t : MirType) (ys : List MirType) (a c d : ℕ) → ys ≡ xs ++ (t ∷ []) → a + length (each_bytes type_bytes xs) ≡ c → length (type_bytes t) ≡ d - c → c ≤ d → a + length (each_bytes type_bytes ys) ≡ d
one_more xs t ys a c d e f g h =
    let q : each_bytes type_bytes ys ≡ each_bytes type_bytes xs ++ type_bytes t = ap (each_bytes type_bytes) e ∙ each_append type_bytes xs (t ∷ []) ∙ ap (λ w. each_bytes type_bytes xs ++ w) (append-nil (type_bytes t)) in
    omega (arith, ap length q, length-append (each_bytes type_bytes xs) (type_bytes t))

module _ (most : ℕ) (s starts : List ℕ) (ts : List MirType) (h : Bytes s) (a : TypesAt most s starts ts) where
  behind : (k : ℕ) → k ≤ length ts → get_or starts 0 0 + length (each_bytes type_bytes (take k ts)) ≡ get_or starts k 0
  behind zero l = omega arith
  behind (suc k) l =
      let i : k < length ts = omega arith in
      one_more (take k ts) (get_or ts k MirType.Unit) (take (suc k) ts) (get_or starts 0 0) (get_or starts k 0) (get_or starts (suc k) 0) (take-suc ts k MirType.Unit i) (behind k (omega arith)) (type_canon most k (drop (get_or starts k 0) s) (bytes_drop s (get_or starts k 0) h) (a.each k i)).size (a.rises k i)

  all_behind : get_or starts 0 0 + length (each_bytes type_bytes ts) ≡ get_or starts (length ts) 0
  all_behind = ap (λ w. get_or starts 0 0 + length (each_bytes type_bytes w)) (sym (take-length ts)) ∙ behind (length ts) (omega arith)

  pub types_behind : get_or starts 0 0 ≡ 2 → get_or starts (length ts) 0 ≡ length (types_bytes ts)
  unfolding types_bytes
  types_behind e = omega (arith, all_behind, e)
