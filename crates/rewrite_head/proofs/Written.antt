-- The map and the recorded types, written one after another.
use Prim.Native.Nat.{ℕ, suc, ◌+◌, ◌-◌, ◌*◌, ◌/◌, ◌%◌, ◌≤◌, ◌<◌}
use mathlib.Core.Path.{◌≡◌, ap, ◌∙◌, sym}
use mathlib.Core.List.{List, [], ◌∷◌, ◌++◌}
use mathlib.Core.Option.{Option, none}
use native.Mathlib.Numerals.{add-one}
use native.Mathlib.Omega.{arith}
use lib.ListN.{length, get_or, drop, length-append, length-set}
use lib.Seq.{sets, drop-cons, drop-length}
use Rattle.bytes_wire.specs.Number.{to_bytes}
use Rattle.mir.specs.declared.TypeId.{TypeId}
use Rattle.bytes_field.specs.Encode.{each_bytes, option_bytes, type_id_bytes}
use Rattle.bytes_emit.proofs.Sets.{sets_append}
use Rattle.bytes_sections.specs.Encode.{map_number}
use Rattle.bytes_emit.specs.Written.{Writes}
use Rattle.rewrite_head.specs.Head.{with_fresh, Tabled}
use Rattle.rewrite_head.proofs.Bits.{length_fresh}

-- ## The map

-- of the map's bytes those before the k-th are written
pub record Mapped (recorded fresh : List ℕ) (next many bytes : ℕ) (out₀ : List ℕ) (to : ℕ) (out : List ℕ) (k : ℕ) : Type 0 where
  pub under : k ≤ bytes
  pub len : length out ≡ length out₀
  pub left : (rs : List (Option TypeId)) (ts : List TypeId) → Tabled recorded fresh next many rs ts → sets out (to + k) (to_bytes (bytes - k) (map_number (drop (8 * k) (with_fresh rs ts)))) ≡ sets out₀ to (to_bytes bytes (map_number (with_fresh rs ts)))

module _ (recorded fresh : List ℕ) (next many bytes : ℕ) (out₀ : List ℕ) (to : ℕ) where
  pub map_again : (out : List ℕ) (k : ℕ) → Mapped recorded fresh next many bytes out₀ to out k → (out' : List ℕ) (x : ℕ) → k < bytes
      → out' ≡ sets out (to + k) (x ∷ [])
      → ((rs : List (Option TypeId)) (ts : List TypeId) → Tabled recorded fresh next many rs ts → (x ≡ map_number (drop (8 * k) (with_fresh rs ts)) % 256) × (map_number (drop (8 * k) (with_fresh rs ts)) / 256 ≡ map_number (drop (8 * k + 8) (with_fresh rs ts))))
      → Mapped recorded fresh next many bytes out₀ to out' (k + 1)
  map_again out k c out' x l e w =
      record {
        under = omega arith;
        len = ap length e ∙ length-set out (to + k) x ∙ c.len;
        left = λ rs ts h.
            let R = with_fresh rs ts in
            let p : bytes - k ≡ suc (bytes - (k + 1)) = omega arith in
            let q : to + (k + 1) ≡ suc (to + k) = omega arith in
            let o : 8 * (k + 1) ≡ 8 * k + 8 = omega arith in
            let f = w rs ts h in
            let g : sets out (to + k) (to_bytes (suc (bytes - (k + 1))) (map_number (drop (8 * k) R))) ≡ sets out₀ to (to_bytes bytes (map_number R)) = rw p at (c.left rs ts h) in
            rw (e, q, o, ← f.1, f.0) g;
      }

  pub map_done : (out : List ℕ) (k : ℕ) → Mapped recorded fresh next many bytes out₀ to out k → bytes ≤ k → (rs : List (Option TypeId)) (ts : List TypeId) → Tabled recorded fresh next many rs ts → out ≡ sets out₀ to (to_bytes bytes (map_number (with_fresh rs ts)))
  map_done out k c l rs ts h =
      let p : bytes - k ≡ 0 = omega arith in
      rw p at (c.left rs ts h)

-- ## The types

-- of the values those before the v-th are written
pub record Typed (recorded fresh : List ℕ) (next many : ℕ) (out₀ : List ℕ) (to₀ : ℕ) (out : List ℕ) (to v : ℕ) : Type 0 where
  pub under : v ≤ next + many
  pub bound : to ≤ to₀ + 2 * v
  pub len : length out ≡ length out₀
  pub place : (rs : List (Option TypeId)) (ts : List TypeId) → Tabled recorded fresh next many rs ts → to + length (each_bytes (option_bytes type_id_bytes) (drop v (with_fresh rs ts))) ≡ to₀ + length (each_bytes (option_bytes type_id_bytes) (with_fresh rs ts))
  pub left : (rs : List (Option TypeId)) (ts : List TypeId) → Tabled recorded fresh next many rs ts → sets out to (each_bytes (option_bytes type_id_bytes) (drop v (with_fresh rs ts))) ≡ sets out₀ to₀ (each_bytes (option_bytes type_id_bytes) (with_fresh rs ts))

abbrev type_bytes : List (Option TypeId) → List ℕ
type_bytes rs = each_bytes (option_bytes type_id_bytes) rs

module _ (recorded fresh : List ℕ) (next many : ℕ) (out₀ : List ℕ) (to₀ : ℕ) where
  -- the next value's type stands in front of the others'
  front : (rs : List (Option TypeId)) (ts : List TypeId) → Tabled recorded fresh next many rs ts → (v : ℕ) → v < next + many → type_bytes (drop v (with_fresh rs ts)) ≡ option_bytes type_id_bytes (get_or (with_fresh rs ts) v none) ++ type_bytes (drop (v + 1) (with_fresh rs ts))
  front rs ts h v l =
      let R = with_fresh rs ts in
      let i : v < length R = omega (arith, h.old, h.new, length_fresh rs ts) in
      ap type_bytes (drop-cons R v none i ∙ ap (λ k. get_or R v none ∷ drop k R) (sym (add-one v)))

  pub types_again : (out : List ℕ) (to v : ℕ) → Typed recorded fresh next many out₀ to₀ out to v → (out' : List ℕ) (to' : ℕ) → v < next + many
      → length out' ≡ length out → to' ≤ to + 2
      → ((rs : List (Option TypeId)) (ts : List TypeId) → Tabled recorded fresh next many rs ts → Writes (option_bytes type_id_bytes (get_or (with_fresh rs ts) v none)) out out' to to')
      → Typed recorded fresh next many out₀ to₀ out' to' (v + 1)
  types_again out to v c out' to' l len small w =
      record {
        under = omega arith;
        bound = omega (arith, c.bound);
        len = len ∙ c.len;
        place = λ rs ts h.
            let b = option_bytes type_id_bytes (get_or (with_fresh rs ts) v none) in
            let R = type_bytes (drop (v + 1) (with_fresh rs ts)) in
            omega (arith, c.place rs ts h, ap length (front rs ts h v l), length-append b R, (w rs ts h).0);
        left = λ rs ts h.
            let b = option_bytes type_id_bytes (get_or (with_fresh rs ts) v none) in
            let R = type_bytes (drop (v + 1) (with_fresh rs ts)) in
            let q = w rs ts h in
            rw (q.1, q.0) (sym (ap (sets out to) (front rs ts h v l) ∙ sets_append out to b R)) ∙ c.left rs ts h;
      }

  pub types_done : (out : List ℕ) (to v : ℕ) → Typed recorded fresh next many out₀ to₀ out to v → next + many ≤ v → (rs : List (Option TypeId)) (ts : List TypeId) → Tabled recorded fresh next many rs ts → Writes (type_bytes (with_fresh rs ts)) out₀ out to₀ to
  types_done out to v c l rs ts h =
      let R = with_fresh rs ts in
      let i : v ≡ length R = omega (arith, c.under, h.old, h.new, length_fresh rs ts) in
      let e : type_bytes (drop v R) ≡ [] = ap type_bytes (ap (λ k. drop k R) i ∙ drop-length R) in
      (omega (arith, c.place rs ts h, ap length e), sym (ap (sets out to) e) ∙ c.left rs ts h)
