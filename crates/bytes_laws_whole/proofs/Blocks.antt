-- The blocks that were read are written as they stood, and have a byte form.
use Prim.Native.Nat.{ℕ, zero, suc, ◌+◌, ◌*◌, ◌≤◌, zero-le}
use mathlib.Core.Path.{◌≡◌, refl, ap}
use mathlib.Core.List.{List, ◌∷◌}
use mathlib.Core.Bool.{Bool, false, not, ◌&&◌, ◌||◌}
use native.Mathlib.Nat.{suc-mul}
use native.Mathlib.Omega.{arith}
use lib.ListN.{length, drop}
use lib.Dec.{leb}
use Rattle.bytes_wire.specs.Parse.{ok}
use Rattle.bytes_wire.specs.Number.{u16_of}
use Rattle.bytes_wire.specs.WellFormed.{Bytes}
use Rattle.bytes_wire.specs.declared.Cause.{Cause}
use Rattle.bytes_wire.proofs.Inv.{both, image, and_inv, map_inv, checked_inv, number_inv}
use Rattle.bytes_wire.proofs.Canon.{bytes_drop}
use Rattle.mir.specs.Syntax.{Instruction, Block}
use Rattle.mir.specs.Reads.{dests, is_phi}
use Rattle.bytes_field.specs.Decode.{instruction_of, terminator_of}
use Rattle.bytes_field.specs.Encode.{each_bytes}
use Rattle.bytes_field.specs.declared.Bounds.{Bounds}
use Rattle.bytes_laws.specs.WellFormed.{Wide}
use Rattle.bytes_laws.proofs.Exact.{Exact, then, last, alone, whole}
use Rattle.bytes_laws.proofs.EachKind.{terminator}
use Rattle.bytes_laws.proofs.Instruction.{instruction}
use Rattle.bytes_block.specs.Decode.{marks, block_marks, instructions_of, block_count_of, block_of}
use Rattle.bytes_block.specs.Encode.{block_bytes}
use Rattle.bytes_block.specs.declared.Mosts.{Mosts}
use Rattle.bytes_block.proofs.Canon.{block_most, block_exact}
use Rattle.bytes_block.proofs.Laws.{instructions_length}
use Rattle.bytes_block.proofs.Blocks.{block_count}
use Rattle.bytes_sections.specs.Decode.{blocks_of}
use Rattle.bytes_laws_whole.specs.WellFormed.{FitBlocks}

-- k blocks, one behind the other
pub blocks_exact : (m : Mosts) (b : Bounds) (total : ℕ) (seen : List Bool) (k : ℕ) → Exact (blocks_of m b total seen k) (each_bytes block_bytes) (λ xs. (length xs ≡ k) × (Wide b → FitBlocks m b total seen xs)) (k * block_most m b)
unfolding blocks_of
blocks_exact m b total seen zero = whole (alone refl (refl, λ w. tt)) zero-le
blocks_exact m b total seen (suc k) =
    whole
    (then (block_exact m b total seen) (λ x p.
    last _ (blocks_exact m b (total + length x.instructions) (block_marks seen x.instructions) k) (λ xs q. (refl, (ap suc q.0, λ w. (p w, q.1 w))))))
    (omega (arith, suc-mul k (block_most m b)))

-- an instruction takes at most 220 bytes
instructions_small : (b : Bounds) (seen : List Bool) (late : Bool) (k : ℕ) (s : List ℕ) {is : List Instruction} {n : ℕ} → b.list ≤ 16 → b.projections ≤ 8 → Bytes s → instructions_of b seen late k s ≡ ok is n → n ≤ k * 220
unfolding instructions_of
instructions_small b seen late zero s {is} {n} l p h e = let z : n ≡ 0 = cc in omega arith
instructions_small b seen late (suc k) s l p h e =
    elim (and_inv s (instruction_of b seen late s) _ e) [
      | both i m j q r c ↦
          elim (map_inv (λ is. i ∷ is) (instructions_of b (marks seen (dests i.kind)) (late || not (is_phi i.kind)) k (drop m s)) r) [
            | image is f g ↦ omega (arith, ((instruction b seen late).each s i m h q).small, instructions_small b (marks seen (dests i.kind)) (late || not (is_phi i.kind)) k (drop m s) l p (bytes_drop s m h) f)
          ]
    ]

-- a block, beside them, at most 98
block_small : (m : Mosts) (b : Bounds) (total : ℕ) (seen : List Bool) (s : List ℕ) {x : Block} {n : ℕ} → b.list ≤ 16 → b.projections ≤ 8 → Bytes s → block_of m b total seen s ≡ ok x n → n ≤ 98 + length x.instructions * 220
unfolding block_of
block_small m b total seen s l p h e =
    elim (and_inv s (block_count_of m total s) _ e) [
      | both k i j q r c ↦
          elim (and_inv (drop i s) (instructions_of b seen false k (drop i s)) _ r) [
            | both is i₂ j₂ q₂ r₂ c₂ ↦
                elim (map_inv (λ e. record { instructions = is; terminator = e }) (terminator_of b (drop i₂ (drop i s))) r₂) [
                  | image y f g ↦
                      let h₁ = bytes_drop s i h in
                      let two = (number_inv 2 s (checked_inv Cause.TooMany (λ n. leb n m.block && leb (total + n) m.all) (u16_of s) q).0).2 in
                      rw g (omega (arith, two, instructions_small b seen false k (drop i s) l p h₁ q₂, instructions_length b seen false k (drop i s) q₂, ((terminator b).each (drop i₂ (drop i s)) y j₂ (bytes_drop (drop i s) i₂ h₁) f).small))
                ]
          ]
    ]

-- and all blocks no more than their instructions allow
pub blocks_small : (m : Mosts) (b : Bounds) (total : ℕ) (seen : List Bool) (k : ℕ) (s : List ℕ) {xs : List Block} {n : ℕ} → b.list ≤ 16 → b.projections ≤ 8 → total ≤ m.all → Bytes s → blocks_of m b total seen k s ≡ ok xs n → n + total * 220 ≤ m.all * 220 + k * 98
unfolding blocks_of
blocks_small m b total seen zero s {xs} {n} l p t h e = let z : n ≡ 0 = cc in omega arith
blocks_small m b total seen (suc k) s l p t h e =
    elim (and_inv s (block_of m b total seen s) _ e) [
      | both x i j q r c ↦
          let few = block_count m b total seen s q in
          elim (map_inv (λ xs. x ∷ xs) (blocks_of m b (total + length x.instructions) (block_marks seen x.instructions) k (drop i s)) r) [
            | image xs f g ↦ omega (arith, block_small m b total seen s l p h q, blocks_small m b (total + length x.instructions) (block_marks seen x.instructions) k (drop i s) l p few (bytes_drop s i h) f)
          ]
    ]
