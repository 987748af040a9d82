-- A block that was read is written as it stood, and has a byte form.
use Prim.Native.Nat.{ℕ, zero, suc, ◌+◌, ◌*◌, ◌≤◌, zero-le}
use mathlib.Core.Path.{◌≡◌, refl, ap, sym}
use mathlib.Core.List.{List, ◌++◌}
use mathlib.Core.Bool.{Bool, true, false, not, ◌&&◌, ◌||◌, true≢false}
use native.Mathlib.Nat.{le_refl, suc-mul, mul-le-mul_right}
use native.Mathlib.Omega.{arith}
use borrow.Author.Tests.{leb-true}
use lib.ListN.{length}
use lib.Dec.{leb}
use Rattle.bytes_wire.specs.Parse.{ok}
use Rattle.bytes_wire.specs.Number.{to_bytes}
use Rattle.bytes_wire.specs.WellFormed.{Bytes}
use Rattle.bytes_wire.specs.declared.Cause.{Cause}
use Rattle.bytes_wire.proofs.Canon.{Canon}
use Rattle.mir.specs.Syntax.{Block}
use Rattle.mir.specs.Reads.{dests, is_phi}
use Rattle.bytes_field.specs.Encode.{each_bytes, instruction_bytes, terminator_bytes}
use Rattle.bytes_field.specs.declared.Bounds.{Bounds}
use Rattle.bytes_laws.specs.WellFormed.{Wide}
use Rattle.bytes_laws.proofs.Exact.{Exact, then, last, alone, whole, within, tested, because, number}
use Rattle.bytes_laws.proofs.EachKind.{fields_most, terminator}
use Rattle.bytes_laws.proofs.Instruction.{instruction}
use Rattle.bytes_block.specs.Decode.{marks, instructions_of, block_count_of, block_of}
use Rattle.bytes_block.specs.Encode.{block_bytes}
use Rattle.bytes_block.specs.WellFormed.{FitInstructions, FitCode}
use Rattle.bytes_block.specs.declared.Mosts.{Mosts}

-- k instructions
instructions : (b : Bounds) (seen : List Bool) (late : Bool) (k : ℕ) → Exact (instructions_of b seen late k) (each_bytes instruction_bytes) (λ is. (length is ≡ k) × (Wide b → FitInstructions b seen late is)) (k * (26 + fields_most b))
unfolding instructions_of
instructions b seen late zero = whole (alone refl (refl, λ w. tt)) zero-le
instructions b seen late (suc k) =
    whole
    (then (instruction b seen late) (λ i p.
    last _ (instructions b (marks seen (dests i.kind)) (late || not (is_phi i.kind)) k) (λ is q. (refl, (ap suc q.0, λ w. (p w, q.1 w))))))
    (omega (arith, suc-mul k (26 + fields_most b)))

-- both tests hold
pub both_true : (p q : Bool) → p && q ≡ true → (p ≡ true) × (q ≡ true)
both_true true q e = (refl, e)
both_true false q e = absurd (true≢false (sym e))

-- a count has two mosts
count : (m : Mosts) (total : ℕ) → Exact (block_count_of m total) (to_bytes 2) (λ n. (n ≤ m.block) × (total + n ≤ m.all)) 2
count m total =
    because (tested Cause.TooMany (λ n. leb n m.block && leb (total + n) m.all) (number 2)) (λ n p.
    let t = both_true (leb n m.block) (leb (total + n) m.all) p.1 in
    (leb-true n m.block t.0, leb-true (total + n) m.all t.1))

-- the most bytes of a block
abbrev pub block_most : Mosts → Bounds → ℕ
block_most m b = 2 + (m.block * (26 + fields_most b) + (16 + b.list * 5))

-- "u16 instruction count, instructions, terminator"
pub block_exact : (m : Mosts) (b : Bounds) (total : ℕ) (seen : List Bool) → Exact (block_of m b total seen) block_bytes (λ x. Wide b → FitCode m b total seen x) (block_most m b)
unfolding block_of block_bytes
block_exact m b total seen =
    whole
    (then (count m total) (λ n p.
    within
    (then (instructions b seen false n) (λ is q.
    last _ (terminator b) (λ e r.
    (ap (λ k. to_bytes 2 k ++ (each_bytes instruction_bytes is ++ terminator_bytes e)) q.0, λ w. record { own = rw q.0 p.0; all = rw q.0 p.1; instructions = q.1 w; terminator = r w }))))
    (omega (arith, mul-le-mul_right (26 + fields_most b) p.0))))
    (le_refl _)

-- a block that was read is written as it stood
pub block_canon : (m : Mosts) (b : Bounds) (total : ℕ) (seen : List Bool) (s : List ℕ) {x : Block} {n : ℕ} → Bytes s → block_of m b total seen s ≡ ok x n → Canon (block_bytes x) s n
block_canon m b total seen s {x} {n} h e = ((block_exact m b total seen).each s x n h e).canon
