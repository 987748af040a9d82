-- The end of a block: its count in front.
use Prim.Native.Nat.{ℕ, ◌+◌, ◌*◌, ◌/◌, ◌%◌}
use mathlib.Core.Path.{◌≡◌, refl, ap, ◌∙◌, sym}
use mathlib.Core.List.{List, ◌++◌}
use native.Mathlib.Omega.{arith}
use lib.ListN.{length, length-append}
use lib.Seq.{sets}
use Rattle.bytes_wire.specs.Number.{to_bytes}
use Rattle.bytes_field.specs.Encode.{each_bytes, instruction_bytes, terminator_bytes}
use Rattle.bytes_block.specs.Encode.{block_bytes}
use Rattle.bytes_emit.proofs.Sets.{sets_front}
use Rattle.fold.specs.Family.{Marks}
use Rattle.rewrite.specs.Run.{Walked, add_counts}
use Rattle.rewrite_progress.specs.declared.Progress.{Progress}
use Rattle.std.specs.Prelude.{Ok}
use Rattle.rewrite_progress.specs.Effect.{output_of, behind, further, walked_effect, mark_all, type_numbers}
use Rattle.rewrite_progress.proofs.Faults.{puts_effect}
use Rattle.rewrite_perform.specs.Performed.{moved_to, block_effect, CountPut}

-- multiples of 256 do not change the lowest byte
low_byte : (a b : ℕ) → (a + 256 * b) % 256 ≡ a % 256
low_byte a b = omega arith

-- the count's two bytes do not look past 65,535
two_bytes : (n : ℕ) → to_bytes 2 (n % 65536) ≡ to_bytes 2 n
two_bytes n =
    let a : n % 65536 % 256 ≡ n % 256 = omega arith in
    let k : n / 256 ≡ n % 65536 / 256 + 256 * (n / 65536) = omega arith in
    let b : n % 65536 / 256 % 256 ≡ n / 256 % 256 = sym (ap (λ m. m % 256) k ∙ low_byte (n % 65536 / 256) (n / 65536)) in
    rw (a, b)

-- the count is stored last, in front of the body
pub block_out : (out₀ out out' types₀ types : List ℕ) (dropped₀ dropped : Marks) (p q v : Progress) (w : Walked) → p.lines ≡ 0
    → output_of out types dropped q ≡ behind (output_of out₀ types₀ dropped₀ (moved_to p (p.to + 2) 0)) (walked_effect w)
    → out' ≡ sets out p.to (to_bytes 2 (q.lines % 65536)) → v ≡ moved_to q q.to 0
    → output_of out' types dropped v ≡ behind (output_of out₀ types₀ dropped₀ p) (block_effect w)
unfolding behind further walked_effect block_effect block_bytes
block_out out₀ out out' types₀ types dropped₀ dropped p q v w z e f g =
    let bytes = each_bytes instruction_bytes w.out ++ terminator_bytes w.terminator in
    let b1 : out ≡ sets out₀ (p.to + 2) bytes = ap (λ o. o.buffer) e in
    let b2 : types ≡ sets types₀ p.fresh (type_numbers w.fresh) = ap (λ o. o.types) e in
    let b3 : dropped ≡ mark_all dropped₀ w.dropped = ap (λ o. o.dropped) e in
    let b4' : q.lines ≡ 0 + length w.out = ap (λ o. o.progress.lines) e in
    let b4 : q.lines ≡ length w.out = omega (arith, b4') in
    let b5 : q.to ≡ p.to + 2 + length bytes = ap (λ o. o.progress.to) e in
    let b6 : q.fresh ≡ p.fresh + length w.fresh = ap (λ o. o.progress.fresh) e in
    let b7 : q.counts ≡ add_counts p.counts w.counts = ap (λ o. o.progress.counts) e in
    let front : out' ≡ sets out₀ p.to (to_bytes 2 (length w.out) ++ bytes) =
    f ∙ ap (λ n. sets out p.to n) (two_bytes q.lines ∙ ap (λ n. to_bytes 2 n) b4) ∙ ap (λ l. sets l p.to (to_bytes 2 (length w.out))) b1 ∙ sets_front out₀ p.to (to_bytes 2 (length w.out)) bytes in
    let far : q.to ≡ p.to + length (to_bytes 2 (length w.out) ++ bytes) = omega (arith, b5, length-append (to_bytes 2 (length w.out)) bytes) in
    rw (g, front, b2, b3, far, b6, b7, z) refl

-- the count of a block whose body went
pub count_went : (p q v : Progress) (out out' : List ℕ) → out' ≡ sets out p.to (to_bytes 2 (q.lines % 65536)) → v ≡ moved_to q q.to 0 → CountPut p out (Ok q) out' (Ok v)
count_went p q v out out' f g =
    λ out₀ types₀ types dropped₀ dropped w z h.
    let y = h.went q refl in
    puts_effect _ _ w.fault out' types dropped v (ap w.fault z ∙ y.0) (block_out out₀ out out' types₀ types dropped₀ dropped p q v w z y.1 f g)
