-- What is written behind the builds: an instruction as it stands, or bytes with other values put in.
use Prim.Native.Nat.{ℕ, zero, suc, ◌+◌, ◌-◌, ◌≤◌}
use mathlib.Core.Path.{◌≡◌, refl, ap, ◌∙◌, sym}
use mathlib.Core.List.{List, [], ◌∷◌, ◌++◌}
use mathlib.Core.Bool.{false}
use native.Mathlib.Omega.{arith}
use lib.ListN.{length, take, drop}
use lib.Seq.{sets}
use Rattle.bytes_wire.specs.Value.{value_bytes}
use Rattle.bytes_wire.specs.WellFormed.{Bytes}
use Rattle.bytes_wire.proofs.Canon.{bytes_drop}
use Rattle.bytes_field.specs.Encode.{each_bytes}
use Rattle.bytes_index.specs.declared.code.Code.{Code}
use Rattle.bytes_index.specs.Table.{place_in, end_in}
use Rattle.bytes_operands.specs.Fields.{value_step, after}
use Rattle.bytes_operands.proofs.Loops.{plain_values}
use Rattle.bytes_laws.proofs.Instruction.{instruction_size}
use Rattle.rewrite.specs.Rebuild.{rebuild_all}
use Rattle.bytes_emit.specs.Written.{Writes}
use Rattle.rewrite_wanted.specs.Asked.{asked_list}
use Rattle.rewrite_list.specs.declared.values.ListedValues.{ListedValues}
use Rattle.rewrite_list.specs.declared.Written.{Written}
use Rattle.rewrite_list.specs.Lists.{AllWritten}
use Rattle.rewrite_list.proofs.Copying.{writes_and}
use Rattle.rewrite_before.specs.Materialized.{list_end, with_values, AnewWritten, CallWritten, InstructionWritten}
use Rattle.rewrite_before.proofs.Standing.{whole_canon}

-- a part has at most as many bytes as are asked for
part_most : (n : ℕ) (t : List ℕ) → length (take n t) ≤ n
part_most zero t = omega arith
part_most (suc n) [] = omega arith
part_most (suc n) (x ∷ t) = omega (arith, part_most n t)

-- the first bytes
front_bytes : (n : ℕ) (t : List ℕ) → take (n - 0) (drop 0 t) ≡ take n t
front_bytes n [] = let z : n - 0 ≡ n = omega arith in rw z refl
front_bytes n (x ∷ t) = let z : n - 0 ≡ n = omega arith in rw z refl

-- an instruction
pub instruction_copied : (code : Code) (slot : ℕ) (t out out' : List ℕ) (to r : ℕ)
    → t ≡ take (end_in code.facts.now slot - place_in code.facts.now slot) (drop (place_in code.facts.now slot) code.bytes.now)
    → (length t ≤ 1024 → Writes t out out' to r)
    → InstructionWritten code slot out out' to r
instruction_copied code slot t out out' to r q w = λ τ i g l.
    let m = end_in code.facts.now slot - place_in code.facts.now slot in
    let u = drop (place_in code.facts.now slot) code.bytes.now in
    let bs : Bytes u = bytes_drop code.bytes.now (place_in code.facts.now slot) g.bytes in
    rw ((whole_canon code.bounds u i m bs l.read).same ∙ sym q) (w (omega (arith, instruction_size code.bounds [] false u bs l.read g.listed g.projected, ap length q, part_most m u)))

-- what stands in front, the values, and what stands behind them
pub anew_written_lem : (vs : ListedValues) (w₀ : Written) (end behind : ℕ) (t u out out₁ out₂ out₃ : List ℕ) (p q r : ℕ)
    → t ≡ take (vs.list.first - 0) (drop 0 vs.fields.now)
    → (length t ≤ 1024 → Writes t out out₁ w₀.to p)
    → AllWritten vs (record { to = p; fresh = w₀.fresh }) out₁ out₂ q
    → behind ≡ after (value_step vs.fields.now 0 0) vs.list.many vs.list.first
    → u ≡ take (end - behind) (drop behind vs.fields.now)
    → (length u ≤ 1024 → Writes u out₂ out₃ q r)
    → AnewWritten vs w₀ end out out₃ r
anew_written_lem vs w₀ end behind t u out out₁ out₂ out₃ p q r d v w e f y = λ rows a τ S xs g lie m b small.
    let C = take (end - list_end vs.fields.now vs.list) (drop (list_end vs.fields.now vs.list) vs.fields.now) in
    let z : behind ≡ list_end vs.fields.now vs.list = e ∙ plain_values vs.fields.now vs.list.many vs.list.first in
    let f' : u ≡ C = f ∙ ap (λ k. take (end - k) (drop k vs.fields.now)) z in
    let y' : Writes C out₂ out₃ q r = rw (← f') (y (omega (arith, ap length f', part_most (end - list_end vs.fields.now vs.list) (drop (list_end vs.fields.now vs.list) vs.fields.now), a.behind))) in
    let B = each_bytes value_bytes (rebuild_all τ S (vs.code.bounds.next + w₀.fresh) (asked_list τ vs.fields.now vs.list.asks 0 xs)).values in
    let d' : t ≡ take vs.list.first vs.fields.now = d ∙ front_bytes vs.list.first vs.fields.now in
    let v' : Writes (take vs.list.first vs.fields.now) out out₁ w₀.to p = rw (← d') (v (omega (arith, ap length d', part_most vs.list.first vs.fields.now, a.before))) in
    writes_and (take vs.list.first vs.fields.now) (B ++ C) out out₁ out₃ w₀.to p r v' (writes_and B C out₁ out₂ out₃ p q r (w rows τ S xs g lie m b small) y')

-- the kind, then the fields
pub call_written_lem : (vs : ListedValues) (w₀ : Written) (end : ℕ) (out out₁ out₂ : List ℕ) (r : ℕ)
    → out₁ ≡ sets out w₀.to (0 ∷ 3 ∷ [])
    → AnewWritten vs (record { to = w₀.to + 2; fresh = w₀.fresh }) end out₁ out₂ r
    → CallWritten vs w₀ end out out₂ r
call_written_lem vs w₀ end out out₁ out₂ r e v = λ rows a τ S xs g lie m b small.
    let W = with_values vs.fields.now vs.list end (rebuild_all τ S (vs.code.bounds.next + w₀.fresh) (asked_list τ vs.fields.now vs.list.asks 0 xs)).values in
    writes_and (0 ∷ 3 ∷ []) W out out₁ out₂ w₀.to (w₀.to + 2) r (refl, e) (v rows a τ S xs g lie m b small)
