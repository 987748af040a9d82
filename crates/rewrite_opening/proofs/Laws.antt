-- The writer of the head meets what it is told.
use Prim.Native.Nat.{ℕ, ◌+◌, ◌≤◌, ◌<◌}
use mathlib.Core.Path.{◌≡◌, refl, ◌∙◌, sym}
use mathlib.Core.List.{List}
use native.Mathlib.Omega.{arith}
use lib.ListN.{length, get_or}
use Rattle.bytes_index.specs.declared.code.Code.{Code}
use Rattle.bytes_index.specs.Table.{recorded_in}
use Rattle.bytes_emit.specs.Written.{Writes}
use Rattle.mir.specs.declared.TypeId.{TypeId}
use Rattle.mir.specs.Routine.{Routine}
use Rattle.bytes_types.specs.Encode.{types_bytes}
use Rattle.bytes_sections.specs.Encode.{encode}
use Rattle.rewrite_head.specs.Head.{front_end, head_bytes, widened, Tabled}
use Rattle.rewrite_head.proofs.Front.{front_within}
use Rattle.rewrite_opening.specs.Opens.{Opens, Opening}
use Rattle.std.specs.Prelude.{Some, None}

module _ {code : Code} {fresh : List ℕ} {many size : ℕ} (h : Opens code fresh many size) where
  -- the types end, and the parameters stand, within the bytes
  pub head_within : (at : ℕ) → at ≡ get_or code.facts.now code.bounds.types 0 → front_end code.bytes.now at ≤ length code.bytes.now
  head_within at e = front_within h.routine code.bytes.now at h.reads (sym (e ∙ h.behind))

  -- the head that is written is that of the routine
  pub head_opened : (at : ℕ) (old out out' : List ℕ) (to : ℕ) → at ≡ get_or code.facts.now code.bounds.types 0 → old ≡ recorded_in code.facts.now
      → ((x : Routine) (ts : List TypeId) → encode x ≡ code.bytes.now → length (types_bytes x.types) ≡ at → x.next ≡ code.bounds.next → Tabled old fresh code.bounds.next many x.recorded ts → Writes (head_bytes (widened x ts)) out out' 0 to)
      → Writes (head_bytes (widened h.routine h.types)) out out' 0 to
  head_opened at old out out' to e f put = put h.routine h.types h.reads (sym (e ∙ h.behind)) h.next (rw f h.tabled)

module _ (head : List ℕ) (size n : ℕ) (out : List ℕ) (e : n ≡ 0 + length head) where
  pub opening_long : length out < n + size → Opening head size out out None
  opening_long l = record { long = λ q. (omega (arith, e), refl); fits = λ to q. absurd (let z : ◌≡◌ {A = ℕ} 0 1 = cc in omega arith) }

  pub opening_fits : n + size ≤ length out → (out' : List ℕ) (to : ℕ) → to ≤ 204800 → Writes head out out' 0 to → Opening head size out out' (Some to)
  opening_fits l out' to k w =
      record {
        long = λ q. absurd (let z : ◌≡◌ {A = ℕ} 0 1 = cc in omega arith);
        fits = λ to' q. let z : to ≡ to' = cc in (rw (← z) k, (omega (arith, e), rw (← z) w));
      }
