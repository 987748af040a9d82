-- The terminator of a block: only a Return is written anew.
use Prim.Native.Nat.{ℕ, ◌+◌, ◌-◌, ◌*◌, ◌≤◌}
use mathlib.Core.Path.{◌≡◌, refl, ap, ◌∙◌, sym}
use mathlib.Core.List.{List}
use native.Mathlib.Omega.{arith}
use native.Mathlib.Nat.{add-zero}
use lib.ListN.{length, get_or, take, drop}
use lib.Seq.{sets}
use Rattle.bytes_wire.specs.WellFormed.{Bytes}
use Rattle.mir.specs.declared.Value.{Value}
use Rattle.bytes_wire.proofs.Canon.{bytes_drop}
use Rattle.mir.specs.Syntax.{Terminator, Jump, If, BranchCmp, Return, Unreachable}
use Rattle.bytes_field.specs.Encode.{terminator_bytes}
use Rattle.bytes_index.specs.declared.code.Code.{Code}
use Rattle.bytes_laws.proofs.EachKind.{terminator}
use Rattle.bytes_laws.proofs.Instruction.{terminator_canon}
use Rattle.bytes_index.specs.Table.{place_in, end_in}
use Rattle.bytes_index.specs.Code.{TerminatorIn}
use Rattle.fold.specs.declared.Settings.{Settings}
use Rattle.mir.specs.Lookup.{Types}
use Rattle.fold.specs.Family.{Marks}
use Rattle.rewrite.specs.State.{AggStates}
use Rattle.rewrite.specs.Run.{ends, finish}
use Rattle.rewrite_progress.specs.declared.Progress.{Progress}
use Rattle.std.specs.Prelude.{Ok}
use Rattle.rewrite_progress.specs.Effect.{output_of, behind, further, walked_effect, mark_all, type_numbers, Puts}
use Rattle.rewrite_perform.specs.Performed.{moved_to}
use Rattle.rewrite_progress.proofs.Faults.{puts_effect}

data ReturnEnd (t : Terminator) : Type 0 where
  is_return : (xs : List Value) → t ≡ Return xs → ReturnEnd t

three : (t : Terminator) → get_or (terminator_bytes t) 0 0 ≡ 3 → ReturnEnd t
unfolding terminator_bytes
three (Jump p) h = absurd (omega arith)
three (If x p q) h = absurd (omega arith)
three (BranchCmp op x y p q) h = absurd (omega arith)
three (Return xs) h = is_return xs refl
three Unreachable h = absurd (omega arith)

not_three : (σ : Settings) (τ : Types) (S : AggStates) (m : ℕ) (t : Terminator) → (get_or (terminator_bytes t) 0 0 ≡ 3 → ⊥) → finish σ τ S m t ≡ ends t
unfolding terminator_bytes finish
not_three σ τ S m (Jump p) h = refl
not_three σ τ S m (If x p q) h = refl
not_three σ τ S m (BranchCmp op x y p q) h = refl
not_three σ τ S m (Return xs) h = absurd (h refl)
not_three σ τ S m Unreachable h = refl

-- the terminator t of a slot, whose first byte is k
module _ (code : Code) (slot : ℕ) (t : Terminator) (h : Bytes code.bytes.now) (line : TerminatorIn code.bounds code.bytes.now code.facts.now slot t) (part : List ℕ) (k : ℕ) (ep : part ≡ take (end_in code.facts.now slot - place_in code.facts.now slot) (drop (place_in code.facts.now slot) code.bytes.now)) (ek : k ≡ get_or part 0 0) where
  abbrev from : ℕ
  from = place_in code.facts.now slot

  canon_size : length (terminator_bytes t) ≡ end_in code.facts.now slot - from
  canon_size = (terminator_canon code.bounds (drop from code.bytes.now) (bytes_drop code.bytes.now from h) line.read).size

  small : end_in code.facts.now slot - from ≤ 1 + (15 + code.bounds.list * 5)
  small = ((terminator code.bounds).each (drop from code.bytes.now) t (end_in code.facts.now slot - from) (bytes_drop code.bytes.now from h) line.read).small

  own : part ≡ terminator_bytes t
  own = ep ∙ sym (terminator_canon code.bounds (drop from code.bytes.now) (bytes_drop code.bytes.now from h) line.read).same

  tag_is : get_or (terminator_bytes t) 0 0 ≡ k
  tag_is = ap (λ l. get_or l 0 0) (sym own) ∙ sym ek

  -- a Return
  pub return_end : (P : Type 0) → k ≡ 3 → ((xs : List Value) → t ≡ Return xs → TerminatorIn code.bounds code.bytes.now code.facts.now slot (Return xs) → P) → P
  return_end P e f =
      elim (three t (tag_is ∙ e)) [
        | is_return xs z ↦ f xs z (rw z at line)
      ]

  -- any other stays as it stands
  pub other_end : (σ : Settings) (τ : Types) (S : AggStates) (m : ℕ) (out out' types : List ℕ) (dropped : Marks) (p r : Progress) → (k ≡ 3 → ⊥)
      → code.bounds.list ≤ 16
      → (length part ≤ 65536 → (r ≡ moved_to p (p.to + length part) (p.lines + 0)) × (out' ≡ sets out p.to part))
      → Puts (output_of out types dropped p) (walked_effect (finish σ τ S m t)) (finish σ τ S m t).fault out' types dropped (Ok r)
  unfolding behind further walked_effect ends mark_all type_numbers
  other_end σ τ S m out out' types dropped p r n listed w =
      let z : finish σ τ S m t ≡ ends t = not_three σ τ S m t (λ x. n (sym tag_is ∙ x)) in
      let d = w (omega (arith, ap length own, canon_size, small, listed)) in
      rw z (puts_effect _ _ _ out' types dropped r refl (rw (d.0, d.1, own) (simp (add-zero))))
