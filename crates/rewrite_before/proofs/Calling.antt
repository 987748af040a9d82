-- The promise of put_call, from what its parts promise.
use Prim.Native.Nat.{ℕ, ◌+◌, ◌-◌, ◌≤◌, ◌<◌}
use mathlib.Core.Path.{◌≡◌, ap, ◌∙◌, sym, subst}
use mathlib.Core.List.{List, [], ◌∷◌}
use mathlib.Core.Bool.{false}
use mathlib.Core.Option.{Option, none, some}
use native.Mathlib.Omega.{arith}
use lib.ListN.{length, drop}
use Rattle.bytes_wire.specs.Parse.{ok}
use Rattle.bytes_wire.specs.WellFormed.{Bytes}
use Rattle.mir.specs.declared.ValueId.{ValueId}
use Rattle.mir.specs.declared.TypeId.{TypeId}
use Rattle.mir.specs.declared.Value.{Value}
use Rattle.bytes_wire.proofs.Canon.{bytes_drop}
use Rattle.mir.specs.Syntax.{Instruction, Call}
use Rattle.bytes_field.specs.Decode.{instruction_of}
use Rattle.bytes_field.specs.Encode.{instruction_bytes}
use Rattle.bytes_index.specs.Table.{place_in, end_in}
use Rattle.bytes_operands.specs.Fields.{fields_place}
use Rattle.bytes_laws.proofs.Instruction.{instruction_size}
use Rattle.mir.specs.Lookup.{Types}
use Rattle.fold.specs.Family.{Marks}
use Rattle.rewrite.specs.Fault.{first_met, full_fault}
use Rattle.rewrite.specs.State.{AggStates}
use Rattle.rewrite.specs.Rebuild.{Rebuilt, rebuild_all, wanted_arguments}
use Rattle.rewrite.specs.Piece.{Piece}
use Rattle.rewrite.specs.Stays.{step_call}
use Rattle.rewrite_parts.specs.Rows.{rows_in, fresh_in}
use Rattle.rewrite_parts.specs.Here.{Here}
use Rattle.bytes_emit.specs.Written.{Writes}
use Rattle.rewrite_progress.specs.declared.Progress.{Progress}
use Rattle.std.specs.Prelude.{Result, Ok, Err}
use Rattle.rewrite.specs.declared.Fault.{Fault}
use Rattle.rewrite_progress.specs.Effect.{output_of, rebuilt_effect, piece_effect, Puts}
use Rattle.rewrite_wanted.specs.Asked.{Setting, asked_list}
use Rattle.rewrite_list.specs.declared.values.ValueList.{ValueList}
use Rattle.rewrite_list.specs.declared.values.ListedValues.{ListedValues}
use Rattle.rewrite_list.specs.Lists.{EnoughFor, OfListIn, BuildsPut, AllPut}
use Rattle.rewrite_list.proofs.Numbers.{fits}
use Rattle.rewrite_before.specs.Materialized.{onward, call_list, call_behind, with_values, Around, CallWritten, InstructionWritten, CallPut}
use Rattle.rewrite_before.proofs.Standing.{CallKnown, call_known}
use Rattle.rewrite_before.proofs.Effects.{Idle, idle, refused_put, full_put, went_put, spent, lined, as_many, call_fault, call_kept, call_anew}

module _ (vs : ListedValues) (slot : ℕ) (out work : List ℕ) (p : Progress) (t : List ℕ)
    (there : t ≡ drop (place_in vs.code.facts.now slot) vs.code.bytes.now) (hf : vs.fields.now ≡ drop (fields_place t) t) (hl : vs.list ≡ call_list vs.fields.now)
    (r : Result Progress Fault) (out₁ work₁ : List ℕ) (u : AllPut vs out work p out₁ work₁ r) where
  -- what is known in each case
  module _ (τ : Types) (S : AggStates) (used : ℕ) (i : Instruction) (ds : List ValueId) (g : ℕ) (xs : List Value) (ps rs : List TypeId) (dropped : Marks) (q : Piece) (a : Here vs.code.bounds vs.code.bytes.now vs.code.facts.now slot vs.tracked.now (rows_in work) used τ S i) (k : i.kind ≡ Call ds g xs ps rs)
      (y : q ≡ step_call S i ds g ps rs (rebuild_all τ S (vs.code.bounds.next + p.fresh) (wanted_arguments τ xs ps)) (rebuild_all τ S (vs.code.bounds.next + p.fresh) (wanted_arguments τ xs ps)).fresh) (h : vs.code.bounds.next + p.fresh < 65536) where
    abbrev n : ℕ
    n = end_in vs.code.facts.now slot - place_in vs.code.facts.now slot

    abbrev R : Rebuilt
    R = rebuild_all τ S (vs.code.bounds.next + p.fresh) (asked_list τ vs.fields.now (call_list vs.fields.now).asks 0 xs)

    bs : Bytes t
    bs = rw there (bytes_drop vs.code.bytes.now (place_in vs.code.facts.now slot) a.ground.bytes)

    te : instruction_of vs.code.bounds [] false t ≡ ok i n
    te = ap (instruction_of vs.code.bounds [] false) there ∙ a.line.read

    known : CallKnown vs.code.bounds.next n vs.fields.now (fields_place t) ds g xs ps rs (call_list vs.fields.now).first (call_list vs.fields.now).many (call_behind vs.fields.now)
    known = rw hf (call_known vs.code.bounds t i n bs te ds g xs ps rs k)

    same : q ≡ step_call S i ds g ps rs R R.fresh
    same = y ∙ ap (λ ws. step_call S i ds g ps rs (rebuild_all τ S (vs.code.bounds.next + p.fresh) ws) (rebuild_all τ S (vs.code.bounds.next + p.fresh) ws).fresh) (sym (known.asked τ))

    calm : R.fresh ≡ [] → Idle R
    calm z = idle τ S (asked_list τ vs.fields.now (call_list vs.fields.now).asks 0 xs) (vs.code.bounds.next + p.fresh) z

    -- the Call's own line, behind the builds
    abbrev own : Option Fault
    own = full_fault (p.lines + length R.before)

    fault_same : q.fault p.lines ≡ first_met (R.fault p.lines) own
    fault_same = ap (λ z. z.fault p.lines) same ∙ call_fault S i ds g ps rs R p.lines calm

    setting : Setting vs.code vs.tracked.now (rows_in work) τ S
    setting = record { used = used; ground = a.ground; rep = a.rep }

    puts : Puts (output_of out (fresh_in work) dropped p) (rebuilt_effect R) R.fault out₁ (fresh_in work₁) dropped r
    puts = subst (OfListIn vs.code vs.fields.now vs.tracked.now (rows_in work) p.fresh (λ τ S R. BuildsPut R out work p out₁ work₁ r)) hl u τ S xs setting known.lies known.listed h dropped

    short : n ≤ 268
    short = instruction_size vs.code.bounds [] false t bs te a.ground.listed a.ground.projected

    abbrev Done : List ℕ → Result Progress Fault → Type 0
    Done out₂ s = Puts (output_of out (fresh_in work) dropped p) (piece_effect q) q.fault out₂ (fresh_in work₁) dropped s

    refused_case : (f : Fault) → r ≡ Err f → Done out₁ (Err f)
    refused_case f z = refused_put out (fresh_in work) dropped p R r out₁ (fresh_in work₁) puts (piece_effect q) q.fault own fault_same f z

    module _ (q' : Progress) (z : r ≡ Ok q') where
      own_line : q'.lines ≡ p.lines + length R.before
      own_line = lined out (fresh_in work) dropped p R r out₁ (fresh_in work₁) puts q' z

      full_case : (f : Fault) → some f ≡ full_fault q'.lines → Done out₁ (Err f)
      full_case f m = full_put out (fresh_in work) dropped p R r out₁ (fresh_in work₁) puts (piece_effect q) q.fault own fault_same q' z f (sym (m ∙ ap full_fault own_line))

      module _ (room : none ≡ full_fault q'.lines) (s' : Progress) (out₂ : List ℕ) (to : ℕ) where
        fits_in : own ≡ none
        fits_in = sym (room ∙ ap full_fault own_line)

        -- no argument is rebuilt: the Call as it stands
        kept_case : q'.fresh ≡ p.fresh → InstructionWritten vs.code slot out₁ out₂ q'.to to → s' ≡ onward q' to 1 0 → Done out₂ (Ok s')
        kept_case c v o =
            let nothing : length R.fresh ≡ 0 = omega (arith, spent out (fresh_in work) dropped p R r out₁ (fresh_in work₁) puts q' z) in
            went_put out (fresh_in work) dropped p R r out₁ (fresh_in work₁) puts (piece_effect q) q.fault own fault_same q' z (instruction_bytes i) out₂ to 1 0 s' fits_in (v τ i a.ground a.line) o (call_kept S i ds g ps rs R nothing calm ∙ ap piece_effect (sym same))

        -- else it is built anew
        anew_case : (end : ℕ) → (q'.fresh ≡ p.fresh → ⊥) → end ≡ end_in vs.code.facts.now slot - place_in vs.code.facts.now slot - fields_place t → vs.list.first ≤ 1024 → CallWritten vs (record { to = q'.to; fresh = p.fresh }) end out₁ out₂ to → s' ≡ onward q' to 1 (q'.fresh - p.fresh) → Done out₂ (Ok s')
        anew_case end c he hs v o =
            let v' = subst (λ m. (rows : List ℕ) → Around vs.fields.now m (n - fields_place t) → OfListIn vs.code vs.fields.now vs.tracked.now rows p.fresh (λ τ S R. EnoughFor (vs.code.bounds.next + p.fresh) R → Writes (0 ∷ 3 ∷ with_values vs.fields.now m (n - fields_place t) R.values) out₁ out₂ q'.to to) m) hl (subst (λ j. CallWritten vs (record { to = q'.to; fresh = p.fresh }) j out₁ out₂ to) he v) in
            let around : Around vs.fields.now (call_list vs.fields.now) (n - fields_place t) = record { before = omega (arith, ap (λ (m : ValueList). m.first) hl); behind = omega (arith, short) } in
            let W : List ℕ = 0 ∷ 3 ∷ with_values vs.fields.now (call_list vs.fields.now) (n - fields_place t) R.values in
            let made : q'.fresh ≡ p.fresh + length R.fresh = spent out (fresh_in work) dropped p R r out₁ (fresh_in work₁) puts q' z in
            let many : q'.fresh - p.fresh ≡ length R.fresh = omega (arith, made) in
            let enough = fits τ S _ (vs.code.bounds.next + p.fresh) p.lines h (puts.went q' z).0 in
            went_put out (fresh_in work) dropped p R r out₁ (fresh_in work₁) puts (piece_effect q) q.fault own fault_same q' z W out₂ to 1 (length R.fresh) s' fits_in
            (v' (rows_in work) around τ S xs setting known.lies known.listed h enough)
            (o ∙ ap (onward q' to 1) many)
            (call_anew S i ds g ps rs R W (λ m. c (omega (arith, made))) (known.bytes R.values (as_many τ S (vs.code.bounds.next + p.fresh) vs.fields.now (call_list vs.fields.now).asks xs)) ∙ ap piece_effect (sym same))

  pub call_refused : (f : Fault) → r ≡ Err f → CallPut vs.code slot vs.tracked.now out work p out₁ work₁ (Err f)
  call_refused f z = λ τ S used i ds g xs ps rs dropped q a k y h. refused_case τ S used i ds g xs ps rs dropped q a k y h f z

  module _ (q' : Progress) (z : r ≡ Ok q') where
    pub call_full : (f : Fault) → some f ≡ full_fault q'.lines → CallPut vs.code slot vs.tracked.now out work p out₁ work₁ (Err f)
    call_full f m = λ τ S used i ds g xs ps rs dropped q a k y h. full_case τ S used i ds g xs ps rs dropped q a k y h q' z f m

    module _ (room : none ≡ full_fault q'.lines) (s' : Progress) (out₂ : List ℕ) (to : ℕ) where
      pub call_stayed : q'.fresh ≡ p.fresh → InstructionWritten vs.code slot out₁ out₂ q'.to to → s' ≡ onward q' to 1 0 → CallPut vs.code slot vs.tracked.now out work p out₂ work₁ (Ok s')
      call_stayed c v o = λ τ S used i ds g xs ps rs dropped q a k y h. kept_case τ S used i ds g xs ps rs dropped q a k y h q' z room s' out₂ to c v o

      pub call_built : (end : ℕ) → (q'.fresh ≡ p.fresh → ⊥) → end ≡ end_in vs.code.facts.now slot - place_in vs.code.facts.now slot - fields_place t → vs.list.first ≤ 1024 → CallWritten vs (record { to = q'.to; fresh = p.fresh }) end out₁ out₂ to → s' ≡ onward q' to 1 (q'.fresh - p.fresh) → CallPut vs.code slot vs.tracked.now out work p out₂ work₁ (Ok s')
      call_built end c he hs v o = λ τ S used i ds g xs ps rs dropped q a k y h. anew_case τ S used i ds g xs ps rs dropped q a k y h q' z room s' out₂ to end c he hs v o
