-- The promise of put_store, from what its parts promise.
use Prim.Native.Nat.{ℕ, ◌+◌, ◌-◌, ◌≤◌, ◌<◌}
use mathlib.Core.Path.{◌≡◌, refl, ap, ◌∙◌, sym, subst}
use mathlib.Core.List.{List, [], ◌∷◌}
use mathlib.Core.Bool.{false}
use mathlib.Core.Option.{Option, none, some}
use native.Mathlib.Omega.{arith}
use lib.ListN.{length, take, drop}
use Rattle.bytes_wire.specs.Parse.{ok}
use Rattle.bytes_wire.specs.WellFormed.{Bytes}
use Rattle.mir.specs.declared.TypeId.{TypeId}
use Rattle.mir.specs.declared.Value.{Value}
use Rattle.bytes_wire.proofs.Canon.{bytes_drop}
use Rattle.mir.specs.Syntax.{Place, Instruction, Store}
use Rattle.bytes_field.specs.Decode.{instruction_of}
use Rattle.bytes_field.specs.Encode.{instruction_bytes}
use Rattle.bytes_index.specs.Table.{place_in, end_in}
use Rattle.bytes_operands.specs.Fields.{value_end, after}
use Rattle.bytes_laws.proofs.Instruction.{instruction_size}
use Rattle.mir.specs.Lookup.{Types, on_some}
use Rattle.fold.specs.Family.{Marks}
use Rattle.rewrite.specs.Fault.{first_met, full_fault}
use Rattle.rewrite.specs.State.{AggStates, state_of}
use Rattle.rewrite.specs.Rebuild.{Rebuilt, rebuild_all, aggregate_type}
use Rattle.rewrite.specs.Piece.{Piece}
use Rattle.rewrite.specs.Stays.{store_kept}
use Rattle.rewrite_parts.specs.Rows.{rows_in, fresh_in}
use Rattle.rewrite_parts.specs.Here.{Here}
use Rattle.bytes_emit.specs.Written.{Writes}
use Rattle.rewrite_progress.specs.declared.Progress.{Progress}
use Rattle.std.specs.Prelude.{Result, Ok, Err}
use Rattle.rewrite.specs.declared.Fault.{Fault}
use Rattle.rewrite_progress.specs.Effect.{output_of, rebuilt_effect, piece_effect, Puts}
use Rattle.rewrite_wanted.specs.declared.Asks.{Asks}
use Rattle.rewrite_wanted.specs.Asked.{Setting, asked_at, asked_list}
use Rattle.rewrite_list.specs.declared.values.ListedValues.{ListedValues}
use Rattle.rewrite_list.specs.Lists.{EnoughFor, OfListIn, BuildsPut, AllPut}
use Rattle.rewrite_list.proofs.Numbers.{fits}
use Rattle.rewrite_before.specs.Materialized.{onward, store_first, store_list, list_end, with_values, Around, AnewWritten, InstructionWritten, StorePut}
use Rattle.rewrite_before.proofs.Standing.{StoreKnown, store_known}
use Rattle.rewrite_before.proofs.Effects.{refused_put, full_put, went_put, spent, lined, StoreCase, store_case, store_fault, store_kept_lem, store_built}

one_listed : (τ : Types) (t : List ℕ) (a : Asks) (x : Value) → asked_list τ t a 0 (x ∷ []) ≡ record { value = x; at = asked_at τ t a 0 x } ∷ []
unfolding asked_list
one_listed τ t a x = refl

module _ (vs : ListedValues) (slot : ℕ) (out work : List ℕ) (p : Progress)
    (there : vs.fields.now ≡ drop (place_in vs.code.facts.now slot) vs.code.bytes.now) (hl : vs.list ≡ store_list vs.fields.now)
    (r : Result Progress Fault) (out₁ work₁ : List ℕ) (u : AllPut vs out work p out₁ work₁ r) where
  -- what is known in each case
  module _ (τ : Types) (S : AggStates) (used : ℕ) (i : Instruction) (to' : Place) (x : Value) (ty : TypeId) (dropped : Marks) (q : Piece) (a : Here vs.code.bounds vs.code.bytes.now vs.code.facts.now slot vs.tracked.now (rows_in work) used τ S i) (k : i.kind ≡ Store to' x ty)
      (y : q ≡ store_kept τ S (vs.code.bounds.next + p.fresh) i to' x ty (on_some (aggregate_type τ ty) (λ u. state_of S x))) (h : vs.code.bounds.next + p.fresh < 65536) where
    abbrev n : ℕ
    n = end_in vs.code.facts.now slot - place_in vs.code.facts.now slot

    abbrev R : Rebuilt
    R = rebuild_all τ S (vs.code.bounds.next + p.fresh) (asked_list τ vs.fields.now (store_list vs.fields.now).asks 0 (x ∷ []))

    bs : Bytes vs.fields.now
    bs = rw there (bytes_drop vs.code.bytes.now (place_in vs.code.facts.now slot) a.ground.bytes)

    te : instruction_of vs.code.bounds [] false vs.fields.now ≡ ok i n
    te = ap (instruction_of vs.code.bounds [] false) there ∙ a.line.read

    known : StoreKnown vs.code.bounds.next n vs.fields.now i to' x ty (store_first vs.fields.now) (value_end vs.fields.now (store_first vs.fields.now))
    known = store_known vs.code.bounds vs.fields.now i n bs te to' x ty k

    cases : StoreCase S i to' x ty R q
    cases =
        let w : asked_list τ vs.fields.now (store_list vs.fields.now).asks 0 (x ∷ []) ≡ record { value = x; at = aggregate_type τ ty } ∷ [] = one_listed τ vs.fields.now (store_list vs.fields.now).asks x ∙ ap (λ o. record { value = x; at = o } ∷ []) (known.asked τ) in
        rw (w, y) (store_case τ S (vs.code.bounds.next + p.fresh) i to' x ty)

    -- the Store's own line, behind the builds
    abbrev own : Option Fault
    own = full_fault (p.lines + length R.before)

    fault_same : q.fault p.lines ≡ first_met (R.fault p.lines) own
    fault_same = store_fault S i to' x ty R q cases p.lines

    setting : Setting vs.code vs.tracked.now (rows_in work) τ S
    setting = record { used = used; ground = a.ground; rep = a.rep }

    puts : Puts (output_of out (fresh_in work) dropped p) (rebuilt_effect R) R.fault out₁ (fresh_in work₁) dropped r
    puts = subst (OfListIn vs.code vs.fields.now vs.tracked.now (rows_in work) p.fresh (λ τ S R. BuildsPut R out work p out₁ work₁ r)) hl u τ S (x ∷ []) setting known.lies refl h dropped

    short : n ≤ 268
    short = instruction_size vs.code.bounds [] false vs.fields.now bs te a.ground.listed a.ground.projected

    abbrev Done : List ℕ → Result Progress Fault → Type 0
    Done out₂ s = Puts (output_of out (fresh_in work) dropped p) (piece_effect q) q.fault out₂ (fresh_in work₁) dropped s

    refused_case : (f : Fault) → r ≡ Err f → Done out₁ (Err f)
    refused_case f z = refused_put out (fresh_in work) dropped p R r out₁ (fresh_in work₁) puts (piece_effect q) q.fault own fault_same f z

    module _ (q' : Progress) (z : r ≡ Ok q') where
      own_line : q'.lines ≡ p.lines + length R.before
      own_line = lined out (fresh_in work) dropped p R r out₁ (fresh_in work₁) puts q' z

      full_case : (f : Fault) → some f ≡ full_fault q'.lines → Done out₁ (Err f)
      full_case f m = full_put out (fresh_in work) dropped p R r out₁ (fresh_in work₁) puts (piece_effect q) q.fault own fault_same q' z f (sym (m ∙ ap full_fault own_line))

      module _ (room : none ≡ full_fault q'.lines) (s' : Progress) (out₂ : List ℕ) (to : ℕ) where
        fits_in : own ≡ none
        fits_in = sym (room ∙ ap full_fault own_line)

        -- nothing is rebuilt: the Store as it stands
        kept_case : q'.fresh ≡ p.fresh → InstructionWritten vs.code slot out₁ out₂ q'.to to → s' ≡ onward q' to 1 0 → Done out₂ (Ok s')
        kept_case c v o =
            let nothing : length R.fresh ≡ 0 = omega (arith, spent out (fresh_in work) dropped p R r out₁ (fresh_in work₁) puts q' z) in
            went_put out (fresh_in work) dropped p R r out₁ (fresh_in work₁) puts (piece_effect q) q.fault own fault_same q' z (instruction_bytes i) out₂ to 1 0 s' fits_in (v τ i a.ground a.line) o (store_kept_lem S i to' x ty R q cases nothing)

        -- else its value is a fresh number
        anew_case : (end : ℕ) → (q'.fresh ≡ p.fresh → ⊥) → end ≡ end_in vs.code.facts.now slot - place_in vs.code.facts.now slot → AnewWritten vs (record { to = q'.to; fresh = p.fresh }) end out₁ out₂ to → s' ≡ onward q' to 1 0 → Done out₂ (Ok s')
        unfolding after
        anew_case end c he v o =
            let v' = subst (λ m. (rows : List ℕ) → Around vs.fields.now m n → OfListIn vs.code vs.fields.now vs.tracked.now rows p.fresh (λ τ S R. EnoughFor (vs.code.bounds.next + p.fresh) R → Writes (with_values vs.fields.now m n R.values) out₁ out₂ q'.to to) m) hl (subst (λ j. AnewWritten vs (record { to = q'.to; fresh = p.fresh }) j out₁ out₂ to) he v) in
            let around : Around vs.fields.now (store_list vs.fields.now) n = record { before = omega (arith, known.near, short); behind = omega (arith, short) } in
            let W = with_values vs.fields.now (store_list vs.fields.now) n R.values in
            let made : q'.fresh ≡ p.fresh + length R.fresh = spent out (fresh_in work) dropped p R r out₁ (fresh_in work₁) puts q' z in
            let enough = fits τ S _ (vs.code.bounds.next + p.fresh) p.lines h (puts.went q' z).0 in
            went_put out (fresh_in work) dropped p R r out₁ (fresh_in work₁) puts (piece_effect q) q.fault own fault_same q' z W out₂ to 1 0 s' fits_in
            (v' (rows_in work) around τ S (x ∷ []) setting known.lies refl h enough)
            o
            (store_built S i to' x ty R q cases W (take (store_first vs.fields.now) vs.fields.now) (take (n - list_end vs.fields.now (store_list vs.fields.now)) (drop (list_end vs.fields.now (store_list vs.fields.now)) vs.fields.now)) (λ m. c (omega (arith, made))) refl known.bytes)

  pub store_refused : (f : Fault) → r ≡ Err f → StorePut vs.code slot vs.tracked.now out work p out₁ work₁ (Err f)
  store_refused f z = λ τ S used i to' x ty dropped q a k y h. refused_case τ S used i to' x ty dropped q a k y h f z

  module _ (q' : Progress) (z : r ≡ Ok q') where
    pub store_full : (f : Fault) → some f ≡ full_fault q'.lines → StorePut vs.code slot vs.tracked.now out work p out₁ work₁ (Err f)
    store_full f m = λ τ S used i to' x ty dropped q a k y h. full_case τ S used i to' x ty dropped q a k y h q' z f m

    module _ (room : none ≡ full_fault q'.lines) (s' : Progress) (out₂ : List ℕ) (to : ℕ) where
      pub store_stayed : q'.fresh ≡ p.fresh → InstructionWritten vs.code slot out₁ out₂ q'.to to → s' ≡ onward q' to 1 0 → StorePut vs.code slot vs.tracked.now out work p out₂ work₁ (Ok s')
      store_stayed c v o = λ τ S used i to' x ty dropped q a k y h. kept_case τ S used i to' x ty dropped q a k y h q' z room s' out₂ to c v o

      pub store_made : (end : ℕ) → (q'.fresh ≡ p.fresh → ⊥) → end ≡ end_in vs.code.facts.now slot - place_in vs.code.facts.now slot → AnewWritten vs (record { to = q'.to; fresh = p.fresh }) end out₁ out₂ to → s' ≡ onward q' to 1 0 → StorePut vs.code slot vs.tracked.now out work p out₂ work₁ (Ok s')
      store_made end c he v o = λ τ S used i to' x ty dropped q a k y h. anew_case τ S used i to' x ty dropped q a k y h q' z room s' out₂ to end c he v o
