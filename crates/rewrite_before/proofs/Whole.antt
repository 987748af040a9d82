-- The promise of put_return, from what its parts promise.
use Prim.Native.Nat.{ℕ, ◌+◌, ◌-◌, ◌<◌}
use mathlib.Core.Path.{◌≡◌, refl, ap, ◌∙◌, sym, subst}
use mathlib.Core.List.{List}
use mathlib.Core.Option.{none}
use native.Mathlib.Omega.{arith}
use lib.ListN.{length, drop}
use Rattle.bytes_wire.specs.Parse.{ok}
use Rattle.bytes_wire.specs.WellFormed.{Bytes}
use Rattle.mir.specs.declared.Value.{Value}
use Rattle.bytes_wire.proofs.Canon.{bytes_drop}
use Rattle.mir.specs.Syntax.{Return}
use Rattle.bytes_field.specs.Decode.{terminator_of}
use Rattle.bytes_index.specs.Table.{place_in, end_in}
use Rattle.bytes_index.specs.Code.{TerminatorIn}
use Rattle.mir.specs.Lookup.{Types}
use Rattle.fold.specs.declared.Edition.{Edition}
use Rattle.fold.specs.declared.Settings.{Settings}
use Rattle.fold.specs.Family.{Marks}
use Rattle.rewrite.specs.Fault.{first_met}
use Rattle.rewrite.specs.State.{AggStates}
use Rattle.rewrite.specs.Rebuild.{Rebuilt, rebuild_all}
use Rattle.rewrite.specs.Run.{Walked, finish, returned, rebuilt_return}
use Rattle.rewrite_parts.specs.Rows.{Rep, rows_in, fresh_in}
use Rattle.bytes_emit.specs.Written.{Writes}
use Rattle.rewrite_progress.specs.declared.Progress.{Progress}
use Rattle.std.specs.Prelude.{Result, Ok, Err}
use Rattle.rewrite.specs.declared.Fault.{Fault}
use Rattle.fold.specs.Tables.{CodeGround}
use Rattle.rewrite_progress.specs.Effect.{output_of, rebuilt_effect, walked_effect, Puts}
use Rattle.rewrite_wanted.specs.declared.Asks.{Asks}
use Rattle.rewrite_wanted.specs.Asked.{Setting, asked_list}
use Rattle.rewrite_list.specs.declared.values.ListedValues.{ListedValues}
use Rattle.rewrite_list.specs.Lists.{Lies, EnoughFor, OfListIn, BuildsPut, AllPut}
use Rattle.rewrite_progress.proofs.Faults.{first_none}
use Rattle.rewrite_list.proofs.Numbers.{fits}
use Rattle.rewrite_before.specs.Materialized.{onward, return_list, with_values, Around, AnewWritten, ReturnPut}
use Rattle.rewrite_before.proofs.Returning.{asked_returns, return_many, return_around, return_bytes, return_lies}
use Rattle.rewrite_before.proofs.Effects.{refused_put, went_put, spent, as_many, return_effect}

module _ (vs : ListedValues) (slot : ℕ) (out work : List ℕ) (p : Progress) (there : vs.fields.now ≡ drop (place_in vs.code.facts.now slot) vs.code.bytes.now) (hl : vs.list ≡ return_list vs.fields.now) (r : Result Progress Fault) (out₁ work₁ : List ℕ) (u : AllPut vs out work p out₁ work₁ r) where
  -- what is known in each case
  module _ (σ : Settings) (τ : Types) (S : AggStates) (used : ℕ) (xs : List Value) (dropped : Marks) (w : Walked) (first : σ.edition ≡ Edition.First) (g : CodeGround vs.code τ) (a : Rep vs.code.bounds.next vs.code.bytes.now vs.tracked.now (rows_in work) used S) (e : TerminatorIn vs.code.bounds vs.code.bytes.now vs.code.facts.now slot (Return xs)) (k : w ≡ finish σ τ S (vs.code.bounds.next + p.fresh) (Return xs)) (h : vs.code.bounds.next + p.fresh < 65536) where
    abbrev R : Rebuilt
    R = rebuild_all τ S (vs.code.bounds.next + p.fresh) (asked_list τ vs.fields.now Asks.Recorded 0 xs)

    same : w ≡ returned R
    unfolding finish rebuilt_return
    same = k ∙ ap (λ e. returned (rebuilt_return e τ S (vs.code.bounds.next + p.fresh) xs)) first ∙ ap (λ ws. returned (rebuild_all τ S (vs.code.bounds.next + p.fresh) ws)) (sym (asked_returns τ vs.fields.now 0 xs))

    fault_same : w.fault p.lines ≡ first_met (R.fault p.lines) none
    unfolding returned
    fault_same = ap (λ z. z.fault p.lines) same ∙ sym (first_none (R.fault p.lines))

    bs : Bytes vs.fields.now
    bs = rw there (bytes_drop vs.code.bytes.now (place_in vs.code.facts.now slot) g.bytes)

    te : terminator_of vs.code.bounds vs.fields.now ≡ ok (Return xs) (end_in vs.code.facts.now slot - place_in vs.code.facts.now slot)
    te = ap (terminator_of vs.code.bounds) there ∙ e.read

    setting : Setting vs.code vs.tracked.now (rows_in work) τ S
    setting = record { used = used; ground = g; rep = a }

    lie : Lies vs.code.bounds.next vs.fields.now 2 xs
    lie = return_lies vs.code.bounds vs.fields.now xs _ bs te

    long : length xs ≡ (return_list vs.fields.now).many
    long = sym (return_many vs.code.bounds vs.fields.now xs _ bs te)

    puts : Puts (output_of out (fresh_in work) dropped p) (rebuilt_effect R) R.fault out₁ (fresh_in work₁) dropped r
    puts = subst (OfListIn vs.code vs.fields.now vs.tracked.now (rows_in work) p.fresh (λ τ S R. BuildsPut R out work p out₁ work₁ r)) hl u τ S xs setting lie long h dropped

    refused_case : (f : Fault) → r ≡ Err f → Puts (output_of out (fresh_in work) dropped p) (walked_effect w) w.fault out₁ (fresh_in work₁) dropped (Err f)
    refused_case f z = refused_put out (fresh_in work) dropped p R r out₁ (fresh_in work₁) puts (walked_effect w) w.fault none fault_same f z

    went_case : (q s' : Progress) (out₂ : List ℕ) (to : ℕ) → r ≡ Ok q → AnewWritten vs (record { to = q.to; fresh = p.fresh }) 0 out₁ out₂ to → s' ≡ onward q to 0 (q.fresh - p.fresh) → Puts (output_of out (fresh_in work) dropped p) (walked_effect w) w.fault out₂ (fresh_in work₁) dropped (Ok s')
    went_case q s' out₂ to z v o =
        let v' = subst (λ m. (rows : List ℕ) → Around vs.fields.now m 0 → OfListIn vs.code vs.fields.now vs.tracked.now rows p.fresh (λ τ S R. EnoughFor (vs.code.bounds.next + p.fresh) R → Writes (with_values vs.fields.now m 0 R.values) out₁ out₂ q.to to) m) hl v in
        let made : q.fresh - p.fresh ≡ length R.fresh = omega (arith, spent out (fresh_in work) dropped p R r out₁ (fresh_in work₁) puts q z) in
        let enough = fits τ S _ (vs.code.bounds.next + p.fresh) p.lines h (puts.went q z).0 in
        let W = with_values vs.fields.now (return_list vs.fields.now) 0 R.values in
        went_put out (fresh_in work) dropped p R r out₁ (fresh_in work₁) puts (walked_effect w) w.fault none fault_same q z W out₂ to 0 (length R.fresh) s' refl
        (v' (rows_in work) (return_around vs.code.bounds vs.fields.now xs _ bs te) τ S xs setting lie long h enough)
        (o ∙ ap (onward q to 0) made)
        (return_effect R W (return_bytes vs.code.bounds vs.fields.now xs _ bs te R.values (as_many τ S (vs.code.bounds.next + p.fresh) vs.fields.now Asks.Recorded xs)) ∙ ap walked_effect (sym same))

  pub return_refused : (f : Fault) → r ≡ Err f → ReturnPut vs.code slot vs.tracked.now out work p out₁ work₁ (Err f)
  return_refused f z = λ σ τ S used xs dropped w first g a e k h. refused_case σ τ S used xs dropped w first g a e k h f z

  pub return_went : (q s' : Progress) (out₂ : List ℕ) (to : ℕ) → r ≡ Ok q → AnewWritten vs (record { to = q.to; fresh = p.fresh }) 0 out₁ out₂ to → s' ≡ onward q to 0 (q.fresh - p.fresh) → ReturnPut vs.code slot vs.tracked.now out work p out₂ work₁ (Ok s')
  return_went q s' out₂ to z v o = λ σ τ S used xs dropped w first g a e k h. went_case σ τ S used xs dropped w first g a e k h q s' out₂ to z v o
