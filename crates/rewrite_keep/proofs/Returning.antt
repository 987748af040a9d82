-- The promise of put_return_behind, from what its parts promise.
use Prim.Native.Nat.{ℕ, ◌+◌, ◌-◌, ◌≤◌, ◌<◌}
use mathlib.Core.Path.{◌≡◌, refl, ap, ◌∙◌, sym}
use mathlib.Core.List.{List}
use mathlib.Core.Option.{none}
use native.Mathlib.Omega.{arith}
use lib.ListN.{length, take, drop}
use Rattle.std.specs.Prelude.{Result, Ok, Err}
use Rattle.bytes_wire.specs.WellFormed.{Bytes}
use Rattle.bytes_wire.proofs.Canon.{bytes_drop}
use Rattle.mir.specs.declared.Value.{Value}
use Rattle.mir.specs.Syntax.{Return}
use Rattle.mir.specs.Lookup.{Types}
use Rattle.bytes_field.specs.Encode.{terminator_bytes}
use Rattle.bytes_index.specs.declared.code.Code.{Code}
use Rattle.bytes_index.specs.Table.{place_in, end_in}
use Rattle.bytes_index.specs.Code.{TerminatorIn}
use Rattle.bytes_laws.proofs.EachKind.{terminator}
use Rattle.bytes_emit.specs.Written.{Writes}
use Rattle.fold.specs.declared.Edition.{Edition}
use Rattle.fold.specs.declared.Settings.{Settings}
use Rattle.fold.specs.Family.{Marks}
use Rattle.fold.specs.Tables.{CodeGround}
use Rattle.rewrite.specs.declared.Fault.{Fault}
use Rattle.rewrite.specs.State.{AggStates}
use Rattle.rewrite.specs.Fault.{first_met}
use Rattle.rewrite.specs.Rebuild.{Rebuilt}
use Rattle.rewrite.specs.Run.{Walked, finish, returned, rebuilt_return}
use Rattle.rewrite_parts.specs.Rows.{Rep, rows_in, fresh_in}
use Rattle.rewrite_progress.specs.declared.Progress.{Progress}
use Rattle.rewrite_progress.specs.Effect.{output_of, rebuilt_effect, walked_effect, Puts}
use Rattle.rewrite_progress.proofs.Faults.{first_none}
use Rattle.rewrite_wanted.specs.Asked.{Setting}
use Rattle.rewrite_patch.specs.Chunks.{numbered}
use Rattle.rewrite_patch.specs.Returned.{Given, ReturnNumbersPut}
use Rattle.rewrite_before.specs.declared.Site.{Site}
use Rattle.rewrite_before.specs.Materialized.{onward}
use Rattle.rewrite_before.proofs.Effects.{refused_put, went_put, spent, return_effect}
use Rattle.rewrite_keep.specs.declared.Reader.{Reader}
use Rattle.rewrite_keep.specs.Keeping.{rebuilt_own, Taken, TakenIn, ReadingsPut, ReturnBehindPut}

-- a slot's Return is written as it stands
abbrev pub ReturnWritten : Code → ℕ → List ℕ → List ℕ → ℕ → ℕ → Type 0
ReturnWritten code slot out out' to r = (xs : List Value) → Given code slot xs → Writes (terminator_bytes (Return xs)) out out' to r

pub return_copied : (code : Code) (slot : ℕ) (t out out' : List ℕ) (to r : ℕ) → t ≡ take (end_in code.facts.now slot - place_in code.facts.now slot) (drop (place_in code.facts.now slot) code.bytes.now) → (length t ≤ 1024 → Writes t out out' to r) → ReturnWritten code slot out out' to r
return_copied code slot t out out' to r q w = λ xs k.
    let u = drop (place_in code.facts.now slot) code.bytes.now in
    let bs : Bytes u = bytes_drop code.bytes.now (place_in code.facts.now slot) k.bytes in
    let e = (terminator code.bounds).each u (Return xs) (end_in code.facts.now slot - place_in code.facts.now slot) bs k.line.read in
    let z : terminator_bytes (Return xs) ≡ t = e.canon.same ∙ sym q in
    rw z (w (omega (arith, ap length z, e.canon.size, e.small, k.listed)))

module _ (site : Site) (out work : List ℕ) (p : Progress) (out₁ work₁ nums : List ℕ) (r : Result Progress Fault) (u : ReadingsPut site Reader.Return out work p out₁ work₁ nums r) where
  -- what is known in each case
  module _ (σ : Settings) (τ : Types) (S : AggStates) (used : ℕ) (xs : List Value) (dropped : Marks) (w : Walked) (second : σ.edition ≡ Edition.Second) (g : CodeGround site.code τ) (a : Rep site.code.bounds.next site.code.bytes.now site.tracked.now (rows_in work) used S) (e : TerminatorIn site.code.bounds site.code.bytes.now site.code.facts.now site.slot (Return xs)) (k : w ≡ finish σ τ S (site.code.bounds.next + p.fresh) (Return xs)) (h : site.code.bounds.next + p.fresh < 65536) where
    abbrev R : Rebuilt
    R = rebuilt_own τ S (site.code.bounds.next + p.fresh) xs

    given : Given site.code site.slot xs
    given = record { bytes = g.bytes; line = e; listed = g.listed }

    setting : Setting site.code site.tracked.now (rows_in work) τ S
    setting = record { used = used; ground = g; rep = a }

    same : w ≡ returned R
    unfolding finish rebuilt_return
    same = k ∙ ap (λ e. returned (rebuilt_return e τ S (site.code.bounds.next + p.fresh) xs)) second

    fault_same : w.fault p.lines ≡ first_met (R.fault p.lines) none
    unfolding returned
    fault_same = ap (λ z. z.fault p.lines) same ∙ sym (first_none (R.fault p.lines))

    puts : Puts (output_of out (fresh_in work) dropped p) (rebuilt_effect R) R.fault out₁ (fresh_in work₁) dropped r
    puts = (u τ S xs setting given h).0 dropped

    refused_case : (f : Fault) → r ≡ Err f → Puts (output_of out (fresh_in work) dropped p) (walked_effect w) w.fault out₁ (fresh_in work₁) dropped (Err f)
    refused_case f z = refused_put out (fresh_in work) dropped p R r out₁ (fresh_in work₁) puts (walked_effect w) w.fault none fault_same f z

    made_case : (q : Progress) (out₂ out₃ : List ℕ) (to : ℕ) (s : Progress) → r ≡ Ok q → ReturnWritten site.code site.slot out₁ out₂ q.to to → ReturnNumbersPut site.code site.slot q.to nums out₂ out₃ → s ≡ onward q to 0 (q.fresh - p.fresh) → Puts (output_of out (fresh_in work) dropped p) (walked_effect w) w.fault out₃ (fresh_in work₁) dropped (Ok s)
    made_case q out₂ out₃ to s z v n o =
        let t : TakenIn xs nums R r = (u τ S xs setting given h).1 in
        let t' : Taken xs nums R = rw z at t in
        let made : q.fresh - p.fresh ≡ length R.fresh = omega (arith, spent out (fresh_in work) dropped p R r out₁ (fresh_in work₁) puts q z) in
        let W = terminator_bytes (Return (numbered xs nums)) in
        went_put out (fresh_in work) dropped p R r out₁ (fresh_in work₁) puts (walked_effect w) w.fault none fault_same q z W out₃ to 0 (length R.fresh) s refl
        (n xs out₁ to given t'.replaces (v xs given)) (o ∙ ap (onward q to 0) made)
        (return_effect R W (ap (λ ys. terminator_bytes (Return ys)) t'.made) ∙ ap walked_effect (sym same))

  pub return_refused : (f : Fault) → r ≡ Err f → ReturnBehindPut site.code site.slot site.tracked.now out work p out₁ work₁ (Err f)
  return_refused f z = λ σ τ S used xs dropped w second g a e k h. refused_case σ τ S used xs dropped w second g a e k h f z

  pub return_made : (q : Progress) (out₂ out₃ : List ℕ) (to : ℕ) (s : Progress) → r ≡ Ok q → ReturnWritten site.code site.slot out₁ out₂ q.to to → ReturnNumbersPut site.code site.slot q.to nums out₂ out₃ → s ≡ onward q to 0 (q.fresh - p.fresh) → ReturnBehindPut site.code site.slot site.tracked.now out work p out₃ work₁ (Ok s)
  return_made q out₂ out₃ to s z v n o = λ σ τ S used xs dropped w second g a e k h. made_case σ τ S used xs dropped w second g a e k h q out₂ out₃ to s z v n o
