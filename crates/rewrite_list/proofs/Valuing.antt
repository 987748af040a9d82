-- The values of a list, with fresh numbers put in, one after another.
use Prim.Native.Nat.{ℕ, suc, ◌+◌, ◌*◌, ◌≤◌, ◌<◌}
use mathlib.Core.Path.{◌≡◌, refl, ap, ◌∙◌, sym}
use mathlib.Core.List.{List, [], ◌∷◌, ◌++◌, append-nil}
use mathlib.Core.Option.{Option}
use native.Mathlib.Nat.{add_assoc, add-zero}
use native.Mathlib.Numerals.{add-one}
use native.Mathlib.Omega.{arith}
use lib.ListN.{length, length-append}
use lib.Seq.{sets}
use Rattle.bytes_wire.specs.Value.{value_bytes}
use Rattle.mir.specs.declared.ValueId.{ValueId}
use Rattle.mir.specs.declared.TypeId.{TypeId}
use Rattle.mir.specs.declared.Value.{Value}
use Rattle.bytes_field.specs.Encode.{each_bytes}
use Rattle.bytes_operands.specs.Fields.{value_end}
use Rattle.bytes_emit.proofs.Sets.{sets_append}
use Rattle.mir.specs.Lookup.{Types}
use Rattle.rewrite.specs.State.{AggStates}
use Rattle.rewrite.specs.Rebuild.{Rebuilt, untouched, rebuild_value, rebuild_all}
use Rattle.rewrite_parts.specs.Rows.{ValueAt}
use Rattle.bytes_emit.specs.Written.{Writes}
use Rattle.rewrite_progress.proofs.Laws.{each_append}
use Rattle.rewrite_wanted.specs.declared.Asks.{Asks}
use Rattle.rewrite_wanted.specs.declared.Build.{Build}
use Rattle.std.specs.Prelude.{Some, Option as Answered}
use Rattle.rewrite_wanted.specs.Asked.{Setting, asked_at, asked_list, Told}
use Rattle.rewrite_list.specs.declared.values.ListedValues.{ListedValues}
use Rattle.rewrite_list.specs.declared.Written.{Written}
use Rattle.rewrite_list.specs.Lists.{Lies, ◌&◌, one_wanted, EnoughFor, OfList, WantedWritten, AllWritten}
use Rattle.rewrite_list.proofs.Joining.{joined, join_first, built, one_built}

-- what is left to write: values from number i on, which stand from `here` on
pub record Unwritten (next : ℕ) (t : List ℕ) (asks : Asks) (τ : Types) (S : AggStates) (many : ℕ) (out₀ : List ℕ) (to₀ taken₀ : ℕ) (R₀ : Rebuilt) (out : List ℕ) (to taken here i : ℕ) : Type 0 where
  pub rest : List Value
  pub lies : Lies next t here rest
  pub left : i + length rest ≡ many
  pub place : to + length (each_bytes value_bytes (rebuild_all τ S (next + taken) (asked_list τ t asks i rest)).values) ≡ to₀ + length (each_bytes value_bytes R₀.values)
  pub same : sets out to (each_bytes value_bytes (rebuild_all τ S (next + taken) (asked_list τ t asks i rest)).values) ≡ sets out₀ to₀ (each_bytes value_bytes R₀.values)
  pub number : taken + length (rebuild_all τ S (next + taken) (asked_list τ t asks i rest)).fresh ≡ taken₀ + length R₀.fresh

module _ (next : ℕ) (t : List ℕ) (asks : Asks) (τ : Types) (S : AggStates) (many : ℕ) (out₀ : List ℕ) (to₀ taken₀ : ℕ) (R₀ : Rebuilt) where
  module _ (out : List ℕ) (to taken here i : ℕ) (c : Unwritten next t asks τ S many out₀ to₀ taken₀ R₀ out to taken here i) where
    -- one more is written
    pub unwritten_again : (out' : List ℕ) (to' taken' there : ℕ) → i < many → there ≡ value_end t here → next + taken₀ + length R₀.fresh < 65536
        → ((x : Value) → ValueAt next t here x → next + taken < 65536 → Writes (each_bytes value_bytes (one_wanted τ S (next + taken) x (asked_at τ t asks i x)).values) out out' to to' × (taken' ≡ taken + length (one_wanted τ S (next + taken) x (asked_at τ t asks i x)).fresh))
        → Unwritten next t asks τ S many out₀ to₀ taken₀ R₀ out' to' taken' there (i + 1)
    unfolding asked_list
    unwritten_again out' to' taken' there h e small f = go c.rest c.lies c.left c.place c.same c.number
      where
        go : (ys : List Value) → Lies next t here ys → i + length ys ≡ many
            → to + length (each_bytes value_bytes (rebuild_all τ S (next + taken) (asked_list τ t asks i ys)).values) ≡ to₀ + length (each_bytes value_bytes R₀.values)
            → sets out to (each_bytes value_bytes (rebuild_all τ S (next + taken) (asked_list τ t asks i ys)).values) ≡ sets out₀ to₀ (each_bytes value_bytes R₀.values)
            → taken + length (rebuild_all τ S (next + taken) (asked_list τ t asks i ys)).fresh ≡ taken₀ + length R₀.fresh
            → Unwritten next t asks τ S many out₀ to₀ taken₀ R₀ out' to' taken' there (i + 1)
        go [] l m k b u = absurd (omega arith)
        go (x ∷ ys) (v & l) m k b u =
            let n = next + taken in
            let A = one_wanted τ S n x (asked_at τ t asks i x) in
            let B = rebuild_all τ S (n + length A.fresh) (asked_list τ t asks (suc i) ys) in
            let j : rebuild_all τ S n (asked_list τ t asks i (x ∷ ys)) ≡ joined A B = join_first τ S n (record { value = x; at = asked_at τ t asks i x }) (asked_list τ t asks (suc i) ys) in
            let u' : taken + length (A.fresh ++ B.fresh) ≡ taken₀ + length R₀.fresh = rw j at u in
            let g = f x v (omega (arith, u')) in
            let a = each_bytes value_bytes A.values in
            let z = each_bytes value_bytes B.values in
            let w : each_bytes value_bytes (rebuild_all τ S n (asked_list τ t asks i (x ∷ ys))).values ≡ a ++ z = ap (λ R. each_bytes value_bytes R.values) j ∙ each_append value_bytes A.values B.values in
            let same : next + taken' ≡ n + length A.fresh = ap (λ y. next + y) g.1 ∙ sym (add_assoc next taken (length A.fresh)) in
            record {
              rest = ys;
              lies = rw e l;
              left = omega arith;
              place = rw (same, add-one i) (omega (arith, k, ap length w, length-append a z, g.0.0));
              same = rw (same, add-one i) (rw (g.0.1, g.0.0) (sym (sets_append out to a z)) ∙ ap (sets out to) (sym w) ∙ b);
              number = rw (same, add-one i) (omega (arith, g.1, u', length-append A.fresh B.fresh));
            }

    -- all are written
    pub unwritten_done : many ≤ i → Writes (each_bytes value_bytes R₀.values) out₀ out to₀ to
    unfolding asked_list rebuild_all
    unwritten_done h = go c.rest c.left c.place c.same
      where
        go : (ys : List Value) → i + length ys ≡ many
            → to + length (each_bytes value_bytes (rebuild_all τ S (next + taken) (asked_list τ t asks i ys)).values) ≡ to₀ + length (each_bytes value_bytes R₀.values)
            → sets out to (each_bytes value_bytes (rebuild_all τ S (next + taken) (asked_list τ t asks i ys)).values) ≡ sets out₀ to₀ (each_bytes value_bytes R₀.values)
            → Writes (each_bytes value_bytes R₀.values) out₀ out to₀ to
        go [] m k b = (omega (arith, k), b)
        go (x ∷ ys) m k b = absurd (omega arith)

-- the loop over the values
pub record Valuing (vs : ListedValues) (out₀ : List ℕ) (w₀ : Written) (out : List ℕ) (w : Written) (here i : ℕ) : Type 0 where
  pub under : i ≤ vs.list.many
  pub bound : w.to ≤ w₀.to + 5 * i
  pub spent : w.fresh ≤ w₀.fresh + i
  pub near : here ≤ vs.list.first + 5 * i
  pub len : length out ≡ length out₀
  pub left : (rows : List ℕ) → OfList vs rows w₀.fresh (λ τ S R. EnoughFor (vs.code.bounds.next + w₀.fresh) R → Unwritten vs.code.bounds.next vs.fields.now vs.list.asks τ S vs.list.many out₀ w₀.to w₀.fresh R out w.to w.fresh here i)

module _ (vs : ListedValues) (out₀ : List ℕ) (w₀ : Written) where
  module _ (out : List ℕ) (w : Written) (here i : ℕ) (c : Valuing vs out₀ w₀ out w here i) where
    pub valuing_again : (wants : Answered Build) (out' : List ℕ) (w' : Written) (there : ℕ) → i < vs.list.many → length out' ≡ length out → (w'.to ≤ w.to + 5) × (w'.fresh ≤ w.fresh + 1) → there ≡ value_end vs.fields.now here → there ≤ here + 5
        → ((τ : Types) (S : AggStates) (rows : List ℕ) (x : Value) → Setting vs.code vs.tracked.now rows τ S → ValueAt vs.code.bounds.next vs.fields.now here x → Told τ S x (asked_at τ vs.fields.now vs.list.asks i x) wants) → WantedWritten vs.code.bounds.next vs.fields.now here wants out w out' w'
        → Valuing vs out₀ w₀ out' w' there (i + 1)
    valuing_again wants out' w' there h k p e r d f = record {
      under = omega arith;
      bound = omega (arith, c.bound, p.0);
      spent = omega (arith, c.spent, p.1);
      near = omega (arith, c.near);
      len = k ∙ c.len;
      left = λ rows τ S xs g y m b small. unwritten_again vs.code.bounds.next vs.fields.now vs.list.asks τ S vs.list.many out₀ w₀.to w₀.fresh _ out w.to w.fresh here i (c.left rows τ S xs g y m b small) out' w'.to w'.fresh there h e small (λ x v n. f τ S x (asked_at τ vs.fields.now vs.list.asks i x) (d τ S rows x g v) n v);
    }

    pub valuing_done : vs.list.many ≤ i → AllWritten vs w₀ out₀ out w.to
    valuing_done h rows τ S xs g y m b small = unwritten_done vs.code.bounds.next vs.fields.now vs.list.asks τ S vs.list.many out₀ w₀.to w₀.fresh _ out w.to w.fresh here i (c.left rows τ S xs g y m b small) h

-- one value as it stands, and one under a fresh number
pub value_stays : (R : Rebuilt) (x : Value) (out out' : List ℕ) (to to' taken : ℕ) → R ≡ untouched (x ∷ []) → Writes (value_bytes x) out out' to to' → Writes (each_bytes value_bytes R.values) out out' to to' × (taken ≡ taken + length R.fresh)
value_stays R x out out' to to' taken e w = rw (e, append-nil) (w, sym (add-zero taken))

pub value_built : (R : Rebuilt) (τ : Types) (n d : ℕ) (t : TypeId) (xs : List Value) (out out' : List ℕ) (to to' taken : ℕ) → R ≡ rebuild_value τ n t xs (untouched []) → d ≡ n → Writes (value_bytes (Value.Operand (record { 0 = d }))) out out' to to' → Writes (each_bytes value_bytes R.values) out out' to to' × (taken + 1 ≡ taken + length R.fresh)
unfolding rebuild_value
value_built R τ n d t xs out out' to to' taken e f w = rw (e, ← f) (w, refl)

pub one_valued : (τ : Types) (S : AggStates) (n : ℕ) (x : Value) (o : Option TypeId) (b : Build) (out out' : List ℕ) (to to' taken : ℕ) (d : ValueId) (w : Answered Build) → Told τ S x o w → w ≡ Some b → n < 65536 → (n < 65536 → d.0 ≡ n) → Writes (value_bytes (Value.Operand d)) out out' to to'
    → Writes (each_bytes value_bytes (rebuild_all τ S n (record { value = x; at = o } ∷ [])).values) out out' to to' × (taken + 1 ≡ taken + length (rebuild_all τ S n (record { value = x; at = o } ∷ [])).fresh)
one_valued τ S n x o b out out' to to' taken d w a e h f q =
    elim (one_built τ S n x o b a e) [ built xs y l z ↦ value_built _ τ n d.0 b.named xs out out' to to' taken z (f h) q ]
