-- What stands behind the sizes: one part behind another.
use Prim.Native.Nat.{ℕ, zero, suc, ◌+◌, ◌-◌, ◌≤◌, ◌<◌}
use mathlib.Core.Path.{◌≡◌, refl, ap, ◌∙◌, sym}
use mathlib.Core.List.{List, ◌∷◌}
use mathlib.Core.Bool.{Bool, false}
use mathlib.Core.Option.{Option}
use native.Mathlib.Nat.{add-zero, sub-zero}
use native.Mathlib.Omega.{arith}
use borrow.Author.Tests.{eq-eqb, ne_eqb}
use lib.ListN.{length, take, drop, replicate, length-drop}
use lib.Seq.{drop-drop}
use Rattle.std.specs.Prelude.{Result, Ok, Err}
use Rattle.bytes_wire.specs.declared.Refusal.{Refusal}
use Rattle.bytes_wire.specs.Parse.{Parse, ok, bad, later, and_then, map_parse}
use Rattle.bytes_wire.specs.declared.Cause.{Cause}
use Rattle.mir.specs.declared.BlockId.{BlockId}
use Rattle.mir.specs.declared.TypeId.{TypeId}
use Rattle.mir.specs.declared.ValueId.{ValueId}
use Rattle.std.proofs.lemmas.List.{take_rest}
use Rattle.bytes_wire.proofs.Laws.{Behind, Passed, size, map_later, later_later, told, told_size}
use Rattle.bytes_wire.proofs.Inv.{behind, image, later_inv, map_inv, map_bad}
use Rattle.mir.specs.Syntax.{Block}
use Rattle.bytes_field.specs.Decode.{defineds_of}
use Rattle.bytes_field.specs.Walk.{as_part, unit}
use Rattle.bytes_field.specs.declared.Bounds.{Bounds}
use Rattle.bytes_block.specs.Decode.{marks}
use Rattle.bytes_index.specs.Table.{recorded_in}
use Rattle.bytes_block.specs.Rows.{Kept}
use Rattle.bytes_block.proofs.Filling.{kept_through}
use Rattle.mir.specs.MirType.{MirType}
use Rattle.mir.specs.Routine.{Routine}
use Rattle.bytes_sections.specs.Decode.{mosts, map_of, recorded_of, blocks_of, bounds_of, body_of, ended}
use Rattle.bytes_sections.specs.Index.{RecordedAt, RecordedRead, ParametersRead, BlocksFilled, BlocksRead}
use Rattle.bytes_sections.specs.Facts.{sizes_from, BodyRead}
use Rattle.bytes_sections.proofs.Laws.{refused, refusal, part_bad, part_some}
use Rattle.bytes_sections.proofs.Map.{size_map_of, map_bytes, same_types}
use Rattle.bytes_sections.proofs.Recording.{size_recorded, recorded_length, recorded_kept}
use Rattle.bytes_sections.proofs.Parameters.{size_parameters}
use Rattle.bytes_sections.proofs.Coding.{size_blocks, blocks_length}

-- no value is defined
abbrev pub clear : Bounds → List Bool
clear b = replicate b.next false

-- an answer of the parameters reaches no further than the bytes do
pub parameters_size : (b : Bounds) (s : List ℕ) (at : ℕ) {before seen : List Bool} {r r' : Result ℕ Refusal} → at ≤ length s → ParametersRead b (take (length s - at) (drop at s)) (as_part r) before seen → r ≡ r' → at + size (as_part r') ≤ length s
parameters_size b s at {before} h p g = told_size as_part (λ t. map_parse unit (defineds_of b.list b.next before t)) at s (size_parameters b before) h p.answers g

-- the parameters are read
pub record Marked (b : Bounds) (s : List ℕ) (at k : ℕ) (seen : List Bool) : Type 0 where
  pub names : List ValueId
  pub read : defineds_of b.list b.next (clear b) (drop at s) ≡ ok names k
  pub marking : seen ≡ marks (clear b) names
  pub in_s : at + k ≤ length s

-- so the code tells
pub marked : (b : Bounds) (s : List ℕ) (at : ℕ) {k : ℕ} {before seen : List Bool} {r : Result ℕ Refusal} → at ≤ length s → before ≡ clear b → ParametersRead b (take (length s - at) (drop at s)) (as_part r) before seen → r ≡ Ok k → Marked b s at k seen
marked b s at {k} {before} {seen} {r} h f p g =
    let d = defineds_of b.list b.next before (drop at s) in
    let q = rw (take_rest s at) at p in
    elim (map_inv unit d (sym q.answers ∙ ap as_part g)) [
      | image ps e i ↦
          record {
            names = ps;
            read = ap (λ x. defineds_of b.list b.next x (drop at s)) (sym f) ∙ e;
            marking = q.marking ps k e ∙ ap (λ x. marks x ps) f;
            in_s = parameters_size b s at h p g;
          }
    ]

-- an answer of the map reaches no further than the bytes do
pub map_size : (next : ℕ) (s : List ℕ) (at : ℕ) {r r' : Result ℕ Refusal} → at ≤ length s → as_part r ≡ map_parse unit (map_of next (take (length s - at) (drop at s))) → r ≡ r' → at + size (as_part r') ≤ length s
map_size next s at h p g = told_size as_part (λ t. map_parse unit (map_of next t)) at s (size_map_of next) h p g

-- the map is read
pub record Mapped (next : ℕ) (s : List ℕ) (at k : ℕ) : Type 0 where
  pub bits : List ℕ
  pub read : map_of next (drop at s) ≡ ok bits k
  pub in_s : at + k ≤ length s

-- so the code tells
pub mapped : (next : ℕ) (s : List ℕ) (at : ℕ) {k : ℕ} {r : Result ℕ Refusal} → at ≤ length s → as_part r ≡ map_parse unit (map_of next (take (length s - at) (drop at s))) → r ≡ Ok k → Mapped next s at k
mapped next s at {k} {r} h p g =
    elim (map_inv unit (map_of next (drop at s)) (told as_part (λ t. map_parse unit (map_of next t)) at s p g)) [
      | image bits e i ↦ record { bits = bits; read = e; in_s = map_size next s at h p g }
    ]

-- the recorded types are read, from behind their map
pub record Typed (types next : ℕ) (s bits : List ℕ) (at end : ℕ) (before facts : List ℕ) : Type 0 where
  pub found : List (Option TypeId)
  pub took : ℕ
  pub read : recorded_of types bits 0 next (drop at s) ≡ ok found took
  pub end_is : end ≡ at + took
  pub kept : Kept 65 before facts
  pub stored : RecordedAt (recorded_in facts) found
  pub in_s : end ≤ length s

-- the definition looks at the map that was read, the code at the bytes
by_bytes : (types next : ℕ) (s : List ℕ) (map k at : ℕ) (u : Mapped next s map k) → recorded_of types u.bits 0 next (drop at s) ≡ recorded_of types (drop map s) 0 next (drop at s)
by_bytes types next s map k at u = same_types types next (drop map s) u.bits (map_bytes next (drop map s) u.read) next 0 (drop at s) (omega arith)

-- so the code tells, where the map is read
pub typed : (types next : ℕ) (s : List ℕ) (map at : ℕ) {end k : ℕ} {before facts : List ℕ} {r : Result ℕ Refusal} (u : Mapped next s map k) → at ≤ length s → RecordedRead types (drop map s) next at s (as_part r) before facts → r ≡ Ok end → Typed types next s u.bits at end before facts
typed types next s map at {end} {k} {before} {facts} {r} u h p g =
    let d = recorded_of types (drop map s) 0 next (drop at s) in
    let q : ok tt end ≡ later at (map_parse unit (recorded_of types (drop map s) 0 next (drop at s))) = sym (ap as_part g) ∙ p.answers in
    elim (later_inv at (map_parse unit d) (sym q)) [
      | behind n e f ↦
          elim (map_inv unit d e) [
            | image rs i j ↦
                record {
                  found = rs;
                  took = n;
                  read = by_bytes types next s map k at u ∙ i;
                  end_is = f;
                  kept = p.kept rs n i;
                  stored = p.numbers rs n i;
                  in_s = omega (arith, ap (λ x. size x) i, size_recorded types (drop map s) 0 next (drop at s), length-drop at s);
                }
          ]
    ]

-- the blocks are read
pub record Coded (b : Bounds) (s : List ℕ) (names : List ValueId) (at end : ℕ) (before facts : List ℕ) : Type 0 where
  pub found : List Block
  pub took : ℕ
  pub read : blocks_of mosts b 0 (marks (clear b) names) b.blocks (drop at s) ≡ ok found took
  pub end_is : end ≡ at + took
  pub filled : BlocksFilled b s before facts found
  pub in_s : end ≤ length s

-- so the code tells, where the parameters are read
pub coded : (b : Bounds) (s : List ℕ) (at : ℕ) {end k from : ℕ} {seen : List Bool} {before facts : List ℕ} {r : Result ℕ Refusal} (u : Marked b s from k seen) → at ≤ length s → BlocksRead b at s seen (as_part r) before facts → r ≡ Ok end → Coded b s u.names at end before facts
coded b s at {end} {k} {from} {seen} {before} {facts} {r} u h p g =
    let d = blocks_of mosts b 0 seen b.blocks (drop at s) in
    let q : ok tt end ≡ later at (map_parse unit (blocks_of mosts b 0 seen b.blocks (drop at s))) = sym (ap as_part g) ∙ p.answers in
    elim (later_inv at (map_parse unit d) (sym q)) [
      | behind n e f ↦
          elim (map_inv unit d e) [
            | image xs i j ↦
                record {
                  found = xs;
                  took = n;
                  read = ap (λ x. blocks_of mosts b 0 x b.blocks (drop at s)) (sym u.marking) ∙ i;
                  end_is = f;
                  filled = p.filled xs n i;
                  in_s = omega (arith, ap (λ x. size x) i, size_blocks mosts b 0 seen b.blocks (drop at s), length-drop at s);
                }
          ]
    ]

-- what is left to read, from the end backwards
module _ (b : Bounds) (entry : BlockId) (ts : List MirType) where
  -- the routine of these parts
  abbrev made_of : List ValueId → List (Option TypeId) → List Block → Routine
  made_of ps rs ks = record { types = ts; next = b.next; entry = entry; parameters = ps; recorded = rs; blocks = ks }

  -- the blocks are left
  abbrev code_left : List ValueId → List (Option TypeId) → List ℕ → Parse Routine
  code_left ps rs s = map_parse (made_of ps rs) (blocks_of mosts b 0 (marks (clear b) ps) b.blocks s)

  -- the recorded types, and they
  abbrev types_left : List ValueId → List ℕ → List ℕ → Parse Routine
  types_left ps bits s = and_then s (recorded_of b.types bits 0 b.next s) (λ rs s. code_left ps rs s)

  -- the map, and these
  abbrev map_left : List ValueId → List ℕ → Parse Routine
  map_left ps s = and_then s (map_of b.next s) (λ bits s. types_left ps bits s)

  -- the parameters, and these
  abbrev body_left : List ℕ → Parse Routine
  body_left s = and_then s (defineds_of b.list b.next (clear b) s) (λ ps s. map_left ps s)

  -- where the bounds are those of the definition, that is the definition's body
  body_left_lem : (s : List ℕ) → b ≡ bounds_of mosts (length ts) b.next b.blocks → body_of mosts ts (sizes_from b entry) s ≡ body_left s
  unfolding body_of
  body_left_lem s h = rw h

-- the answer of what is left from a place on, and of the end
abbrev ending : List ℕ → ℕ → (List ℕ → Parse Routine) → Parse (Unit {0})
ending s at f = later at (map_parse unit (and_then (drop at s) (f (drop at s)) (λ r t. ended r t)))

module _ (b : Bounds) (s : List ℕ) (at : ℕ) where
  -- a refusal finds nothing
  body_bad : {q : Result Bounds Refusal} {e : Refusal} {before facts : List ℕ} → q ≡ Err e → ((entry : BlockId) (ts : List MirType) → bad e.cause e.offset ≡ ending s at (body_left b entry ts)) → BodyRead b at s q before facts
  body_bad y f = rw y
      (record {
        bounds = λ l e. absurd (let z : ◌≡◌ {A = ℕ} 0 1 = cc in omega arith);
        answers = λ entry ts h. f entry ts ∙ ap (λ d. later at (map_parse unit (and_then (drop at s) d (λ r t. ended r t)))) (sym (body_left_lem b entry ts (drop at s) h));
        found = λ entry ts l r n h e g. absurd (let z : ◌≡◌ {A = ℕ} 0 1 = cc in omega arith);
      })

  -- the parameters are refused
  pub body_parameters : {facts facts' : List ℕ} {before seen : List Bool} {r : Result ℕ Refusal} {a : Result Bounds Refusal} → before ≡ clear b → ParametersRead b (take (length s - at) (drop at s)) (as_part r) before seen → Behind at r a → BodyRead b at s a facts facts'
  body_parameters {before = before} f p (e, (g, y)) =
      let d = defineds_of b.list b.next (clear b) (drop at s) in
      let q = rw f at (told as_part (λ t. map_parse unit (defineds_of b.list b.next before t)) at s p.answers g) in
      body_bad y (λ entry ts. part_bad s at (defineds_of b.list b.next (clear b)) (λ ps t. map_left b entry ts ps t) (λ r t. ended r t) (map_bad unit d q))

  module _ {k : ℕ} {seen : List Bool} (u : Marked b s at k seen) where
    -- the parameters are passed
    after_parameters : (entry : BlockId) (ts : List MirType) → ending s at (body_left b entry ts) ≡ ending s (at + k) (map_left b entry ts u.names)
    after_parameters entry ts = part_some s at (defineds_of b.list b.next (clear b)) (λ ps t. map_left b entry ts ps t) (λ r t. ended r t) u.read

    -- the map is refused
    pub body_map : {facts facts' : List ℕ} {r : Result ℕ Refusal} {a : Result Bounds Refusal} → as_part r ≡ map_parse unit (map_of b.next (take (length s - (at + k)) (drop (at + k) s))) → Behind (at + k) r a → BodyRead b at s a facts facts'
    body_map p (e, (g, y)) =
        let q = told as_part (λ t. map_parse unit (map_of b.next t)) (at + k) s p g in
        body_bad y (λ entry ts. part_bad s (at + k) (map_of b.next) (λ bits t. types_left b entry ts u.names bits t) (λ r t. ended r t) (map_bad unit (map_of b.next (drop (at + k) s)) q) ∙ sym (after_parameters entry ts))

    module _ {j : ℕ} (v : Mapped b.next s (at + k) j) where
      -- the map is passed
      after_map : (entry : BlockId) (ts : List MirType) → ending s at (body_left b entry ts) ≡ ending s (at + k + j) (types_left b entry ts u.names v.bits)
      after_map entry ts = after_parameters entry ts ∙ part_some s (at + k) (map_of b.next) (λ bits t. types_left b entry ts u.names bits t) (λ r t. ended r t) v.read

      -- the recorded types are refused
      pub body_types : {before facts facts' : List ℕ} {r : Result ℕ Refusal} {a : Result Bounds Refusal} → RecordedRead b.types (drop (at + k) s) b.next (at + k + j) s (as_part r) before facts → Passed r a → BodyRead b at s a before facts'
      body_types p (x, (g, y)) =
          elim (refusal (at + k + j) (recorded_of b.types (drop (at + k) s) 0 b.next (drop (at + k + j) s)) (sym (ap as_part g) ∙ p.answers)) [
            | refused i e f ↦
                body_bad y (λ entry ts. ap (bad x.cause) f ∙ part_bad s (at + k + j) (recorded_of b.types v.bits 0 b.next) (λ rs t. code_left b entry ts u.names rs t) (λ r t. ended r t) (by_bytes b.types b.next s (at + k) j (at + k + j) v ∙ e) ∙ sym (after_map entry ts))
          ]

      module _ {code : ℕ} {before middle : List ℕ} (w : Typed b.types b.next s v.bits (at + k + j) code before middle) where
        -- the recorded types are passed
        after_types : (entry : BlockId) (ts : List MirType) → ending s at (body_left b entry ts) ≡ ending s code (code_left b entry ts u.names w.found)
        after_types entry ts = after_map entry ts ∙ part_some s (at + k + j) (recorded_of b.types v.bits 0 b.next) (λ rs t. code_left b entry ts u.names rs t) (λ r t. ended r t) w.read ∙ rw (← w.end_is)

        -- the blocks are refused
        pub body_code : {facts : List ℕ} {r : Result ℕ Refusal} {a : Result Bounds Refusal} → BlocksRead b code s seen (as_part r) middle facts → Passed r a → BodyRead b at s a before facts
        body_code p (x, (g, y)) =
            elim (refusal code (blocks_of mosts b 0 seen b.blocks (drop code s)) (sym (ap as_part g) ∙ p.answers)) [
              | refused i e f ↦
                  let q : blocks_of mosts b 0 (marks (clear b) u.names) b.blocks (drop code s) ≡ bad x.cause i = ap (λ x. blocks_of mosts b 0 x b.blocks (drop code s)) (sym u.marking) ∙ e in
                  body_bad y (λ entry ts. sym (after_types entry ts ∙ simp (q, f)))
            ]

        module _ {end : ℕ} {facts : List ℕ} (x : Coded b s u.names code end middle facts) where
          -- the blocks are passed
          after_code : (entry : BlockId) (ts : List MirType) → ending s at (body_left b entry ts) ≡ later end (map_parse unit (ended (made_of b entry ts u.names w.found x.found) (drop end s)))
          after_code entry ts = after_types entry ts ∙ simp (x.read, map_later, later_later, drop-drop, ← x.end_is)

          -- bytes stand behind the last
          pub body_trailing : {e : Refusal} → e ≡ record { cause = Cause.Trailing; offset = end } → end < length s → BodyRead b at s (Err e) before facts
          body_trailing q h =
              let z : length (drop end s) ≡ 0 → ⊥ = λ q. omega (arith, length-drop end s) in
              rw q (body_bad refl (λ entry ts. sym (after_code entry ts ∙ simp (ne_eqb _ _ z, add-zero))))

          -- the body that the definition gives
          body_made : (entry : BlockId) (ts : List MirType) → body_left b entry ts (drop at s) ≡ ok (made_of b entry ts u.names w.found x.found) (k + (j + (w.took + x.took)))
          body_made entry ts = simp (u.read, drop-drop, v.read, w.read, ← w.end_is, x.read)

          -- nothing does: the routine is accepted
          pub body_accepted : b.next ≤ 256 → length s ≤ end → BodyRead b at s (Ok b) before facts
          body_accepted few h =
              let z : length (drop end s) ≡ 0 = omega (arith, length-drop end s) in
              let y : end ≡ length s = omega (arith, x.in_s) in
              record {
                bounds = λ l e. cc;
                answers = λ entry ts h.
                    sym (ap (λ d. later at (map_parse unit (and_then (drop at s) d (λ r t. ended r t)))) (body_left_lem b entry ts (drop at s) h)
                    ∙ after_code entry ts ∙ simp (eq-eqb _ _ z, add-zero) (ap (ok tt) y));
                found = λ entry ts l r n h e f.
                    let i : ok (made_of b entry ts u.names w.found x.found) (k + (j + (w.took + x.took))) ≡ ok r n = sym (body_left_lem b entry ts (drop at s) h ∙ body_made entry ts) ∙ f in
                    let p : made_of b entry ts u.names w.found x.found ≡ r = cc in
                    let d = x.filled in
                    rw (← p) (record {
                      next = refl;
                      many = blocks_length mosts b 0 (marks (clear b) u.names) b.blocks (drop code s) x.read;
                      kept = kept_through 65 321 (omega arith) w.kept d.kept;
                      recorded = recorded_kept w.found middle facts d.kept (omega (arith, recorded_length b.types v.bits 0 b.next (drop (at + k + j) s) w.read)) w.stored;
                      blocks = d.blocks;
                      code = d.code;
                    });
              }

-- a front part of clear marks
pub take_clear : (n k : ℕ) → n ≤ k → take n (replicate k false) ≡ replicate n false
take_clear zero k h = refl
take_clear (suc n) zero h = absurd (omega arith)
take_clear (suc n) (suc k) h = ap (λ x. false ∷ x) (take_clear n k (omega arith))

pub none_marked : (n k : ℕ) → n ≤ k → take (n - 0) (replicate k false) ≡ replicate n false
none_marked n k h = rw sub-zero (take_clear n k h)
