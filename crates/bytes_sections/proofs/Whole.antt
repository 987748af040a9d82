-- The whole routine: types, sizes, body.
use Prim.Native.Nat.{ℕ, zero, suc, ◌+◌, ◌-◌, ◌≤◌, ◌<◌}
use mathlib.Core.Path.{◌≡◌, refl, ap, ◌∙◌, sym}
use mathlib.Core.List.{List, [], ◌∷◌, ◌++◌}
use mathlib.Core.Bool.{not}
use native.Mathlib.Omega.{arith}
use borrow.Author.Tests.{leb-true}
use lib.ListN.{length, get_or, take, drop}
use lib.Seq.{drop-drop}
use lib.Dec.{leb, eqb}
use Rattle.std.specs.Prelude.{Result, Ok, Err}
use Rattle.bytes_wire.specs.declared.Refusal.{Refusal}
use Rattle.bytes_wire.specs.Parse.{Parse, ok, bad, later, and_then, map_parse, checked}
use Rattle.bytes_wire.specs.Number.{u16_of, at16}
use Rattle.bytes_wire.specs.WellFormed.{Bytes}
use Rattle.bytes_wire.specs.declared.Cause.{Cause}
use Rattle.bytes_wire.proofs.Laws.{Behind, Passed, size, map_later, later_later, map_map, map_and, told, told_size, from_16}
use Rattle.bytes_wire.proofs.Inv.{no_ok, both, behind, image, later_inv, and_inv, map_inv, cond_inv, checked_inv, number_inv, map_bad}
use Rattle.bytes_field.specs.Walk.{as_part, unit}
use Rattle.bytes_field.specs.declared.Bounds.{Bounds}
use Rattle.bytes_laws.specs.WellFormed.{Wide}
use Rattle.bytes_block.specs.Rows.{Kept, Tabular}
use Rattle.bytes_block.specs.declared.Mosts.{Mosts}
use Rattle.mir.specs.MirType.{MirType}
use Rattle.bytes_types.specs.Decode.{has_type, type_of, type_seq, types_of}
use Rattle.bytes_types.specs.Index.{TypesAt, TypesRead}
use Rattle.bytes_types.proofs.Sizes.{size_types}
use Rattle.mir.specs.Routine.{Routine}
use Rattle.bytes_sections.specs.Decode.{mosts, sizes_of, bounds_of, body_of, routine_of, ended, whole_of}
use Rattle.bytes_sections.specs.declared.Sizes.{Sizes}
use Rattle.bytes_sections.specs.Index.{as_sizes}
use Rattle.bytes_sections.specs.Facts.{BodyRead, LeftFree, RoutineRead}
use Rattle.bytes_field.proofs.Laws.{and_later}
use Rattle.bytes_sections.proofs.SizesOf.{size_sizes, sizes_fit}

-- k types are k
types_length : (most : ℕ) (earlier : List MirType) (k : ℕ) (s : List ℕ) {ts : List MirType} {n : ℕ} → type_seq most earlier k s ≡ ok ts n → length ts ≡ k
unfolding type_seq
types_length most earlier zero s {ts} e = let p : [] ≡ ts = cc in sym (ap length p)
types_length most earlier (suc k) s e =
    elim (and_inv s (checked Cause.Repeated (λ t. not (has_type t earlier)) (type_of most (length earlier) s)) _ e) [
      | both t i j p q r ↦
          elim (map_inv (λ ts. t ∷ ts) (type_seq most (earlier ++ (t ∷ [])) k (drop i s)) q) [
            | image us f g ↦ ap length g ∙ ap suc (types_length most (earlier ++ (t ∷ [])) k (drop i s) f)
          ]
    ]

-- as many as the first u16 says, and not too many
types_count : (most_types most : ℕ) (s : List ℕ) {ts : List MirType} {n : ℕ} → types_of most_types most s ≡ ok ts n → (at16 s 0 ≡ length ts) × (length ts ≤ most_types)
unfolding types_of
types_count most_types most s e =
    elim (and_inv s (checked Cause.TooMany (λ n. leb n most_types) (u16_of s)) (λ n t. type_seq most [] n t) e) [
      | both x i j p q r ↦
          let c = checked_inv Cause.TooMany (λ n. leb n most_types) (u16_of s) p in
          let l = types_length most [] x (drop i s) q in
          (sym (l ∙ (number_inv 2 s c.0).1 ∙ from_16 s 0), rw l (leb-true x most_types c.1))
    ]

-- the table of types is read
pub record Tabled (s : List ℕ) (at : ℕ) (facts : List ℕ) : Type 0 where
  pub found : List MirType
  pub read : types_of 64 16 s ≡ ok found at
  pub table : TypesAt 16 s facts found
  pub first : get_or facts 0 0 ≡ 2
  pub counts : at16 s 0 ≡ length found
  pub few : length found ≤ 64
  pub in_s : at ≤ length s

-- so the code tells
pub tabled : (s : List ℕ) {at : ℕ} {before facts : List ℕ} {r : Result ℕ Refusal} → TypesRead 64 16 s (as_part r) before facts → r ≡ Ok at → Tabled s at facts
tabled s {at} p g =
    elim (map_inv unit (types_of 64 16 s) (sym p.answers ∙ ap as_part g)) [
      | image ts e i ↦
          let c = types_count 64 16 s e in
          record { found = ts; read = e; table = p.places ts at e; first = p.first ts at e; counts = c.0; few = c.1; in_s = omega (arith, ap (λ x. size x) e, size_types 64 16 s) }
    ]

-- what is stored behind the types leaves them
types_kept : (most : ℕ) (s before facts : List ℕ) (ts : List MirType) → Kept 65 before facts → length ts ≤ 64 → TypesAt most s before ts → TypesAt most s facts ts
types_kept most s before facts ts k h a =
    record {
      each = λ j l. rw (k.same j (omega arith), k.same (suc j) (omega arith)) (a.each j l);
      rises = λ j l. rw (k.same j (omega arith), k.same (suc j) (omega arith)) (a.rises j l);
      within = λ j l. rw (k.same j (omega arith)) (a.within j l);
    }

-- the sizes are read
pub record Fitted (m : Mosts) (s : List ℕ) (at : ℕ) (z : Sizes) : Type 0 where
  pub read : sizes_of m (drop at s) ≡ ok z 6
  pub in_s : at + 6 ≤ length s
  pub next : z.next ≤ m.next
  pub blocks : z.blocks ≤ m.blocks

-- so the code tells
pub fitted : (m : Mosts) (s : List ℕ) (at : ℕ) {z : Sizes} {r : Result Sizes Refusal} → at ≤ length s → as_sizes r ≡ sizes_of m (take (length s - at) (drop at s)) → r ≡ Ok z → Fitted m s at z
fitted m s at h p g =
    let e = told as_sizes (sizes_of m) at s p g in
    let f = sizes_fit m (drop at s) e in
    record { read = e; in_s = told_size as_sizes (sizes_of m) at s (size_sizes m) h p g; next = f.0; blocks = f.1 }

-- an answer of the sizes reaches no further than the bytes do
pub sizes_size : (m : Mosts) (s : List ℕ) (at : ℕ) {r r' : Result Sizes Refusal} → at ≤ length s → as_sizes r ≡ sizes_of m (take (length s - at) (drop at s)) → r ≡ r' → at + size (as_sizes r') ≤ length s
sizes_size m s at h p g = told_size as_sizes (sizes_of m) at s (size_sizes m) h p g

-- every body has the types that stood before it
types_made : (m : Mosts) (ts : List MirType) (z : Sizes) (s : List ℕ) → map_parse (λ r. r.types) (body_of m ts z s) ≡ map_parse (λ r. ts) (body_of m ts z s)
unfolding body_of
types_made m ts z s = simp (map_and, map_map)

-- so the routine that was read has
body_types : (m : Mosts) (ts : List MirType) (z : Sizes) (s : List ℕ) {r : Routine} {n : ℕ} → body_of m ts z s ≡ ok r n → r.types ≡ ts
body_types m ts z s {r} {n} e = let f : ok r.types n ≡ ok ts n = rw e at (types_made m ts z s) in cc

-- the routine that a decoder gave
data Made (d : Parse Routine) (r : Routine) : Type 0 where
  made : (n : ℕ) → d ≡ ok r n → Made d r

-- what is accepted with nothing behind it
accepted : (at : ℕ) (s : List ℕ) (d : Parse Routine) {r : Routine} {n : ℕ} → later at (and_then s d (λ r t. ended r t)) ≡ ok r n → Made d r
accepted at s d {r} e =
    elim (later_inv at (and_then s d (λ r t. ended r t)) e) [
      | behind k f g ↦
          elim (and_inv s d (λ r t. ended r t) f) [
            | both x i j p q o ↦
                let h = (cond_inv (eqb (length (drop i s)) 0) (ok x 0) Cause.Trailing 0 q).1 in
                let y : x ≡ r = cc in
                made i (p ∙ ap (λ x. ok x i) y)
          ]
    ]

module _ (s : List ℕ) where
  -- a refusal finds nothing
  whole_bad : {a : Result Bounds Refusal} {z : Refusal} {before facts : List ℕ} → a ≡ Err z → LeftFree before facts → bad z.cause z.offset ≡ map_parse unit (whole_of mosts s) → RoutineRead s a before facts
  whole_bad y l e = rw y (record { answers = e; found = λ b r n h f g. absurd (no_ok (e ∙ ap (map_parse unit) g)); refused = λ z g. l })

  -- the types are refused
  pub whole_types : {before facts : List ℕ} {r : Result ℕ Refusal} {a : Result Bounds Refusal} → TypesRead 64 16 s (as_part r) before facts → Passed r a → RoutineRead s a before facts
  unfolding whole_of routine_of
  whole_types p (e, (g, y)) = whole_bad y p.long (sym (simp (map_bad unit (types_of 64 16 s) (sym p.answers ∙ ap as_part g))))

  module _ {at : ℕ} {before : List ℕ} (u : Tabled s at before) where
    -- the types are passed
    after_types : whole_of mosts s ≡ later at (and_then (drop at s) (and_then (drop at s) (sizes_of mosts (drop at s)) (λ z t. body_of mosts u.found z t)) (λ r t. ended r t))
    unfolding whole_of routine_of
    after_types = simp (u.read, and_later)

    -- the sizes are refused
    pub whole_sizes : {first facts : List ℕ} {r : Result Sizes Refusal} {a : Result Bounds Refusal} → LeftFree first facts → as_sizes r ≡ sizes_of mosts (take (length s - at) (drop at s)) → Behind at r a → RoutineRead s a first facts
    whole_sizes l p (e, (g, y)) = whole_bad y l (sym (ap (map_parse unit) after_types ∙ simp (told as_sizes (sizes_of mosts) at s p g)))

    module _ (z : Sizes) (v : Fitted mosts s at z) where
      -- the sizes are passed
      after_sizes : whole_of mosts s ≡ later (at + 6) (and_then (drop (at + 6) s) (body_of mosts u.found z (drop (at + 6) s)) (λ r t. ended r t))
      after_sizes = after_types ∙ simp (v.read, and_later, later_later, drop-drop)

      -- the body behind them
      pub whole_body : (x : ℕ) (first facts : List ℕ) (answer : Result Bounds Refusal) → x ≡ at16 s 0 → LeftFree first facts → 6147 ≤ length facts → ((r : Routine) (n : ℕ) → Bytes s → whole_of mosts s ≡ ok r n → length s < 65536) → BodyRead (bounds_of mosts x z.next z.blocks) (at + 6) s answer before facts → RoutineRead s answer first facts
      whole_body x first facts answer h same_long long short p =
          let ts = u.found in
          let b = bounds_of mosts x z.next z.blocks in
          let d = body_of mosts ts z (drop (at + 6) s) in
          let l : x ≡ length ts = h ∙ u.counts in
          let k : bounds_of mosts x z.next z.blocks ≡ bounds_of mosts (length u.found) z.next z.blocks = ap (λ y. bounds_of mosts y z.next z.blocks) l in
          record {
            answers = p.answers z.entry ts k ∙ sym (ap (map_parse unit) after_sizes ∙ map_later unit (at + 6) (and_then (drop (at + 6) s) d (λ r t. ended r t)));
            found = λ b' r n bytes e f.
                elim (accepted (at + 6) (drop (at + 6) s) d (sym after_sizes ∙ f)) [
                  | made i g ↦
                      let q = p.found z.entry ts b' r i k e g in
                      let same : r.types ≡ ts = body_types mosts ts z (drop (at + 6) s) g in
                      let wide : Wide b = record { types = omega (arith, u.few); next = omega (arith, v.next); blocks = omega (arith, v.blocks); list = omega arith; projections = omega arith } in
                      let t : Tabular b s = record { bytes = bytes; short = short r n bytes f; wide = wide; listed = omega arith; projected = omega arith } in
                      rw (← p.bounds b' e) record {
                        bounded = rw (same, ← l, q.next, q.many) refl;
                        short = short r n bytes f;
                        types = rw same (types_kept 16 s before facts ts q.kept u.few u.table);
                        first = q.kept.same 0 (omega arith) ∙ u.first;
                        recorded = q.recorded;
                        long = long;
                        blocks = q.blocks t;
                        code = q.code t;
                      }
                ];
            refused = λ e g. same_long;
          }
