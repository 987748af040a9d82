-- The recorded types, one value after another.
use Prim.Native.Nat.{ℕ, zero, suc, ◌+◌, ◌-◌, ◌≤◌, ◌<◌, zero-le}
use mathlib.Core.Path.{◌≡◌, ap, ◌∙◌, sym}
use mathlib.Core.List.{List, [], ◌∷◌, ◌++◌, append_assoc, append-nil}
use mathlib.Core.Bool.{Bool, true, false}
use mathlib.Core.Option.{Option, none}
use mathlib.Core.Logic.{⊎_elim}
use native.Mathlib.Nat.{add-zero, eq-or-lt_of_le}
use native.Mathlib.Omega.{arith}
use lib.ListN.{length, get_or, drop, set, length-append, length-drop, length-set, get_or-append}
use lib.Seq.{drop-drop, drop-set-add, get_or-drop, get_or_at, get_or-set_same, get_or-set_other}
use Rattle.bytes_wire.specs.Parse.{ok, bad, later, map_parse}
use Rattle.bytes_wire.specs.declared.Cause.{Cause}
use Rattle.mir.specs.declared.TypeId.{TypeId}
use Rattle.bytes_wire.proofs.Laws.{size, size_map, size_later, size_and, size_below, map_later, map_map, later_later}
use Rattle.bytes_wire.proofs.Inv.{both, behind, image, later_inv, and_inv, map_inv}
use Rattle.bytes_field.specs.Walk.{unit}
use Rattle.bytes_index.specs.Table.{recorded_in}
use Rattle.bytes_block.specs.Rows.{Kept}
use Rattle.bytes_block.proofs.Filling.{kept_set}
use Rattle.bytes_sections.specs.Decode.{has_recorded, recorded_type_of, recorded_of}
use Rattle.bytes_sections.proofs.Laws.{refused, refusal, no_value}
use Rattle.bytes_sections.specs.Index.{recorded_number, RecordedAt, RecordedOne, RecordedRead}

-- no such answer reaches further than the bytes do
size_recorded_type : (types : ℕ) (b : Bool) (s : List ℕ) → size (recorded_type_of types b s) ≤ length s
size_recorded_type types true s = rw (size_map, size_map) (size_below types s)
size_recorded_type types false s = zero-le

-- nor do the types of several values
pub size_recorded : (types : ℕ) (map : List ℕ) (v k : ℕ) (s : List ℕ) → size (recorded_of types map v k s) ≤ length s
unfolding recorded_of
size_recorded types map v zero s = zero-le
size_recorded types map v (suc k) s = size_and s (recorded_type_of types (has_recorded map v) s) _ (size_recorded_type types (has_recorded map v) s) (λ t u. rw size_map (size_recorded types map (suc v) k u))

-- of `next` values v are behind, and their types are stored
pub record Recording (types : ℕ) (map : List ℕ) (next at : ℕ) (s before facts : List ℕ) (v here : ℕ) : Type 0 where
  pub under : v ≤ next
  pub in_s : here ≤ length s
  pub kept : Kept 65 before facts
  pub behind_it_lem : List (Option TypeId)
  pub many : length behind_it_lem ≡ v
  pub table : RecordedAt (recorded_in facts) behind_it_lem
  pub left : later at (recorded_of types map 0 next (drop at s)) ≡ later here (map_parse (λ rs. behind_it_lem ++ rs) (recorded_of types map v (next - v) (drop here s)))

-- one more number is stored
store_more : (recorded : List ℕ) (rs : List (Option TypeId)) (v : ℕ) (t : Option TypeId) → length rs ≡ v → RecordedAt recorded rs → RecordedAt (set recorded v (recorded_number t)) (rs ++ (t ∷ []))
store_more recorded rs v t m a w h l =
    let k : w ≤ v = omega (arith, length-append rs (t ∷ [])) in
    let j : w < length recorded = omega (arith, length-set recorded v (recorded_number t)) in
    ⊎_elim
    (λ q.
    let i : v < length recorded = omega arith in
    ap (λ j. get_or (set recorded v (recorded_number t)) j 0) q ∙ get_or-set_same recorded v (recorded_number t) 0 i
    ∙ sym (ap recorded_number (ap (λ j. get_or (rs ++ (t ∷ [])) j none) q ∙ get_or_at rs t [] none v m)))
    (λ q. let i : w < length rs = omega arith in rw (get_or-set_other recorded v w (recorded_number t) 0 (λ p. omega arith), get_or-append rs (t ∷ []) none w i) (a w i j))
    (eq-or-lt_of_le k)

module _ (types : ℕ) (map : List ℕ) (next at : ℕ) (s before facts : List ℕ) (v here : ℕ) (u : Recording types map next at s before facts v here) (h : v < next) where
  -- the next type is refused
  pub recording_stop : {c : Cause} {o : ℕ} {after : List ℕ} → RecordedOne types map v here s (bad c o) facts after → RecordedRead types map next at s (bad c o) before after
  unfolding recorded_of
  recording_stop {c} {o} {after} r =
      let z : next - v ≡ suc (next - (v + 1)) = omega arith in
      elim (refusal here (recorded_type_of types (has_recorded map v) (drop here s)) r.answers) [
        | refused k p q ↦
            let e : bad c o ≡ later at (map_parse unit (recorded_of types map 0 next (drop at s))) =
            sym (sym (map_later unit at (recorded_of types map 0 next (drop at s))) ∙ ap (map_parse unit) u.left ∙ simp (z, p, q)) in
            let no = no_value at (recorded_of types map 0 next (drop at s)) e in
            record { answers = e; kept = λ rs n f. absurd (no rs n f); numbers = λ rs n f. absurd (no rs n f) }
      ]

  -- it is stored, and one more is behind
  pub recording_again : {end : ℕ} {after : List ℕ} → RecordedOne types map v here s (ok tt end) facts after → Recording types map next at s before after (v + 1) end
  unfolding recorded_of
  recording_again {end} {after} r =
      let d = recorded_type_of types (has_recorded map v) (drop here s) in
      let z : next - v ≡ suc (next - (v + 1)) = omega arith in
      let y : suc v ≡ v + 1 = omega arith in
      let l : end ≤ length s = omega (arith, ap (λ x. size x) r.answers, size_later here (map_parse unit d), size_map unit d, size_recorded_type types (has_recorded map v) (drop here s), length-drop here s, u.in_s) in
      elim (later_inv here (map_parse unit d) (sym r.answers)) [
        | behind n p q ↦
            elim (map_inv unit d p) [
              | image t e i ↦
                  record {
                    under = omega arith;
                    in_s = l;
                    kept = rw (r.number t n e) (kept_set 65 (65 + v) (recorded_number t) (omega arith) u.kept);
                    behind_it_lem = u.behind_it_lem ++ (t ∷ []);
                    many = omega (arith, length-append u.behind_it_lem (t ∷ []), u.many);
                    table = rw (r.number t n e, drop-set-add 65 facts v (recorded_number t)) (store_more (recorded_in facts) u.behind_it_lem v t u.many u.table);
                    left = u.left ∙ simp (z, e, q, y, map_later, map_map, later_later, drop-drop, append_assoc);
                  }
            ]
      ]

-- all are behind
pub recording_done : (types : ℕ) (map : List ℕ) (next at : ℕ) (s before facts : List ℕ) (v here : ℕ) → Recording types map next at s before facts v here → next ≤ v → RecordedRead types map next at s (ok tt here) before facts
unfolding recorded_of
recording_done types map next at s before facts v here u h =
    let z : next - v ≡ 0 = omega arith in
    let e : later at (recorded_of types map 0 next (drop at s)) ≡ ok u.behind_it_lem here = u.left ∙ simp (z, append-nil, add-zero) in
    record {
      answers = sym (sym (map_later unit at (recorded_of types map 0 next (drop at s))) ∙ ap (map_parse unit) e);
      kept = λ rs n f. u.kept;
      numbers = λ rs n f. let g : later at (ok rs n) ≡ ok u.behind_it_lem here = sym (ap (later at) f) ∙ e in let p : u.behind_it_lem ≡ rs = cc in rw p at u.table;
    }

-- k values have k entries
pub recorded_length : (types : ℕ) (map : List ℕ) (v k : ℕ) (s : List ℕ) {rs : List (Option TypeId)} {n : ℕ} → recorded_of types map v k s ≡ ok rs n → length rs ≡ k
unfolding recorded_of
recorded_length types map v zero s {rs} e = let p : [] ≡ rs = cc in sym (ap length p)
recorded_length types map v (suc k) s e =
    elim (and_inv s (recorded_type_of types (has_recorded map v) s) _ e) [
      | both t i j p q r ↦ elim (map_inv (λ ts. t ∷ ts) (recorded_of types map (suc v) k (drop i s)) q) [ image us f g ↦ ap length g ∙ ap suc (recorded_length types map (suc v) k (drop i s) f) ]
    ]

-- what is stored behind them leaves them
pub recorded_kept : (rs : List (Option TypeId)) (before facts : List ℕ) → Kept 321 before facts → length rs ≤ 256 → RecordedAt (recorded_in before) rs → RecordedAt (recorded_in facts) rs
recorded_kept rs before facts k h a v l m =
    get_or-drop 65 facts v 0 ∙ k.same (65 + v) (omega arith) ∙ sym (get_or-drop 65 before v 0) ∙ a v l (omega (arith, length-drop 65 before, length-drop 65 facts, k.long))
