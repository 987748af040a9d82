-- The type table, one type after another.
use Prim.Native.Nat.{ℕ, suc, ◌+◌, ◌-◌, ◌*◌, ◌%◌, ◌≤◌, ◌<◌, zero-le}
use mathlib.Core.Path.{◌≡◌, refl, ap, ◌∙◌, sym}
use mathlib.Core.List.{List, [], ◌∷◌, ◌++◌, append_assoc, append-nil}
use mathlib.Core.Bool.{true, false}
use mathlib.Core.Bool as B
use mathlib.Core.Logic.{⊎_elim}
use native.Mathlib.Numerals.{add-one}
use native.Mathlib.Nat.{add-zero, sub-zero, eq-or-lt_of_le, mod-eq_of_lt}
use native.Mathlib.Omega.{arith}
use borrow.Author.Tests.{leb-true}
use lib.ListN.{length, get_or, drop, set, length-append, length-drop, length-set, get_or-append}
use lib.Dec.{leb}
use lib.Seq.{drop-drop, get_or_at, get_or-set_same, get_or-set_other}
use Rattle.std.specs.Prelude.{Result}
use Rattle.bytes_wire.specs.declared.Refusal.{Refusal}
use Rattle.bytes_wire.specs.Parse.{ok, bad, later, map_parse}
use Rattle.bytes_wire.specs.Number.{u16_of, counted}
use Rattle.bytes_wire.specs.WellFormed.{Bytes}
use Rattle.bytes_wire.specs.declared.Cause.{Cause}
use Rattle.bytes_wire.proofs.Laws.{Behind, was, size, size_map, map_id, map_map, map_later, later_later}
use Rattle.bytes_wire.proofs.Inv.{no_ok, image, map_inv, checked_inv, number_inv, map_bad}
use Rattle.bytes_wire.proofs.Canon.{bytes_drop}
use Rattle.bytes_field.specs.Walk.{unit, as_part, part_used}
use Rattle.mir.specs.MirType.{MirType}
use Rattle.bytes_types.specs.Decode.{type_of, has_type, type_seq, types_of}
use Rattle.bytes_types.specs.Index.{TypesAt, TypesRead}
use Rattle.bytes_types.proofs.Canon.{type_exact}
use Rattle.bytes_types.proofs.Sizes.{size_type}

-- a place that is stored behind the first k + 1, and those before it
pub stored_end : (starts : List ℕ) (k p : ℕ) → k + 1 < length starts → get_or (set starts (k + 1) p) (suc k) 0 ≡ p
stored_end starts k p h = rw (add-one k) (get_or-set_same starts (suc k) p 0 (omega arith))

pub stored_before : (starts : List ℕ) (k p j : ℕ) → j ≤ k → get_or (set starts (k + 1) p) j 0 ≡ get_or starts j 0
stored_before starts k p j h = get_or-set_other starts (k + 1) j p 0 (λ q. omega arith)

-- a fact of every thing, where it is one of those before and of the new one
pub each_more : {A : Type 0} (xs : List A) (x : A) (k : ℕ) → length xs ≡ k → (P : ℕ → Type 0) → ((j : ℕ) → j < k → P j) → P k → (j : ℕ) → j < length (xs ++ (x ∷ [])) → P j
each_more xs x k m P f g j h =
    let l : j ≤ k = omega (arith, length-append xs (x ∷ [])) in
    ⊎_elim (λ q. rw q g) (λ q. f j q) (eq-or-lt_of_le l)

-- one more type, whose end is stored behind the last place
module _ (most : ℕ) (s starts : List ℕ) (ts : List MirType) (a : TypesAt most s starts ts) (k at n : ℕ) (t : MirType) (m : length ts ≡ k) (room : k + 1 < length starts) (here : at ≡ get_or starts k 0) (e : type_of most k (drop at s) ≡ ok t n) (in_s : at + n ≤ length s) where
  -- the table with it
  pub table_more : TypesAt most s (set starts (k + 1) (at + n)) (ts ++ (t ∷ []))
  table_more =
      let p = set starts (k + 1) (at + n) in
      record {
        each =
            each_more ts t k m (λ j. type_of most j (drop (get_or p j 0) s) ≡ ok (get_or (ts ++ (t ∷ [])) j MirType.Unit) (get_or p (suc j) 0 - get_or p j 0))
            (λ j h. let g : j < length ts = omega arith in rw (stored_before starts k (at + n) j (omega arith), stored_before starts k (at + n) (suc j) (omega arith), get_or-append ts (t ∷ []) MirType.Unit j g) (a.each j g))
            (let z : at + n - at ≡ n = omega arith in rw (stored_before starts k (at + n) k (omega arith), stored_end starts k (at + n) room, ← here, get_or_at ts t [] MirType.Unit k m, z) e);
        rises =
            each_more ts t k m (λ j. get_or p j 0 ≤ get_or p (suc j) 0)
            (λ j h. let g : j < length ts = omega arith in rw (stored_before starts k (at + n) j (omega arith), stored_before starts k (at + n) (suc j) (omega arith)) (a.rises j g))
            (omega (arith, stored_before starts k (at + n) k (omega arith), stored_end starts k (at + n) room));
        within = λ j h.
            let l : j ≤ suc k = omega (arith, length-append ts (t ∷ [])) in
            ⊎_elim (λ q. omega (arith, ap (λ i. get_or p i 0) q, stored_end starts k (at + n) room)) (λ q. let g : j ≤ length ts = omega arith in rw (stored_before starts k (at + n) j (omega arith)) (a.within j g)) (eq-or-lt_of_le l);
      }

-- of `count` types k are behind, and stand at their places; a type takes at most 71 bytes
pub record Reading (limit most : ℕ) (s before starts : List ℕ) (count k at : ℕ) : Type 0 where
  pub under : k ≤ count
  pub few : count ≤ 64
  pub near : at ≤ 2 + k * 71
  pub room : count < length starts
  pub long : length starts ≡ length before
  pub in_s : at ≤ length s
  pub here : at ≡ get_or starts k 0
  pub first : get_or starts 0 0 ≡ 2
  pub earlier : List MirType
  pub many : length earlier ≡ k
  pub table : TypesAt most s starts earlier
  pub left : types_of limit most s ≡ later at (map_parse (λ ts. earlier ++ ts) (type_seq most earlier (count - k) (drop at s)))

-- a refusal: there are no places
pub read_bad : (limit most : ℕ) (s before starts : List ℕ) {c : Cause} {o : ℕ} → length starts ≡ length before → bad c o ≡ map_parse unit (types_of limit most s) → TypesRead limit most s (bad c o) before starts
read_bad limit most s before starts h e = record { answers = e; long = h; places = λ ts n f. absurd (no_ok (e ∙ ap (map_parse unit) f)); first = λ ts n f. absurd (no_ok (e ∙ ap (map_parse unit) f)) }

-- the count is refused
pub count_bad : (limit most : ℕ) (s : List ℕ) {c : Cause} {o : ℕ} → counted limit (u16_of s) ≡ bad c o → bad c o ≡ map_parse unit (types_of limit most s)
unfolding types_of
count_bad limit most s e = sym (rw e)

-- none is behind yet
pub table_start : (limit most : ℕ) (s entry starts : List ℕ) {x n : ℕ} → counted limit (u16_of s) ≡ ok x n → (limit ≤ 64) × (most ≤ 16) × (limit < length entry) → starts ≡ set entry 0 (n % 65536) → Reading limit most s starts starts x 0 n
unfolding types_of
table_start limit most s entry starts {x} {n} e l q =
    let i = checked_inv Cause.TooMany (λ j. leb j limit) (u16_of s) e in
    let h = leb-true x limit i.1 in
    let v = number_inv 2 s i.0 in
    let w : starts ≡ set entry 0 n = q ∙ ap (set entry 0) (mod-eq_of_lt (omega (arith, v.2))) in
    let g : get_or starts 0 0 ≡ n = ap (λ z. get_or z 0 0) w ∙ get_or-set_same entry 0 n 0 (omega arith) in
    record {
      under = zero-le;
      few = omega (arith, h);
      near = omega (arith, v.2);
      room = omega (arith, h, ap length w, length-set entry 0 n);
      long = refl;
      in_s = omega (arith, v.0, v.2);
      here = sym g;
      first = omega (arith, g, v.2);
      earlier = [];
      many = refl;
      table = record {
        each = λ k q. absurd (omega arith);
        rises = λ k q. absurd (omega arith);
        within = λ k q. let z : k ≡ 0 = omega arith in rw (z, g) (omega (arith, v.0, v.2));
      };
      left = simp (e, map_id, sub-zero);
    }

module _ (limit most : ℕ) (s before starts : List ℕ) (count k at : ℕ) (u : Reading limit most s before starts count k at) (h : k < count) where
  -- the next type is refused
  table_stop : {c : Cause} {o : ℕ} → map_parse unit (type_of most k (drop at s)) ≡ bad c o → bad c (at + o) ≡ map_parse unit (types_of limit most s)
  unfolding type_seq
  table_stop {c} {o} e =
      let z : count - k ≡ suc (count - (k + 1)) = omega arith in
      sym (ap (map_parse unit) u.left ∙ simp (z, u.many, map_bad unit (type_of most k (drop at s)) e))

  -- so is the table
  pub table_refused : {r q : Result ℕ Refusal} (entry : List ℕ) → length starts ≡ length entry → Behind at r q → as_part r ≡ map_parse unit (type_of most k (drop at s)) → TypesRead limit most s (as_part q) entry starts
  table_refused entry l (e, (g, z)) w = rw z (read_bad limit most s entry starts l (table_stop (sym (was part_used w g))))

  module _ {n : ℕ} (e : map_parse unit (type_of most k (drop at s)) ≡ ok tt n) (b : Bytes s) (r : B.Bool) (f : (most own : ℕ) (ts : List MirType) (t : MirType) → Bytes s → length ts ≡ k → TypesAt most s starts ts → type_of most own (drop at s) ≡ ok t (at + n - at) → r ≡ has_type t ts) where
    -- it is one of the earlier
    pub table_old : r ≡ true → bad Cause.Repeated at ≡ map_parse unit (types_of limit most s)
    unfolding type_seq
    table_old p =
        let z : count - k ≡ suc (count - (k + 1)) = omega arith in
        let y : at + n - at ≡ n = omega arith in
        elim (map_inv unit (type_of most k (drop at s)) e) [
          | image t g i ↦
              let q : has_type t u.earlier ≡ true = sym (f most k u.earlier t b u.many u.table (rw y g)) ∙ p in
              sym (ap (map_parse unit) u.left ∙ simp (z, u.many, g, q, add-zero))
        ]

    -- it is a new one: one more is behind
    pub table_again : r ≡ false → most ≤ 16 → (starts' : List ℕ) → starts' ≡ set starts (k + 1) ((at + n) % 65536) → Reading limit most s before starts' count (k + 1) (at + n)
    unfolding type_seq
    table_again p few starts' stored =
        let m = count - (k + 1) in
        let z : count - k ≡ suc m = omega arith in
        let y : at + n - at ≡ n = omega arith in
        let l : at + n ≤ length s = omega (arith, ap (λ d. size d) e, size_type most k (drop at s), size_map unit (type_of most k (drop at s)), length-drop at s, u.in_s) in
        elim (map_inv unit (type_of most k (drop at s)) e) [
          | image t g i ↦
              let ts = u.earlier in
              let q : has_type t ts ≡ false = sym (f most k ts t b u.many u.table (rw y g)) ∙ p in
              let room : k + 1 < length starts = omega arith in
              let near : at + n ≤ 2 + (k + 1) * 71 = omega (arith, ((type_exact most k).each (drop at s) t n (bytes_drop s at b) g).small, u.near) in
              let w : starts' ≡ set starts (k + 1) (at + n) = stored ∙ ap (set starts (k + 1)) (mod-eq_of_lt (omega (arith, u.few))) in
              rw w record {
                under = omega arith;
                few = u.few;
                near = near;
                room = omega (arith, length-set starts (k + 1) (at + n));
                long = length-set starts (k + 1) (at + n) ∙ u.long;
                in_s = l;
                here = sym (get_or-set_same starts (k + 1) (at + n) 0 room);
                first = get_or-set_other starts (k + 1) 0 (at + n) 0 (λ z. absurd (omega arith)) ∙ u.first;
                earlier = ts ++ (t ∷ []);
                many = omega (arith, length-append ts (t ∷ []), u.many);
                table = table_more most s starts ts u.table k at n t u.many room u.here g l;
                left = u.left ∙ simp (z, u.many, g, q, map_later, map_map, later_later, drop-drop, append_assoc);
              }
        ]

-- all are behind
pub table_done : (limit most : ℕ) (s before starts : List ℕ) (count k at : ℕ) → Reading limit most s before starts count k at → count ≤ k → (entry : List ℕ) → length before ≡ length entry → TypesRead limit most s (ok tt at) entry starts
unfolding type_seq
table_done limit most s before starts count k at u h entry l =
    let z : count - k ≡ 0 = omega arith in
    let e : types_of limit most s ≡ ok u.earlier at = u.left ∙ simp (z, append-nil, add-zero) in
    record {
      answers = sym (ap (map_parse unit) e);
      long = u.long ∙ l;
      places = λ ts n f. let p : u.earlier ≡ ts = cc in rw p at u.table;
      first = λ ts n f. u.first;
    }
