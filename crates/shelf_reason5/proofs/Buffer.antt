-- The reads that stand in a buffer.
use Prim.Native.Nat.{ℕ, zero, suc, ◌+◌, ◌-◌, ◌≤◌, ◌<◌}
use mathlib.Core.Path.{◌≡◌, refl, ap, ◌∙◌, sym}
use mathlib.Core.List.{List, [], ◌∷◌}
use mathlib.Core.Bool.{Bool, false}
use native.Mathlib.Nat.{add-zero, zero-add}
use native.Mathlib.Omega.{arith}
use borrow.Author.Tests.{lt-ltb}
use lib.ListN.{length, get_or, set, drop, length-drop, length-set}
use lib.Seq.{get_or-set_same, get_or-set_other}
use Rattle.bytes_wire.specs.Parse.{Parse, ok, later, map_parse}
use Rattle.mir.specs.declared.ValueId.{ValueId}
use Rattle.bytes_wire.proofs.Laws.{size, size_map}
use Rattle.bytes_wire.proofs.Inv.{no_ok}
use Rattle.mir.specs.Syntax.{Instruction, Terminator}
use Rattle.mir.specs.Reads.{reads, dests, terminator_reads}
use Rattle.bytes_field.specs.Decode.{mark, instruction_of, terminator_of}
use Rattle.bytes_field.specs.Walk.{Walk, walk_of, uses, defines, fold, passes, leaves, as_scan, bytes_of}
use Rattle.bytes_field.specs.declared.Bounds.{Bounds}
use Rattle.bytes_field.specs.declared.Scan.{Scan}
use Rattle.bytes_wire.specs.declared.Refusal.{Refusal}
use Rattle.bytes_block.specs.Decode.{marks}
use Rattle.bytes_block.proofs.Sizes.{size_instruction, size_terminator}
use Rattle.shelf.specs.Reads.{clean_terminator}
use Rattle.shelf_reason5.specs.Unread.{Buffered, marked, walked, Judges}
use Rattle.std.specs.Prelude.{Option, Result, Ok, Err}
use Rattle.shelf.specs.Lists.{clear}

abbrev no_value : ValueId
no_value = record { 0 = 0 }

-- what reads do to a buffer that has room for them
record Filled (w v : Walk) (vs : List ValueId) : Type 0 where
  count : v.count ≡ w.count + length vs
  old : (j : ℕ) → j < w.count → get_or v.buffer j 0 ≡ get_or w.buffer j 0
  new : (j : ℕ) → j < length vs → get_or v.buffer (w.count + j) 0 ≡ (get_or vs j no_value).0

filled : (seen : List Bool) (u : List ℕ) (n : ℕ) (late : Bool) (vs : List ValueId) → n + length vs ≤ length u → Filled (walk_of seen u n late) (fold uses (walk_of seen u n late) vs) vs
filled seen u n late [] h = record { count = omega arith; old = λ j q. refl; new = λ j q. absurd (omega arith) }
filled seen u n late (v ∷ vs) h =
    let room : n < length u = omega arith in
    let e : uses (walk_of seen u n late) v ≡ walk_of seen (set u n v.0) (n + 1) late = rw (lt-ltb n (length u) room) in
    rw e (more (filled seen (set u n v.0) (n + 1) late vs (omega (arith, length-set u n v.0))) room)
  where
    more : {x : Walk} → Filled (walk_of seen (set u n v.0) (n + 1) late) x vs → n < length u → Filled (walk_of seen u n late) x (v ∷ vs)
    more {x} f room =
        record {
          count = omega (arith, f.count);
          old = λ j q. f.old j (omega arith) ∙ get_or-set_other u n j v.0 0 (λ z. omega arith);
          new = at;
        }
      where
        at : (j : ℕ) → j < length (v ∷ vs) → get_or x.buffer (n + j) 0 ≡ (get_or (v ∷ vs) j no_value).0
        at zero q = rw add-zero (f.old n (omega arith) ∙ get_or-set_same u n v.0 0 room)
        at (suc j) q = let z : n + suc j ≡ n + 1 + j = omega arith in rw z (f.new j (omega arith))

-- so the buffer has them
buffered : (seen : List Bool) (u : List ℕ) (vs : List ValueId) {v : List ℕ} {n : ℕ} → length u ≡ 32 → length vs ≤ 32 → n ≡ (fold uses (walk_of seen u 0 false) vs).count → v ≡ (fold uses (walk_of seen u 0 false) vs).buffer → Buffered v n vs
buffered seen u vs l h c d =
    let f = filled seen u 0 false vs (omega arith) in
    record {
      many = c ∙ f.count ∙ zero-add (length vs);
      each = λ j q. ap (λ k. get_or k j 0) d ∙ sym (ap (λ k. get_or (fold uses (walk_of seen u 0 false) vs).buffer k 0) (zero-add j)) ∙ f.new j (omega (arith, c, f.count));
    }

-- what is defined does not change the buffer
defined : (seen : List Bool) (u : List ℕ) (n : ℕ) (late : Bool) (ds : List ValueId) → fold defines (walk_of seen u n late) ds ≡ walk_of (marks seen ds) u n late
defined seen u n late [] = refl
defined seen u n late (d ∷ ds) = defined (mark seen d) u n late ds

-- a scan that leaves w behind what it reads, and what stands behind it
module _ {X : Type 0} (w : X → Walk) (d : Parse X) (v : List ℕ) (seen : List Bool) where
  scan_size : (r : Result Scan Refusal) → as_scan r seen v ≡ map_parse w d → bytes_of r ≡ size d
  scan_size (Ok x) e = ap (λ q. size q) e ∙ size_map w d
  scan_size (Err y) e = ap (λ q. size q) e ∙ size_map w d

  -- further on: the reads of what it reads stand in the buffer
  scan_judged : (reads_of : X → List ValueId) (at : ℕ) (ms : List Bool) → ((x : X) (m : ℕ) (late : Bool) → length (reads_of x) ≤ 32 → walk_of seen v m late ≡ w x → Buffered v m (reads_of x))
      → (r : Result Scan Refusal) → as_scan r seen v ≡ later at (map_parse w d) → (a : Option ℕ) → Judges r v ms a → (x : X) (n : ℕ) → d ≡ ok x n → length (reads_of x) ≤ 32 → a ≡ walked (clear ms (reads_of x)) (at + n)
  scan_judged reads_of at ms fill (Err y) e a j x n t k = absurd (no_ok (e ∙ ap (λ q. later at (map_parse w q)) t))
  scan_judged reads_of at ms fill (Ok p) e a j x n t k =
      let z : ok (walk_of seen v p.reads p.late) p.size ≡ ok (w x) (at + n) = e ∙ ap (λ q. later at (map_parse w q)) t in
      let y : walk_of seen v p.reads p.late ≡ w x = cc in
      let g : p.size ≡ at + n = ap (λ q. size q) z in
      rw g at (j (reads_of x) (fill x p.reads p.late k y))

-- of an instruction, and of a terminator
module _ (b : Bounds) (s t : List ℕ) (at : ℕ) (ms : List Bool) (u v : List ℕ) (seen : List Bool) (r q : Result Scan Refusal) (h : t ≡ drop at s) (lu : length u ≡ 32) (f : as_scan q seen v ≡ later at (as_scan r seen v)) (a : Option ℕ) (j : Judges q v ms a) where
  module _ (e : as_scan r seen v ≡ map_parse (passes (walk_of [] u 0 false)) (instruction_of b [] false t)) where
    next_buffered : (i : Instruction) (m : ℕ) (late : Bool) → length (reads i.kind) ≤ 32 → walk_of seen v m late ≡ passes (walk_of [] u 0 false) i → Buffered v m (reads i.kind)
    next_buffered i m late k y =
        let w : behind_of ≡ fold uses (walk_of (marks [] (dests i.kind)) u 0 false) (reads i.kind) = ap (λ q. fold uses q (reads i.kind)) (defined [] u 0 false (dests i.kind)) in
        let p : m ≡ behind_of.count = ap (λ q. q.count) y in
        let o : v ≡ behind_of.buffer = ap (λ q. q.buffer) y in
        buffered (marks [] (dests i.kind)) u (reads i.kind) lu k (p ∙ ap (λ q. q.count) w) (o ∙ ap (λ q. q.buffer) w)
      where
        behind_of : Walk
        behind_of = fold uses (fold defines (walk_of [] u 0 false) (dests i.kind)) (reads i.kind)

    pub next_told : (i : Instruction) (n : ℕ) → instruction_of b [] false (drop at s) ≡ ok i n → length (reads i.kind) ≤ 32 → a ≡ walked (clear ms (reads i.kind)) (at + n)
    next_told i n g = scan_judged (passes (walk_of [] u 0 false)) (instruction_of b [] false t) v seen (λ i. reads i.kind) at ms next_buffered q (f ∙ ap (later at) e) a j i n (ap (λ q. instruction_of b [] false q) h ∙ g)

  module _ (e : as_scan r seen v ≡ map_parse (leaves (walk_of [] u 0 false)) (terminator_of b t)) where
    last_buffered : (x : Terminator) (m : ℕ) (late : Bool) → length (terminator_reads x) ≤ 32 → walk_of seen v m late ≡ leaves (walk_of [] u 0 false) x → Buffered v m (terminator_reads x)
    last_buffered x m late k y = buffered [] u (terminator_reads x) lu k (ap (λ q. q.count) y) (ap (λ q. q.buffer) y)

    pub last_told : (x : Terminator) (n : ℕ) → terminator_of b (drop at s) ≡ ok x n → length (terminator_reads x) ≤ 32 → a ≡ walked (clean_terminator (marked ms) x) (at + n)
    unfolding clean_terminator
    last_told x n g = scan_judged (leaves (walk_of [] u 0 false)) (terminator_of b t) v seen terminator_reads at ms last_buffered q (f ∙ ap (later at) e) a j x n (ap (λ q. terminator_of b q) h ∙ g)

-- their places do not wrap
module _ (b : Bounds) (s t : List ℕ) (at : ℕ) (u v : List ℕ) (seen : List Bool) (r : Result Scan Refusal) (h : t ≡ drop at s) where
  pub next_within : as_scan r seen v ≡ map_parse (passes (walk_of [] u 0 false)) (instruction_of b [] false t) → bytes_of r ≤ length s - at
  next_within e = omega (arith, scan_size (passes (walk_of [] u 0 false)) (instruction_of b [] false t) v seen r e, size_instruction b [] false t, ap (λ q. length q) h, length-drop at s)

  pub last_within : as_scan r seen v ≡ map_parse (leaves (walk_of [] u 0 false)) (terminator_of b t) → bytes_of r ≤ length s - at
  last_within e = omega (arith, scan_size (leaves (walk_of [] u 0 false)) (terminator_of b t) v seen r e, size_terminator b t, ap (λ q. length q) h, length-drop at s)
