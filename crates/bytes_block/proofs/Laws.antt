-- Instructions, terminators and blocks, as the walk goes over them.
use Prim.Native.Nat.{ℕ, zero, suc, ◌<◌}
use mathlib.Core.Path.{◌≡◌, refl, ap, ◌∙◌, sym}
use mathlib.Core.List.{List, [], ◌∷◌, map}
use mathlib.Core.Bool.{Bool, not, ◌||◌}
use lib.ListN.{length, get_or, drop}
use Rattle.bytes_wire.specs.Parse.{Parse, ok, bad, later, and_then, map_parse}
use Rattle.bytes_wire.specs.declared.Cause.{Cause}
use Rattle.mir.specs.declared.ValueId.{ValueId}
use Rattle.bytes_wire.proofs.Laws.{map_map, map_and, and_map, assoc, and_same}
use Rattle.bytes_wire.proofs.Inv.{both, image, and_inv, map_inv}
use Rattle.mir.specs.Syntax.{Meta, InstructionKind, Instruction}
use Rattle.mir.specs.Reads.{reads, dests, is_phi}
use Rattle.bytes_field.specs.Decode.{bit, bits_of, kind_of, meta_of, kinds, instruction_of}
use Rattle.bytes_field.specs.Walk.{Walk, fold, defines, uses, behind, passes, row_walk, rows}
use Rattle.bytes_field.specs.declared.Bounds.{Bounds}
use Rattle.bytes_field.proofs.Laws.{head}
use Rattle.bytes_field.proofs.Rows.{kind_row, kind_late, behind_late}
use Rattle.bytes_kind.specs.Late.{late_behind}
use Rattle.bytes_block.specs.Decode.{Head, head_of, instructions_of, marks}
use Rattle.bytes_block.proofs.Start.{kind_below}

-- the same behind what was read, for the value that it was
pub and_same_ok : {A B : Type 0} (s : List ℕ) (d : Parse A) (f g : A → List ℕ → Parse B) → ((a : A) (n : ℕ) → d ≡ ok a n → f a (drop n s) ≡ g a (drop n s)) → and_then s d f ≡ and_then s d g
and_same_ok s (ok a n) f g h = ap (later n) (h a n refl)
and_same_ok s (bad c o) f g h = refl

-- the same made of what was read, for the value that it was
pub map_same_ok : {A B : Type 0} (f g : A → B) (d : Parse A) → ((a : A) (n : ℕ) → d ≡ ok a n → f a ≡ g a) → map_parse f d ≡ map_parse g d
map_same_ok f g (ok a n) h = ap (λ x. ok x n) (h a n refl)
map_same_ok f g (bad c o) h = refl

-- what a kind's fields do to the walk, with what the kind itself does
kind_passes : (b : Bounds) (w : Walk) (m : Meta) (c : Bool) (k : ℕ) (s : List ℕ) → k < 19 → map_parse (late_behind k) (row_walk b (get_or s 0 0) 5 (get_or rows k 0) w s) ≡ map_parse (λ i. passes w (record { meta = m; kind = i })) (get_or (map (λ f. f s) (kinds b w.seen c)) k (bad Cause.Undefined 0))
kind_passes b w m c k s h =
    ap (map_parse (late_behind k)) (kind_row b c w k s h)
    ∙ map_map (late_behind k) (behind w) (get_or (map (λ f. f s) (kinds b w.seen c)) k (bad Cause.Undefined 0))
    ∙ map_same_ok (λ i. late_behind k (behind w i)) (λ i. passes w (record { meta = m; kind = i })) (get_or (map (λ f. f s) (kinds b w.seen c)) k (bad Cause.Undefined 0))
    (λ i n e. rw (behind_late w i, kind_late b w.seen c k s i n h e))

-- what stands behind a head: the meta, and the row of the kind
abbrev pub row_behind : Bounds → Walk → Head → List ℕ → Parse Walk
row_behind b w h t = map_parse (late_behind h.kind) (and_then t (map_parse (λ x. w) (meta_of h.bits t)) (λ v u. row_walk b (get_or u 0 0) 5 (get_or rows h.kind 0) v u))

-- an instruction is its head, its meta, and the row of its kind
pub instruction_rows : (b : Bounds) (w : Walk) (s : List ℕ) → map_parse (passes w) (instruction_of b w.seen w.late s) ≡ and_then s (head_of w.late s) (row_behind b w)
unfolding instruction_of head_of
instruction_rows b w s = simp (map_and, and_map, map_map, assoc)
    (and_same s (bits_of s) _ _ (λ x t. and_same_ok t (kind_of w.late t) _ _ (λ k n e. and_same (drop n t) (meta_of x (drop n t)) _ _ (λ m u. sym (kind_passes b w m (bit 3 x) k u (kind_below w.late t e))))))

-- so goes the code over it: head, meta, row, and whether a Phi is late behind
pub instruction_walked : (b : Bounds) (w : Walk) (s : List ℕ) (x k many row : ℕ) {p q r : Parse Walk} → head_of w.late s ≡ ok
    (record { bits = x; kind = k }) 2 → p ≡ and_then s (ok w 2) (λ v t. map_parse (λ m. v) (meta_of x t)) → ((v : Walk) (at : ℕ) → p ≡ ok v at → many ≡ get_or s at 0) → row ≡ get_or rows k 0 → q ≡ and_then s p
    (λ v t. row_walk b many 5 row v t) → r ≡ map_parse (late_behind k) q → r ≡ map_parse (passes w) (instruction_of b w.seen
    w.late s)
instruction_walked b w s x k many row {p} {q} e ep em er eq el =
    let row_at : ℕ → Walk → List ℕ → Parse Walk = λ n v t. row_walk b n 5 (get_or rows k 0) v t in
    let eq2 : q ≡ and_then s p (λ v t. row_at (get_or t 0 0) v t) = eq ∙ rw er (and_same_ok s p (row_at many) (λ v t. row_at (get_or t 0 0) v t) (λ v at h. ap (λ n. row_at n v (drop at s)) (em v at h ∙ sym (head s at)))) in
    let eq3 : q ≡ and_then s (ok w 2) (λ v t. and_then t (map_parse (λ m. v) (meta_of x t)) (λ v t. row_at (get_or t 0 0) v t)) = eq2 ∙ rw ep (assoc s (ok w 2) (λ v t. map_parse (λ m. v) (meta_of x t)) (λ v t. row_at (get_or t 0 0) v t)) in
    let f : Walk → List ℕ → Parse Walk = λ v t. and_then t (map_parse (λ m. v) (meta_of x t)) (λ v t. row_at (get_or t 0 0) v t) in
    let tail : map_parse (passes w) (instruction_of b w.seen w.late s) ≡ later 2 (map_parse (late_behind k) (f w (drop 2 s))) = instruction_rows b w s ∙ ap (λ d. and_then s d (row_behind b w)) e in
    el ∙ ap (map_parse (late_behind k)) eq3 ∙ map_and s (ok w 2) f (late_behind k) ∙ sym tail

-- a head that is refused
pub instruction_refused : (b : Bounds) (w : Walk) (s : List ℕ) {c : Cause} {o : ℕ} → head_of w.late s ≡ bad c o → bad c o ≡ map_parse (passes w) (instruction_of b w.seen w.late s)
instruction_refused b w s e = sym (instruction_rows b w s ∙ ap (λ d. and_then s d (row_behind b w)) e)

-- reads leave the marks
uses_seen : (w : Walk) (vs : List ValueId) → (fold uses w vs).seen ≡ w.seen
uses_seen w [] = refl
uses_seen w (v ∷ vs) = uses_seen (uses w v) vs

-- definitions add theirs
pub defines_seen : (w : Walk) (ds : List ValueId) → (fold defines w ds).seen ≡ marks w.seen ds
defines_seen w [] = refl
defines_seen w (d ∷ ds) = defines_seen (defines w d) ds

-- an instruction adds its own
pub behind_seen : (w : Walk) (i : InstructionKind) → (behind w i).seen ≡ marks w.seen (dests i)
behind_seen w i = uses_seen (fold defines w (dests i)) (reads i) ∙ defines_seen w (dests i)

-- there are as many as are asked for
pub instructions_length : (b : Bounds) (seen : List Bool) (late : Bool) (k : ℕ) (s : List ℕ) {is : List Instruction} {n : ℕ} → instructions_of b seen late k s ≡ ok is n → length is ≡ k
unfolding instructions_of
instructions_length b seen late zero s {is} e = let p : is ≡ [] = cc in ap length p
instructions_length b seen late (suc k) s e =
    elim (and_inv s (instruction_of b seen late s) (λ i t. map_parse (λ is. i ∷ is) (instructions_of b (marks seen (dests i.kind)) (late || not (is_phi i.kind)) k t)) e) [
      | both i m j p q r ↦
          elim (map_inv (λ is. i ∷ is) (instructions_of b (marks seen (dests i.kind)) (late || not (is_phi i.kind)) k (drop m s)) q)
          [ image is f g ↦ ap length g ∙ ap suc (instructions_length b (marks seen (dests i.kind)) (late || not (is_phi i.kind)) k (drop m s) f) ]
    ]
