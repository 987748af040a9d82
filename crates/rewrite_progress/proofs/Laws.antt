-- Effects one after another are one effect.
use Prim.Native.Nat.{ℕ, suc}
use mathlib.Core.Path.{◌≡◌, refl, ap, ◌∙◌, sym}
use mathlib.Core.List.{List, [], ◌∷◌, ◌++◌, append_assoc}
use native.Mathlib.Nat.{add_assoc, add-zero}
use lib.ListN.{length, length-append}
use Rattle.mir.specs.declared.ValueId.{ValueId}
use Rattle.mir.specs.declared.TypeId.{TypeId}
use Rattle.bytes_field.specs.Encode.{each_bytes, instruction_bytes, terminator_bytes}
use Rattle.bytes_emit.proofs.Sets.{sets_append}
use Rattle.fold.specs.Family.{Marks, mark}
use Rattle.rewrite.specs.Piece.{Piece}
use Rattle.rewrite.specs.Run.{Walked, glue}
use Rattle.rewrite_progress.specs.declared.Progress.{Progress}
use Rattle.rewrite_progress.specs.Effect.{Effect, Output, mark_all, type_numbers, further, behind, then_effect, no_effect, piece_effect, walked_effect}

pub each_append : {A : Type 0} (enc : A → List ℕ) (xs ys : List A) → each_bytes enc (xs ++ ys) ≡ each_bytes enc xs ++ each_bytes enc ys
each_append enc [] ys = refl
each_append enc (x ∷ xs) ys = ap (λ w. enc x ++ w) (each_append enc xs ys) ∙ sym (append_assoc (enc x) (each_bytes enc xs) (each_bytes enc ys))

pub mark_append : (m : Marks) (xs ys : List ValueId) → mark_all m (xs ++ ys) ≡ mark_all (mark_all m xs) ys
unfolding mark_all
mark_append m [] ys = refl
mark_append m (x ∷ xs) ys = mark_append (mark m x) xs ys

pub numbers_append : (xs ys : List TypeId) → type_numbers (xs ++ ys) ≡ type_numbers xs ++ type_numbers ys
unfolding type_numbers
numbers_append [] ys = refl
numbers_append (x ∷ xs) ys = ap (λ w. x.0 ∷ w) (numbers_append xs ys)

pub numbers_length : (xs : List TypeId) → length (type_numbers xs) ≡ length xs
unfolding type_numbers
numbers_length [] = refl
numbers_length (x ∷ xs) = ap (λ n. suc n) (numbers_length xs)

pub further_then : (p : Progress) (e f : Effect) → further (further p e) f ≡ further p (then_effect e f)
unfolding further then_effect
further_then p e f = simp (length-append, add_assoc)

pub behind_then : (o : Output) (e f : Effect) → behind (behind o e) f ≡ behind o (then_effect e f)
unfolding behind further then_effect
behind_then o e f =
    rw (← further_then o.progress e f, sets_append o.buffer o.progress.to e.bytes f.bytes, mark_append o.dropped e.dropped f.dropped, numbers_append e.fresh f.fresh, sets_append o.types o.progress.fresh (type_numbers e.fresh) (type_numbers f.fresh), numbers_length e.fresh) refl

pub behind_none : (o : Output) → behind o no_effect ≡ o
unfolding behind further mark_all type_numbers
behind_none o = simp (add-zero)

-- a piece, then what is left of the block
pub glue_effect : (p : Piece) (w : Walked) → walked_effect (glue p w) ≡ then_effect (piece_effect p) (walked_effect w)
unfolding walked_effect piece_effect then_effect glue
glue_effect p w = rw (each_append instruction_bytes p.out w.out, length-append p.out w.out, append_assoc (each_bytes instruction_bytes p.out) (each_bytes instruction_bytes w.out) (terminator_bytes w.terminator))
