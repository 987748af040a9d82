-- What is known of a Return whose values are replaced, as the code finds it.
use Prim.Native.Nat.{ℕ, ◌+◌, ◌-◌, ◌≤◌, ◌<◌}
use mathlib.Core.Path.{◌≡◌, refl, ap, ◌∙◌, sym}
use mathlib.Core.List.{List, [], ◌∷◌, ◌++◌, append-nil}
use mathlib.Core.Bool.{Bool, true, false, true≢false}
use native.Mathlib.Omega.{arith}
use lib.ListN.{length, get_or, drop, drop_of_length-le, take-append-drop}
use lib.Seq.{sets}
use Rattle.bytes_wire.specs.Value.{value_bytes}
use Rattle.bytes_wire.specs.WellFormed.{Bytes, FitValue}
use Rattle.bytes_wire.proofs.Canon.{Canon, bytes_drop}
use Rattle.mir.specs.declared.Value.{Value}
use Rattle.mir.specs.Syntax.{Return}
use Rattle.bytes_field.specs.Encode.{each_bytes, terminator_bytes}
use Rattle.bytes_index.specs.declared.code.Code.{Code}
use Rattle.bytes_index.specs.Table.{place_in, end_in}
use Rattle.bytes_operands.specs.Fields.{ValueAt, value_step, after}
use Rattle.bytes_laws.specs.WellFormed.{Wide, FitTerminator}
use Rattle.bytes_laws.proofs.EachKind.{terminator}
use Rattle.bytes_laws.proofs.Instruction.{terminator_canon}
use Rattle.rewrite_patch.specs.Chunks.{number_places, put_number, patched, numbered, Replaces}
use Rattle.rewrite_patch.specs.Returned.{return_chunks, return_places, Given, ReturnCounts, ReturnPlaces, ReturnNumbersPut}
use Rattle.rewrite_patch.proofs.EachKind.{bytes_in, values_in, chunks_with, values_bytes, values_read}
use Rattle.rewrite_patch.proofs.Patched.{patched_lem, same_long}
use Rattle.rewrite_patch.proofs.Renewed.{values_with, numbered_many}
use Rattle.rewrite_patch.proofs.Walked.{values_found}
use Rattle.rewrite_patch.proofs.Bare.{bare, bare_values, Standing, kinded, standing}
use Rattle.rewrite_patch.proofs.Fits.{each_at, value_stands}
use Rattle.rewrite_patch.proofs.Putting.{places_many, put_next}

-- its bytes and its values
return_layout : (xs : List Value) → bytes_in (return_chunks xs) ≡ terminator_bytes (Return xs)
unfolding terminator_bytes
return_layout xs = ap (λ l. 3 ∷ length xs ∷ l) (values_bytes xs [] ∙ append-nil (each_bytes value_bytes xs))

return_read : (xs : List Value) → values_in (return_chunks xs) ≡ xs
unfolding values_in
return_read xs = values_read xs [] ∙ append-nil xs

return_renewed : (xs : List Value) (ns : List ℕ) → chunks_with (return_chunks xs) ns ≡ return_chunks (numbered xs ns)
unfolding chunks_with
return_renewed xs ns = rw (numbered_many xs ns, values_with xs [] ns) refl

return_bare : (xs : List Value) (j : ℕ) → bare (return_chunks xs) j ≡ false
unfolding bare
return_bare xs j = bare_values xs [] (λ k. refl) j

-- the Return in a slot, from its place on
module _ (code : Code) (slot : ℕ) (xs : List Value) (k : Given code slot xs) where
  abbrev s : List ℕ
  s = drop (place_in code.facts.now slot) code.bytes.now

  abbrev n : ℕ
  n = end_in code.facts.now slot - place_in code.facts.now slot

  s_bytes : Bytes s
  s_bytes = bytes_drop code.bytes.now (place_in code.facts.now slot) k.bytes

  shown : s ≡ (3 ∷ length xs ∷ each_bytes value_bytes xs) ++ drop n s
  unfolding terminator_bytes
  shown =
      let c : Canon (terminator_bytes (Return xs)) s n = terminator_canon code.bounds s s_bytes k.line.read in
      sym (ap (λ l. l ++ drop n s) c.same ∙ take-append-drop n s)

  -- how many values it has
  pub return_many : get_or s 1 0 ≡ length xs
  return_many = ap (λ l. get_or l 1 0) shown

  fits_all : Wide code.bounds → FitTerminator code.bounds (Return xs)
  fits_all w = ((terminator code.bounds).each s (Return xs) n s_bytes k.line.read).good w

  pub return_few : Wide code.bounds → length xs ≤ 16
  return_few w = omega (arith, (fits_all w).0, k.listed)

  pub return_fit : (j : ℕ) → j < length xs → Wide code.bounds → FitValue code.bounds.next (get_or xs j Value.Error)
  return_fit j l w = each_at (FitValue code.bounds.next) xs (fits_all w).1 j l

  -- where their numbers stand
  pub return_place_is : (j : ℕ) → j < length xs → after (value_step s 0 0) j 2 + 0 + 1 ≡ get_or (return_places xs) j 0
  unfolding number_places
  return_place_is j l = values_found xs [] s (drop n s) 2 j (ap (drop 2) shown) l

  -- the value stands there
  pub return_value_is : (j p : ℕ) → j < length xs → Wide code.bounds → p ≡ get_or (return_places xs) j 0 → ValueAt code.bounds.next s (p - 1) (get_or xs j Value.Error)
  unfolding terminator_bytes
  return_value_is j p l w q = rw q (go false refl (rw (return_bare xs j, return_read xs) at there))
    where
      there : Standing s (get_or (number_places 0 (return_chunks xs)) j 0) (get_or (values_in (return_chunks xs)) j Value.Error) (bare (return_chunks xs) j)
      there = standing (return_chunks xs) s (drop n s) 0 j (shown ∙ ap (λ l. l ++ drop n s) (sym (return_layout xs))) (rw (return_read xs) l)

      go : (b : Bool) → b ≡ false → Standing s (get_or (return_places xs) j 0) (get_or xs j Value.Error) b → ValueAt code.bounds.next s (get_or (return_places xs) j 0 - 1) (get_or xs j Value.Error)
      go false e (kinded r d) = value_stands code.bounds.next s r (get_or (return_places xs) j 0 - 1) (get_or xs j Value.Error) (return_fit j l w) d
      go true e x = absurd (true≢false e)

-- the loop that puts numbers in: those of the first j values are put
pub record Replacing (code : Code) (slot to : ℕ) (nums before out : List ℕ) (j : ℕ) : Type 0 where
  pub left : (xs : List Value) → Given code slot xs → patched out (drop j (number_places to (return_chunks xs))) (drop j nums) ≡ patched before (number_places to (return_chunks xs)) nums

pub replacing : (code : Code) (slot to : ℕ) (nums before : List ℕ) → Replacing code slot to nums before before 0
replacing code slot to nums before = record { left = λ xs k. refl }

pub replace_more : {code : Code} {slot to : ℕ} {nums before out : List ℕ} {j : ℕ} (count place n : ℕ) (out' : List ℕ) → Replacing code slot to nums before out j → ReturnCounts code slot count → j < count → ReturnPlaces code slot j place → n ≡ get_or nums j 0 → out' ≡ put_number out (to + place) n → Replacing code slot to nums before out' (j + 1)
replace_more {code} {slot} {to} {nums} {before} {out} {j} count place n out' g c l p e f =
    record {
      left = λ xs k.
          let m : j < length xs = omega (arith, (c xs k).0) in
          put_next (return_chunks xs) to nums before out j place n out' (g.left xs k) (rw (return_read xs) m) (p xs k m) e f;
    }

pub replace_all : {code : Code} {slot to : ℕ} {nums before out : List ℕ} {j : ℕ} (count : ℕ) → Replacing code slot to nums before out j → ReturnCounts code slot count → count ≤ j → ReturnNumbersPut code slot to nums before out
unfolding patched
replace_all {code} {slot} {to} {nums} {before} {out} {j} count g c l xs old end k h w =
    let C = return_chunks xs in
    let P = number_places to C in
    let h' : Replaces (values_in C) nums = rw (return_read xs) h in
    let m : length P ≤ j = omega (arith, (c xs k).0, places_many C to, ap length (return_read xs)) in
    let d : drop j P ≡ [] = drop_of_length-le P m in
    let e : out ≡ patched before P nums = rw d at (g.left xs k) in
    let a : bytes_in (chunks_with C nums) ≡ terminator_bytes (Return (numbered xs nums)) = ap bytes_in (return_renewed xs nums) ∙ return_layout (numbered xs nums) in
    let b : length (terminator_bytes (Return (numbered xs nums))) ≡ length (terminator_bytes (Return xs)) = ap length (sym a) ∙ same_long C nums h' ∙ ap length (return_layout xs) in (
      w.0 ∙ ap (λ z. to + z) (sym b),
      e ∙ ap (λ z. patched z P nums) (w.1 ∙ ap (sets old to) (sym (return_layout xs))) ∙ patched_lem C old to nums h' ∙ ap (sets old to) a,
    )
