-- The loop that puts numbers in the places of an instruction's readings.
use Prim.Native.Nat.{ℕ, suc, ◌+◌, ◌≤◌, ◌<◌}
use mathlib.Core.Path.{◌≡◌, refl, ap, ◌∙◌, sym}
use mathlib.Core.List.{List, [], ◌∷◌}
use native.Mathlib.Nat.{add-zero}
use native.Mathlib.Omega.{arith}
use lib.ListN.{length, get_or, drop, drop_of_length-le}
use lib.Seq.{drop-cons, drop-drop}
use Rattle.bytes_field.proofs.Laws.{head}
use Rattle.bytes_index.specs.declared.code.Code.{Code}
use Rattle.mir.specs.Syntax.{Instruction}
use Rattle.rewrite.specs.Readings.{readings}
use Rattle.rewrite_patch.specs.Chunks.{Chunk, stays, valued, based, chunks, number_places, put_number, patched}
use Rattle.rewrite_patch.specs.Kept.{Kept, Counts, Places, NumbersPut}
use Rattle.rewrite_patch.proofs.EachKind.{values_in}
use Rattle.rewrite_patch.proofs.Renewed.{all_read, patched_whole, whole_long}
use Rattle.rewrite_patch.proofs.Whole.{shifted}

-- as many places as readings
pub places_many : (l : List Chunk) (at : ℕ) → length (number_places at l) ≡ length (values_in l)
unfolding number_places values_in
places_many [] at = refl
places_many (stays w ∷ l) at = places_many l _
places_many (valued x ∷ l) at = ap suc (places_many l _)
places_many (based v ∷ l) at = ap suc (places_many l _)

-- where the numbers go
abbrev places : ℕ → Instruction → List ℕ
places to i = number_places to (chunks i)

many : (to : ℕ) (i : Instruction) → length (places to i) ≡ length (readings i.kind)
many to i = places_many (chunks i) to ∙ ap length (all_read i)

-- those of the first j readings are put
pub record Putting (code : Code) (slot to : ℕ) (nums before out : List ℕ) (j : ℕ) : Type 0 where
  pub left : (i : Instruction) → Kept code slot i → patched out (drop j (places to i)) (drop j nums) ≡ patched before (places to i) nums

-- none
pub putting : (code : Code) (slot to : ℕ) (nums before : List ℕ) → Putting code slot to nums before before 0
putting code slot to nums before = record { left = λ i k. refl }

-- one more of those that stand in some chunks
pub put_next : (l : List Chunk) (to : ℕ) (nums before out : List ℕ) (j place n : ℕ) (out' : List ℕ) → patched out (drop j (number_places to l)) (drop j nums) ≡ patched before (number_places to l) nums → j < length (values_in l) → place ≡ get_or (number_places 0 l) j 0 → n ≡ get_or nums j 0 → out' ≡ put_number out (to + place) n → patched out' (drop (j + 1) (number_places to l)) (drop (j + 1) nums) ≡ patched before (number_places to l) nums
unfolding patched
put_next l to nums before out j place n out' g m p e f =
    let P = number_places to l in
    let q : to + place ≡ get_or P j 0 = ap (λ a. to + a) p ∙ sym (rw (add-zero to) at (shifted l to 0 j m)) in
    let d : drop j P ≡ get_or P j 0 ∷ drop (j + 1) P = (let y : suc j ≡ j + 1 = omega arith in rw y at (drop-cons P j 0 (omega (arith, m, places_many l to)))) in
    let o : out' ≡ put_number out (get_or P j 0) (get_or (drop j nums) 0 0) = rw (← q, head nums j, ← e) f in
    let z : drop (j + 1) nums ≡ drop 1 (drop j nums) = sym (drop-drop 1 j nums) in
    rw (o, z) (rw d at g)

-- one more reading
pub put_more : {code : Code} {slot to : ℕ} {nums before out : List ℕ} {j : ℕ} (count place n : ℕ) (out' : List ℕ) → Putting code slot to nums before out j → Counts code slot count → j < count → Places code slot j place → n ≡ get_or nums j 0 → out' ≡ put_number out (to + place) n → Putting code slot to nums before out' (j + 1)
put_more {code} {slot} {to} {nums} {before} {out} {j} count place n out' g c l p e f =
    record {
      left = λ i k.
          let m : j < length (readings i.kind) = omega (arith, c i k) in
          put_next (chunks i) to nums before out j place n out' (g.left i k) (rw (all_read i) m) (p i k m) e f;
    }

-- all
pub put_all : {code : Code} {slot to : ℕ} {nums before out : List ℕ} {j : ℕ} (count : ℕ) → Putting code slot to nums before out j → Counts code slot count → count ≤ j → NumbersPut code slot to nums before out
unfolding patched
put_all {code} {slot} {to} {nums} {before} {out} {j} count g c l i old end k h w =
    let n : length (places to i) ≤ j = omega (arith, c i k, many to i) in
    let d : drop j (places to i) ≡ [] = drop_of_length-le (places to i) n in
    let e : out ≡ patched before (places to i) nums = rw d at (g.left i k) in
    (w.0 ∙ ap (λ m. to + m) (sym (whole_long i nums h)), e ∙ ap (λ b. patched b (places to i) nums) w.1 ∙ patched_whole i old to nums h)
