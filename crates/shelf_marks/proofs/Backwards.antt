-- Reason 2 of a block: from its last instruction to its first, with a mark for each value that is defined.
use Prim.Native.Nat.{ℕ, zero, suc, ◌+◌, ◌*◌, ◌-◌, ◌≤◌, ◌<◌}
use mathlib.Core.Path.{◌≡◌, ap, ◌∙◌, sym}
use mathlib.Core.List.{List, [], ◌∷◌}
use mathlib.Core.Bool.{Bool, true, false, not, ◌&&◌, ◌||◌, and-false}
use native.Mathlib.Omega.{arith}
use borrow.Author.Tests.{not-true, not-false}
use lib.ListN.{length, get_or, set, drop, replicate}
use lib.Seq.{drop-drop}
use Rattle.bytes_wire.specs.Number.{at16}
use Rattle.mir.specs.declared.ValueId.{ValueId}
use Rattle.mir.specs.Syntax.{Instruction, Block}
use Rattle.mir.specs.Reads.{reads, dests}
use Rattle.bytes_field.specs.Decode.{instruction_of}
use Rattle.bytes_index.specs.declared.code.Code.{Code}
use Rattle.bytes_index.specs.declared.slots.Slots.{Slots}
use Rattle.bytes_index.specs.Table.{starts_in, place_in, kind_in, ReadsIn}
use Rattle.bytes_index.specs.Code.{no_instruction, no_block, InstructionsIn, SlotsOf}
use Rattle.bytes_block.specs.Decode.{marks}
use Rattle.bytes_operands.specs.Fields.{fields_place}
use Rattle.mir.specs.Lists.{Each}
use Rattle.mir.specs.Lookup.{Types}
use Rattle.mir.specs.Phis.{behind_phis}
use Rattle.shelf.specs.Lists.{every, among, clear}
use Rattle.shelf.specs.Reads.{counted_reads, defined_in, ordered, with_debug}
use Rattle.shelf_marks.specs.Tests.{CodedIn, SlotIn, OfSlot, OfBlock, BehindPhis, ordered_behind, dest_count, dest_first, dests_at, dests_of}
use Rattle.shelf_marks.proofs.Scanning.{next_of, none_of, block_holds, slot_holds, every_same}
use Rattle.table.proofs.Elements.{clear_at}
use Rattle.shelf_marks.proofs.Bases.{marks_are, among_append}
use Rattle.shelf_marks.proofs.Dests.{dests_in}

-- j values are marked
module _ (u : List ℕ) (first n : ℕ) where
  pub record Putting (m₀ m : List Bool) (j : ℕ) : Type 0 where
    pub under : j ≤ n
    pub long : length m ≡ length m₀
    pub left : marks m₀ (dests_at u first n) ≡ marks m (dests_at u (first + 2 * j) (n - j))

  pub putting_again : (m₀ m m' : List Bool) (j x : ℕ) → Putting m₀ m j → j < n → x ≡ at16 u (first + 2 * j) → m' ≡ set m x true → length m' ≡ length m → Putting m₀ m' (j + 1)
  unfolding dests_at
  putting_again m₀ m m' j x w h ex em lm =
      let at = first + 2 * j in
      let z : n - j ≡ suc (n - (j + 1)) = omega arith in
      let y : set m (at16 u at) true ≡ m' = sym (em ∙ ap (λ q. set m q true) ex) in
      let v : at + 2 ≡ first + 2 * (j + 1) = omega arith in
      record {
        under = omega arith;
        long = lm ∙ w.long;
        left = w.left ∙ ap (λ q. marks m (dests_at u at q)) z ∙ ap (λ q. marks q (dests_at u (at + 2) (n - (j + 1)))) y ∙ ap (λ q. marks m' (dests_at u q (n - (j + 1)))) v;
      }

  pub putting_done : (m₀ m : List Bool) (j : ℕ) → Putting m₀ m j → n ≤ j → m ≡ marks m₀ (dests_at u first n)
  unfolding dests_at
  putting_done m₀ m j w h = let z : n - j ≡ 0 = omega arith in sym (w.left ∙ ap (λ q. marks m (dests_at u (first + 2 * j) q)) z)

-- what mark_dests marks
pub dests_marked : (t : List ℕ) (kind : ℕ) (m : List Bool) {u : List ℕ} {first count : ℕ} {m' : List Bool} → u ≡ drop (fields_place t) t → first ≡ dest_first kind → count ≡ dest_count u kind → m' ≡ marks m (dests_at u first count) → m' ≡ marks m (dests_of t kind)
dests_marked t kind m {u} {first} {count} own e1 ec em =
    em ∙ ap (λ q. marks m (dests_at u q count)) e1 ∙ ap (λ q. marks m (dests_at u (dest_first kind) q)) ec ∙ ap (λ q. marks m (dests_at q (dest_first kind) (dest_count q kind))) own

-- and mark_slot
module _ (code : Code) (slot : ℕ) (m : List Bool) where
  pub slot_marked : {kind : ℕ} {t : List ℕ} {m' : List Bool} → kind ≡ kind_in code.facts.now slot → t ≡ drop (place_in code.facts.now slot) code.bytes.now → m' ≡ marks m (dests_of t kind) → OfSlot code slot (λ τ i. marks m (dests i)) m'
  slot_marked {kind} {t} ek here em τ i g a =
      let d = dests_in code.bounds t i _ (ap (λ q. instruction_of code.bounds [] false q) here ∙ a.read) in
      em ∙ ap (marks m) (ap (dests_of t) (ek ∙ a.kind) ∙ sym d.same)

-- the slots behind the phis in front, of which there are n
pub behind_found : (code : Code) (k : ℕ) (at : Slots) → SlotsOf code.facts.now k at → (s : Slots) (n : ℕ) → n ≤ at.count → s.first ≡ at.first + n → s.count ≡ at.count - n
    → ((is : List Instruction) → InstructionsIn code.bounds code.bytes.now code.facts.now at.first is → length is ≡ at.count → behind_phis is ≡ drop n is) → BehindPhis code k s
behind_found code k at el s n few e d phis τ ks c l =
    let is = (get_or ks k no_block).instructions in
    let w = el code.bounds code.bytes.now ks c.code l in
    let z : n ≡ s.first - get_or (starts_in code.facts.now) k 0 = omega (arith, w.0, e) in
    record {
      from = omega (arith, w.0, e);
      all = omega (arith, w.0, w.1, e, d, few);
      same = phis is (λ j m. slot_holds code k at el j (omega (arith, w.1)) τ ks c l) (sym w.1) ∙ ap (λ q. drop q is) z;
    }

-- an order that fails further on fails
ordered_fails : (debug : Bool) (d : ℕ) (xs : List Instruction) → ordered debug (drop d xs) ≡ false → ordered debug xs ≡ false
unfolding ordered
ordered_fails debug zero xs e = e
ordered_fails debug (suc d) [] e = e
ordered_fails debug (suc d) (x ∷ xs) e = ap (λ q. every (λ v. not (among v.0 (defined_in (x ∷ xs)))) (counted_reads debug x.kind) && q) (ordered_fails debug d xs e) ∙ and-false (every (λ v. not (among v.0 (defined_in (x ∷ xs)))) (counted_reads debug x.kind))

all_below : (a c : ℕ) (xs : List ValueId) → a ≤ c → Each (λ d. d.0 < a) xs → Each (λ d. d.0 < c) xs
all_below a c [] h g = tt
all_below a c (x ∷ xs) h g = (omega (arith, g.0), all_below a c xs h g.1)

-- from a slot of block k on, the marks are the values defined, and nothing is out of order
pub record Seen (facts : List ℕ) (k : ℕ) (m : List Bool) (is : List Instruction) (slot : ℕ) : Type 0 where
  pub under : slot ≤ get_or (starts_in facts) k 0 + length is
  pub marked : (v : ℕ) → get_or m v false ≡ among v (defined_in (drop (slot - get_or (starts_in facts) k 0) is))
  pub sound : ordered with_debug (drop (slot - get_or (starts_in facts) k 0) is) ≡ true

pub record Backward (code : Code) (k from : ℕ) (m : List Bool) (slot : ℕ) : Type 0 where
  pub behind : from ≤ slot
  pub long : length m ≡ 256
  pub left : (τ : Types) (ks : List Block) → CodedIn code τ ks → k < length ks → Seen code.facts.now k m (get_or ks k no_block).instructions slot

module _ (code : Code) (k : ℕ) (at : Slots) (ef : BehindPhis code k at) where
  pub backward_start : (m : List Bool) {end : ℕ} → end ≡ at.first + at.count → m ≡ replicate 256 false → length m ≡ 256 → Backward code k at.first m end
  unfolding defined_in ordered
  backward_start m {end} f e l =
      record {
        behind = omega (arith, f);
        long = l;
        left = λ τ ks c h.
            let is = (get_or ks k no_block).instructions in
            let first = get_or (starts_in code.facts.now) k 0 in
            let w = (ef τ ks c h).all in
            let z : drop (end - first) is ≡ [] = none_of is (end - first) (omega (arith, w, f)) in
            record {
              under = omega (arith, w, f);
              marked = λ v. ap (λ q. get_or q v false) e ∙ clear_at 256 v ∙ sym (ap (λ q. among v (defined_in q)) z);
              sound = ap (ordered with_debug) z;
            };
      }

  module _ {m m' : List Bool} {slot : ℕ} {r : Bool} (w : Backward code k at.first m slot) (g : at.first < slot) (em : OfSlot code (slot - 1) (λ τ i. marks m (dests i)) m') (er : (vs : List ValueId) → ReadsIn code.facts.now (slot - 1) vs → r ≡ clear m' vs) where
    module _ (τ : Types) (ks : List Block) (c : CodedIn code τ ks) (h : k < length ks) where
      abbrev own : List Instruction
      own = (get_or ks k no_block).instructions

      abbrev first : ℕ
      first = get_or (starts_in code.facts.now) k 0

      abbrev j : ℕ
      j = slot - 1 - first

      abbrev here : Instruction
      here = get_or own j no_instruction

      split_here : drop j own ≡ here ∷ drop (slot - first) own
      split_here =
          let p : j < length own = omega (arith, (w.left τ ks c h).under, (ef τ ks c h).from) in
          let z : j + 1 ≡ slot - first = omega (arith, (ef τ ks c h).from) in
          next_of own j no_instruction p ∙ ap (λ q. here ∷ drop q own) z

      stands_here : SlotIn code (slot - 1) here
      stands_here = block_holds code k (slot - 1) τ ks c h (omega (arith, (ef τ ks c h).from)) (omega (arith, (w.left τ ks c h).under))

      marked_here : (v : ℕ) → get_or m' v false ≡ among v (defined_in (here ∷ drop (slot - first) own))
      unfolding defined_in
      marked_here v =
          let d = dests_in code.bounds _ here _ stands_here.read in
          let low : Each (λ x. x.0 < length m) (dests here.kind) = all_below code.bounds.next (length m) (dests here.kind) (omega (arith, w.long, c.ground.few)) d.low in
          ap (λ q. get_or q v false) (em τ here c.ground stands_here)
          ∙ marks_are m (dests here.kind) v low
          ∙ ap (λ q. among v (dests here.kind) || q) ((w.left τ ks c h).marked v)
          ∙ sym (among_append v (dests here.kind) (defined_in (drop (slot - first) own)))

      order_here : ordered with_debug (drop j own) ≡ (r && ordered with_debug (drop (slot - first) own))
      unfolding ordered
      order_here =
          let rest = drop (slot - first) own in
          let z : r ≡ every (λ v. not (among v.0 (defined_in (here ∷ rest)))) (reads here.kind) =
          er (reads here.kind) stands_here.reads_in ∙ every_same (λ v. not (get_or m' v.0 false)) (λ v. not (among v.0 (defined_in (here ∷ rest)))) (λ v. ap not (marked_here v.0)) (reads here.kind) in
          ap (ordered with_debug) split_here ∙ ap (λ q. q && ordered with_debug rest) (sym z)

    pub backward_again : not r ≡ false → length m' ≡ length m → Backward code k at.first m' (slot - 1)
    backward_again n lm =
        record {
          behind = omega (arith, g);
          long = lm ∙ w.long;
          left = λ τ ks c h.
              record {
                under = omega (arith, (w.left τ ks c h).under);
                marked = λ v. marked_here τ ks c h v ∙ sym (ap (λ q. among v (defined_in q)) (split_here τ ks c h));
                sound = order_here τ ks c h ∙ ap (λ q. q && ordered with_debug (drop (slot - first τ ks c h) (own τ ks c h))) (not-false r n) ∙ (w.left τ ks c h).sound;
              };
        }

    pub backward_stop : not r ≡ true → OfBlock code k (λ τ x. ordered_behind x.instructions) false
    backward_stop n τ ks c h =
        let is = (get_or ks k no_block).instructions in
        let from = get_or (starts_in code.facts.now) k 0 in
        let z : ordered with_debug (drop (slot - 1 - from) is) ≡ false = order_here τ ks c h ∙ ap (λ q. q && ordered with_debug (drop (slot - from) is)) (not-true r n) in
        let d : at.first - from + (slot - 1 - at.first) ≡ slot - 1 - from = omega (arith, (ef τ ks c h).from) in
        let y : drop (slot - 1 - at.first) (drop (at.first - from) is) ≡ drop (slot - 1 - from) is = drop-drop (slot - 1 - at.first) (at.first - from) is ∙ ap (λ q. drop q is) d in
        sym (ap (ordered with_debug) (ef τ ks c h).same ∙ ordered_fails with_debug (slot - 1 - at.first) (drop (at.first - from) is) (ap (ordered with_debug) y ∙ z))

  pub backward_done : {m : List Bool} {slot : ℕ} → Backward code k at.first m slot → slot ≤ at.first → OfBlock code k (λ τ x. ordered_behind x.instructions) true
  backward_done {m} {slot} w f τ ks c h =
      let is = (get_or ks k no_block).instructions in
      let from = get_or (starts_in code.facts.now) k 0 in
      let e : slot ≡ at.first = omega (arith, w.behind) in
      let z : ordered with_debug (drop (at.first - from) is) ≡ true = rw e at ((w.left τ ks c h).sound) in
      sym (ap (ordered with_debug) (ef τ ks c h).same ∙ z)
