-- What stands where in a Call, a Store and a Return, and how they are written with other values.
use Prim.Native.Nat.{ℕ, ◌+◌, ◌*◌, ◌-◌, ◌≤◌}
use mathlib.Core.Path.{◌≡◌, refl, ap, ◌∙◌, sym}
use mathlib.Core.List.{List, [], ◌∷◌, ◌++◌, append_assoc, append-nil}
use mathlib.Core.Bool.{false}
use native.Mathlib.Nat.{add-zero, le_refl}
use native.Mathlib.Omega.{arith}
use lib.ListN.{length, get_or, take, drop, length-append, take-append-drop}
use lib.Seq.{take_at, drop_at, drop-drop, get_or-drop}
use Rattle.bytes_wire.specs.Parse.{ok}
use Rattle.bytes_wire.specs.Number.{to_bytes, at16}
use Rattle.bytes_wire.specs.Value.{value_of, value_bytes}
use Rattle.bytes_wire.specs.WellFormed.{Bytes}
use Rattle.mir.specs.declared.ValueId.{ValueId}
use Rattle.mir.specs.declared.TypeId.{TypeId}
use Rattle.mir.specs.declared.Value.{Value}
use Rattle.bytes_wire.proofs.Canon.{Canon, bytes_drop}
use Rattle.mir.specs.Syntax.{Place, Instruction, InstructionKind, Call, Store, plain}
use Rattle.mir.specs.Reads.{kind_number}
use Rattle.bytes_field.specs.Decode.{bit, call_of, store_of, instruction_of}
use Rattle.bytes_field.specs.Encode.{each_bytes, list_bytes, value_id_bytes, type_id_bytes, place_bytes, field_bytes, meta_bytes, bit_map, instruction_bytes}
use Rattle.bytes_field.specs.declared.Bounds.{Bounds}
use Rattle.bytes_operands.specs.Fields.{fields_place, value_size, value_end, after}
use Rattle.bytes_operands.proofs.Places.{Listed}
use Rattle.bytes_operands.proofs.Instruction.{KindAt, instruction_fields}
use Rattle.bytes_laws.proofs.Exact.{whole}
use Rattle.bytes_laws.proofs.EachKind.{fields_most, fields}
use Rattle.bytes_laws.proofs.Instruction.{instruction_canon}
use Rattle.mir.specs.Lookup.{Types}
use Rattle.rewrite.specs.Rebuild.{aggregate_type, wanted_arguments}
use Rattle.rewrite_parts.specs.Rows.{ValueAt, stands}
use Rattle.rewrite_wanted.specs.declared.Asks.{Asks}
use Rattle.rewrite_wanted.specs.Asked.{asked_at, asked_list}
use Rattle.rewrite_list.specs.Lists.{Lies}
use Rattle.rewrite_list.specs.Lists as lies
use Rattle.rewrite_before.specs.Materialized.{call_first, call_behind, call_list, store_first}
use Rattle.rewrite_before.proofs.Fields.{CallAt, call_at, call_stands, StoreAt, store_at, store_stands, to_lies, asked_types}

-- a run before, one in the middle and one behind it, with what follows
pub record Cut (s h v c : List ℕ) (n m : ℕ) : Type 0 where
  pub front : take n s ≡ h
  pub back : take (length c) (drop m s) ≡ c

cut : (s h v c d : List ℕ) (n m : ℕ) → s ≡ h ++ (v ++ (c ++ d)) → length h ≡ n → n + length v ≡ m → Cut s h v c n m
cut s h v c d n m e p q =
    let a : drop m s ≡ c ++ d = ap (drop m) (e ∙ sym (append_assoc h v (c ++ d))) ∙ drop_at (h ++ v) (c ++ d) m (omega (arith, length-append h v)) in
    record {
      front = ap (take n) e ∙ take_at h (v ++ (c ++ d)) n p;
      back = ap (take (length c)) a ∙ take_at c d (length c) refl;
    }

-- bytes that were written as they stood, and the rest
pub over : (w s : List ℕ) (n : ℕ) → Canon w s n → s ≡ w ++ drop n s
over w s n c = sym (ap (λ l. l ++ drop n s) c.same ∙ take-append-drop n s)

-- the same bytes, grouped otherwise
group : (a b : List ℕ) (k : ℕ) (v c d : List ℕ) → (a ++ (b ++ ((k ∷ v) ++ c))) ++ d ≡ (a ++ (b ++ (k ∷ []))) ++ (v ++ (c ++ d))
group a b k v c d = simp (append_assoc)

ungroup : (a b : List ℕ) (k : ℕ) (v c : List ℕ) → (a ++ (b ++ (k ∷ []))) ++ (v ++ c) ≡ a ++ (b ++ ((k ∷ v) ++ c))
ungroup a b k v c = simp (append_assoc)

at16_drop : (t : List ℕ) (k : ℕ) → at16 (drop k t) 0 ≡ at16 t k
at16_drop t k = omega (arith, get_or-drop k t 0 0 ∙ ap (λ j. get_or t j 0) (add-zero k), get_or-drop k t 1 0)

-- what is known of a Call whose fields f stand at `place`
pub record CallKnown (next n : ℕ) (f : List ℕ) (place : ℕ) (ds : List ValueId) (g : ℕ) (xs : List Value) (ps rs : List TypeId) (first many behind : ℕ) : Type 0 where
  pub lies : Lies next f first xs
  pub listed : length xs ≡ many
  pub asked : (τ : Types) → asked_list τ f (Asks.Types (behind + 1) (get_or f behind 0)) 0 xs ≡ wanted_arguments τ xs ps
  pub bytes : (ys : List Value) → length ys ≡ length xs → 0 ∷ 3 ∷ (take first f ++ (each_bytes value_bytes ys ++ take (n - place - behind) (drop behind f))) ≡ instruction_bytes (plain (Call ds g ys ps rs))

-- and of a Store of n bytes
pub record StoreKnown (next n : ℕ) (t : List ℕ) (i : Instruction) (l : Place) (x : Value) (u : TypeId) (first behind : ℕ) : Type 0 where
  pub lies : Lies next t first (x ∷ [])
  pub asked : (τ : Types) → asked_at τ t (Asks.Types behind 1) 0 x ≡ aggregate_type τ u
  pub near : first ≤ n
  pub bytes : (y : Value) → take first t ++ (each_bytes value_bytes (y ∷ []) ++ take (n - behind) (drop behind t)) ≡ instruction_bytes (record { meta = i.meta; kind = Store l y u })

-- a value that stands in the fields stands in the whole
value_drop : (next : ℕ) (t : List ℕ) (place at : ℕ) (x : Value) → ValueAt next (drop place t) at x → ValueAt next t (place + at) x
value_drop next t place at x (stands n e) = stands n (ap (value_of next) (sym (drop-drop at place t)) ∙ e)

end_drop : (t : List ℕ) (place at : ℕ) → place + value_end (drop place t) at ≡ value_end t (place + at)
end_drop t place at = omega (arith, ap value_size (get_or-drop place t at 0))

-- an instruction whose kind is known
module _ (b : Bounds) (t : List ℕ) (i : Instruction) (n : ℕ) (h : Bytes t) (e : instruction_of b [] false t ≡ ok i n) where
  abbrev f : List ℕ
  f = drop (fields_place t) t

  f_bytes : Bytes f
  f_bytes = bytes_drop t (fields_place t) h

  known : KindAt b [] t i n
  known = instruction_fields b [] false t i n e

  field_canon : Canon (field_bytes i.kind) f known.size
  field_canon = ((whole (fields b [] (bit 3 (get_or t 0 0)) (get_or t 1 0)) (le_refl (fields_most b))).each f i.kind known.size f_bytes known.read).canon

  -- as it stands
  pub whole_canon : Canon (instruction_bytes i) t n
  whole_canon = instruction_canon b [] false t h e

  call_from : (ds : List ValueId) (g : ℕ) (xs : List Value) (ps rs : List TypeId) (first many behind : ℕ) → first ≡ 4 + 2 * get_or f 0 0 → many ≡ get_or f (first - 1) 0 → behind ≡ after (value_end f) many first → {k : InstructionKind} → CallAt b [] f k → k ≡ Call ds g xs ps rs → Canon (field_bytes k) f known.size → CallKnown b.next n f (fields_place t) ds g xs ps rs first many behind
  unfolding field_bytes instruction_bytes
  call_from ds g xs ps rs first many behind p q r (call_at ds' g' xs' ps' rs' first' behind' a l m o u v w y) z c =
      let z1 : ds' ≡ ds = cc in
      let z2 : g' ≡ g = cc in
      let z3 : xs' ≡ xs = cc in
      let z4 : ps' ≡ ps = cc in
      let z5 : rs' ≡ rs = cc in
      let e1 : first' ≡ first = a ∙ sym p in
      let e2 : behind' ≡ behind = l ∙ ap (λ k. after (value_end f) (get_or f (k - 1) 0) k) e1 ∙ ap (λ k. after (value_end f) k first) (sym q) ∙ sym r in
      let o' : Listed (ValueAt b.next f) (value_end f) first xs = rw (← z3, ← e1) o in
      let u' : length xs ≡ many = rw (← z3) u ∙ ap (λ k. get_or f (k - 1) 0) e1 ∙ sym q in
      let w' : Listed (λ q a. at16 f q ≡ a.0) (λ q. q + 2) (behind + 1 + 2 * 0) ps = rw (← z4, add-zero, ← e2) w in
      let y' : get_or f behind 0 ≡ 0 + length ps = omega (arith, ap length z4, y ∙ ap (λ k. get_or f k 0) e2) in
      let A = list_bytes value_id_bytes ds in
      let H = A ++ (to_bytes 2 g ++ (length xs ∷ [])) in
      let C = list_bytes type_id_bytes ps ++ list_bytes type_id_bytes rs in
      let D = drop known.size f in
      let c' : Canon (A ++ (to_bytes 2 g ++ (list_bytes value_bytes xs ++ C))) f known.size = rw (← z1, ← z2, ← z3, ← z4, ← z5) c in
      let s : f ≡ H ++ (each_bytes value_bytes xs ++ (C ++ D)) = over (A ++ (to_bytes 2 g ++ (list_bytes value_bytes xs ++ C))) f known.size c' ∙ group A (to_bytes 2 g) (length xs) (each_bytes value_bytes xs) C D in
      let lh : length H ≡ first = omega (arith, length-append A (to_bytes 2 g ++ (length xs ∷ [])), m ∙ e1, ap (λ k. length (list_bytes value_id_bytes k)) z1) in
      let lv : first + length (each_bytes value_bytes xs) ≡ behind = omega (arith, v ∙ e2, e1, ap (λ k. length (list_bytes value_bytes k)) z3) in
      let x = cut f H (each_bytes value_bytes xs) C D first behind s lh lv in
      let lc : n - fields_place t - behind ≡ length C = omega (arith, c'.size, known.whole, length-append A (to_bytes 2 g ++ (list_bytes value_bytes xs ++ C)), length-append (each_bytes value_bytes xs) C, lv, lh, length-append A (to_bytes 2 g ++ (length xs ∷ []))) in
      record {
        lies = to_lies o';
        listed = u';
        asked = λ τ. asked_types τ f (behind + 1) (get_or f behind 0) 0 xs ps w' y';
        bytes = λ ys j. rw (lc, x.front, x.back, ← j) (ap (λ k. 0 ∷ 3 ∷ k) (ungroup A (to_bytes 2 g) (length ys) (each_bytes value_bytes ys) C));
      }

  pub call_known : (ds : List ValueId) (g : ℕ) (xs : List Value) (ps rs : List TypeId) → i.kind ≡ Call ds g xs ps rs → CallKnown b.next n f (fields_place t) ds g xs ps rs (call_first f) (call_list f).many (call_behind f)
  call_known ds g xs ps rs k =
      let j : get_or t 1 0 ≡ 3 = sym known.numbered ∙ ap kind_number k in
      let d : call_of b [] f ≡ ok i.kind known.size = rw j at known.read in
      call_from ds g xs ps rs (call_first f) (call_list f).many (call_behind f) refl refl refl ((call_stands b [] f f_bytes).each i.kind known.size d) k field_canon

  meta_long : 2 + length (meta_bytes i.meta) ≡ fields_place t
  unfolding instruction_bytes
  meta_long = omega (arith, whole_canon.size, field_canon.size, known.whole, length-append (meta_bytes i.meta) (field_bytes i.kind))

  store_from_lem : (l : Place) (x : Value) (u : TypeId) {k : InstructionKind} → i ≡ record { meta = i.meta; kind = k } → StoreAt b [] f k → k ≡ Store l x u → StoreKnown b.next n t i l x u (store_first t) (value_end t (store_first t))
  unfolding field_bytes instruction_bytes
  store_from_lem l x u {k} ik (store_at l' x' u' first a m o v w) z =
      let z1 : l' ≡ l = cc in
      let z2 : x' ≡ x = cc in
      let z3 : u' ≡ u = cc in
      let P = fields_place t in
      let behind = value_end t (store_first t) in
      let e1 : P + first ≡ store_first t = ap (λ y. P + y) a in
      let e2 : P + value_end f first ≡ behind = end_drop t P first ∙ ap (value_end t) e1 in
      let o' : ValueAt b.next t (store_first t) x = rw (← z2, ← e1) (value_drop b.next t P first x' o) in
      let w' : at16 t behind ≡ u.0 = ap (at16 t) (sym e2) ∙ sym (at16_drop t (P + value_end f first)) ∙ ap (λ y. at16 y 0) (sym (drop-drop (value_end f first) P t)) ∙ at16_drop f (value_end f first) ∙ w ∙ ap (λ (y : TypeId). y.0) z3 in
      let M = meta_bytes i.meta in
      let H = bit_map (record { meta = i.meta; kind = Store l x u }) ∷ 6 ∷ (M ++ place_bytes l) in
      let T = type_id_bytes u in
      let D = drop n t in
      let ik' : i ≡ record { meta = i.meta; kind = Store l x u } = ik ∙ ap (λ y. record { meta = i.meta; kind = y }) z in
      let W = value_bytes x in
      let w0 : instruction_bytes i ≡ H ++ (W ++ T) = ap instruction_bytes ik' ∙ ap (λ y. bit_map (record { meta = i.meta; kind = Store l x u }) ∷ 6 ∷ y) (sym (append_assoc M (place_bytes l) (W ++ T))) in
      let s : t ≡ H ++ (W ++ (T ++ D)) = over (instruction_bytes i) t n whole_canon ∙ ap (λ y. y ++ D) w0 ∙ append_assoc H (W ++ T) D ∙ ap (λ y. H ++ y) (append_assoc W T D) in
      let lh : length H ≡ store_first t = omega (arith, meta_long, length-append M (place_bytes l), m, e1, ap (λ y. length (place_bytes y)) z1) in
      let lv : store_first t + length W ≡ behind = omega (arith, v, e1, e2, ap (λ y. length (value_bytes y)) z2) in
      let r = cut t H W T D (store_first t) behind s lh lv in
      let lt : n - behind ≡ 2 = omega (arith, lh, lv, whole_canon.size, ap length w0, length-append H (W ++ T), length-append W T) in
      record {
        lies = lies.◌&◌ o' lies.empty;
        asked = λ τ. ap (λ y. aggregate_type τ (record { 0 = y })) (at16_drop t behind ∙ w');
        near = omega (arith, lh, whole_canon.size, ap length w0, length-append H (W ++ T));
        bytes = λ y. rw (lt, r.front, r.back, append-nil (value_bytes y)) (ap (λ z. bit_map (record { meta = i.meta; kind = Store l x u }) ∷ 6 ∷ z) (append_assoc M (place_bytes l) (value_bytes y ++ T)));
      }

  pub store_known : (l : Place) (x : Value) (u : TypeId) → i.kind ≡ Store l x u → StoreKnown b.next n t i l x u (store_first t) (value_end t (store_first t))
  store_known l x u k =
      let j : get_or t 1 0 ≡ 6 = sym known.numbered ∙ ap kind_number k in
      let d : store_of b [] f ≡ ok i.kind known.size = rw j at known.read in
      store_from_lem l x u {k = i.kind} refl ((store_stands b [] f f_bytes).each i.kind known.size d) k
