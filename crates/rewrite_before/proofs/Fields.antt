-- Where the fields of a Call and of a Store stand, and how long their bytes are.
use Prim.Native.Nat.{ℕ, zero, suc, ◌+◌, ◌*◌, ◌-◌, ◌≤◌, ◌<◌}
use mathlib.Core.Path.{◌≡◌, refl, ap, ◌∙◌, sym}
use mathlib.Core.List.{List, [], ◌∷◌}
use mathlib.Core.Bool.{Bool, true, false, not}
use native.Mathlib.Omega.{arith}
use borrow.Author.Tests.{lt-ltb, ltb-true}
use lib.ListN.{length, get_or, drop}
use lib.Seq.{get_or-drop}
use lib.Dec.{ltb}
use Rattle.bytes_wire.specs.Parse.{Parse}
use Rattle.bytes_wire.specs.Number.{below, at16}
use Rattle.bytes_wire.specs.Value.{value_of, value_bytes}
use Rattle.bytes_wire.specs.WellFormed.{Bytes}
use Rattle.bytes_wire.specs.declared.Cause.{Cause}
use Rattle.mir.specs.declared.ValueId.{ValueId}
use Rattle.mir.specs.declared.TypeId.{TypeId}
use Rattle.mir.specs.declared.Value.{Value}
use Rattle.bytes_wire.proofs.Laws.{from_16}
use Rattle.bytes_wire.proofs.Inv.{image, map_inv, number_inv, below_inv}
use Rattle.bytes_wire.proofs.Canon.{bytes_drop}
use Rattle.mir.specs.Syntax.{Place, InstructionKind, Call, Store}
use Rattle.bytes_field.specs.Decode.{type_id_of, list_of, mark, defined_of, defined_seq, defineds_of, projection_of, place_of, returns_of, call_of, store_of}
use Rattle.bytes_field.specs.Encode.{list_bytes, value_id_bytes, place_bytes}
use Rattle.bytes_field.specs.declared.Bounds.{Bounds}
use Rattle.bytes_field.proofs.Laws.{head}
use Rattle.bytes_operands.specs.Fields.{value_size, value_end, projection_end, after}
use Rattle.bytes_operands.proofs.Places.{Stand, Field, then, last, made, alone, because, Takes, takes_number, takes_map, takes_checked, fixed, Listed, empty, ◌&◌, count, list}
use Rattle.bytes_operands.proofs.Values.{value_field}
use Rattle.bytes_operands.proofs.EachKind.{projection_size}
use Rattle.bytes_laws.proofs.Exact.{Exact}
use Rattle.bytes_laws.proofs.Fields as exact
use Rattle.mir.specs.Lookup.{Types}
use Rattle.rewrite.specs.Rebuild.{wanted_arguments}
use Rattle.rewrite_parts.specs.Rows.{ValueAt}
use Rattle.rewrite_wanted.specs.declared.Asks.{Asks}
use Rattle.rewrite_wanted.specs.Asked.{asked_list}
use Rattle.rewrite_list.specs.Lists as lies

-- a field's bytes reach from its place to the place behind it
sized : {A : Type 0} {t : List ℕ} {at end most : ℕ} {dec : List ℕ → Parse A} {enc : A → List ℕ} {G Q : A → Type 0} → Bytes t → Exact dec enc G most → Field t at dec Q end → Field t at dec (λ a. Q a × (at + length (enc a) ≡ end)) end
sized {A} {t} {at} h x y = record { each = λ a n e. let f = y.each a n e in let c = (x.each (drop at t) a n (bytes_drop t at h) e).canon in ((f.0, omega (arith, f.1, c.size)), f.1) }

module _ (b : Bounds) (seen : List Bool) (t : List ℕ) where
  -- a type's number, wherever it stands
  type_field : {p : ℕ} → Field t p (type_id_of b.types) (λ a. at16 t p ≡ a.0) (p + 2)
  type_field {p} =
      record {
        each = λ a n e.
            elim (map_inv (λ x. record { 0 = x }) (below b.types (drop p t)) e) [
              | image x f g ↦
                  let h = number_inv 2 (drop p t) (below_inv b.types (drop p t) f).0 in
                  (sym (ap (λ (y : TypeId). y.0) g ∙ h.1 ∙ from_16 t p), ap (λ m. p + m) h.2)
            ];
      }

  takes_dest : (s : List Bool) → Takes (defined_of b.next s) 2
  takes_dest s = takes_checked Cause.Redefined (λ d. not (get_or s d.0 false)) (takes_map _ (takes_checked Cause.OutOfRange (λ x. ltb x b.next) (takes_number 2)))

  news : (s : List Bool) (k p : ℕ) → Field t p (defined_seq b.next s k) (λ ds. Unit {0}) (p + 2 * k)
  unfolding defined_seq
  news s zero p = alone (tt, omega arith)
  news s (suc k) p = then (fixed (takes_dest s)) (λ d u. last _ (news (mark s d) k (p + 2)) (λ ds v. (tt, omega arith)))

  dests_field : Field t 0 (defineds_of b.list b.next seen) (λ ds. Unit {0}) (1 + 2 * get_or t 0 0)
  unfolding defineds_of
  dests_field = then (count b.list 0) (λ k q. because (news seen k 1) (λ ds e r. (tt, rw q at r.1)))

  pub values_field : {p : ℕ} → Field t p (list_of b.list (value_of b.next)) (λ xs. Listed (ValueAt b.next t) (value_end t) (p + 1) xs × (length xs ≡ get_or t p 0)) (after (value_end t) (get_or t p 0) (p + 1))
  values_field {p} = list (λ q. value_field b t {p = q}) b.list p

  types_field : {p : ℕ} → Field t p (list_of b.list (type_id_of b.types)) (λ ts. Listed (λ q a. at16 t q ≡ a.0) (λ q. q + 2) (p + 1) ts × (length ts ≡ get_or t p 0)) (after (λ q. q + 2) (get_or t p 0) (p + 1))
  types_field {p} = list (λ q. type_field {p = q}) b.list p

  -- what is known of a Call: where its values and parameter types stand
  pub data CallAt : InstructionKind → Type 0 where
    call_at : (ds : List ValueId) (g : ℕ) (xs : List Value) (ps rs : List TypeId) (first behind : ℕ) → first ≡ 4 + 2 * get_or t 0 0 → behind ≡ after (value_end t) (get_or t (first - 1) 0) first
        → length (list_bytes value_id_bytes ds) + 3 ≡ first → Listed (ValueAt b.next t) (value_end t) first xs → length xs ≡ get_or t (first - 1) 0 → first - 1 + length (list_bytes value_bytes xs) ≡ behind
        → Listed (λ q a. at16 t q ≡ a.0) (λ q. q + 2) (behind + 1) ps → length ps ≡ get_or t behind 0 → CallAt (Call ds g xs ps rs)

  pub call_stands : Bytes t → Stand t 0 (call_of b seen) (λ i e. CallAt i)
  unfolding call_of
  call_stands h =
      let p = 1 + 2 * get_or t 0 0 + 2 in
      let z : p + 1 ≡ 4 + 2 * get_or t 0 0 = omega arith in
      let y : p ≡ p + 1 - 1 = omega arith in
      then (sized h (exact.dests b seen) dests_field) (λ ds u.
      then (fixed (takes_number 2)) (λ g u'.
      then (sized h (exact.values b) values_field) (λ xs v.
      then types_field (λ ps w.
      made (returns_of b seen (length ds)) _ (λ rs e.
      call_at ds g xs ps rs (p + 1) (after (value_end t) (get_or t p 0) (p + 1)) z (ap (λ k. after (value_end t) (get_or t k 0) (p + 1)) y) (omega (arith, u.1)) v.0.0 (v.0.1 ∙ ap (λ k. get_or t k 0) y) (omega (arith, v.1)) w.0 w.1)))))

  -- the place behind a projection, counted from its own
  ends : (p v k : ℕ) → p + get_or ((1 + v) ∷ 3 ∷ 5 ∷ []) k 5 ≡ get_or ((p + 1 + v) ∷ (p + 3) ∷ []) k (p + 5)
  ends p v zero = omega arith
  ends p v (suc zero) = refl
  ends p v (suc (suc zero)) = refl
  ends p v (suc (suc (suc k))) = refl

  projection_field : (p : ℕ) → Field t p (projection_of b.next) (λ a. Unit {0}) (projection_end t p)
  projection_field p =
      record {
        each = λ a n e.
            let z : n ≡ get_or ((1 + value_size (get_or t (p + 1) 0)) ∷ 3 ∷ 5 ∷ []) (get_or t p 0) 5 = rw (get_or-drop p t 1 0, head t p) at (projection_size b.next (drop p t) e) in
            (tt, rw z (ends p (value_size (get_or t (p + 1) 0)) (get_or t p 0)));
      }

  place_field : Field t 0 (place_of b) (λ a. Unit {0}) (after (projection_end t) (get_or t 2 0) 3)
  place_field = then (fixed (takes_map _ (takes_checked Cause.OutOfRange (λ x. ltb x b.next) (takes_number 2)))) (λ v u. last _ (list {Q = λ p a. Unit {0}} projection_field b.projections 2) (λ ps q. (tt, refl)))

  -- what is known of a Store: its value stands behind its place, and its type behind that
  pub data StoreAt : InstructionKind → Type 0 where
    store_at : (l : Place) (x : Value) (u : TypeId) (first : ℕ) → first ≡ after (projection_end t) (get_or t 2 0) 3 → length (place_bytes l) ≡ first → ValueAt b.next t first x → first + length (value_bytes x) ≡ value_end t first → at16 t (value_end t first) ≡ u.0 → StoreAt (Store l x u)

  pub store_stands : Bytes t → Stand t 0 (store_of b seen) (λ i e. StoreAt i)
  unfolding store_of
  store_stands h =
      then (sized h (exact.place b) place_field) (λ l u.
      then (sized h (exact.value b) (value_field b t)) (λ x v.
      last _ type_field (λ y w. store_at l x y (after (projection_end t) (get_or t 2 0) 3) refl (omega (arith, u.1)) v.0 v.1 w)))

-- values that stand one behind another
pub to_lies : {next : ℕ} {t : List ℕ} {at : ℕ} {xs : List Value} → Listed (ValueAt next t) (value_end t) at xs → lies.Lies next t at xs
to_lies empty = lies.empty
to_lies (v & l) = lies.◌&◌ v (to_lies l)

-- the types asked for are the parameter types
module _ (τ : Types) (t : List ℕ) (place n : ℕ) where
  not_below : (i : ℕ) → n ≤ i → ltb i n ≡ false
  not_below i h = go (ltb i n) refl
    where
      go : (c : Bool) → ltb i n ≡ c → c ≡ false
      go true e = absurd (let z : i < n = ltb-true i n e in omega arith)
      go false e = refl

  asked_past : (i : ℕ) (xs : List Value) → n ≤ i → asked_list τ t (Asks.Types place n) i xs ≡ wanted_arguments τ xs []
  unfolding asked_list wanted_arguments
  asked_past i [] h = refl
  asked_past i (x ∷ xs) h = rw (not_below i h, asked_past (suc i) xs (omega arith)) refl

  pub asked_types : (i : ℕ) (xs : List Value) (ps : List TypeId) → Listed (λ q a. at16 t q ≡ a.0) (λ q. q + 2) (place + 2 * i) ps → n ≡ i + length ps → asked_list τ t (Asks.Types place n) i xs ≡ wanted_arguments τ xs ps
  unfolding asked_list wanted_arguments
  asked_types i [] ps l e = refl
  asked_types i (x ∷ xs) [] l e = asked_past i (x ∷ xs) (omega arith)
  asked_types i (x ∷ xs) (p ∷ ps) (v & l) e =
      let z : place + 2 * i + 2 ≡ place + 2 * suc i = omega arith in
      let l' : Listed (λ q a. at16 t q ≡ a.0) (λ q. q + 2) (place + 2 * suc i) ps = rw (← z) l in
      let s : place + (2 * i + 1) ≡ place + 2 * i + 1 = omega arith in
      let w : at16 (drop place t) (2 * i) ≡ p.0 = rw (get_or-drop, get_or-drop, s) v in
      rw (lt-ltb i n (omega arith), w, asked_types (suc i) xs ps l' (omega arith)) refl
