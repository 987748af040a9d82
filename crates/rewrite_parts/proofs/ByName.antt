-- The loops that find the inits of a struct build by name.
use Prim.Native.Nat.{ℕ, suc, ◌+◌, ◌*◌, ◌%◌, ◌≤◌, ◌<◌, zero-le}
use mathlib.Core.Path.{◌≡◌, refl, ap, ◌∙◌, sym}
use mathlib.Core.List.{List, [], ◌∷◌}
use mathlib.Core.Bool.{Bool, true, false}
use mathlib.Core.Option.{Option, none, some}
use native.Mathlib.Nat.{add-zero}
use native.Mathlib.Numerals.{add-one}
use native.Mathlib.Omega.{arith}
use borrow.Author.Tests.{eq-eqb, ne_eqb}
use lib.ListN.{length, get_or, set, drop, drop_of_length-le}
use lib.Seq.{drop-cons, drop-drop, get_or-drop}
use Rattle.bytes_wire.specs.Number.{at16}
use Rattle.mir.specs.declared.Value.{Value}
use Rattle.mir.specs.declared.ValueId.{ValueId}
use Rattle.mir.specs.declared.NameId.{NameId}
use Rattle.mir.specs.MirType.{StructField}
use Rattle.mir.specs.Syntax.{FieldInit}
use Rattle.bytes_operands.specs.Fields.{after, value_end}
use Rattle.mir.specs.Parts.{given, cons_part, from_struct_fields}
use Rattle.mir.specs.Lookup.{is_some}
use Rattle.fold.specs.Family.{Marks}
use Rattle.rewrite.specs.State.{AggStates}
use Rattle.rewrite_parts.specs.Rows.{Rep, Room, item_offset, Inits, There, no_init, given_parts}
use Rattle.bytes_struct.specs.Fields.{Names, no_field}
use Rattle.rewrite_parts.specs.Filled.{Grown, Filled, NamedRow}
use Rattle.rewrite_parts.proofs.Tables.{rep_old, rep_track}
use Rattle.rewrite_parts.proofs.Loops.{place_more, grown_more, filled_more}

-- the name is not that of the first i of n inits
pub record Seeking (s : List ℕ) (at n : ℕ) (name : NameId) (here i : ℕ) : Type 0 where
  pub under : i ≤ n
  pub near : here ≤ at + 7 * i
  pub place : here ≡ item_offset s 2 at i
  pub left : (next : ℕ) (fs : List FieldInit) → Inits next s at fs → length fs ≡ n → given name fs ≡ given name (drop i fs)

-- none is looked at yet
pub seeking : (s : List ℕ) (at n : ℕ) (name : NameId) → Seeking s at n name at 0
unfolding after
seeking s at n name = record { under = zero-le; near = omega arith; place = refl; left = λ next fs v l. refl }

module _ {s : List ℕ} {at n : ℕ} {name : NameId} {here i : ℕ} (o : Seeking s at n name here i) where
  -- the next of them
  the_next : (next : ℕ) (fs : List FieldInit) → Inits next s at fs → length fs ≡ n → i < n → (drop i fs ≡ get_or fs i no_init ∷ drop (i + 1) fs) × ((get_or fs i no_init).name.0 ≡ at16 s here)
  the_next next fs v l h =
      let m : i < length fs = omega arith in
      (rw add-one (drop-cons fs i no_init m), sym (v.named i m) ∙ ap (at16 s) (sym o.place))

  -- another name
  pub sought_more : {there : ℕ} → i < n → (at16 s here ≡ name.0 → ⊥) → there ≡ value_end s (here + 2) → there ≤ here + 2 + 5 → Seeking s at n name there (i + 1)
  unfolding given
  sought_more {there} h z e near =
      record {
        under = omega arith;
        near = omega (arith, o.near);
        place = place_more s 2 at i here there o.place e;
        left = λ next fs v l.
            let t = the_next next fs v l h in
            o.left next fs v l ∙ ap (given name) t.0
            ∙ (let q = ne_eqb (get_or fs i no_init).name.0 name.0 (λ p. z (sym t.1 ∙ p)) in rw q);
      }

  -- the name
  pub sought_found : (next : ℕ) (fs : List FieldInit) → Inits next s at fs → length fs ≡ n → i < n → at16 s here ≡ name.0 → There next s (given name fs) (here + 2)
  unfolding given
  sought_found next fs v l h z =
      let t = the_next next fs v l h in
      let q = eq-eqb (get_or fs i no_init).name.0 name.0 (t.1 ∙ z) in
      let g : given name fs ≡ some (get_or fs i no_init).value = o.left next fs v l ∙ ap (given name) t.0 ∙ rw q in
      record { value = (get_or fs i no_init).value; is = g; stands = rw o.place (v.each i (omega arith)) }

  -- none has it
  pub sought_none : (next : ℕ) (fs : List FieldInit) → Inits next s at fs → length fs ≡ n → n ≤ i → given name fs ≡ none
  unfolding given
  sought_none next fs v l h =
      let m : length fs ≤ i = omega arith in
      o.left next fs v l ∙ ap (given name) (drop_of_length-le fs m)

-- one value
same_value : {o : Option Value} {x y : Value} → o ≡ some x → o ≡ some y → x ≡ y
same_value {o} {x} {y} e f = let z : some x ≡ some y = sym e ∙ f in cc

-- a part in front of others: both are there
data Consed (o : Option Value) (p : Option (List Value)) (ys : List Value) : Type 0 where
  consed : (x : Value) (zs : List Value) → o ≡ some x → p ≡ some zs → ys ≡ x ∷ zs → Consed o p ys

-- so they are where the whole is
consed_inv : (o : Option Value) (p : Option (List Value)) {ys : List Value} → cons_part o p ≡ some ys → Consed o p ys
unfolding cons_part
consed_inv none p {ys} e = absurd (let z : ◌≡◌ {A = ℕ} 0 1 = cc in omega arith)
consed_inv (some x) none {ys} e = absurd (let z : ◌≡◌ {A = ℕ} 0 1 = cc in omega arith)
consed_inv (some x) (some zs) {ys} e = consed x zs refl refl (cc)

-- where the first part is given, there are parts if there are others
pub part_given : (o : Option Value) (p : Option (List Value)) → is_some o ≡ true → is_some (cons_part o p) ≡ is_some p
unfolding cons_part is_some
part_given none p e = absurd (let z : ◌≡◌ {A = ℕ} 0 1 = cc in omega arith)
part_given (some x) none e = refl
part_given (some x) (some zs) e = refl

-- where it is not, there are none
pub part_missing : (o : Option Value) (p : Option (List Value)) → is_some o ≡ false → is_some (cons_part o p) ≡ false
unfolding cons_part is_some
part_missing none p e = refl
part_missing (some x) p e = absurd (let z : ◌≡◌ {A = ℕ} 0 1 = cc in omega arith)

-- there are no parts
no_parts : (o : Option (List Value)) (xs : List Value) → false ≡ is_some o → o ≡ some xs → ⊥
unfolding is_some
no_parts none xs e f = let z : ◌≡◌ {A = ℕ} 0 1 = cc in omega arith
no_parts (some ys) xs e f = let z : ◌≡◌ {A = ℕ} 0 1 = cc in omega arith

-- the first i of a type's fields are given, and the places of their values written
pub record Upto (next : ℕ) (s rows : List ℕ) (to : ℕ) (fs : List FieldInit) (ts : List StructField) (i : ℕ) : Type 0 where
  pub told : is_some (from_struct_fields fs ts) ≡ is_some (from_struct_fields fs (drop i ts))
  pub rest : (xs : List Value) → from_struct_fields fs ts ≡ some xs → (from_struct_fields fs (drop i ts) ≡ some (drop i xs)) × Filled next s rows to xs i

-- i of a type's m names are done
pub record Naming (s : List ℕ) (at n : ℕ) (types : List ℕ) (names m : ℕ) (rows₀ : List ℕ) (to : ℕ) (rows : List ℕ) (i : ℕ) : Type 0 where
  pub under : i ≤ m
  pub grown : Grown rows₀ to rows
  pub left : (next : ℕ) (fs : List FieldInit) (ts : List StructField) → Inits next s at fs → length fs ≡ n → Names types names ts → length ts ≡ m → length s < 65536 → to + m ≤ length rows₀ → Upto next s rows to fs ts i

module _ {s : List ℕ} {at n : ℕ} {types : List ℕ} {names m : ℕ} {rows₀ : List ℕ} {to : ℕ} {rows : List ℕ} {i : ℕ} (o : Naming s at n types names m rows₀ to rows i) where
  -- the parts from the next field on
  the_field : (name : NameId) (fs : List FieldInit) (ts : List StructField) → Names types names ts → length ts ≡ m → i < m → name.0 ≡ at16 types (names + 4 * i) → from_struct_fields fs (drop i ts) ≡ cons_part (given name fs) (from_struct_fields fs (drop (i + 1) ts))
  unfolding from_struct_fields
  the_field name fs ts w l h e =
      let k : i < length ts = omega arith in
      let d : drop i ts ≡ get_or ts i no_field ∷ drop (i + 1) ts = rw add-one (drop-cons ts i no_field k) in
      let q : (get_or ts i no_field).name ≡ name = ap (λ (x : ℕ). record { 0 = x }) (sym (w.each i k) ∙ sym e) in
      ap (from_struct_fields fs) d ∙ ap (λ x. cons_part (given x fs) (from_struct_fields fs (drop (i + 1) ts))) q

  -- one more
  pub named_more : {rows' : List ℕ} (place : ℕ) (name : NameId) → i < m → name.0 ≡ at16 types (names + 4 * i) → ((next : ℕ) (fs : List FieldInit) → Inits next s at fs → length fs ≡ n → There next s (given name fs) place) → rows' ≡ set rows (to + i) (place % 65536) → Naming s at n types names m rows₀ to rows' (i + 1)
  unfolding is_some
  named_more {rows'} place name h e found p =
      record {
        under = omega arith;
        grown = rw p (grown_more (to + i) (place % 65536) o.grown (omega arith));
        left = λ next fs ts v l w k short r.
            let u = o.left next fs ts v l w k short r in
            let q = found next fs v l in
            let t = the_field name fs ts w k h e in
            record {
              told = u.told ∙ ap is_some t ∙ part_given (given name fs) (from_struct_fields fs (drop (i + 1) ts)) (ap is_some q.is);
              rest = λ xs z.
                  let y = u.rest xs z in
                  elim (consed_inv (given name fs) (from_struct_fields fs (drop (i + 1) ts)) (sym t ∙ y.0)) [
                    | consed x zs a b c ↦
                        let d : get_or xs i Value.Error ≡ x = rw add-zero at (sym (get_or-drop i xs 0 Value.Error)) ∙ ap (λ l. get_or l 0 Value.Error) c in
                        let g : drop (i + 1) xs ≡ zs = sym (drop-drop 1 i xs) ∙ ap (drop 1) c in (
                          b ∙ ap some (sym g),
                          rw p (filled_more place short y.1 (omega (arith, o.grown.size)) (rw (d, same_value a q.is) q.stands)),
                        )
                  ];
            };
      }

  -- one is missing
  pub named_missing : (name : NameId) → i < m → name.0 ≡ at16 types (names + 4 * i)
      → ((next : ℕ) (fs : List FieldInit) → Inits next s at fs → length fs ≡ n → given name fs ≡ none)
      → (next : ℕ) (fs : List FieldInit) (ts : List StructField) → Inits next s at fs → length fs ≡ n → Names types names ts → length ts ≡ m
      → length s < 65536 → to + m ≤ length rows₀ → NamedRow next s rows to m (from_struct_fields fs ts) false
  unfolding is_some
  named_missing name h e found next fs ts v l w k short r =
      let u = o.left next fs ts v l w k short r in
      let z : false ≡ is_some (from_struct_fields fs ts) =
      sym (u.told ∙ ap is_some (the_field name fs ts w k h e) ∙ part_missing (given name fs) (from_struct_fields fs (drop (i + 1) ts)) (ap is_some (found next fs v l))) in
      record { told = z; row = λ xs g. absurd (no_parts (from_struct_fields fs ts) xs z g) }

  -- all are given
  pub named_all : m ≤ i → (next : ℕ) (fs : List FieldInit) (ts : List StructField) → Inits next s at fs → length fs ≡ n → Names types names ts → length ts ≡ m → length s < 65536 → to + m ≤ length rows₀ → NamedRow next s rows to m (from_struct_fields fs ts) true
  unfolding from_struct_fields is_some
  named_all h next fs ts v l w k short r =
      let u = o.left next fs ts v l w k short r in
      let g : length ts ≤ i = omega arith in
      record {
        told = sym (u.told ∙ ap (λ us. is_some (from_struct_fields fs us)) (drop_of_length-le ts g));
        row = λ xs e. record { each = λ j q. (u.rest xs e).1.each j (omega arith) };
      }

-- as many parts as fields
pub named_length : (fs : List FieldInit) (ts : List StructField) (xs : List Value) → from_struct_fields fs ts ≡ some xs → length xs ≡ length ts
unfolding from_struct_fields
named_length fs [] xs e = let z : xs ≡ [] = cc in rw z
named_length fs (t ∷ ts) xs e =
    elim (consed_inv (given t.name fs) (from_struct_fields fs ts) e) [ consed x zs a b c ↦ rw c (ap suc (named_length fs ts zs b)) ]

-- d has a new row where all fields are given, else nothing changes
pub rep_named : {next : ℕ} {s : List ℕ} {tracked : Marks} {rows rows' : List ℕ} {used : ℕ} {S : AggStates} (fs : List FieldInit) (ts : List StructField) (m : ℕ) (d : ValueId)
    → Rep next s tracked rows used S → Room rows used → d.0 < 256 → Grown rows used rows' → length ts ≡ m → m ≤ 16 → get_or rows' used 0 ≡ m → {all : Bool} → all ≡ true → NamedRow next s rows' (used + 1) m (from_struct_fields fs ts) all
    → (true ≡ is_some (from_struct_fields fs ts)) × Rep next s (set tracked d.0 true) (set rows' d.0 used) (used + 1 + m) (given_parts S d (from_struct_fields fs ts))
unfolding given_parts is_some
rep_named {next} {s} {tracked} {rows} {rows'} {used} {S} fs ts m d r q b g l h c {all} y w = (sym y ∙ w.told, go (from_struct_fields fs ts) refl)
  where
    go : (p : Option (List Value)) → from_struct_fields fs ts ≡ p → Rep next s (set tracked d.0 true) (set rows' d.0 used) (used + 1 + m) (given_parts S d p)
    go none e = absurd (let z : true ≡ false = sym y ∙ w.told ∙ ap is_some e in let u : ◌≡◌ {A = ℕ} 0 1 = cc in omega arith)
    go (some xs) e = rep_track r xs m d q b g (named_length fs ts xs e ∙ l) h c (w.row xs e)

-- some field is missing
pub rep_missing : {next : ℕ} {s : List ℕ} {tracked : Marks} {rows rows' : List ℕ} {used : ℕ} {S : AggStates} (o : Option (List Value)) (d : ValueId) → Rep next s tracked rows used S → Grown rows used rows' → false ≡ is_some o → (false ≡ is_some o) × Rep next s tracked rows' used (given_parts S d o)
unfolding given_parts is_some
rep_missing none d r g e = (e, rep_old r g)
rep_missing (some xs) d r g e = absurd (let z : ◌≡◌ {A = ℕ} 0 1 = cc in omega arith)
