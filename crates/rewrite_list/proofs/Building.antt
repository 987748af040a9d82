-- The builds of a list, one value after another.
use Prim.Native.Nat.{ℕ, suc, ◌+◌, ◌*◌, ◌≤◌, ◌<◌}
use mathlib.Core.Path.{◌≡◌, refl, ap, ◌∙◌, sym}
use mathlib.Core.List.{List, [], ◌∷◌, append-nil}
use mathlib.Core.Bool.{Bool, true, false, cond, not}
use mathlib.Core.Option.{Option, none, some}
use native.Mathlib.Nat.{add-zero, add_assoc}
use native.Mathlib.Numerals.{add-one}
use native.Mathlib.Omega.{arith}
use lib.ListN.{length, set}
use lib.Seq.{drop-set-add}
use lib.Dec.{eqb}
use Rattle.mir.specs.declared.ValueId.{ValueId}
use Rattle.mir.specs.declared.TypeId.{TypeId}
use Rattle.mir.specs.declared.Value.{Value}
use Rattle.mir.specs.Syntax.{Instruction}
use Rattle.bytes_field.specs.Encode.{each_bytes, instruction_bytes}
use Rattle.bytes_index.specs.declared.code.Code.{Code}
use Rattle.mir.specs.MirType.{MirType, Felt, Bool as TBool, U32, Tuple, Struct, FixedArray, Pointer, Function, Unit, Error, Unknown}
use Rattle.bytes_operands.specs.Fields.{value_end}
use Rattle.mir.specs.Lookup.{Types, row_of}
use Rattle.fold.specs.Family.{Marks}
use Rattle.rewrite.specs.Fault.{full_fault, lines_fault, last_number}
use Rattle.rewrite.specs.State.{AggStates}
use Rattle.rewrite.specs.Rebuild.{Rebuilt, untouched, rebuild_at, added_fault, rebuild_value, rebuild_all}
use Rattle.rewrite_parts.specs.Rows.{ValueAt, Rep, rows_in, fresh_in}
use Rattle.rewrite.specs.declared.Fault.{Fault}
use Rattle.bytes_emit.specs.Written.{Writes}
use Rattle.bytes_wire.specs.Value.{bool_byte}
use Rattle.rewrite_build.specs.Written.{rebuild_bytes, rebuild_most, Clashes, Written}
use Rattle.rewrite_progress.specs.declared.Progress.{Progress}
use Rattle.std.specs.Prelude.{Some, Option as Answered, Result, Ok, Err}
use Rattle.rewrite_progress.specs.Effect.{Output, output_of, rebuilt_effect, behind, further, mark_all, type_numbers, Puts}
use Rattle.rewrite_progress.proofs.Laws.{behind_then, behind_none}
use Rattle.rewrite_progress.proofs.Faults.{met_first, met_next, one_line_fault, puts_fault, puts_effect}
use Rattle.rewrite_wanted.specs.declared.Asks.{Asks}
use Rattle.rewrite_wanted.specs.declared.Build.{Build}
use Rattle.rewrite_wanted.specs.Asked.{Setting, asked_at, asked_list, Told}
use Rattle.rewrite_list.specs.declared.values.ListedValues.{ListedValues}
use Rattle.rewrite_list.specs.Lists.{Few, Lies, ◌&◌, line_count, line_fault, one_wanted, OfList, BuildsPut, TrackedPut, WantedPut, AllPut}
use Rattle.rewrite_list.proofs.Copying.{line_none, line_one}
use Rattle.rewrite_list.proofs.Joining.{joined, join_first, join_effect, built, one_built}
use Rattle.rewrite_list.proofs.Numbers.{fits}

-- one instruction is a line
one_line : (i : Instruction) (a b : ℕ) → b ≡ a + length (each_bytes instruction_bytes (i ∷ [])) → line_count a b ≡ 1
unfolding instruction_bytes
one_line i a b e = line_one a b (λ z. omega arith)

-- as many lines as the rebuild has
lines_of : (d : ValueId) (xs : List Value) (t : TypeId) (o : Option MirType) (a b : ℕ) → b ≡ a + length (each_bytes instruction_bytes (rebuild_at d xs t o)) → line_count a b ≡ length (rebuild_at d xs t o)
unfolding rebuild_at
lines_of d xs t none a b e = line_none a b (omega arith)
lines_of d xs t (some Felt) a b e = line_none a b (omega arith)
lines_of d xs t (some TBool) a b e = line_none a b (omega arith)
lines_of d xs t (some U32) a b e = line_none a b (omega arith)
lines_of d xs t (some (Tuple ts)) a b e = one_line _ a b e
lines_of d xs t (some (Struct n fs)) a b e = one_line _ a b e
lines_of d xs t (some (FixedArray u k)) a b e = one_line _ a b e
lines_of d xs t (some (Pointer u)) a b e = line_none a b (omega arith)
lines_of d xs t (some (Function ps r)) a b e = line_none a b (omega arith)
lines_of d xs t (some Unit) a b e = line_none a b (omega arith)
lines_of d xs t (some Error) a b e = line_none a b (omega arith)
lines_of d xs t (some Unknown) a b e = line_none a b (omega arith)

-- the rows under another name
pub rep_held : {next : ℕ} {s : List ℕ} {tracked : Marks} {rows held : List ℕ} {used : ℕ} {S : AggStates} → held ≡ rows → Rep next s tracked rows used S → Rep next s tracked held used S
rep_held e r = rw e r

-- so many lines are one too many where the block is full
lines_met : (l : ℕ) (same : Bool) (is : List Instruction) → cond same 0 1 ≡ length is → line_fault (not same) l ≡ lines_fault l is
unfolding lines_fault
lines_met l true [] e = refl
lines_met l true (i ∷ is) e = absurd (omega arith)
lines_met l false [] e = absurd (omega arith)
lines_met l false (i ∷ []) e = sym (one_line_fault l i)
lines_met l false (i ∷ j ∷ is) e = absurd (omega arith)

-- one rebuild, under the number n
module _ (τ : Types) (n : ℕ) (t : TypeId) (xs : List Value) (out out' : List ℕ) (p : Progress) where
  abbrev one : Rebuilt
  one = rebuild_value τ n t xs (untouched [])

  -- a fault
  module _ (f : Fault) (fresh fresh' : List ℕ) (dropped : Marks) where
    put_fault : one.fault p.lines ≡ some f → Puts (output_of out fresh dropped p) (rebuilt_effect one) one.fault out' fresh' dropped (Err f)
    put_fault h = puts_fault (output_of out fresh dropped p) (rebuilt_effect one) one.fault out' fresh' dropped f h

    -- a clash
    pub build_clash : Clashes τ xs t f out out' → Puts (output_of out fresh dropped p) (rebuilt_effect one) one.fault out' fresh' dropped (Err f)
    unfolding rebuild_value
    build_clash w = put_fault (met_first _ f w.told)

    module _ (to d : ℕ) (e : d ≡ n) (w : Written τ (record { 0 = d }) xs t out out' p.to to) where
      -- no number
      pub build_numberless : full_fault n ≡ some f → Puts (output_of out fresh dropped p) (rebuilt_effect one) one.fault out' fresh' dropped (Err f)
      unfolding rebuild_value added_fault
      build_numberless h = put_fault (met_next _ w.told ∙ met_first _ f h)

      -- no line
      pub build_lineless : full_fault n ≡ none → line_fault (not (eqb p.to to)) p.lines ≡ some f → Puts (output_of out fresh dropped p) (rebuilt_effect one) one.fault out' fresh' dropped (Err f)
      unfolding rebuild_value added_fault
      build_lineless h k =
          let v : Writes (rebuild_bytes τ (record { 0 = n }) xs t) out out' p.to to = rw (← e) w.written in
          let m = lines_met p.lines (eqb p.to to) (rebuild_at (record { 0 = n }) xs t (row_of τ (some t))) (lines_of (record { 0 = n }) xs t (row_of τ (some t)) p.to to v.0) in
          put_fault (met_next _ w.told ∙ met_next _ h ∙ met_first none f (sym m ∙ k))

  -- else it is written
  pub build_made : (to d : ℕ) → d ≡ n → Written τ (record { 0 = d }) xs t out out' p.to to → (fresh fresh' : List ℕ) (dropped : Marks) (lines : ℕ) → full_fault n ≡ none → line_fault (not (eqb p.to to)) p.lines ≡ none → fresh' ≡ set fresh p.fresh t.0 → lines ≡ line_count p.to to
      → Puts (output_of out fresh dropped p) (rebuilt_effect one) one.fault out' fresh' dropped (Ok (record { to = to; lines = p.lines + lines; fresh = p.fresh + 1; counts = p.counts }))
  unfolding rebuild_value added_fault rebuilt_effect behind further mark_all type_numbers
  build_made to d e w fresh fresh' dropped lines h k f l =
      let v : Writes (rebuild_bytes τ (record { 0 = n }) xs t) out out' p.to to = rw (← e) w.written in
      let c : line_count p.to to ≡ length (rebuild_at (record { 0 = n }) xs t (row_of τ (some t))) = lines_of (record { 0 = n }) xs t (row_of τ (some t)) p.to to v.0 in
      let m : lines ≡ length (rebuild_at (record { 0 = n }) xs t (row_of τ (some t))) = l ∙ c in
      let g = lines_met p.lines (eqb p.to to) (rebuild_at (record { 0 = n }) xs t (row_of τ (some t))) c in
      puts_effect (output_of out fresh dropped p) (rebuilt_effect one) one.fault out' fresh' dropped (record { to = to; lines = p.lines + lines; fresh = p.fresh + 1; counts = p.counts })
      (met_next _ w.told ∙ met_next _ h ∙ met_next none (sym g ∙ k))
      (rw (f, m, v.0, v.1, append-nil) (simp (add-zero)))

-- what is left of the list, where o is the output so far: values from number i on, which stand from `here` on
pub record Left (next : ℕ) (t : List ℕ) (asks : Asks) (τ : Types) (S : AggStates) (many : ℕ) (o₀ : Output) (R₀ : Rebuilt) (o : Output) (here i : ℕ) : Type 0 where
  pub rest : List Value
  pub lies : Lies next t here rest
  pub left : i + length rest ≡ many
  pub number : next + o.progress.fresh < 65536
  pub fault : R₀.fault o₀.progress.lines ≡ (rebuild_all τ S (next + o.progress.fresh) (asked_list τ t asks i rest)).fault o.progress.lines
  pub effect : behind o (rebuilt_effect (rebuild_all τ S (next + o.progress.fresh) (asked_list τ t asks i rest))) ≡ behind o₀ (rebuilt_effect R₀)

spent : (o : Output) (A : Rebuilt) → (behind o (rebuilt_effect A)).progress.fresh ≡ o.progress.fresh + length A.fresh
unfolding behind further rebuilt_effect
spent o A = refl

lined : (o : Output) (A : Rebuilt) → (behind o (rebuilt_effect A)).progress.lines ≡ o.progress.lines + length A.before
unfolding behind further rebuilt_effect
lined o A = refl

module _ (next : ℕ) (t : List ℕ) (asks : Asks) (τ : Types) (S : AggStates) (many : ℕ) (o₀ : Output) (R₀ : Rebuilt) where
  module _ (o : Output) (here i : ℕ) (c : Left next t asks τ S many o₀ R₀ o here i) where
    -- what is left, of these values
    abbrev of_values : List Value → Rebuilt
    of_values ys = rebuild_all τ S (next + o.progress.fresh) (asked_list τ t asks i ys)

    abbrev of_one : Value → Rebuilt
    of_one x = one_wanted τ S (next + o.progress.fresh) x (asked_at τ t asks i x)

    -- one more is done
    pub left_again : (o' : Output) (there : ℕ) → i < many → there ≡ value_end t here
        → ((x : Value) → ValueAt next t here x → next + o.progress.fresh < 65536 → ((of_one x).fault o.progress.lines ≡ none) × (o' ≡ behind o (rebuilt_effect (of_one x))))
        → Left next t asks τ S many o₀ R₀ o' there (i + 1)
    unfolding asked_list
    left_again o' there h e f = go c.rest c.lies c.left c.fault c.effect
      where
        go : (ys : List Value) → Lies next t here ys → i + length ys ≡ many
            → R₀.fault o₀.progress.lines ≡ (of_values ys).fault o.progress.lines
            → behind o (rebuilt_effect (of_values ys)) ≡ behind o₀ (rebuilt_effect R₀)
            → Left next t asks τ S many o₀ R₀ o' there (i + 1)
        go [] l m k b = absurd (omega arith)
        go (x ∷ ys) (v & l) m k b =
            let n = next + o.progress.fresh in
            let A = of_one x in
            let B = rebuild_all τ S (n + length A.fresh) (asked_list τ t asks (suc i) ys) in
            let j : of_values (x ∷ ys) ≡ joined A B = join_first τ S n (record { value = x; at = asked_at τ t asks i x }) (asked_list τ t asks (suc i) ys) in
            let g = f x v c.number in
            let far : o'.progress.fresh ≡ o.progress.fresh + length A.fresh = ap (λ z. z.progress.fresh) g.1 ∙ spent o A in
            let same : next + o'.progress.fresh ≡ n + length A.fresh = ap (λ z. next + z) far ∙ sym (add_assoc next o.progress.fresh (length A.fresh)) in
            let down : o'.progress.lines ≡ o.progress.lines + length A.before = ap (λ z. z.progress.lines) g.1 ∙ lined o A in
            record {
              rest = ys;
              lies = rw e l;
              left = omega arith;
              number = omega (arith, same, fits τ S _ n o.progress.lines c.number g.0);
              fault = rw (same, add-one i, down) (k ∙ ap (λ R. R.fault o.progress.lines) j ∙ met_next (B.fault (o.progress.lines + length A.before)) g.0);
              effect = rw (same, add-one i, g.1) (behind_then o (rebuilt_effect A) (rebuilt_effect B) ∙ ap (behind o) (sym (join_effect A B)) ∙ ap (λ R. behind o (rebuilt_effect R)) (sym j) ∙ b);
            }

    -- a fault now is that of the whole
    pub left_fault : (f : Fault) → i < many → ((x : Value) → ValueAt next t here x → next + o.progress.fresh < 65536 → (of_one x).fault o.progress.lines ≡ some f) → R₀.fault o₀.progress.lines ≡ some f
    unfolding asked_list
    left_fault f h g = go c.rest c.lies c.left c.fault
      where
        go : (ys : List Value) → Lies next t here ys → i + length ys ≡ many → R₀.fault o₀.progress.lines ≡ (of_values ys).fault o.progress.lines → R₀.fault o₀.progress.lines ≡ some f
        go [] l m k = absurd (omega arith)
        go (x ∷ ys) (v & l) m k =
            let n = next + o.progress.fresh in
            let A = of_one x in
            let B = rebuild_all τ S (n + length A.fresh) (asked_list τ t asks (suc i) ys) in
            let j : of_values (x ∷ ys) ≡ joined A B = join_first τ S n (record { value = x; at = asked_at τ t asks i x }) (asked_list τ t asks (suc i) ys) in
            k ∙ ap (λ R. R.fault o.progress.lines) j ∙ met_first (B.fault (o.progress.lines + length A.before)) f (g x v c.number)

    -- nothing is left
    pub left_done : many ≤ i → (R₀.fault o₀.progress.lines ≡ none) × (o ≡ behind o₀ (rebuilt_effect R₀))
    unfolding asked_list rebuild_all rebuilt_effect
    left_done h = go c.rest c.left c.fault c.effect
      where
        go : (ys : List Value) → i + length ys ≡ many → R₀.fault o₀.progress.lines ≡ (of_values ys).fault o.progress.lines → behind o (rebuilt_effect (of_values ys)) ≡ behind o₀ (rebuilt_effect R₀) → (R₀.fault o₀.progress.lines ≡ none) × (o ≡ behind o₀ (rebuilt_effect R₀))
        go [] m k b = (k, sym (behind_none o) ∙ b)
        go (x ∷ ys) m k b = absurd (omega arith)

-- the loop over the values
pub record Building (vs : ListedValues) (out₀ work₀ : List ℕ) (p₀ : Progress) (out work : List ℕ) (p : Progress) (here i : ℕ) : Type 0 where
  pub under : i ≤ vs.list.many
  pub few : Few p₀ i p
  pub near : here ≤ vs.list.first + 5 * i
  pub len : length out ≡ length out₀
  pub len_work : length work ≡ length work₀
  pub rows : rows_in work ≡ rows_in work₀
  pub left : (dropped : Marks) → OfList vs (rows_in work₀) p₀.fresh (λ τ S R. Left vs.code.bounds.next vs.fields.now vs.list.asks τ S vs.list.many (output_of out₀ (fresh_in work₀) dropped p₀) R (output_of out (fresh_in work) dropped p) here i)

-- one rebuild, under a number that is not the last
pub few_one : (p : Progress) (to : ℕ) (added : Bool) → to ≤ p.to + rebuild_most → suc (p.fresh) ≤ last_number → Few p 1 (record { to = to; lines = p.lines + bool_byte added; fresh = p.fresh + 1; counts = p.counts })
few_one p to true h g = record { to = omega (arith, h); lines = omega arith; fresh = omega arith; taken = omega arith; within = λ k. omega (arith, g); counts = refl }
few_one p to false h g = record { to = omega (arith, h); lines = omega arith; fresh = omega arith; taken = omega arith; within = λ k. omega (arith, g); counts = refl }

-- one more, behind some
few_more : (p q r : Progress) (i : ℕ) → Few p i q → Few q 1 r → Few p (i + 1) r
few_more p q r i a b = record { to = omega (arith, a.to, b.to); lines = omega (arith, a.lines, b.lines); fresh = omega (arith, a.fresh, b.fresh); taken = omega (arith, a.taken, b.taken); within = λ h. b.within (a.within h); counts = b.counts ∙ a.counts }

module _ (vs : ListedValues) (out₀ work₀ : List ℕ) (p₀ : Progress) where
  module _ (out work : List ℕ) (p : Progress) (here i : ℕ) (c : Building vs out₀ work₀ p₀ out work p here i) (wants : Answered Build) (out' work' : List ℕ) (r : Result Progress Fault) (h : i < vs.list.many)
      (d : (τ : Types) (S : AggStates) (rows : List ℕ) (x : Value) → Setting vs.code vs.tracked.now rows τ S → ValueAt vs.code.bounds.next vs.fields.now here x → Told τ S x (asked_at τ vs.fields.now vs.list.asks i x) wants) (f : WantedPut vs.code wants out work p out' work' r) where
    -- of the value that stands here
    abbrev one_of : (τ : Types) (S : AggStates) → Value → Rebuilt
    one_of τ S x = one_wanted τ S (vs.code.bounds.next + p.fresh) x (asked_at τ vs.fields.now vs.list.asks i x)

    one_puts : (dropped : Marks) (τ : Types) (S : AggStates) → Setting vs.code vs.tracked.now (rows_in work₀) τ S → (x : Value) → ValueAt vs.code.bounds.next vs.fields.now here x → vs.code.bounds.next + p.fresh < 65536
        → Puts (output_of out (fresh_in work) dropped p) (rebuilt_effect (one_of τ S x)) (one_of τ S x).fault out' (fresh_in work') dropped r
    one_puts dropped τ S g x y w = f vs.tracked.now τ S x (asked_at τ vs.fields.now vs.list.asks i x) (d τ S (rows_in work₀) x g y) w (rw c.rows g) dropped

    pub building_again : (q : Progress) (there : ℕ) → r ≡ Ok q → Few p 1 q → length out' ≡ length out → length work' ≡ length work → rows_in work' ≡ rows_in work → there ≡ value_end vs.fields.now here → there ≤ here + 5
        → Building vs out₀ work₀ p₀ out' work' q there (i + 1)
    building_again q there e few k j u v n = record {
      under = omega arith;
      few = few_more p₀ p q i c.few few;
      near = omega (arith, c.near);
      len = k ∙ c.len;
      len_work = j ∙ c.len_work;
      rows = u ∙ c.rows;
      left = λ dropped τ S xs g a m small. left_again vs.code.bounds.next vs.fields.now vs.list.asks τ S vs.list.many (output_of out₀ (fresh_in work₀) dropped p₀) _ (output_of out (fresh_in work) dropped p) here i (c.left dropped τ S xs g a m small) (output_of out' (fresh_in work') dropped q) there h v (λ x y w. (one_puts dropped τ S g x y w).went q e);
    }

    pub building_fault : (y : Fault) → r ≡ Err y → AllPut vs out₀ work₀ p₀ out' work' (Err y)
    building_fault y e = λ τ S xs g a m small dropped.
        puts_fault (output_of out₀ (fresh_in work₀) dropped p₀) _ _ out' (fresh_in work') dropped y
        (left_fault vs.code.bounds.next vs.fields.now vs.list.asks τ S vs.list.many (output_of out₀ (fresh_in work₀) dropped p₀) _ (output_of out (fresh_in work) dropped p) here i (c.left dropped τ S xs g a m small) y h (λ x z w. (one_puts dropped τ S g x z w).refused y e))

  pub building_done : (out work : List ℕ) (p : Progress) (here i : ℕ) (c : Building vs out₀ work₀ p₀ out work p here i) → vs.list.many ≤ i → AllPut vs out₀ work₀ p₀ out work (Ok p)
  building_done out work p here i c h = λ τ S xs g a m small dropped.
      let z = left_done vs.code.bounds.next vs.fields.now vs.list.asks τ S vs.list.many (output_of out₀ (fresh_in work₀) dropped p₀) _ (output_of out (fresh_in work) dropped p) here i (c.left dropped τ S xs g a m small) h in
      puts_effect (output_of out₀ (fresh_in work₀) dropped p₀) _ _ out (fresh_in work) dropped p z.0 z.1

-- a value that stays puts nothing out
pub none_put : (R : Rebuilt) (x : Value) (out work : List ℕ) (p : Progress) → R ≡ untouched (x ∷ []) → BuildsPut R out work p out work (Ok p)
unfolding rebuilt_effect
none_put R x out work p e dropped = rw e (puts_effect (output_of out (fresh_in work) dropped p) _ _ out (fresh_in work) dropped p refl (sym (behind_none (output_of out (fresh_in work) dropped p))))

-- one that is rebuilt puts its build out, or is refused
module _ (code : Code) (work : List ℕ) (z : Build) (out out' : List ℕ) (p : Progress) (d : ValueId) (w : Answered Build) (e : w ≡ Some z) where
  pub wanted_clash : (f : Fault) → TrackedPut code work z d out out' p.to (Err f) → WantedPut code w out work p out' work (Err f)
  wanted_clash f g = λ tracked τ S x o k h y dropped.
      elim (one_built τ S (code.bounds.next + p.fresh) x o z k e) [ built xs i l a ↦ rw a (build_clash τ _ z.named xs out out' p f _ _ dropped (g τ S tracked xs y i l)) ]

  module _ (to : ℕ) (hd : code.bounds.next + p.fresh < 65536 → d.0 ≡ code.bounds.next + p.fresh) (g : TrackedPut code work z d out out' p.to (Ok to)) where
    pub wanted_numberless : (f : Fault) → some f ≡ full_fault (code.bounds.next + p.fresh) → WantedPut code w out work p out' work (Err f)
    wanted_numberless f m = λ tracked τ S x o k h y dropped.
        elim (one_built τ S (code.bounds.next + p.fresh) x o z k e) [ built xs i l a ↦ rw a (build_numberless τ _ z.named xs out out' p f _ _ dropped to d.0 (hd h) (g τ S tracked xs y i l) (sym m)) ]

    pub wanted_lineless : (f : Fault) → none ≡ full_fault (code.bounds.next + p.fresh) → some f ≡ line_fault (not (eqb p.to to)) p.lines → WantedPut code w out work p out' work (Err f)
    wanted_lineless f m n = λ tracked τ S x o k h y dropped.
        elim (one_built τ S (code.bounds.next + p.fresh) x o z k e) [ built xs i l a ↦ rw a (build_lineless τ _ z.named xs out out' p f _ _ dropped to d.0 (hd h) (g τ S tracked xs y i l) (sym m) (sym n)) ]

    pub wanted_made : (work' : List ℕ) (lines : ℕ) → none ≡ full_fault (code.bounds.next + p.fresh) → none ≡ line_fault (not (eqb p.to to)) p.lines → work' ≡ set work (2432 + p.fresh) z.named.0 → lines ≡ line_count p.to to
        → WantedPut code w out work p out' work' (Ok (record { to = to; lines = p.lines + lines; fresh = p.fresh + 1; counts = p.counts }))
    wanted_made work' lines m l f n = λ tracked τ S x o k h y dropped.
        let f' : fresh_in work' ≡ set (fresh_in work) p.fresh z.named.0 = ap fresh_in f ∙ drop-set-add 2432 work p.fresh z.named.0 in
        elim (one_built τ S (code.bounds.next + p.fresh) x o z k e) [ built xs i r a ↦ rw a (build_made τ _ z.named xs out out' p to d.0 (hd h) (g τ S tracked xs y i r) _ _ dropped lines (sym m) (sym l) f' n) ]
