-- How a rebuild begins, and its whole.
use Prim.Native.Nat.{ℕ, zero, suc, ◌+◌, ◌≤◌, ◌<◌}
use mathlib.Core.Path.{◌≡◌, refl, ap, ◌∙◌, sym}
use mathlib.Core.List.{List, [], ◌∷◌}
use mathlib.Core.Bool.{Bool, true, false, true≢false}
use mathlib.Core.Option.{Option, none, some}
use native.Mathlib.Nat.{add-zero}
use native.Mathlib.Omega.{arith}
use lib.ListN.{length, get_or, set}
use lib.Seq.{drop-set-add}
use lib.Dec.{T}
use Rattle.std.specs.Prelude.{Ok, Err}
use Rattle.mir.specs.declared.ValueId.{ValueId}
use Rattle.mir.specs.declared.TypeId.{TypeId}
use Rattle.mir.specs.declared.Value.{Value}
use Rattle.mir.specs.MirType.{MirType, Felt, Bool as TBool, U32, Tuple, Struct, FixedArray, Pointer, Function, Unit, Error, Unknown}
use Rattle.mir.specs.Syntax.{Instruction}
use Rattle.mir.specs.Lookup.{Types, row_of, is_tuple, is_struct, is_array, is_aggregate, shape}
use Rattle.bytes_emit.specs.Written.{Writes}
use Rattle.bytes_index.specs.declared.code.Code.{Code}
use Rattle.fold.specs.Family.{Marks}
use Rattle.fold.specs.Tables.{CodeGround}
use Rattle.rewrite.specs.declared.Fault.{Fault}
use Rattle.rewrite.specs.State.{AggStates}
use Rattle.rewrite.specs.Fault.{first_met, full_fault, lines_fault}
use Rattle.rewrite.specs.Rebuild.{rebuild_at, clashes, clash_fault, added_fault}
use Rattle.rewrite.specs.Deep.{kept_parts, loop_fault}
use Rattle.rewrite.proofs.Steps.{Allowed, allowed_own}
use Rattle.rewrite.proofs.Within.{full_none, met_left, met_right}
use Rattle.rewrite_parts.specs.Rows.{ValueAt, Rep, rows_in, fresh_in}
use Rattle.rewrite_parts.specs.Filled.{PartsStand}
use Rattle.rewrite_build.specs.Written.{renumbered, rebuild_bytes, Keeps}
use Rattle.rewrite_progress.specs.declared.Progress.{Progress}
use Rattle.rewrite_progress.specs.Effect.{output_of, rebuilt_effect, behind, further, mark_all, type_numbers}
use Rattle.rewrite_progress.proofs.Faults.{first_none, one_line_fault, puts_fault, puts_effect}
use Rattle.rewrite_wanted.specs.declared.Asks.{Asks}
use Rattle.rewrite_wanted.specs.declared.Build.{Build}
use Rattle.rewrite_wanted.proofs.Asking.{asked_within}
use Rattle.rewrite_list.specs.Lists.{BuildsPut}
use Rattle.rewrite_descent.specs.Descent.{OwnBuild, begin_fault, Begun, whole_of, Deeper}
use Rattle.rewrite_descent.proofs.Numbering.{of_kept}
use Rattle.rewrite_descent.proofs.Deepening.{own_below}

-- the rows under another name
pub rep_of : {next : ℕ} {s : List ℕ} {tracked : Marks} {rows held : List ℕ} {used : ℕ} {S : AggStates} → held ≡ rows → Rep next s tracked rows used S → Rep next s tracked held used S
rep_of e r = rw e r

-- part k stands at the place in its slot of the row
pub stands_at : (rows work places : List ℕ) (v : ValueId) (k at : ℕ) {next : ℕ} {s : List ℕ} {tracked : Marks} {used : ℕ} {S : AggStates} {xs : List Value} → rows ≡ rows_in work → Rep next s tracked (rows_in work) used S → S v.0 ≡ some xs → k < length xs → PartsStand rows v places → at ≡ get_or places k 0 → ValueAt next s at (get_or xs k Value.Error)
stands_at rows work places v k at {next} {s} {tracked} {used} {S} {xs} e r i l f h =
    let z : 0 + k ≡ k = omega arith in
    rw h (rw z at ((f next s tracked used S xs (rep_of e r) i).0.each k l))

-- the row of a tracked value, under another name of the rows
pub row_stands : (rows work places : List ℕ) (v : ValueId) {next : ℕ} {s : List ℕ} {tracked : Marks} {used : ℕ} {S : AggStates} (xs : List Value) → rows ≡ rows_in work → Rep next s tracked (rows_in work) used S → S v.0 ≡ some xs → PartsStand rows v places → length xs ≡ length places
row_stands rows work places v {next} {s} {tracked} {used} {S} xs e r i f = (f next s tracked used S xs (rep_of e r) i).1

-- a mark that is there, and one that is not
mark_met : (m : Marks) (v : ℕ) → v < length m → get_or m v true ≡ true → get_or m v false ≡ true
mark_met [] v l h = absurd (omega arith)
mark_met (a ∷ m) zero l h = h
mark_met (a ∷ m) (suc v) l h = mark_met m v (omega arith) h

pub mark_clear : (m : Marks) (v : ℕ) → get_or m v true ≡ false → get_or m v false ≡ false
mark_clear [] v h = absurd (true≢false h)
mark_clear (a ∷ m) zero h = h
mark_clear (a ∷ m) (suc v) h = mark_clear m v h

module _ (code : Code) (τ : Types) (S : AggStates) (z : Build) (xs : List Value) (g : CodeGround code τ) (o : OwnBuild τ S z xs) where
  -- its type is one of the table
  pub type_below : z.named.0 < length τ.rows
  type_below = asked_within _ _ _ _ τ g [] Asks.Own 0 z.value z.named o.typed

  module _ (path : Marks) where
    pub begin_looped : length path ≡ code.bounds.next → get_or path z.value.0 true ≡ true → begin_fault τ path z xs ≡ some Fault.Looped
    unfolding loop_fault first_met
    begin_looped l h = rw (mark_met path z.value.0 (omega (arith, l, own_below τ z.value z.named o.typed, g.values)) h) refl

    pub begin_clash : (b : Bool) → get_or path z.value.0 true ≡ false → b ≡ clashes xs (row_of τ (some z.named)) → b ≡ true → begin_fault τ path z xs ≡ some Fault.Clash
    unfolding loop_fault first_met clash_fault
    begin_clash b h e k = rw (mark_clear path z.value.0 h, ← e, k) refl

    pub begin_goes : (b : Bool) (n many : ℕ) → get_or path z.value.0 true ≡ false → b ≡ clashes xs (row_of τ (some z.named)) → b ≡ false → length xs ≡ many → Keeps (row_of τ (some z.named)) many n → n ≤ many → Begun τ path z xs n
    unfolding loop_fault first_met clash_fault
    begin_goes b n many h e k l f m = record { none = rw (mark_clear path z.value.0 h, ← e, k) refl; kept = f xs l; within = omega (arith, l, m) }

-- the rebuild of an aggregate is one instruction
one_instruction : (d : ValueId) (xs : List Value) (t : TypeId) (row : Option MirType) → T (is_aggregate row) → length (rebuild_at d xs t row) ≡ 1
unfolding rebuild_at is_aggregate is_tuple is_struct is_array shape
one_instruction d xs t none h = elim h [ ]
one_instruction d xs t (some Felt) h = elim h [ ]
one_instruction d xs t (some TBool) h = elim h [ ]
one_instruction d xs t (some U32) h = elim h [ ]
one_instruction d xs t (some (Tuple ts)) h = refl
one_instruction d xs t (some (Struct n fs)) h = refl
one_instruction d xs t (some (FixedArray u k)) h = refl
one_instruction d xs t (some (Pointer u)) h = elim h [ ]
one_instruction d xs t (some (Function ps r)) h = elim h [ ]
one_instruction d xs t (some Unit) h = elim h [ ]
one_instruction d xs t (some Error) h = elim h [ ]
one_instruction d xs t (some Unknown) h = elim h [ ]

one_line : (l : ℕ) (is : List Instruction) → length is ≡ 1 → lines_fault l is ≡ full_fault l
one_line l [] e = absurd (omega arith)
one_line l (i ∷ []) e = one_line_fault l i
one_line l (i ∷ j ∷ is) e = absurd (omega arith)

module _ (τ : Types) (S : AggStates) (z : Build) (nums : List ℕ) (xs : List Value) (m : ℕ) (o : OwnBuild τ S z xs) where
  single : length (whole_of τ z nums xs m).before ≡ 1
  unfolding whole_of
  single =
      let a : Allowed τ false (some z.named) = rw o.typed at (allowed_own τ (Value.Operand z.value)) in
      one_instruction (record { 0 = m }) (renumbered nums (kept_parts (row_of τ (some z.named)) xs)) z.named (row_of τ (some z.named)) a

  -- its fault: a number, or a line, too many
  whole_met : (l : ℕ) → (whole_of τ z nums xs m).fault l ≡ first_met (full_fault m) (full_fault l)
  unfolding whole_of added_fault
  whole_met l = ap (first_met (full_fault m)) (first_none _ ∙ one_line l (whole_of τ z nums xs m).before single)

  module _ (out work : List ℕ) (p : Progress) (out' work' : List ℕ) where
    pub whole_fault : (f : Fault) → some f ≡ first_met (full_fault m) (full_fault p.lines) → BuildsPut (whole_of τ z nums xs m) out work p out' work' (Err f)
    whole_fault f h = λ dropped.
        puts_fault (output_of out (fresh_in work) dropped p) _ (whole_of τ z nums xs m).fault out' (fresh_in work') dropped f (whole_met p.lines ∙ sym h)

    pub whole_made : (d to : ℕ) → d ≡ m → none ≡ first_met (full_fault m) (full_fault p.lines) → Writes (rebuild_bytes τ (record { 0 = d }) (renumbered nums xs) z.named) out out' p.to to → work' ≡ set work (2432 + p.fresh) z.named.0
        → BuildsPut (whole_of τ z nums xs m) out work p out' work' (Ok (record { to = to; lines = p.lines + 1; fresh = p.fresh + 1; counts = p.counts }))
    unfolding whole_of rebuilt_effect behind further mark_all type_numbers
    whole_made d to e h w f = λ dropped.
        let row = row_of τ (some z.named) in
        let v : Writes (rebuild_bytes τ (record { 0 = m }) (renumbered nums (kept_parts row xs)) z.named) out out' p.to to = rw (e, of_kept nums (record { 0 = m }) z.named xs row) at w in
        let f' : fresh_in work' ≡ set (fresh_in work) p.fresh z.named.0 = ap fresh_in f ∙ drop-set-add 2432 work p.fresh z.named.0 in
        let s : length (rebuild_at (record { 0 = m }) (renumbered nums (kept_parts row xs)) z.named row) ≡ 1 = single in
        puts_effect (output_of out (fresh_in work) dropped p) (rebuilt_effect (whole_of τ z nums xs m)) (whole_of τ z nums xs m).fault out' (fresh_in work') dropped (record { to = to; lines = p.lines + 1; fresh = p.fresh + 1; counts = p.counts })
        (whole_met p.lines ∙ sym h)
        (rw (f', s, v.0, v.1) (simp (add-zero)))

-- where there is no fault, both are numbers
pub number_fits : (n l : ℕ) → none ≡ first_met (full_fault n) (full_fault l) → suc n ≤ 65535
number_fits n l h = full_none n (met_left _ _ (sym h))

pub line_fits : (n l : ℕ) → none ≡ first_met (full_fault n) (full_fault l) → suc l ≤ 65535
line_fits n l h = full_none l (met_right _ _ (sym h))

-- one more
pub one_deeper : (next : ℕ) (p : Progress) (to : ℕ) → suc (next + p.fresh) ≤ 65535 → to ≤ p.to + 1792 → Deeper next p (record { to = to; lines = p.lines + 1; fresh = p.fresh + 1; counts = p.counts })
one_deeper next p to h u = record {
  to = omega (arith, u);
  lines = omega arith;
  taken = omega arith;
  fresh = omega (arith, h);
  numbered = λ g. omega (arith, h);
  counts = refl;
}
