-- "Edition 1 remains what the Rust does": within the mosts it is refused for a clash alone, and takes at most 4,864 numbers.
use Prim.Native.Nat.{ℕ, suc, ◌+◌, ◌*◌, ◌≤◌}
use native.Mathlib.Omega.{arith}
use mathlib.Core.Path.{◌≡◌, refl, ap}
use mathlib.Core.List.{List, [], ◌∷◌}
use mathlib.Core.Bool.{Bool, true, false, cond}
use mathlib.Core.Option.{Option, none, some}
use lib.ListN.{length, length-append}
use Rattle.mir.specs.declared.ValueId.{ValueId}
use Rattle.mir.specs.declared.TypeId.{TypeId}
use Rattle.mir.specs.declared.Value.{Value}
use Rattle.mir.specs.MirType.{MirType}
use Rattle.mir.specs.Syntax.{Place, Meta, Instruction, InstructionKind, Terminator, Jump, If, BranchCmp, Return, Unreachable, Block}
use Rattle.mir.specs.Syntax.{Assign, UnaryOp, BinaryOp, Call, Cast, Load, Store, Debug, Nop, Phi}
use Rattle.mir.specs.Syntax.{MakeTuple, ExtractTupleElement, MakeStruct, ExtractStructField, InsertField, InsertTuple, MakeFixedArray, AssertEq, HeapAllocCells}
use Rattle.mir.specs.Routine.{Routine}
use Rattle.mir.specs.Lookup.{Types, types_in, row_of}
use Rattle.mir.specs.Phis.{behind_phis, phis_of}
use Rattle.fold.specs.declared.Edition.{Edition}
use Rattle.fold.specs.declared.Settings.{Settings}
use Rattle.rewrite.specs.declared.Fault.{Fault}
use Rattle.rewrite.specs.State.{AggStates, no_states, state_of}
use Rattle.rewrite.specs.Fault.{first_met, full_fault, lines_fault, last_number}
use Rattle.rewrite.specs.Rebuild.{Rebuilt, Wanted, clashes, clash_fault, added_fault, keep_value, rebuild_value, one_value, rebuild_at, rebuild_all, wanted_arguments, wanted_returns}
use Rattle.rewrite.specs.Piece.{Piece, kept, left, assigned}
use Rattle.rewrite.specs.Stays.{guarded, store_rebuilt, store_kept, step_call, stays_first}
use Rattle.rewrite.specs.Step.{step}
use Rattle.rewrite.specs.Run.{ends, returned, rebuilt_return, finish, glue, walk, Rewritten, Choice, block_then, skip_then, one_block, all_blocks, choice, rewritten_by, rewritten_blocks}
use Rattle.rewrite.specs.Sum.{instruction_count}
use Rattle.rewrite.specs.Within.{argument_count, return_count, CallsWithin, ListsWithin}
use Rattle.rewrite.proofs.Steps.{strict_count, taken_most}
use Rattle.rewrite.proofs.Made.{MadeFirst, made_in_first, Arm, arm_kind, at_first}
use Rattle.rewrite.proofs.Unchanged.{phis_behind}
use Rattle.rewrite.proofs.Calm.{full_below}
use Rattle.rewrite.proofs.Bound.{bound_piece, bound_walk, behind_within}

-- anything but a clash
abbrev Clashes : Option Fault → Type 0
Clashes o = (f : Fault) → o ≡ some f → f ≡ Fault.Clash

none_clashes : (o : Option Fault) → o ≡ none → Clashes o
none_clashes o e f g = let z : ◌≡◌ {A = ℕ} 0 1 = cc (e, g) in absurd (omega (arith, z))

met_clashes : (a b : Option Fault) → Clashes a → Clashes b → Clashes (first_met a b)
unfolding first_met
met_clashes none b h g = g
met_clashes (some x) b h g = h

clash_clashes : (xs : List Value) (row : Option MirType) → Clashes (clash_fault xs row)
unfolding clash_fault
clash_clashes xs row = split (clashes xs row)
  where
    split : (b : Bool) → Clashes (cond b (some Fault.Clash) none)
    split true f e = cc (e)
    split false f e = let z : ◌≡◌ {A = ℕ} 0 1 = cc (e) in absurd (omega (arith, z))

-- instructions that are added below the last number
lines_below : (l : ℕ) (is : List Instruction) → l + length is ≤ last_number → lines_fault l is ≡ none
unfolding lines_fault first_met
lines_below l [] h = refl
lines_below l (i ∷ is) h = rw (full_below l (omega (arith, h))) (lines_below (suc l) is (omega (arith, h)))

-- a rebuild is one instruction or none
one_at : (d : ValueId) (xs : List Value) (t : TypeId) (row : Option MirType) → length (rebuild_at d xs t row) ≤ 1
unfolding rebuild_at
one_at d xs t none = omega arith
one_at d xs t (some MirType.Felt) = omega arith
one_at d xs t (some MirType.Bool) = omega arith
one_at d xs t (some MirType.U32) = omega arith
one_at d xs t (some (MirType.Tuple ts)) = omega arith
one_at d xs t (some (MirType.Struct f fs)) = omega arith
one_at d xs t (some (MirType.FixedArray u k)) = omega arith
one_at d xs t (some (MirType.Pointer u)) = omega arith
one_at d xs t (some (MirType.Function ps u)) = omega arith
one_at d xs t (some MirType.Unit) = omega arith
one_at d xs t (some MirType.Error) = omega arith
one_at d xs t (some MirType.Unknown) = omega arith

module _ (τ : Types) (S : AggStates) where
  few_one : (n : ℕ) (x : Value) (rest : ℕ → Rebuilt) (many : ℕ) (o : Option TypeId) (s : Option (List Value)) → ((m : ℕ) → length (rest m).before ≤ many) → length (one_value τ n x rest o s).before ≤ suc many
  unfolding one_value keep_value rebuild_value
  few_one n x rest many none s f = omega (arith, f n)
  few_one n x rest many (some t) none f = omega (arith, f n)
  few_one n x rest many (some t) (some xs) f = rw length-append (omega (arith, f (suc n), one_at (record { 0 = n }) xs t (row_of τ (some t))))

  few_before : (n : ℕ) (ws : List Wanted) → length (rebuild_all τ S n ws).before ≤ length ws
  unfolding rebuild_all
  few_before n [] = omega arith
  few_before n (w ∷ ws) = few_one n w.value _ (length ws) w.at (state_of S w.value) (λ m. few_before m ws)

  -- room for so many numbers and instructions more
  abbrev Room : ℕ → (ℕ → Rebuilt) → Type 0
  Room many rest = (m j : ℕ) → m + many ≤ last_number → j + many ≤ last_number → Clashes ((rest m).fault j)

  clash_one : (x : Value) (rest : ℕ → Rebuilt) (many : ℕ) (o : Option TypeId) (s : Option (List Value)) → Room many rest → Room (suc many) (λ n. one_value τ n x rest o s)
  unfolding one_value keep_value rebuild_value added_fault
  clash_one x rest many none s f n l h g = f n l (omega (arith, h)) (omega (arith, g))
  clash_one x rest many (some t) none f n l h g = f n l (omega (arith, h)) (omega (arith, g))
  clash_one x rest many (some t) (some xs) f n l h g =
      let is = rebuild_at (record { 0 = n }) xs t (row_of τ (some t)) in
      let b : length is ≤ 1 = one_at (record { 0 = n }) xs t (row_of τ (some t)) in
      met_clashes _ _ (clash_clashes xs (row_of τ (some t)))
      (met_clashes _ _ (none_clashes _ (full_below n (omega (arith, h))))
      (met_clashes _ _ (none_clashes _ (lines_below l is (omega (arith, g, b)))) (f (suc n) (l + length is) (omega (arith, h)) (omega (arith, g, b)))))

  clash_all : (ws : List Wanted) → Room (length ws) (λ n. rebuild_all τ S n ws)
  unfolding rebuild_all
  clash_all [] n l h g = none_clashes _ refl
  clash_all (w ∷ ws) n l h g = clash_one w.value (λ m. rebuild_all τ S m ws) (length ws) w.at (state_of S w.value) (clash_all ws) n l h g

many_arguments : (τ : Types) (xs : List Value) (ps : List TypeId) → length (wanted_arguments τ xs ps) ≡ length xs
unfolding wanted_arguments
many_arguments τ [] ps = refl
many_arguments τ (x ∷ xs) [] = ap suc (many_arguments τ xs [])
many_arguments τ (x ∷ xs) (t ∷ ts) = ap suc (many_arguments τ xs ts)

many_returns : (τ : Types) (xs : List Value) → length (wanted_returns τ xs) ≡ length xs
unfolding wanted_returns
many_returns τ [] = refl
many_returns τ (x ∷ xs) = ap suc (many_returns τ xs)

-- room for an instruction with its rebuilds
abbrev RoomFor : ℕ → ℕ → Type 0
RoomFor n l = (n + 16 ≤ last_number) × (l + 17 ≤ last_number)

module _ (S : AggStates) (n l : ℕ) (room : RoomFor n l) where
  clash_kept : (i : Instruction) → Clashes ((kept S i).fault l)
  unfolding kept
  clash_kept i = none_clashes _ (full_below l (omega (arith, room.1)))

  clash_behind : (τ : Types) (ws : List Wanted) → length ws ≤ 16 → let r = rebuild_all τ S n ws in Clashes (first_met (r.fault l) (full_fault (l + length r.before)))
  clash_behind τ ws h = met_clashes _ _ (clash_all τ S ws n l (omega (arith, room.0, h)) (omega (arith, room.1, h))) (none_clashes _ (full_below _ (omega (arith, room.1, h, few_before τ S n ws))))

  clash_call : (i : Instruction) (ds : List ValueId) (f : ℕ) (ps rs : List TypeId) (r : Rebuilt) (ts : List TypeId) → Clashes (first_met (r.fault l) (full_fault (l + length r.before))) → Clashes ((step_call S i ds f ps rs r ts).fault l)
  unfolding step_call
  clash_call i ds f ps rs r [] h = clash_kept i
  clash_call i ds f ps rs r (t ∷ ts) h = h

  clash_rebuilt : (m : Meta) (p : Place) (t : TypeId) (r : Rebuilt) (xs : List Value) → Clashes (first_met (r.fault l) (full_fault (l + length r.before))) → Clashes ((store_rebuilt S m p t r xs).fault l)
  unfolding store_rebuilt
  clash_rebuilt m p t r [] h = clash_kept _
  clash_rebuilt m p t r (x ∷ xs) h = h

  clash_store : (τ : Types) (i : Instruction) (p : Place) (x : Value) (t : TypeId) (o : Option (List Value)) → Clashes ((store_kept τ S n i p x t o).fault l)
  unfolding store_kept
  clash_store τ i p x t none = clash_kept i
  clash_store τ i p x t (some xs) = clash_rebuilt i.meta p t _ _ (clash_behind τ (record { value = x; at = some t } ∷ []) (omega arith))

  clash_guarded : (b : Bool) (p q : Piece) → Clashes (p.fault l) → Clashes (q.fault l) → Clashes ((guarded b p q).fault l)
  unfolding guarded
  clash_guarded true p q h g = g
  clash_guarded false p q h g = h

  clash_stays : (σ : Settings) (τ : Types) (i : Instruction) (k : InstructionKind) → argument_count k ≤ 16 → Clashes ((stays_first σ τ S n i k).fault l)
  unfolding stays_first argument_count
  clash_stays σ τ i (Assign d x t) h = clash_kept i
  clash_stays σ τ i (UnaryOp op d x) h = clash_kept i
  clash_stays σ τ i (BinaryOp op d x y) h = clash_kept i
  clash_stays σ τ i (Call ds f xs ps rs) h = clash_call i ds f ps rs _ _ (clash_behind τ (wanted_arguments τ xs ps) (omega (arith, h, many_arguments τ xs ps)))
  clash_stays σ τ i (Cast d x t u) h = clash_kept i
  clash_stays σ τ i (Load d p t) h = clash_kept i
  clash_stays σ τ i (Store p x t) h = clash_guarded σ.tuples _ _ (clash_kept i) (clash_store τ i p x t _)
  clash_stays σ τ i (Debug m xs) h = clash_kept i
  clash_stays σ τ i Nop h = clash_kept i
  clash_stays σ τ i (Phi d t ss) h = clash_kept i
  clash_stays σ τ i (MakeTuple d xs) h = clash_kept i
  clash_stays σ τ i (ExtractTupleElement d x k t) h = clash_kept i
  clash_stays σ τ i (MakeStruct d fs t) h = clash_kept i
  clash_stays σ τ i (ExtractStructField d x f t) h = clash_kept i
  clash_stays σ τ i (InsertField d x f y t) h = clash_kept i
  clash_stays σ τ i (InsertTuple d x k y t) h = clash_kept i
  clash_stays σ τ i (MakeFixedArray d xs t c) h = clash_kept i
  clash_stays σ τ i (AssertEq x y) h = clash_kept i
  clash_stays σ τ i (HeapAllocCells d x) h = clash_kept i

  clash_arm : (i : Instruction) (stay p : Piece) → Arm S i stay p → Clashes (stay.fault l) → Clashes (p.fault l)
  unfolding left assigned
  clash_arm i stay p Arm.stays_it h = h
  clash_arm i stay p (Arm.leaves_it c S' v) h = none_clashes _ refl
  clash_arm i stay p (Arm.assigns_it c s) h = none_clashes _ (full_below l (omega (arith, room.1)))

  clash_step : (σ : Settings) → σ.edition ≡ Edition.First → (τ : Types) (folds : ValueId → Bool) (i : Instruction) → argument_count i.kind ≤ 16 → Clashes ((step σ τ folds S n i).fault l)
  unfolding step
  clash_step σ e τ folds i h = clash_arm i _ _ (arm_kind σ τ folds S n i.meta i.kind) (rw (at_first σ τ folds S n i e) (clash_stays σ τ i i.kind h))

-- an instruction puts out at most 17
out_piece : (S : AggStates) (n : ℕ) (i : Instruction) (p : Piece) (k : ℕ) → MadeFirst S n i p k → argument_count i.kind ≤ 16 → length p.out ≤ 17
unfolding kept left assigned argument_count
out_piece S n i p k MadeFirst.as_kept h = omega arith
out_piece S n i p k (MadeFirst.as_left c S' v) h = omega arith
out_piece S n i p k (MadeFirst.as_assigned c s) h = omega arith
out_piece S n i p k (MadeFirst.as_called a rs f ps qs ts b r) h = rw length-append (omega (arith, h, strict_count r, taken_most r))
out_piece S n i p k (MadeFirst.as_stored a q u ts b r) h = rw length-append (omega (arith, strict_count r, taken_most r))

clash_end : (σ : Settings) → σ.edition ≡ Edition.First → (τ : Types) (S : AggStates) (n l : ℕ) (t : Terminator) → return_count t ≤ 16 → RoomFor n l → Clashes ((finish σ τ S n t).fault l)
unfolding finish ends returned rebuilt_return return_count
clash_end σ e τ S n l (Jump b) h room = none_clashes _ refl
clash_end σ e τ S n l (If x a b) h room = none_clashes _ refl
clash_end σ e τ S n l (BranchCmp op x y a b) h room = none_clashes _ refl
clash_end σ e τ S n l (Return xs) h room = rw e (clash_all τ S (wanted_returns τ xs) n l (omega (arith, room.0, h, many_returns τ xs)) (omega (arith, room.1, h, many_returns τ xs)))
clash_end σ e τ S n l Unreachable h room = none_clashes _ refl

clash_walk : (σ : Settings) → σ.edition ≡ Edition.First → (τ : Types) (folds : ValueId → Bool) (S : AggStates) (n l : ℕ) (is : List Instruction) (t : Terminator) → CallsWithin 16 is → return_count t ≤ 16 → RoomFor (n + 16 * length is) (l + 17 * length is) → Clashes ((walk σ τ folds S n is t).fault l)
unfolding walk glue
clash_walk σ e τ folds S n l [] t h g room = clash_end σ e τ S n l t g (omega (arith, room.0), omega (arith, room.1))
clash_walk σ e τ folds S n l (i ∷ is) t h g room =
    let p = step σ τ folds S n i in
    let m : MadeFirst S n i p _ = made_in_first σ τ folds S n i e in
    let a : length p.fresh ≤ 16 = bound_piece S n i _ _ m h.0 in
    let b : length p.out ≤ 17 = out_piece S n i _ _ m h.0 in
    met_clashes _ _ (clash_step S n l (omega (arith, room.0), omega (arith, room.1)) σ e τ folds i h.0)
    (clash_walk σ e τ folds p.states (n + length p.fresh) (l + length p.out) is t h.1 g (omega (arith, room.0, a), omega (arith, room.1, b)))

module _ (σ : Settings) (ed : σ.edition ≡ Edition.First) (τ : Types) (c : Choice) where
  -- the numbers and instructions that blocks may still take
  abbrev RoomOf : ℕ → List Block → Type 0
  RoomOf n ks = n + 17 * instruction_count ks + 16 * length ks + 17 ≤ last_number

  clash_block : (n : ℕ) (k : Block) (ks : List Block) (rest : ℕ → Rewritten) (b : Bool) → CallsWithin 16 k.instructions → return_count k.terminator ≤ 16 → ((m : ℕ) → RoomOf m ks → Clashes (rest m).fault) → RoomOf n (k ∷ ks) → Clashes (one_block σ τ c n k rest b).fault
  unfolding one_block skip_then block_then instruction_count
  clash_block n k ks rest true h g f room = f n (omega (arith, room))
  clash_block n k ks rest false h g f room =
      let is = behind_phis k.instructions in
      let a : length (phis_of k.instructions) + length is ≡ length k.instructions = omega (arith, length-append (phis_of k.instructions) is, ap length (phis_behind k.instructions)) in
      let w : length (walk σ τ (c.folds k) no_states n is k.terminator).fresh ≤ 16 * length is + 16 = bound_walk σ ed τ (c.folds k) no_states n is k.terminator (behind_within k.instructions h) g in
      met_clashes _ _ (clash_walk σ ed τ (c.folds k) no_states n (length (phis_of k.instructions)) is k.terminator (behind_within k.instructions h) g (omega (arith, a, room), omega (arith, a, room)))
      (f _ (omega (arith, a, w, room)))

  clash_blocks : (n : ℕ) (ks : List Block) → ListsWithin 16 ks → RoomOf n ks → Clashes (all_blocks σ τ c n ks).fault
  unfolding all_blocks
  clash_blocks n [] h room = none_clashes _ refl
  clash_blocks n (k ∷ ks) h room = clash_block n k ks _ (c.skips k) h.0 h.1 (λ m. clash_blocks m ks h.2) room

-- "edition 1 remains what the Rust does": neither 14 nor 15 is ever met in it
pub first_faults : (σ : Settings) → σ.edition ≡ Edition.First → (r : Routine) → instruction_count r.blocks ≤ 256 → length r.blocks ≤ 32 → ListsWithin 16 r.blocks → r.next ≤ 256 → (f : Fault) → (rewritten_blocks σ r).fault ≡ some f → f ≡ Fault.Clash
unfolding rewritten_blocks rewritten_by
first_faults σ ed r a b h d = clash_blocks σ ed (types_in r) (choice σ r) r.next r.blocks h (omega (arith, a, b, d))
