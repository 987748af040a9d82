-- What one instruction adds to the output.
use Prim.Native.Nat.{ℕ, ◌+◌, ◌-◌, ◌≤◌}
use mathlib.Core.Path.{◌≡◌, refl, ap, ◌∙◌, sym}
use mathlib.Core.List.{List, [], ◌∷◌, ◌++◌, append-nil}
use mathlib.Core.Bool.{false}
use mathlib.Core.Option.{none, some}
use native.Mathlib.Omega.{arith}
use native.Mathlib.Nat.{add-zero}
use lib.ListN.{length, length-append, take, drop}
use lib.Seq.{sets}
use Rattle.bytes_wire.specs.Value.{value_bytes}
use Rattle.mir.specs.declared.TypeId.{TypeId}
use Rattle.mir.specs.declared.ValueId.{ValueId}
use Rattle.mir.specs.declared.Value.{Value}
use Rattle.bytes_wire.proofs.Canon.{bytes_drop, value_short}
use Rattle.mir.specs.Syntax.{Instruction, Assign, plain}
use Rattle.bytes_field.specs.Encode.{instruction_bytes, field_bytes, value_id_bytes, type_id_bytes}
use Rattle.bytes_index.specs.declared.code.Code.{Code}
use Rattle.bytes_laws.proofs.Instruction.{instruction_canon, instruction_size}
use Rattle.bytes_index.specs.Table.{place_in, end_in}
use Rattle.bytes_index.specs.Code.{InstructionIn}
use Rattle.mir.specs.Lookup.{Types}
use Rattle.fold.specs.Family.{Marks, mark}
use Rattle.rewrite.specs.declared.Counts.{Counts}
use Rattle.rewrite.specs.declared.Fault.{Fault}
use Rattle.rewrite.specs.Fault.{full_fault}
use Rattle.rewrite.specs.State.{AggStates}
use Rattle.rewrite.specs.Piece.{Piece, kept, left, assigned, one_extract}
use Rattle.rewrite.specs.Run.{add_counts}
use Rattle.rewrite_parts.specs.Rows.{ValueAt}
use Rattle.rewrite_progress.specs.declared.Progress.{Progress}
use Rattle.fold.specs.Tables.{CodeGround}
use Rattle.std.specs.Prelude.{Result, Ok, Err}
use Rattle.rewrite_progress.specs.Effect.{output_of, behind, further, piece_effect, mark_all, type_numbers, Puts}
use Rattle.rewrite_progress.proofs.Faults.{puts_fault, puts_effect}
use Rattle.rewrite_arms.specs.declared.Counted.{Counted}
use Rattle.rewrite_arms.specs.declared.Action.{Action}
use Rattle.rewrite_arms.specs.Decided.{counted_as, Does, Assigned, assigned_from}
use Rattle.rewrite_perform.specs.Performed.{moved_to, raised_by}

-- a kept instruction: its bytes as they stand
kept_out : (code : Code) (τ : Types) (S : AggStates) (i : Instruction) (slot : ℕ) (out out' types : List ℕ) (dropped : Marks) (p r : Progress) (part : List ℕ)
    → CodeGround code τ → InstructionIn code.bounds code.bytes.now code.facts.now slot i
    → part ≡ take (end_in code.facts.now slot - place_in code.facts.now slot) (drop (place_in code.facts.now slot) code.bytes.now) → (length part ≤ 65536 → (r ≡ moved_to p (p.to + length part) (p.lines + 1)) × (out' ≡ sets out p.to part))
    → output_of out' types dropped r ≡ behind (output_of out types dropped p) (piece_effect (kept S i))
unfolding behind further piece_effect kept mark_all type_numbers
kept_out code τ S i slot out out' types dropped p r part g line f w =
    let t = drop (place_in code.facts.now slot) code.bytes.now in
    let bs = bytes_drop code.bytes.now (place_in code.facts.now slot) g.bytes in
    let c = instruction_canon code.bounds [] false t bs line.read in
    let own : part ≡ instruction_bytes i = f ∙ sym c.same in
    let z = w (omega (arith, ap length own, c.size, instruction_size code.bounds [] false t bs line.read g.listed g.projected)) in
    rw (z.0, z.1, own) (simp (append-nil, add-zero))

-- an instruction left out, its dest marked
left_out : (c : Counts) (d : ValueId) (S : AggStates) (out types : List ℕ) (dropped dropped' : Marks) (p r : Progress) → dropped' ≡ mark dropped d → r ≡ raised_by p c → output_of out types dropped' r ≡ behind (output_of out types dropped p) (piece_effect (left c (d ∷ []) S))
unfolding behind further piece_effect left mark_all type_numbers
left_out c d S out types dropped dropped' p r e f = rw (e, f) (simp (add-zero))

-- no value dropped
pub left_none : (c : Counts) (S : AggStates) (out types : List ℕ) (dropped : Marks) (p r : Progress) → r ≡ raised_by p c → output_of out types dropped r ≡ behind (output_of out types dropped p) (piece_effect (left c [] S))
unfolding behind further piece_effect left mark_all type_numbers
left_none c S out types dropped p r f = rw f (simp (add-zero))

-- an Assign
assigned_out : (S : AggStates) (d : ValueId) (x y : Value) (t : TypeId) (out out' types : List ℕ) (dropped : Marks) (p q r : Progress) (to : ℕ)
    → y ≡ x → (to ≡ p.to + length (instruction_bytes (plain (Assign d y t)))) × (out' ≡ sets out p.to (instruction_bytes (plain (Assign d y t))))
    → q ≡ raised_by p one_extract → r ≡ moved_to q to (q.lines + 1)
    → output_of out' types dropped r ≡ behind (output_of out types dropped p) (piece_effect (assigned one_extract S d x t))
unfolding behind further piece_effect assigned mark_all type_numbers
assigned_out S d x y t out out' types dropped p q r to e w f g =
    let z : r ≡ record { to = to; lines = p.lines + 1; fresh = p.fresh; counts = add_counts p.counts one_extract } = g ∙ ap (λ u. moved_to u to (u.lines + 1)) f in
    rw (z, w.0, w.1, e) (simp (append-nil, add-zero))

-- an Assign is short
assign_short : (d : ValueId) (x : Value) (t : TypeId) → length (instruction_bytes (plain (Assign d x t))) ≤ 20
unfolding instruction_bytes field_bytes
assign_short d x t = omega (arith, length-append (value_id_bytes d) (value_bytes x ++ type_id_bytes t), length-append (value_bytes x) (type_id_bytes t), value_short x)

pub assign_low : (d : ValueId) (x : Value) (t : TypeId) (from to : ℕ) → to ≡ from + length (instruction_bytes (plain (Assign d x t))) → to ≤ from + 1048576
assign_low d x t from to e = omega (arith, e, assign_short d x t)

-- the three actions: what each does is the piece q
module _ (code : Code) (S : AggStates) (i : Instruction) (q : Piece) (act : Action) (does : Does code.bounds.next code.bytes.now S (kept S i) q act) (out out' types : List ℕ) (dropped dropped' : Marks) (p : Progress) where
  abbrev Done : Result Progress Fault → Type 0
  Done r = Puts (output_of out types dropped p) (piece_effect q) q.fault out' types dropped' r

  as_piece : (q' : Piece) (r : Progress) → q ≡ q' → q'.fault p.lines ≡ none → output_of out' types dropped' r ≡ behind (output_of out types dropped p) (piece_effect q') → Done (Ok r)
  as_piece q' r e c f = puts_effect _ _ q.fault out' types dropped' r (ap (λ x. x.fault p.lines) e ∙ c) (f ∙ sym (ap (λ x. behind (output_of out types dropped p) (piece_effect x)) e))

  -- the block is full
  as_fault : (q' : Piece) (f : Fault) → q ≡ q' → q'.fault p.lines ≡ some f → Done (Err f)
  as_fault q' f e c = puts_fault _ _ q.fault out' types dropped' f (ap (λ x. x.fault p.lines) e ∙ c)

  pub keep_full : (f : Fault) → act ≡ Action.Keep → some f ≡ full_fault p.lines → Done (Err f)
  unfolding kept
  keep_full f z h =
      let e : q ≡ kept S i = rw z at does in
      as_fault (kept S i) f e (sym h)

  pub does_keep : (r : Progress) (τ : Types) (slot : ℕ) (part : List ℕ) → act ≡ Action.Keep → none ≡ full_fault p.lines → dropped' ≡ dropped
      → CodeGround code τ → InstructionIn code.bounds code.bytes.now code.facts.now slot i
      → part ≡ take (end_in code.facts.now slot - place_in code.facts.now slot) (drop (place_in code.facts.now slot) code.bytes.now) → (length part ≤ 65536 → (r ≡ moved_to p (p.to + length part) (p.lines + 1)) × (out' ≡ sets out p.to part))
      → Done (Ok r)
  unfolding kept
  does_keep r τ slot part z h m g line f w =
      let e : q ≡ kept S i = rw z at does in
      as_piece (kept S i) r e (sym h) (rw m (kept_out code τ S i slot out out' types dropped p r part g line f w))

  pub does_track : (r : Progress) (c : Counted) (d : ValueId) → act ≡ Action.Track d c → out' ≡ out → dropped' ≡ mark dropped d → r ≡ raised_by p (counted_as c) → Done (Ok r)
  unfolding left
  does_track r c d z o m f =
      let e : q ≡ left (counted_as c) (d ∷ []) q.states = rw z at does in
      as_piece (left (counted_as c) (d ∷ []) q.states) r e refl (rw o (left_out (counted_as c) d q.states out types dropped dropped' p r m f))

  assigned_full : (f : Fault) (d : ValueId) (place : ℕ) (t : TypeId) → Assigned code.bounds.next code.bytes.now S q d place t → some f ≡ full_fault p.lines → Done (Err f)
  unfolding assigned
  assigned_full f d place t (assigned_from x h e) m = as_fault (assigned one_extract S d x t) f e (sym m)

  pub assign_full : (f : Fault) (d : ValueId) (place : ℕ) (t : TypeId) → act ≡ Action.Assign d place t → some f ≡ full_fault p.lines → Done (Err f)
  assign_full f d place t z h =
      let e : Assigned code.bounds.next code.bytes.now S q d place t = rw z at does in
      assigned_full f d place t e h

  module _ (r : Progress) (d : ValueId) (place : ℕ) (t : TypeId) (y : Value) (v : Progress) (to : ℕ) where
    assigned_does : Assigned code.bounds.next code.bytes.now S q d place t → none ≡ full_fault p.lines → dropped' ≡ dropped
        → ((x : Value) → ValueAt code.bounds.next code.bytes.now place x → y ≡ x)
        → (to ≡ p.to + length (instruction_bytes (plain (Assign d y t)))) × (out' ≡ sets out p.to (instruction_bytes (plain (Assign d y t))))
        → v ≡ raised_by p one_extract → r ≡ moved_to v to (v.lines + 1) → Done (Ok r)
    unfolding assigned
    assigned_does (assigned_from x h e) u m f w k n = as_piece (assigned one_extract S d x t) r e (sym u) (rw m (assigned_out S d x y t out out' types dropped p v r to (f x h) w k n))

    pub does_assign : act ≡ Action.Assign d place t → none ≡ full_fault p.lines → dropped' ≡ dropped
        → ((x : Value) → ValueAt code.bounds.next code.bytes.now place x → y ≡ x)
        → (to ≡ p.to + length (instruction_bytes (plain (Assign d y t)))) × (out' ≡ sets out p.to (instruction_bytes (plain (Assign d y t))))
        → v ≡ raised_by p one_extract → r ≡ moved_to v to (v.lines + 1) → Done (Ok r)
    does_assign z u m f w k n =
        let e : Assigned code.bounds.next code.bytes.now S q d place t = rw z at does in
        assigned_does e u m f w k n
