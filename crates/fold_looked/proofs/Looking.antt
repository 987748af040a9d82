-- What is found of a family, of the array in a slot, and of all arrays of a block.
use Prim.Native.Nat.{ℕ, ◌+◌, ◌≤◌, ◌<◌}
use mathlib.Core.Path.{◌≡◌, refl, ap, ◌∙◌, sym, subst}
use mathlib.Core.List.{List, []}
use mathlib.Core.Bool.{Bool, false}
use mathlib.Core.Logic.{⊎_elim}
use mathlib.Core.Option.{some}
use native.Mathlib.Nat.{le_trans}
use native.Mathlib.Omega.{arith}
use lib.ListN.{length, get_or, set, replicate, drop, length-set, length-replicate}
use lib.Seq.{get_or-set_same, get_or-set_other}
use Rattle.mir.specs.declared.ValueId.{ValueId}
use Rattle.mir.specs.Syntax.{Instruction}
use Rattle.mir.specs.Reads.{kind_number}
use Rattle.mir.specs.Lookup.{Types}
use Rattle.mir.specs.Phis.{behind_phis}
use Rattle.bytes_index.specs.declared.code.Code.{Code}
use Rattle.bytes_index.specs.declared.slots.Slots.{Slots}
use Rattle.bytes_index.specs.Table.{place_in, kind_in}
use Rattle.bytes_index.specs.Code.{no_instruction, InstructionsIn}
use Rattle.fold.specs.declared.Settings.{Settings}
use Rattle.fold.specs.Family.{Marks, build_dest, has_dynamic_index}
use Rattle.fold.specs.Tables.{ShapesAt}
use Rattle.fold_family.specs.Copies.{RowsAt}
use Rattle.fold_family.specs.Search.{Members, FindsFamily, ClearsMembers, MemberIndexed}
use Rattle.fold_family.specs.declared.Found.{Found}
use Rattle.fold_family.proofs.Closed.{copies_few}
use Rattle.fold_family.proofs.Rows.{newest}
use Rattle.fold_family.proofs.Sweeps.{family_length}
use Rattle.fold_copies.specs.Found.{ScanCopies}
use Rattle.fold_climb.proofs.Found.{dest, array_place}
use Rattle.fold_scan.specs.Noted.{dest_in}
use Rattle.fold_scan.proofs.Placed.{build_at, build_place}
use Rattle.fold_looked.specs.declared.tables.Tables.{Tables}
use Rattle.fold_looked.specs.declared.BuildFamily.{BuildFamily}
use Rattle.fold_looked.specs.Looked.{Looking, FindsBuild, LooksAt, LooksAll, FillsLooked}
use Rattle.fold_looked.proofs.Behind.{copies_behind, dynamics_behind, behind_few}

-- a build's dest is its first field; its family is found, whose members are held against the dynamic marks
pub finds_build : (code : Code) (slot : ℕ) (tables : Tables) (clear m : Marks) (room members : List ℕ) (v : ValueId) (shp : ℕ) (found : Found) (looked : Bool)
    → v.0 ≡ dest_in code.bytes.now code.facts.now slot → shp ≡ get_or tables.shapes.now v.0 0
    → FindsFamily tables.copies.now shp v clear m room members found → MemberIndexed members found.members tables.dynamic.now looked
    → FindsBuild code slot tables clear m room members (record { dest = v; found = found; looked = looked })
finds_build code slot tables clear m room members v shp found looked ds ss finds index σ τ is i d eligible k sh l at h =
    elim (build_place code.bounds code.bytes.now code.facts.now slot i d at h) [
      | build_at a low ↦
          let z : v ≡ d = ap (λ (x : ℕ). record { 0 = x }) (ds ∙ sym a) in
          let below : v.0 < length τ.recorded = rw (z, l) low in
          let f = finds τ is k.rows (le_trans (copies_few τ is) k.short) (ss ∙ sh.shaped v.0 below) below k.few k.wide k.cleared in
          rw (sym z) record {
            dest = refl;
            family = f;
            looked = index τ v is (subst (Members members found.members) f.same f.listed) k.dynamic_all;
          }
    ]

-- where it is an array, and its marks are cleared
pub looks_at : (code : Code) (slot : ℕ) (tables : Tables) (clear m after : Marks) (room members : List ℕ) (r : BuildFamily)
    → kind_in code.facts.now slot ≡ 16 → FindsBuild code slot tables clear m room members r → ClearsMembers members r.found.members m after
    → LooksAt code slot tables clear after room r.looked
looks_at code slot tables clear m after room members r ka finds clears σ τ is i eligible k sh l at =
    elim (array_place code.bounds [] false (drop (place_in code.facts.now slot) code.bytes.now) i _ at.read (sym at.kind ∙ ka)) [
      | dest w g a low ↦
          let x = finds σ τ is i w eligible k sh l at g in
          let f = x.family in
          let again : after ≡ clear = clears f.listed ∙ ap (λ n. replicate n false) (ap length f.same ∙ family_length τ w is) ∙ sym k.cleared in
          (again, λ d q e. let y : w ≡ d = cc in rw (sym y) x.looked)
    ]

-- instruction k of a block has its flag, where it is an array
abbrev pub FlagAt : Types → List Instruction → List Bool → ℕ → Type 0
FlagAt τ all looked k =
    (d : ValueId)
    → kind_number (get_or all k no_instruction).kind ≡ 16
    → build_dest (get_or all k no_instruction).kind ≡ some d
    → get_or looked k false ≡ has_dynamic_index τ d (behind_phis all)

module _ (code : Code) (slots : Slots) (tables : Tables) (clear : Marks) (before : List Bool) where
  -- a block whose copies and dynamic marks stand
  pub record Standing : Type 0 where
    pub settings : Settings
    pub types : Types
    pub all : List Instruction
    pub eligible : List Bool
    pub room : List ℕ
    pub looking : Looking types (behind_phis all) tables.copies.now tables.dynamic.now clear room
    pub shaped : ShapesAt settings types tables.shapes.now eligible
    pub values : length types.recorded ≡ code.bounds.next
    pub stands : InstructionsIn code.bounds code.bytes.now code.facts.now slots.first all
    pub counted : length all ≡ slots.count
    pub few : slots.count ≤ 128
    pub wide : 128 ≤ length before

  -- of such a block the marks are clear again, and the first j flags stand
  pub record Flagging (family : Marks) (looked : List Bool) (members : List ℕ) (j : ℕ) : Type 0 where
    pub long : length looked ≡ length before
    pub room : length members ≡ 256
    pub cleared : Standing → family ≡ clear
    pub each : (x : Standing) (k : ℕ) → k < j → FlagAt x.types x.all looked k

  module _ (family : Marks) (looked : List Bool) (members : List ℕ) (j : ℕ) (inv : Flagging family looked members j) where
    -- what is known of the block is so where the next array is looked at
    known : (x : Standing) → Looking x.types (behind_phis x.all) tables.copies.now tables.dynamic.now family members
    known x =
        let k = x.looking in
        record {
          rows = k.rows;
          short = k.short;
          few = k.few;
          wide = omega (arith, inv.room);
          cleared = inv.cleared x ∙ k.cleared;
          dynamic_all = k.dynamic_all;
        }

    -- the next flag
    pub flag_on : j < slots.count → (after : Marks) (behind : List ℕ) (r : Bool) (flags : List Bool)
        → LooksAt code (slots.first + j) tables family after members r → length behind ≡ length members → flags ≡ set looked j r
        → Flagging after flags behind (j + 1)
    flag_on h after behind r flags looks lm e =
        record {
          long = ap length e ∙ length-set looked j r ∙ inv.long;
          room = lm ∙ inv.room;
          cleared = λ x. (found x).0 ∙ inv.cleared x;
          each = λ x k l. ⊎_elim (here x k) (there x k) (newest k j (omega arith));
        }
      where
        found : (x : Standing)
            → (after ≡ family) × ((d : ValueId) → kind_number (get_or x.all j no_instruction).kind ≡ 16 → build_dest (get_or x.all j no_instruction).kind ≡ some d
            → r ≡ has_dynamic_index x.types d (behind_phis x.all))
        found x =
            looks x.settings x.types (behind_phis x.all) (get_or x.all j no_instruction) x.eligible (known x) x.shaped x.values
            (x.stands j (omega (arith, x.counted)))

        here : (x : Standing) (k : ℕ) → k ≡ j → FlagAt x.types x.all flags k
        here x k z d a o = rw (e, z, get_or-set_same looked j r false (omega (arith, inv.long, x.few, x.wide))) ((found x).1 d (rw z at a) (rw z at o))

        there : (x : Standing) (k : ℕ) → k < j → FlagAt x.types x.all flags k
        there x k z d a o = rw (e, get_or-set_other looked j k r false (λ y. omega arith)) (inv.each x k z d a o)

    -- all of them
    pub flags_all : slots.count ≤ j → LooksAll code slots tables.shapes.now tables.copies.now tables.dynamic.now clear before looked
    flags_all h σ τ all eligible room k sh v stands c few wide = record { each = λ i d l. inv.each block i (omega arith) d }
      where
        block : Standing
        block =
            record {
              settings = σ;
              types = τ;
              all = all;
              eligible = eligible;
              room = room;
              looking = k;
              shaped = sh;
              values = v;
              stands = stands;
              counted = c;
              few = few;
              wide = wide;
            }

-- a block is scanned for its copies first
pub looks_copies : (code : Code) (slots : Slots) (shapes zeros table : List ℕ) (none dynamic clear : Marks) (before after : List Bool)
    → ScanCopies code slots.first slots.count zeros table none dynamic → zeros ≡ replicate 640 0 → none ≡ replicate code.bounds.next false → clear ≡ replicate code.bounds.next false
    → LooksAll code slots shapes table dynamic clear before after
    → FillsLooked code slots shapes before after
looks_copies code slots shapes zeros table none dynamic clear before after scans z e cl looks σ τ all eligible g sh stands c few wide =
    let x = scans code.bounds.list τ all g.known.rows g.rows stands c few z in
    let v : (m : Marks) → m ≡ replicate code.bounds.next false → m ≡ replicate (length τ.recorded) false = λ m h. h ∙ ap (λ (n : ℕ). replicate n false) (sym g.values) in
    looks σ τ all eligible (replicate 256 0)
    (record {
      rows = subst (RowsAt table) (copies_behind τ all) x.copied_all;
      short = le_trans (behind_few all) (omega arith);
      few = omega (arith, g.values, g.few);
      wide = omega (arith, length-replicate {A = ℕ} 256 0);
      cleared = v clear cl;
      dynamic_all = x.dynamic_all ∙ rw (v none e) (dynamics_behind τ (replicate (length τ.recorded) false) all);
    })
    sh g.values stands c few wide
