-- A plan that is carried out: what it does is the piece that it leads to.
use Prim.Native.Nat.{ℕ, ◌≤◌, ◌<◌}
use mathlib.Core.Path.{◌≡◌, ◌∙◌, sym}
use mathlib.Core.List.{List}
use native.Mathlib.Omega.{arith}
use Rattle.mir.specs.declared.TypeId.{TypeId}
use Rattle.mir.specs.declared.ValueId.{ValueId}
use Rattle.fold.specs.Family.{Marks}
use Rattle.rewrite.specs.State.{AggStates}
use Rattle.rewrite.specs.Piece.{Piece, assigned}
use Rattle.mir.specs.Most.{most_values}
use Rattle.bytes_index.specs.declared.code.Code.{Code}
use Rattle.rewrite_parts.specs.declared.listed.Listed.{Listed}
use Rattle.rewrite_parts.specs.Rows.{Rep, Room}
use Rattle.rewrite_parts.specs.Filled.{Shared, ValuesTracked, Replaced}
use Rattle.rewrite_arms.specs.Decided.{Assigned, assigned_from, Decided, Listing, ListedAt, Planned}
use Rattle.rewrite_arms.specs.declared.Action.{Action}
use Rattle.rewrite_arms.specs.declared.Counted.{Counted}
use Rattle.rewrite_arms.specs.declared.Used.{Used}
use Rattle.rewrite_arms.specs.declared.Plan.{Plan}
use Rattle.rewrite_arms.specs.declared.spot.Spot.{Spot}
use Rattle.rewrite_arms.proofs.Actions.{remains, tracks}
use Rattle.rewrite_decide.specs.Stepped.{ValuesBuilt}

-- the values of a build's list are tracked
pub list_tracked : (next : ℕ) (code : Code) (S : AggStates) (stay : Piece) (p : Spot) (x : Piece) (marks marks' : Marks) (rows rows' : List ℕ) (used to : ℕ) (l : Listed)
    → ListedAt code p l
    → ValuesTracked p.dest l 0 marks rows used marks' rows' to
    → Rep next code.bytes.now marks rows used S
    → Room rows used
    → p.dest.0 < most_values
    → Listing next code.bytes.now S p x
    → Decided next code.bytes.now marks' rows' S stay x (record { value = Action.Track p.dest Counted.Build; used = to })
list_tracked next code S stay p x marks marks' rows rows' used to l e f rep room d g =
    tracks Counted.Build p.dest g.parts g.piece
    (rw e.bytes at (f next S g.parts (rw e.bytes rep) room d (rw (e.bytes, e.place) g.stand) (g.many ∙ sym e.many) (omega (arith, e.many, g.many, g.few))))

module _ (code : Code) {next : ℕ} {S : AggStates} {stay : Piece} {p : Spot} {x : Piece} {r : Plan} (g : Planned next code.bytes.now code.facts.now S stay p x r) {marks : Marks} {rows : List ℕ} {used : ℕ} (rep : Rep next code.bytes.now marks rows used S) where
  pub carry_keep : r ≡ Plan.Keep → stay.states ≡ S → Decided next code.bytes.now marks rows S stay x (record { value = Action.Keep; used = used })
  carry_keep e f = remains (rw e at g).goes f rep

  assigns : {d : ValueId} {place : ℕ} {t : TypeId} → Assigned next code.bytes.now S x d place t → Decided next code.bytes.now marks rows S stay x (record { value = Action.Assign d place t; used = used })
  unfolding assigned
  assigns (assigned_from y v e) = record { rep = rw e rep; does = assigned_from y v e }

  pub carry_assign : {place : ℕ} {t : TypeId} → r ≡ Plan.Assign place t → Decided next code.bytes.now marks rows S stay x (record { value = Action.Assign p.dest place t; used = used })
  carry_assign e = assigns (rw e at g).goes

  -- the tables are changed
  module _ (few : next ≤ 256) {marks' : Marks} {rows' : List ℕ} where
    pub carry_share : {v : ValueId} {k : Counted} → r ≡ Plan.Share v k → Shared p.dest v marks rows marks' rows' → Decided next code.bytes.now marks' rows' S stay x (record { value = Action.Track p.dest k; used = used })
    carry_share {v} {k} e f =
        let w = rw e at g in
        let d = w.dest (λ z. let u : ◌≡◌ {A = ℕ} 0 1 = cc in omega arith) in
        tracks k p.dest w.goes.parts w.goes.piece (f next code.bytes.now used S w.goes.parts rep w.goes.own (omega arith))

    module _ (room : Room rows used) where
      pub carry_replace : {v : ValueId} {k place to : ℕ} → r ≡ Plan.Replace v k place → Replaced p.dest v k place marks rows used marks' rows' to → Decided next code.bytes.now marks' rows' S stay x (record { value = Action.Track p.dest Counted.Insert; used = to })
      carry_replace e f =
          let w = rw e at g in
          let d = w.dest (λ z. let u : ◌≡◌ {A = ℕ} 0 1 = cc in omega arith) in
          tracks Counted.Insert p.dest w.goes.new w.goes.piece (f next code.bytes.now S w.goes.parts w.goes.new w.goes.part rep room (omega arith) w.goes.own w.goes.changed w.goes.stands)

      pub carry_values : {q : Used Action} → r ≡ Plan.Values → ValuesBuilt code p marks rows used marks' rows' q → Decided next code.bytes.now marks' rows' S stay x q
      carry_values e f =
          let w = rw e at g in
          let d = w.dest (λ z. let u : ◌≡◌ {A = ℕ} 0 1 = cc in omega arith) in
          f next S stay x rep room (omega arith) w.goes
