-- The blocks of the output fit, their values defined once.
use Prim.Native.Nat.{ℕ, suc, ◌≤◌, ◌<◌}
use mathlib.Core.Path.{◌≡◌, refl, ◌∙◌, sym}
use mathlib.Core.List.{List, [], ◌∷◌, ◌++◌, append-nil}
use mathlib.Core.Bool.{Bool, true, not, ◌||◌, true≢false}
use native.Mathlib.Omega.{arith}
use Rattle.mir.specs.declared.ValueId.{ValueId}
use Rattle.mir.specs.declared.Value.{Value}
use Rattle.mir.specs.Syntax.{Instruction, InstructionKind, Call, Store, Terminator, plain}
use Rattle.mir.specs.Reads.{dests, is_phi}
use Rattle.bytes_field.specs.Decode.{mark}
use Rattle.bytes_field.specs.declared.Bounds.{Bounds}
use Rattle.mir.specs.Lists.{Each}
use Rattle.bytes_laws.specs.WellFormed.{FitNews}
use Rattle.bytes_block.specs.Decode.{marks, block_marks}
use Rattle.bytes_block.specs.WellFormed.{FitInstructions}
use Rattle.rewrite.specs.Readings.{with_readings}
use Rattle.rewrite.specs.Lowers.{Rebuild, Rebuilds, Builds, Stands, Lowers}
use Rattle.rewrite.proofs.Deep.{builds_count}
use Rattle.rewrite_laws.proofs.Readings.{same_dests}
use Rattle.rewrite_laws.proofs.Rebuilt.{Loose}
use Rattle.rewrite_laws.proofs.Marks.{dests_new, Both, news_both, both_kept, both_left, both_fresh, both_later}

-- the second of two lists
each_second : {A : Type 0} (P : A → Type 0) (xs ys : List A) → Each P (xs ++ ys) → Each P ys
each_second P [] ys h = h
each_second P (x ∷ xs) ys h = each_second P xs ys h.1

each_first : {A : Type 0} (P : A → Type 0) (xs ys : List A) → Each P (xs ++ ys) → Each P xs
each_first P [] ys h = tt
each_first P (x ∷ xs) ys h = (h.0, each_first P xs ys h.1)

-- numbers rise
up : {x : Bool} {n m : ℕ} {xs ys : List Value} {bs : List Instruction} → Rebuilds x n xs ys bs m → n ≤ m
up Rebuilds.none = omega arith
up (Rebuilds.same r) = up r
up (Rebuilds.anew i r) = omega (arith, up r)
up (Rebuilds.bare r) = omega (arith, up r)

up_builds : {n m : ℕ} {bs : List Instruction} → Builds n bs m → n ≤ m
up_builds x = omega (arith, builds_count x)

rise : {n m : ℕ} {is os : List Instruction} {t u : Terminator} {ds : List ValueId} → Lowers n is t os u ds m → n ≤ m
rise Lowers.ended = omega arith
rise (Lowers.returned r) = up r
rise (Lowers.returned_behind x v) = up_builds x
rise (Lowers.kept r) = rise r
rise (Lowers.left v r) = rise r
rise (Lowers.assigned s r) = rise r
rise (Lowers.called x r) = omega (arith, up x, rise r)
rise (Lowers.stored x r) = omega (arith, up x, rise r)
rise (Lowers.kept_behind x v r) = omega (arith, up_builds x, rise r)

module _ (b c : Bounds) (wide : b.next ≤ c.next) where
  -- instructions that fit behind any others, and the marks behind them
  pub record Fits (n : ℕ) (seen marked : List Bool) (os : List Instruction) : Type 0 where
    pub fit : (late : Bool) → FitInstructions c marked late os
    pub both : Both b.next n seen (block_marks marked os)

  fits_none : (n : ℕ) (seen marked : List Bool) → Both b.next n seen marked → Fits n seen marked []
  fits_none n seen marked h = record { fit = λ late. tt; both = h }

  -- one in front
  fits_one : (n : ℕ) (seen marked : List Bool) (i : Instruction) (os : List Instruction) → Loose c i → FitNews c marked (dests i.kind) → Fits n seen (marks marked (dests i.kind)) os → Fits n seen marked (i ∷ os)
  fits_one n seen marked i os l d f =
      record { fit = λ late. ((l.beside, l.fits marked d, λ e. absurd (true≢false (sym e ∙ l.other))), f.fit (late || not (is_phi i.kind))); both = f.both }

  -- one rebuild in front: it defines the next number
  fits_build : {n : ℕ} {i : Instruction} → Rebuild (record { 0 = n }) i → (seen marked : List Bool) (os : List Instruction) (z : ℕ) (end : List Bool) → n < c.next → Loose c i → Both b.next n seen marked
      → ((marked : List Bool) → Both b.next (suc n) seen marked → Fits z end marked os) → Fits z end marked (i ∷ os)
  fits_build {n} (Rebuild.tuple ps) seen marked os z end l e h f = fits_one z end marked _ os e ((l, h.above n (omega arith)), tt) (f (mark marked (record { 0 = n })) (both_fresh b c wide n seen marked h))
  fits_build {n} (Rebuild.struct ps t) seen marked os z end l e h f = fits_one z end marked _ os e ((l, h.above n (omega arith)), tt) (f (mark marked (record { 0 = n })) (both_fresh b c wide n seen marked h))
  fits_build {n} (Rebuild.array ps t) seen marked os z end l e h f = fits_one z end marked _ os e ((l, h.above n (omega arith)), tt) (f (mark marked (record { 0 = n })) (both_fresh b c wide n seen marked h))

  -- rebuilds in front of what needs them
  fits_rebuilds : {x : Bool} {n m : ℕ} {xs ys : List Value} {bs : List Instruction} → Rebuilds x n xs ys bs m → (seen marked : List Bool) (os : List Instruction) (z : ℕ) (end : List Bool) → m ≤ c.next → Each (Loose c) bs → Both b.next n seen marked
      → ((marked : List Bool) → Both b.next m seen marked → Fits z end marked os) → Fits z end marked (bs ++ os)
  fits_rebuilds Rebuilds.none seen marked os z end l e h f = f marked h
  fits_rebuilds (Rebuilds.same r) seen marked os z end l e h f = fits_rebuilds r seen marked os z end l e h f
  fits_rebuilds {n} (Rebuilds.anew a r) seen marked os z end l e h f = fits_build a seen marked _ z end (omega (arith, up r, l)) e.0 h (λ marked h. fits_rebuilds r seen marked os z end l e.1 h f)
  fits_rebuilds {n} (Rebuilds.bare r) seen marked os z end l e h f = fits_rebuilds r seen marked os z end l e (both_later b c wide n (suc n) seen marked (omega arith) h) f

  -- and edition 2's
  fits_builds : {n m : ℕ} {bs : List Instruction} → Builds n bs m → (seen marked : List Bool) (os : List Instruction) (z : ℕ) (end : List Bool) → m ≤ c.next → Each (Loose c) bs → Both b.next n seen marked
      → ((marked : List Bool) → Both b.next m seen marked → Fits z end marked os) → Fits z end marked (bs ++ os)
  fits_builds Builds.none seen marked os z end l e h f = f marked h
  fits_builds (Builds.build a r) seen marked os z end l e h f = fits_build a seen marked _ z end (omega (arith, up_builds r, l)) e.0 h (λ marked h. fits_builds r seen marked os z end l e.1 h f)

  -- an Assign defines what it stands for
  stands_dests : (i k : InstructionKind) → Stands i k → dests k ≡ dests i
  stands_dests i k (Stands.element d x j t y) = refl
  stands_dests i k (Stands.field d x f t y) = refl
  stands_dests i k (Stands.load d p t y) = refl

  -- what is left of a block
  pub fits_lowers : {n m : ℕ} {is os : List Instruction} {t u : Terminator} {ds : List ValueId} → Lowers n is t os u ds m → (seen marked : List Bool) (late : Bool) → m ≤ c.next → Each (Loose c) os → FitInstructions b seen late is → Both b.next n seen marked
      → Fits m (block_marks seen is) marked os
  fits_lowers {n} Lowers.ended seen marked late l lo g h = fits_none n seen marked h
  fits_lowers {n} {m} {is} {os} (Lowers.returned r) seen marked late l lo g h = rw (append-nil os) at (fits_rebuilds r seen marked [] m seen l lo h (λ marked h. fits_none m seen marked h))
  fits_lowers {n} {m} {is} {os} (Lowers.returned_behind x v) seen marked late l lo g h = rw (append-nil os) at (fits_builds x seen marked [] m seen l lo h (λ marked h. fits_none m seen marked h))
  fits_lowers {n} {m} (Lowers.kept {i} {is} {os} r) seen marked late l lo g h =
      let d = dests_new b seen i.kind g.0.1 in
      fits_one m (block_marks (marks seen (dests i.kind)) is) marked i os lo.0 (news_both b c wide n seen marked (dests i.kind) h d)
      (fits_lowers r (marks seen (dests i.kind)) (marks marked (dests i.kind)) (late || not (is_phi i.kind)) l lo.1 g.1 (both_kept b c wide n seen marked (dests i.kind) d h))
  fits_lowers {n} {m} (Lowers.left {i} {is} v r) seen marked late l lo g h =
      fits_lowers r (marks seen (dests i.kind)) marked (late || not (is_phi i.kind)) l lo g.1 (both_left b c wide n seen marked (dests i.kind) h)
  fits_lowers {n} {m} (Lowers.assigned {i} {k} {is} {os} s r) seen marked late l lo g h =
      let d = dests_new b seen i.kind g.0.1 in
      let z : dests k ≡ dests i.kind = stands_dests i.kind k s in
      fits_one m (block_marks (marks seen (dests i.kind)) is) marked (plain k) os lo.0 (rw z (news_both b c wide n seen marked (dests i.kind) h d))
      (rw z (fits_lowers r (marks seen (dests i.kind)) (marks marked (dests i.kind)) (late || not (is_phi i.kind)) l lo.1 g.1 (both_kept b c wide n seen marked (dests i.kind) d h)))
  fits_lowers {n} {m} (Lowers.called {a} {rs} {f} {xs} {ys} {ps} {qs} {bs} {is} {os} x r) seen marked late l lo g h =
      let d = dests_new b seen (Call rs f xs ps qs) g.0.1 in
      let tail = each_second (Loose c) bs (plain (Call rs f ys ps qs) ∷ os) lo in
      fits_rebuilds x seen marked (plain (Call rs f ys ps qs) ∷ os) m (block_marks (marks seen rs) is) (omega (arith, rise r, l)) (each_first (Loose c) bs (plain (Call rs f ys ps qs) ∷ os) lo) h
      (λ marked h. fits_one m (block_marks (marks seen rs) is) marked (plain (Call rs f ys ps qs)) os tail.0 (news_both b c wide _ seen marked rs h d)
      (fits_lowers r (marks seen rs) (marks marked rs) (late || true) l tail.1 g.1 (both_kept b c wide _ seen marked rs d h)))
  fits_lowers {n} {m} (Lowers.stored {a} {p} {x} {y} {e} {bs} {is} {os} z r) seen marked late l lo g h =
      let new : Instruction = record { meta = a; kind = Store p y e } in
      let tail = each_second (Loose c) bs (new ∷ os) lo in
      fits_rebuilds z seen marked (new ∷ os) m (block_marks seen is) (omega (arith, rise r, l)) (each_first (Loose c) bs (new ∷ os) lo) h
      (λ marked h. fits_one m (block_marks seen is) marked new os tail.0 tt (fits_lowers r seen marked (late || true) l tail.1 g.1 h))
  fits_lowers {n} {m} (Lowers.kept_behind {i} {ys} {bs} {is} {os} x v r) seen marked late l lo g h =
      let new : Instruction = record { meta = i.meta; kind = with_readings i.kind ys } in
      let d = dests_new b seen i.kind g.0.1 in
      let e : dests new.kind ≡ dests i.kind = (same_dests i.kind ys).0 in
      let tail = each_second (Loose c) bs (new ∷ os) lo in
      fits_builds x seen marked (new ∷ os) m (block_marks (marks seen (dests i.kind)) is) (omega (arith, rise r, l)) (each_first (Loose c) bs (new ∷ os) lo) h
      (λ marked h. fits_one m (block_marks (marks seen (dests i.kind)) is) marked new os tail.0 (rw e (news_both b c wide _ seen marked (dests i.kind) h d))
      (rw e (fits_lowers r (marks seen (dests i.kind)) (marks marked (dests i.kind)) (late || not (is_phi i.kind)) l tail.1 g.1 (both_kept b c wide _ seen marked (dests i.kind) d h))))
