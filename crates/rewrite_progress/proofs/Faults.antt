-- The first fault met, of things one after another.
use Prim.Native.Nat.{ℕ}
use mathlib.Core.Path.{◌≡◌, refl, ap, ◌∙◌, sym}
use mathlib.Core.List.{List, [], ◌∷◌}
use mathlib.Core.Option.{Option, none, some}
use native.Mathlib.Omega.{arith}
use Rattle.std.specs.Prelude.{Ok, Err}
use Rattle.mir.specs.Syntax.{Instruction}
use Rattle.fold.specs.Family.{Marks}
use Rattle.rewrite.specs.declared.Fault.{Fault}
use Rattle.rewrite.specs.Fault.{first_met, full_fault, lines_fault}
use Rattle.rewrite.proofs.Within.{met_left, met_right}
use Rattle.rewrite_progress.specs.declared.Progress.{Progress}
use Rattle.rewrite_progress.specs.Effect.{Effect, Output, output_of, behind, Puts}

pub first_assoc : (a b c : Option Fault) → first_met (first_met a b) c ≡ first_met a (first_met b c)
unfolding first_met
first_assoc none b c = refl
first_assoc (some f) b c = refl

pub first_none : (a : Option Fault) → first_met a none ≡ a
unfolding first_met
first_none none = refl
first_none (some f) = refl

-- a fault that comes first is the first met
pub met_first : {a : Option Fault} (b : Option Fault) (f : Fault) → a ≡ some f → first_met a b ≡ some f
unfolding first_met
met_first b f e = rw e refl

-- where none comes first, it is the other
pub met_next : {a : Option Fault} (b : Option Fault) → a ≡ none → first_met a b ≡ b
unfolding first_met
met_next b e = rw e refl

-- none of two
pub none_of_both : (a b : Option Fault) → first_met a b ≡ none → (a ≡ none) × (b ≡ none)
none_of_both a b e = (met_left a b e, met_right a b e)

-- one instruction alone
pub one_line_fault : (l : ℕ) (i : Instruction) → lines_fault l (i ∷ []) ≡ full_fault l
unfolding lines_fault
one_line_fault l i = first_none (full_fault l)

module _ (o : Output) (e : Effect) (fault : ℕ → Option Fault) (buffer types : List ℕ) (dropped : Marks) where
  -- a fault is answered
  pub puts_fault : (f : Fault) → fault o.progress.lines ≡ some f → Puts o e fault buffer types dropped (Err f)
  puts_fault f h = record { refused = λ g z. let y : f ≡ g = cc in h ∙ ap some y; went = λ q z. absurd (let u : ◌≡◌ {A = ℕ} 0 1 = cc in omega arith) }

  -- there is none, and the effect is put out
  pub puts_effect : (p : Progress) → fault o.progress.lines ≡ none → output_of buffer types dropped p ≡ behind o e → Puts o e fault buffer types dropped (Ok p)
  puts_effect p h k = record { refused = λ f z. absurd (let y : ◌≡◌ {A = ℕ} 0 1 = cc in omega arith); went = λ q z. let y : p ≡ q = cc in (h, ap (output_of buffer types dropped) (sym y) ∙ k) }
