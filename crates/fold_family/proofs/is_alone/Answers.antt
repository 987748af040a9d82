use mathlib.Core.Path.{◌∙◌, sym}
use borrow.Author.Tests.{eqb-true}
use Rattle.fold_family.proofs.Alone.{alone}
use Rattle.fold_family.proofs.is_alone.Goals as goal

pub returns-then-v-lt-VALUES : goal.returns-then-v-lt-VALUES
returns-then-v-lt-VALUES c = λ h. alone c.args.copies.now c.args.v c.if-v-lt-VALUES.true (sym c.number.ensures ∙ eqb-true _ _ h)
