-- What is read in a slot, by an instruction and by a Return.
use Prim.Native.Nat.{ℕ, ◌<◌}
use mathlib.Core.Path.{◌≡◌, ap, ◌∙◌}
use mathlib.Core.List.{List}
use lib.ListN.{length, get_or}
use Rattle.bytes_laws.specs.WellFormed.{Wide}
use Rattle.mir.specs.declared.Value.{Value}
use Rattle.bytes_index.specs.declared.code.Code.{Code}
use Rattle.rewrite.specs.Readings.{readings}
use Rattle.rewrite_patch.specs.Kept.{Reads}
use Rattle.rewrite_patch.specs.Returned.{ReturnReads}
use Rattle.rewrite_patch.proofs.Whole.{fit}
use Rattle.rewrite_patch.proofs.Returns.{return_fit}
use Rattle.rewrite_keep.specs.declared.Reader.{Reader}
use Rattle.rewrite_keep.specs.Keeping.{ValueRead}

pub instruction_read : (code : Code) (slot j : ℕ) (x : Value) → Wide code.bounds → Reads code slot j x → ValueRead code slot Reader.Instruction j x
instruction_read code slot j x w r = λ xs y l.
    let m : j < length (readings y.instruction.kind) = rw y.values l in
    let e : x ≡ get_or (readings y.instruction.kind) j Value.Error = r y.instruction y.kept m in
    (e ∙ ap (λ (ys : List Value). get_or ys j Value.Error) y.values, rw e (fit code slot y.instruction y.kept j m w))

pub return_read : (code : Code) (slot j : ℕ) (x : Value) → Wide code.bounds → ReturnReads code slot j x → ValueRead code slot Reader.Return j x
return_read code slot j x w r = λ xs y l. let e = r xs y l in (e, rw e (return_fit code slot xs y j l w))
