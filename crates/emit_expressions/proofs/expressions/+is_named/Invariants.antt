use Rattle.std.proofs.Common.{◌≡◌, false, take}
use Rattle.emit_expressions.specs.inner.Parts.{any_factor, any_addend, any_part}
use Rattle.emit_expressions.specs.Scopes.{seen}
use Rattle.emit_expressions.proofs.expressions.+is_named.Given as goal

abbrev pub invariant-any_factor-loop-factor : goal.invariant-any_factor-loop-factor
invariant-any_factor-loop-factor l = any_factor (seen l.scope) (take l.factor-index l.factors) ≡ false

abbrev pub invariant-any_addend-loop-addend : goal.invariant-any_addend-loop-addend
invariant-any_addend-loop-addend l = any_addend (seen l.scope) (take l.addend-index l.addends) ≡ false

abbrev pub invariant-any_part-loop-part : goal.invariant-any_part-loop-part
invariant-any_part-loop-part l = any_part (seen l.scope) (take l.part-index l.parts) ≡ false
