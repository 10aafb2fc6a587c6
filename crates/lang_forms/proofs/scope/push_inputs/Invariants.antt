use Rattle.std.proofs.Common.{◌≡◌, ◌++◌, take}
use Rattle.lang_forms.specs.Scope.{inputs_from}
use Rattle.lang_forms.proofs.scope.push_inputs.Given as goal

abbrev pub invariant-loop-index : goal.invariant-loop-index
invariant-loop-index l = l.scope.items ≡ l.initial.scope.items ++ inputs_from 16 (take l.index l.inputs)
