use Rattle.std.proofs.Common.{◌≡◌, map, take}
use Rattle.lang_script.specs.Scripts.{value_of}
use Rattle.lang_script.proofs.making.values_of.Given as goal

abbrev pub invariant-loop-argument : goal.invariant-loop-argument
invariant-loop-argument l = l.values.items ≡ map value_of (take l.argument-index l.arguments)
