use Rattle.std.proofs.Common.{◌≡◌, take, false}
use Rattle.std.specs.List.{list_any}
use Rattle.logic_solve.specs.Cubes.{is_general}
use Rattle.logic_solve.proofs.closing.has_general_row.Given as goal

abbrev pub invariant-loop-literal : goal.invariant-loop-literal
invariant-loop-literal l = list_any is_general (take l.literal-index l.literals) ≡ false
