use Rattle.std.proofs.Common.{◌≡◌, take, true}
use Rattle.std.specs.List.{list_all}
use Rattle.logic_elim.specs.inner.Light.{is_light_row}
use Rattle.logic_elim.proofs.light.have_light_numbers.Given as goal

abbrev pub invariant-loop-numbered : goal.invariant-loop-numbered
invariant-loop-numbered l = list_all is_light_row (take l.numbered-index l.rows) ≡ true
