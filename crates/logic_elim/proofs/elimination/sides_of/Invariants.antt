use Rattle.std.proofs.Common.{◌≡◌}
use Rattle.std.specs.List.{filter}
use Rattle.logic_elim.specs.Steps.{is_free_row, is_lower_row, is_upper_row}
use Rattle.logic_elim.proofs.elimination.sides_of.Given as goal

abbrev pub invariant-loop-numbered : goal.invariant-loop-numbered
invariant-loop-numbered l = record {
  uppers : l.sides.uppers.items ≡ filter (is_upper_row l.place) l.yielded;
  lowers : l.sides.lowers.items ≡ filter (is_lower_row l.place) l.yielded;
  free : l.sides.free.items ≡ filter (is_free_row l.place) l.yielded;
}
