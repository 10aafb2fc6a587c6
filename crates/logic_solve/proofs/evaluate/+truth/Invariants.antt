use Rattle.std.proofs.Common.{◌≡◌, true, false, take}
use Rattle.std.specs.List.{list_all, list_any}
use Rattle.logic_linear.specs.Truth.{truth_of}
use Rattle.logic_solve.specs.Solutions.{valuation_of}
use Rattle.logic_solve.proofs.evaluate.+truth.Given as goal

abbrev pub invariant-all_hold-loop-part : goal.invariant-all_hold-loop-part
invariant-all_hold-loop-part l = list_all (truth_of (valuation_of l.at)) (take l.part-index l.parts) ≡ true

abbrev pub invariant-any_holds-loop-part : goal.invariant-any_holds-loop-part
invariant-any_holds-loop-part l = list_any (truth_of (valuation_of l.at)) (take l.part-index l.parts) ≡ false
