-- Parts of negated queries that keep within the limits, and else none.
use Rattle.std.specs.Prelude.{List, map, Option}
use Rattle.std.specs.List.{list_all}
use Rattle.logic_linear.specs.declared.formula.Formula.{Formula}
use Rattle.logic_linear.specs.Substitution.{is_formula_within}
use Rattle.logic_wp.specs.declared.step.Step.{Step}
use Rattle.logic_wp.specs.NegatedQueries.{path_part}
use Rattle.logic_wp.specs.Limits.{value_if, is_path_within}

abbrev pub formula_within : Formula → Option Formula
formula_within formula = value_if (is_formula_within formula) formula

abbrev pub parts_within : Formula → List (List Step) → Option (List Formula)
parts_within post paths =
    value_if (list_all (is_path_within post) paths) (map (path_part post) paths)
