use Rattle.std.proofs.Common.{rules, ◌∙◌}
use Rattle.lang_tree.specs.declared.tree.Expr.TheViews.{the_lemmas}
use Rattle.lang_forms.proofs.MakingLemmas.{part_turns, not_part, compare_parts, both_parts, either_parts, both_is, either_is}
use Rattle.lang_forms.proofs.making.+formula_of.Goals as goal

pub formula_of-negate-requires : goal.formula_of-negate-requires
formula_of-negate-requires t c =
    part_turns c.args.scope.now c.get.result.now c.in_ok-formula_of-in-Not.field-0 c.requires.numbers (not_part c.args.scope.now c.args.expression.now _ c.get.result.now _ c.in-Not.is c.get.ensures c.requires.fine) c.in_ok-formula_of-in-Not.ensures

pub formula_of-compare-requires-clause-left : goal.formula_of-compare-requires-clause-left
formula_of-compare-requires-clause-left t c = (compare_parts c.args.scope.now c.args.expression.now _ _ c.get-in-Compare.result.now c.get-in-Compare-2.result.now _ c.in-Compare.is c.get-in-Compare.ensures c.get-in-Compare-2.ensures c.requires.fine).left_int

pub formula_of-compare-requires-clause-right : goal.formula_of-compare-requires-clause-right
formula_of-compare-requires-clause-right t c = (compare_parts c.args.scope.now c.args.expression.now _ _ c.get-in-Compare.result.now c.get-in-Compare-2.result.now _ c.in-Compare.is c.get-in-Compare.ensures c.get-in-Compare-2.ensures c.requires.fine).right_int

pub formula_of-compare-requires-clause-limited : goal.formula_of-compare-requires-clause-limited
formula_of-compare-requires-clause-limited t c = (compare_parts c.args.scope.now c.args.expression.now _ _ c.get-in-Compare.result.now c.get-in-Compare-2.result.now _ c.in-Compare.is c.get-in-Compare.ensures c.get-in-Compare-2.ensures c.requires.fine).limited

pub formula_of-formulas_of-requires : goal.formula_of-formulas_of-requires
formula_of-formulas_of-requires t c =
    (search (rules, the_lemmas), (c.requires.ordered, (c.requires.numbers, both_parts c.args.scope.now c.args.expression.now _ c.items.result.now c.in-Both.is c.items.ensures c.requires.fine)))

pub formula_of-formulas_of-requires-in-Either : goal.formula_of-formulas_of-requires-in-Either
formula_of-formulas_of-requires-in-Either t c =
    (search (rules, the_lemmas), (c.requires.ordered, (c.requires.numbers, either_parts c.args.scope.now c.args.expression.now _ c.items-in-Either.result.now c.in-Either.is c.items-in-Either.ensures c.requires.fine)))

pub formula_of-returns-in_ok-formulas_of-in-Both : goal.formula_of-returns-in_ok-formulas_of-in-Both
formula_of-returns-in_ok-formulas_of-in-Both t c =
    both_is c.args.scope.now c.args.expression.now _ c.items.result.now c.of.result c.in-Both.is c.items.ensures (c.of.ensures ∙ c.in_ok-formulas_of-in-Both.ensures)

pub formula_of-returns-in_ok-formulas_of-in-Either : goal.formula_of-returns-in_ok-formulas_of-in-Either
formula_of-returns-in_ok-formulas_of-in-Either t c =
    either_is c.args.scope.now c.args.expression.now _ c.items-in-Either.result.now c.of-in-Either.result c.in-Either.is c.items-in-Either.ensures (c.of-in-Either.ensures ∙ c.in_ok-formulas_of-in-Either.ensures)
