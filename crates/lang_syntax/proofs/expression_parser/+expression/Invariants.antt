-- A call is of a function further down, or of one that has fewer levels left.
use Rattle.std.proofs.Common.{ℕ, ◌+◌, ◌*◌}
use Rattle.lang_syntax.specs.declared.expression_parser.Join.{Join}
use Rattle.lang_syntax.specs.declared.expression_parser.Join.TheVariants as joins
use Rattle.lang_syntax.proofs.expression_parser.+expression.Given as goal

-- how far up a chain stands
abbrev height : Join → ℕ
height joins.And = 0
height joins.Or = 5

abbrev pub decreases-unary : goal.decreases-unary
decreases-unary l = 30 * l.levels

abbrev pub decreases-minus_unary : goal.decreases-minus_unary
decreases-minus_unary l = 30 * l.levels + 1

abbrev pub decreases-not_unary : goal.decreases-not_unary
decreases-not_unary l = 30 * l.levels + 1

abbrev pub decreases-factor : goal.decreases-factor
decreases-factor l = 30 * l.levels + 1

abbrev pub decreases-factors-many+arg4 : goal.decreases-factors-many+arg4
decreases-factors-many+arg4 l = 30 * l.levels + 2

abbrev pub decreases-factors : goal.decreases-factors
decreases-factors l = 30 * l.levels + 3

abbrev pub decreases-product : goal.decreases-product
decreases-product l = 30 * l.levels + 4

abbrev pub decreases-addend : goal.decreases-addend
decreases-addend l = 30 * l.levels + 5

abbrev pub decreases-addends-many+arg4 : goal.decreases-addends-many+arg4
decreases-addends-many+arg4 l = 30 * l.levels + 6

abbrev pub decreases-addends : goal.decreases-addends
decreases-addends l = 30 * l.levels + 7

abbrev pub decreases-sum : goal.decreases-sum
decreases-sum l = 30 * l.levels + 8

abbrev pub decreases-comparison : goal.decreases-comparison
decreases-comparison l = 30 * l.levels + 9

abbrev pub decreases-inner : goal.decreases-inner
decreases-inner l = 30 * l.levels + (10 + height l.join)

abbrev pub decreases-part : goal.decreases-part
decreases-part l = 30 * l.levels + (11 + height l.join)

abbrev pub decreases-parts-many+arg4 : goal.decreases-parts-many+arg4
decreases-parts-many+arg4 l = 30 * l.levels + (12 + height l.join)

abbrev pub decreases-parts : goal.decreases-parts
decreases-parts l = 30 * l.levels + (13 + height l.join)

abbrev pub decreases-joined : goal.decreases-joined
decreases-joined l = 30 * l.levels + (14 + height l.join)

abbrev pub decreases-group : goal.decreases-group
decreases-group l = 30 * l.levels + 20
