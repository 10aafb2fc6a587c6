-- A call is of a function further down, or of one that has fewer levels left.
use Rattle.std.proofs.Common.{◌+◌, ◌*◌}
use Rattle.lang_syntax.proofs.item_parser.+item.Given as goal

abbrev pub decreases-item : goal.decreases-item
decreases-item l = 10 * l.levels + 1

abbrev pub decreases-repeat : goal.decreases-repeat
decreases-repeat l = 10 * l.levels

abbrev pub decreases-items-one : goal.decreases-items-one
decreases-items-one l = 10 * l.levels + 2

abbrev pub decreases-items : goal.decreases-items
decreases-items l = 10 * l.levels + 3

abbrev pub decreases-item_block : goal.decreases-item_block
decreases-item_block l = 10 * l.levels + 4
