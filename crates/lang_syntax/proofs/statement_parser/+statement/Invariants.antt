-- A call is of a function further down, or of one that has fewer levels left.
use Rattle.std.proofs.Common.{◌+◌, ◌*◌}
use Rattle.lang_syntax.proofs.statement_parser.+statement.Given as goal

abbrev pub decreases-statement : goal.decreases-statement
decreases-statement l = 10 * l.levels + 1

abbrev pub decreases-branch : goal.decreases-branch
decreases-branch l = 10 * l.levels

abbrev pub decreases-statements-item : goal.decreases-statements-item
decreases-statements-item l = 10 * l.levels + 2

abbrev pub decreases-statements : goal.decreases-statements
decreases-statements l = 10 * l.levels + 3

abbrev pub decreases-block : goal.decreases-block
decreases-block l = 10 * l.levels + 4

abbrev pub decreases-otherwise : goal.decreases-otherwise
decreases-otherwise l = 10 * l.levels + 5
