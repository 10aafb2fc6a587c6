use Rattle.std.proofs.Common.{rules}
use Rattle.plan_counted.proofs.columns.broadcasts.Goals as goal

-- src/columns.rt:138:1
pub returns : goal.returns
returns c = search (c.count.ensures, c.filter.ensures, c.iter.ensures, rules)
