use Rattle.std.proofs.Common.{subst}
use Rattle.std.specs.Prelude.{All}
use Rattle.report_tally.specs.CountedTexts.{IsTypedTold}
use Rattle.report_tally.proofs.numbers.of_whole.Goals as goal

pub returns : goal.returns
returns c = record { row = c.of_row.ensures; told = subst (All IsTypedTold) c.items.ensures c.of_each.ensures }
