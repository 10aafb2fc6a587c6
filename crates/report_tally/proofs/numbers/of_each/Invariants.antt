use Rattle.std.proofs.Common.{take}
use Rattle.std.specs.Prelude.{All}
use Rattle.report_tally.specs.CountedTexts.{IsTypedTold}
use Rattle.report_tally.proofs.numbers.of_each.Given as goal

abbrev pub invariant-loop-told : goal.invariant-loop-told
invariant-loop-told l = All IsTypedTold (take l.told-index l.column)
