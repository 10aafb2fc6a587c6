use Rattle.std.proofs.Common.{take}
use Rattle.std.specs.Prelude.{All}
use Rattle.report_fits.proofs.FitLines.{IsTypedAnswer}
use Rattle.report_fits.proofs.fit.read_fit_numbers.Given as goal

abbrev pub invariant-loop-answer : goal.invariant-loop-answer
invariant-loop-answer l = All IsTypedAnswer (take l.answer-index l.answers)
