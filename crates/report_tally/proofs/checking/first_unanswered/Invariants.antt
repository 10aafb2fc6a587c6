use Rattle.std.proofs.Common.{take}
use Rattle.std.specs.Prelude.{All}
use Rattle.std.specs.List.{zip}
use Rattle.report_tally.specs.CountedVerdicts.{IsAnswered}
use Rattle.report_tally.proofs.checking.first_unanswered.Given as goal

abbrev pub invariant-loop-place : goal.invariant-loop-place
invariant-loop-place l = All (IsAnswered l.monitor l.kept) (take l.place (zip l.questions l.certs))
