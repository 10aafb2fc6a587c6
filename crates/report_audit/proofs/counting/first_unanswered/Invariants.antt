use Rattle.std.proofs.Common.{take}
use Rattle.std.specs.Prelude.{All}
use Rattle.report_audit.specs.CountedFindings.{IsCertified}
use Rattle.report_audit.proofs.counting.first_unanswered.Given as goal

abbrev pub invariant-loop-place : goal.invariant-loop-place
invariant-loop-place l = All (IsCertified l.monitor l.kept) (take l.place l.questions)
