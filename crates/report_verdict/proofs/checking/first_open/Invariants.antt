use Rattle.std.proofs.Common.{take}
use Rattle.std.specs.List.{zip}
use Rattle.report_verdict.specs.Verdicts.{AreChecked}
use Rattle.report_verdict.proofs.checking.first_open.Given as goal

abbrev pub invariant-loop-place : goal.invariant-loop-place
invariant-loop-place l = AreChecked l.monitor l.kept (take l.place (zip l.claims l.certs))
