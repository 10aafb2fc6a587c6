-- Reports as counted ones, none of whose conditions is counted.
use Rattle.std.specs.Prelude.{ℕ, Option, None, List, [], map}
use Rattle.machine_events.specs.declared.plan.CondKind.{CondKind}
use Rattle.report_verdict.specs.declared.report.Report.{Report}
use Rattle.report_tally.specs.declared.report.CountedReport.{CountedReport}

-- of each condition, that it isn't counted
abbrev pub none_counted : List CondKind → List (Option ℕ)
none_counted all_kinds = map (λ kind. None) all_kinds

-- a report of today's form as one in which no condition is counted
abbrev pub uncounted : Report → CountedReport
uncounted report = record {
  plan = report.plan;
  counted = none_counted report.plan.kinds;
  proofs = report.proofs;
  answers = [];
}
