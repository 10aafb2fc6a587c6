use Rattle.report_audit.proofs.FoundByRows.{counted_found_of_lawful, found_by_rows}
use Rattle.report_audit.proofs.FoundLawful.{may_be_kept}
use Rattle.report_audit.proofs.laws.counted_plans_are_found.Goals as goal

pub returns-clause-counted : goal.returns-clause-counted
returns-clause-counted c = found_by_rows

pub returns-clause-lawful : goal.returns-clause-lawful
returns-clause-lawful c = counted_found_of_lawful

pub returns-clause-easy : goal.returns-clause-easy
returns-clause-easy c = λ monitor plan finding rule of easy lawful is.
    counted_found_of_lawful monitor plan finding rule of (c.easy_monitors_have_no_open_claim.ensures monitor plan.kept (may_be_kept monitor plan of lawful) easy) lawful is
