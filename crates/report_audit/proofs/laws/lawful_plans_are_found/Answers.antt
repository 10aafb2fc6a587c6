use Rattle.report_audit.proofs.FoundLawful.{found_of_lawful, may_be_kept}
use Rattle.report_audit.proofs.laws.lawful_plans_are_found.Goals as goal

pub returns : goal.returns
returns c = λ monitor plan finding rule of none lawful is.
    found_of_lawful monitor plan finding rule of (c.easy_monitors_have_no_open_claim.ensures monitor plan.kept (may_be_kept monitor plan of lawful) none) lawful is
