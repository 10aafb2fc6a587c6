use Rattle.expresso.proofs.OneReport.{same_plan, same_proofs}
use Rattle.expresso.proofs.laws.runs_are_reported.Goals as goal

pub returns-clause-plans : goal.returns-clause-plans
returns-clause-plans c = same_plan c.one_spelling.ensures.one c.derives_one_tree.ensures.monitors c.one_exact_plan.ensures

pub returns-clause-proofs : goal.returns-clause-proofs
returns-clause-proofs c = same_proofs c.one_spelling.ensures.one c.derives_one_tree.ensures.monitors c.one_exact_plan.ensures
