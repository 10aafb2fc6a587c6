use Rattle.tests_of_formulas.proofs.Rows.{told_light}
use Rattle.tests_of_formulas.proofs.deciding.chain_length.Goals as goal

pub decide-requires : goal.decide-requires
decide-requires c = told_light c.args.rows.now c.in_ok-kept.kept c.in_ok-is_light.field-0 c.in_ok-kept.ensures c.if-not-branch.false c.in_ok-is_light.ensures
