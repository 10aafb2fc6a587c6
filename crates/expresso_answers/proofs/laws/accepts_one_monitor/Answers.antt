use Rattle.expresso_answers.proofs.OneMonitor.{one_monitor, one_tree_of}
use Rattle.expresso_answers.proofs.laws.accepts_one_monitor.Goals as goal

pub returns-clause-trees : goal.returns-clause-trees
returns-clause-trees c = one_tree_of c.one_spelling.ensures.one c.derives_one_tree.ensures.monitors

pub returns-clause-monitors : goal.returns-clause-monitors
returns-clause-monitors c = one_monitor c.one_spelling.ensures.one c.derives_one_tree.ensures.monitors
