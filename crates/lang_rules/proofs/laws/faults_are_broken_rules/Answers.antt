use Rattle.lang_rules.proofs.TreeRules.{exactly_broken}
use Rattle.lang_rules.proofs.laws.faults_are_broken_rules.Goals as goal

pub returns : goal.returns
returns c = exactly_broken
