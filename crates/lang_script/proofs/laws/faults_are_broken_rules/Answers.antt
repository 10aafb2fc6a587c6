use Rattle.lang_script.proofs.BrokenRules.{exactly_broken}
use Rattle.lang_script.proofs.laws.faults_are_broken_rules.Goals as goal

pub returns : goal.returns
returns c = exactly_broken
