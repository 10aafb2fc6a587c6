use Rattle.machine_events.proofs.Applying.{kept_applies, none_needed_applies, one_enough_applies, no_test_applies}
use Rattle.machine_events.proofs.laws.triples_apply.Goals as goal

pub returns-clause-keeps : goal.returns-clause-keeps
returns-clause-keeps c = kept_applies

pub returns-clause-none_needed : goal.returns-clause-none_needed
returns-clause-none_needed c = none_needed_applies

pub returns-clause-one_enough : goal.returns-clause-one_enough
returns-clause-one_enough c = one_enough_applies

pub returns-clause-no_test : goal.returns-clause-no_test
returns-clause-no_test c = no_test_applies
