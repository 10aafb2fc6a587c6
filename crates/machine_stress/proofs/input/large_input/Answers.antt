use Rattle.machine_stress.specs.LargeInput.{capacity_of}
use Rattle.machine_stress.proofs.ClientRules.{calls_fit}
use Rattle.machine_stress.proofs.input.large_input.Goals as goal

pub returns-clause-fits : goal.returns-clause-fits
returns-clause-fits c = calls_fit (capacity_of c.args.number) _ _ c.in_ok-buffer.ensures c.in_ok-producers_and_consumers.ensures
