use Rattle.emit_names.proofs.Apart.{names_apart, members_apart, inputs_apart}
use Rattle.emit_names.proofs.laws.names_stay_apart.Goals as goal

pub returns-clause-names : goal.returns-clause-names
returns-clause-names c = names_apart

pub returns-clause-members : goal.returns-clause-members
returns-clause-members c = members_apart

pub returns-clause-inputs : goal.returns-clause-inputs
returns-clause-inputs c = inputs_apart
