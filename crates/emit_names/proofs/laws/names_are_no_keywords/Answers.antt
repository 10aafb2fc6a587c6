use Rattle.emit_names.proofs.NoKeywords.{types_stay, members_stay, inputs_stay}
use Rattle.emit_names.proofs.laws.names_are_no_keywords.Goals as goal

pub returns-clause-types : goal.returns-clause-types
returns-clause-types c = types_stay

pub returns-clause-members : goal.returns-clause-members
returns-clause-members c = members_stay

pub returns-clause-inputs : goal.returns-clause-inputs
returns-clause-inputs c = inputs_stay
