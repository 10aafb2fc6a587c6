use Rattle.emit_names.proofs.Tries.{tries_apart, tries_free, tries_stay}
use Rattle.emit_names.proofs.laws.try_names_stay_apart.Goals as goal

pub returns-clause-tries : goal.returns-clause-tries
returns-clause-tries c = tries_apart

pub returns-clause-members : goal.returns-clause-members
returns-clause-members c = tries_free

pub returns-clause-words : goal.returns-clause-words
returns-clause-words c = tries_stay
