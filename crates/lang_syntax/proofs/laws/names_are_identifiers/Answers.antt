use Rattle.lang_syntax.proofs.NameLaws.{monitor_named, clients_named}
use Rattle.lang_syntax.proofs.laws.names_are_identifiers.Goals as goal

pub returns-clause-monitors : goal.returns-clause-monitors
returns-clause-monitors c = monitor_named

pub returns-clause-clients : goal.returns-clause-clients
returns-clause-clients c = clients_named
