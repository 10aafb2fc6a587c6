use Rattle.lang_tokens.specs.Words.{words}
use Rattle.lang_printer.specs.Canonical.{tree_text}
use Rattle.lang_printer.specs.CanonicalClients.{clients_text}
use Rattle.lang_syntax.proofs.CanonicalDerivation.{canonical_derives}
use Rattle.lang_syntax.proofs.CanonicalSpelling.{printable_spelled}
use Rattle.lang_syntax.proofs.DerivedPrintable.{derived_printable}
use Rattle.lang_syntax.proofs.ClientWords.{clients_printable}
use Rattle.lang_syntax.proofs.ClientSpelling.{clients_spelled}
use Rattle.lang_syntax.proofs.ClientDerivation.{clients_derive}
use Rattle.lang_syntax.proofs.laws.printed_tree_derives.Goals as goal

pub returns-clause-monitors : goal.returns-clause-monitors
returns-clause-monitors c = λ bytes tokens tree spelled derived.
    let printed = printable_spelled tree (derived_printable bytes tokens tree spelled derived) in
    let again = canonical_derives (words bytes tokens) tree derived (words (tree_text tree) printed.0) printed.2 in
    record { printed = printed.0; again = again.0; spelled = printed.1; derived = again.1; same = again.2 }

pub returns-clause-clients : goal.returns-clause-clients
returns-clause-clients c = λ bytes tokens tree spelled derived.
    let printed = clients_spelled tree (clients_printable bytes tokens tree spelled derived) in
    let again = clients_derive (words bytes tokens) tree derived (words (clients_text tree) printed.0) printed.2 in
    record { printed = printed.0; again = again.0; spelled = printed.1; derived = again.1; same = again.2 }
