-- Bytes stand for one list of a monitor's clients at most.
use Rattle.std.proofs.Common.{◌≡◌, ℕ, List, sym, ap, subst, ◌∙◌}
use Rattle.lang_tokens.specs.declared.token.Token.{Token}
use Rattle.lang_tree.specs.declared.tree.ClientsTree.{ClientsTree}
use Rattle.lang_syntax.specs.ClientGrammar.{DerivesClients}
use Rattle.lang_monitor.specs.MonitorParts.{MonitorParts}
use Rattle.machine_implicit.specs.declared.script.Client.{Client}
use Rattle.lang_script.specs.Scripts.{clients_of}
use Rattle.expresso_answers.specs.ClientFiles.{AreAccepted}
use Rattle.expresso_answers.proofs.FirstFaults.{OneClientsTree, OneSpelling}

pub one_client_list : OneSpelling → OneClientsTree → (bytes : List ℕ) (monitor : MonitorParts) (clients others : List Client) → AreAccepted bytes monitor clients → AreAccepted bytes monitor others
    → clients ≡ others
one_client_list one_spelling one_tree bytes monitor clients others p q =
    let tokens = one_spelling bytes p.tokens q.tokens p.spelled q.spelled in
    let derived : DerivesClients bytes q.tokens p.tree = subst (λ (t : List Token). DerivesClients bytes t p.tree) tokens p.derived in
    let trees = one_tree bytes q.tokens p.tree q.tree derived q.derived in
    p.scripted ∙ ap (λ (tree : ClientsTree). clients_of monitor tree) trees ∙ sym q.scripted
