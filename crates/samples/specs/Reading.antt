-- What a text is read as.
use Rattle.std.specs.Prelude.{ℕ, List}
use Rattle.lang_tokens.specs.declared.token.Token.{Token}
use Rattle.lang_tree.specs.declared.tree.ClientsTree.{ClientsTree}
use Rattle.lang_tree.specs.declared.tree.MonitorTree.{MonitorTree}
use Rattle.lang_tokens.specs.Spelling.{Spells}
use Rattle.lang_syntax.specs.ClientGrammar.{DerivesClients}
use Rattle.lang_syntax.specs.Grammar.{Derives}
use Rattle.lang_monitor.specs.MonitorParts.{MonitorParts}
use Rattle.lang_types.specs.Typed.{IsTyped}
use Rattle.machine_implicit.specs.declared.script.Client.{Client}
use Rattle.lang_script.specs.Scripts.{IsScripted}

-- the text is a monitor file that stands for this monitor
pub record IsMonitorOf (text : List ℕ) (monitor : MonitorParts) : Type 0 where
  pub tokens : List Token
  pub tree : MonitorTree
  pub spelled : Spells text tokens
  pub derived : Derives text tokens tree
  pub typed : IsTyped tree monitor

-- the text is a client file that stands for these clients of the monitor
pub record AreClientsOf (text : List ℕ) (monitor : MonitorParts) (clients : List Client) : Type 0
  where
    pub tokens : List Token
    pub tree : ClientsTree
    pub spelled : Spells text tokens
    pub derived : DerivesClients text tokens tree
    pub scripted : IsScripted tree monitor clients
