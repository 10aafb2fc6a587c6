-- Client files: which are accepted, and what the first fault of the others is.
use Rattle.std.specs.Prelude.{◌≡◌, ◌≤◌, ℕ, List, [], length}
use Rattle.lang_base.specs.Limits.{FILE_BYTES}
use Rattle.lang_base.specs.declared.source_fault.SourceFault.{SourceFault}
use Rattle.lang_tokens.specs.declared.token.Token.{Token}
use Rattle.lang_tree.specs.declared.tree.ClientsTree.{ClientsTree}
use Rattle.lang_tokens.specs.Spelling.{Spells}
use Rattle.lang_syntax.specs.ClientGrammar.{DerivesClients, IsClientFile}
use Rattle.lang_monitor.specs.MonitorParts.{MonitorParts}
use Rattle.machine_implicit.specs.declared.script.Client.{Client}
use Rattle.lang_script.specs.Faults.{faults_of}
use Rattle.lang_script.specs.Scripts.{IsScripted}
use Rattle.expresso_answers.specs.FirstFaults.{IsFirstFault}

-- the bytes are a client file that stands for these clients of the monitor
pub record AreAccepted (bytes : List ℕ) (monitor : MonitorParts) (clients : List Client) : Type 0
  where
    pub tokens : List Token
    pub tree : ClientsTree
    pub short : length bytes ≤ FILE_BYTES
    pub spelled : Spells bytes tokens
    pub derived : DerivesClients bytes tokens tree
    pub unbroken : faults_of monitor tree ≡ []
    pub scripted : IsScripted tree monitor clients

-- the first fault of bytes that are no client file of this monitor
abbrev pub IsFirstOfClients : List ℕ → MonitorParts → SourceFault → Type 0
IsFirstOfClients bytes monitor = IsFirstFault IsClientFile (faults_of monitor) bytes
