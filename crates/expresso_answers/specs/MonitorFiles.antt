-- Monitor files: which are accepted, and what the first fault of the others is.
use Rattle.std.specs.Prelude.{◌≡◌, ◌≤◌, ℕ, List, [], length}
use Rattle.lang_base.specs.Limits.{FILE_BYTES}
use Rattle.lang_base.specs.declared.source_fault.SourceFault.{SourceFault}
use Rattle.lang_tokens.specs.declared.token.Token.{Token}
use Rattle.lang_tree.specs.declared.tree.MonitorTree.{MonitorTree}
use Rattle.lang_tokens.specs.Spelling.{Spells}
use Rattle.lang_syntax.specs.Grammar.{Derives, IsMonitorFile}
use Rattle.lang_rules.specs.Rules.{faults_of}
use Rattle.lang_monitor.specs.MonitorParts.{MonitorParts}
use Rattle.lang_types.specs.Typed.{IsTyped}
use Rattle.expresso_answers.specs.FirstFaults.{IsFirstFault}

-- the bytes are a monitor file with this tree, which stands for this monitor
pub record IsAccepted (bytes : List ℕ) (tree : MonitorTree) (monitor : MonitorParts) : Type 0 where
  pub tokens : List Token
  pub short : length bytes ≤ FILE_BYTES
  pub spelled : Spells bytes tokens
  pub derived : Derives bytes tokens tree
  pub unbroken : faults_of tree ≡ []
  pub typed : IsTyped tree monitor

-- the first fault of bytes that are no monitor file
abbrev pub IsFirstOfMonitor : List ℕ → SourceFault → Type 0
IsFirstOfMonitor = IsFirstFault IsMonitorFile faults_of
