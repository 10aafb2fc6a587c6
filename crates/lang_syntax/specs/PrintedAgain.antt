-- What is printed of a tree, and read again.
use Rattle.std.specs.Prelude.{◌≡◌, List}
use Rattle.lang_tokens.specs.declared.token.Token.{Token}
use Rattle.lang_tree.specs.declared.tree.MonitorTree.{MonitorTree}
use Rattle.lang_tree.specs.declared.tree.ClientsTree.{ClientsTree}
use Rattle.lang_tree.specs.Offsets.{unplaced, unplaced_clients}
use Rattle.lang_tokens.specs.Spelling.{Spells}
use Rattle.lang_printer.specs.Canonical.{tree_text}
use Rattle.lang_printer.specs.CanonicalClients.{clients_text}
use Rattle.lang_syntax.specs.Grammar.{Derives}
use Rattle.lang_syntax.specs.ClientGrammar.{DerivesClients}

-- what is printed of the tree spells tokens that derive the same tree, but for offsets
pub record IsPrintedAgain (tree : MonitorTree) : Type 0 where
  pub printed : List Token
  pub again : MonitorTree
  pub spelled : Spells (tree_text tree) printed
  pub derived : Derives (tree_text tree) printed again
  pub same : unplaced again ≡ unplaced tree

-- the same of a client file's tree
pub record ArePrintedAgain (tree : ClientsTree) : Type 0 where
  pub printed : List Token
  pub again : ClientsTree
  pub spelled : Spells (clients_text tree) printed
  pub derived : DerivesClients (clients_text tree) printed again
  pub same : unplaced_clients again ≡ unplaced_clients tree
