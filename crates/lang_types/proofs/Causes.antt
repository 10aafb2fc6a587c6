-- What the first fault that was found says.
use Rattle.std.proofs.Common.{◌≡◌, [], Option, Some, None, sym, ◌∙◌}
use Rattle.lang_tree.specs.declared.tree.MonitorTree.{MonitorTree}
use Rattle.lang_base.specs.declared.source_fault.SourceFault.{SourceFault}
use Rattle.lang_base.specs.SourceFaults.{IsLeast, least}
use Rattle.lang_forms.proofs.LeastLaws.{none_is_least, some_is_least}
use Rattle.lang_rules.specs.Rules.{faults_of}

pub found_is_least : (tree : MonitorTree) (found : Option SourceFault) (fault : SourceFault) → found ≡ least (faults_of tree) → found ≡ Some fault → IsLeast (faults_of tree) fault
found_is_least tree found fault is some = some_is_least (faults_of tree) fault (sym is ∙ some)

pub none_is_unbroken : (tree : MonitorTree) (found : Option SourceFault) → found ≡ least (faults_of tree) → found ≡ None → faults_of tree ≡ []
none_is_unbroken tree found is none = none_is_least (faults_of tree) (sym is ∙ none)
