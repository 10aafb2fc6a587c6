-- What a name stands for, by what stands for the parts of its scope.
use Rattle.std.proofs.Common.{◌≡◌, ℕ, Bool, List, ◌∙◌, ap}
use Rattle.std.specs.List.{list_any}
use Rattle.lang_tree.specs.declared.tree.Decl.{Decl}
use Rattle.lang_tree.specs.declared.tree.MethodTree.{MethodTree}
use Rattle.lang_tree.specs.declared.tree.MonitorTree.{MonitorTree}
use Rattle.emit_expressions.specs.declared.scope.Meaning.{Meaning}
use Rattle.emit_expressions.specs.Scopes.{declares, is_constant, meaning_by, meaning_of}

pub meaning_says : (tree : MonitorTree) (method : MethodTree) (once again locals : List Decl) (name bytes : List ℕ) (given : Meaning) (constant declared local : Bool)
    → once ≡ tree.decls → again ≡ tree.decls → locals ≡ method.locals → bytes ≡ name
    → given ≡ meaning_by constant declared local → constant ≡ list_any (is_constant bytes) once → declared ≡ list_any (declares bytes) again → local ≡ list_any (declares bytes) locals
    → given ≡ meaning_of tree method name
meaning_says tree method once again locals name bytes given constant declared local a b l n is first second third =
    is
    ∙ ap (λ t. meaning_by t declared local) (first ∙ ap (list_any (is_constant bytes)) a)
    ∙ ap (λ t. meaning_by (list_any (is_constant bytes) tree.decls) t local) (second ∙ ap (list_any (declares bytes)) b)
    ∙ ap (meaning_by (list_any (is_constant bytes) tree.decls) (list_any (declares bytes) tree.decls)) (third ∙ ap (list_any (declares bytes)) l)
    ∙ ap (meaning_of tree method) n
