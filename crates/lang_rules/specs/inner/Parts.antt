-- Parts of the rules, each as a function of the code answers it.
use Rattle.std.specs.Prelude.{ℕ, List, [], ◌++◌, Option, Some, None}
use Rattle.std.specs.List.{flat_map}
use Rattle.lang_tree.specs.declared.tree.Expr.{Expr}
use Rattle.lang_tree.specs.declared.tree.StmtTree.{StmtTree}
use Rattle.lang_base.specs.declared.kind.Kind.{Kind}
use Rattle.lang_base.specs.declared.source_fault.SourceFault.{SourceFault}
use Rattle.lang_forms.specs.declared.scope.Entry.{Entry}
use Rattle.lang_forms.specs.Scope.{entry_named}
use Rattle.lang_forms.specs.Sense.{Sense, entry_kind, sense, wrong_type}
use Rattle.lang_rules.specs.Rules.{expected, finding, misplaced, target_faults}

-- ---- statements

-- an expression that breaks no rule is of the wanted kind
abbrev pub unwanted : Option Kind → Sense → List SourceFault
unwanted None value = []
unwanted (Some wanted) value = wrong_type wanted value

abbrev pub set_faults : List Entry → ℕ → List ℕ → Expr → List SourceFault
set_faults scope at name value =
    target_faults at (entry_named scope name)
    ++ expected (entry_kind (entry_named scope name)) (sense scope value)

-- a `return` where none may stand
abbrev pub misplaced_in : List Entry → StmtTree → List SourceFault
misplaced_in scope statement = misplaced (finding scope statement).returns

-- the faults in statements among which no `return` may stand
abbrev pub branch_faults : List Entry → List StmtTree → List SourceFault
branch_faults scope statements =
    flat_map
    (λ statement. (finding scope statement).faults ++ misplaced_in scope statement)
    statements
