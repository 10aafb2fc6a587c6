use Rattle.lang_forms.proofs.ScopeMade.{Declared}
use Rattle.lang_forms.proofs.scope.push_declared.Given as goal

abbrev pub invariant-loop-decl : goal.invariant-loop-decl
invariant-loop-decl l = Declared l.initial.scope.items l.first l.decls l.decl-index l.scope.items l.place
