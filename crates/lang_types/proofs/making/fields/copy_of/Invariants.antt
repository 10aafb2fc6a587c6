use Rattle.lang_types.proofs.CopiedStarts.{Looked}
use Rattle.lang_types.proofs.making.fields.copy_of.Given as goal

abbrev pub invariant-loop-decl : goal.invariant-loop-decl
invariant-loop-decl l = Looked l.wanted l.known l.decl-index l.place
