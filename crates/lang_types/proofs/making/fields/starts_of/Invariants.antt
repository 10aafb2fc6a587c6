use Rattle.std.proofs.Common.{◌≡◌, take}
use Rattle.lang_types.specs.Typed.{starts_of}
use Rattle.lang_types.proofs.making.fields.starts_of.Given as goal

abbrev pub invariant-loop-decl : goal.invariant-loop-decl
invariant-loop-decl l = l.starts.items ≡ starts_of (take l.decl-index l.decls)
