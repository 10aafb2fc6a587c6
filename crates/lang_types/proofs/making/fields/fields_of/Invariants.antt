use Rattle.std.proofs.Common.{◌≡◌, take}
use Rattle.std.specs.List.{flat_map}
use Rattle.lang_types.specs.Typed.{field_of}
use Rattle.lang_types.proofs.making.fields.fields_of.Given as goal

abbrev pub invariant-loop-decl : goal.invariant-loop-decl
invariant-loop-decl l = l.fields.items ≡ flat_map (field_of l.decls) (take l.decl-index l.decls)
