use Rattle.std.proofs.Common.{◌≡◌, drop}
use Rattle.std.specs.List.{flat_map, slice_get}
use Rattle.lang_rules.specs.Rules.{constant_place}
use Rattle.lang_rules.proofs.limits.constant_at.Given as goal

abbrev pub invariant-loop-decl : goal.invariant-loop-decl
invariant-loop-decl l = slice_get (flat_map constant_place (drop l.decl-index l.decls)) l.left ≡ slice_get (flat_map constant_place l.decls) l.number
