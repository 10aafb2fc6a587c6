use Rattle.std.proofs.Common.{Some, rules, ◌∙◌, ap, sym}
use Rattle.lang_rules.specs.Rules.{field_place}
use Rattle.lang_rules.proofs.CountedDown.{none_passed, one_passed, one_found, field_here, no_field_here}
use Rattle.lang_rules.proofs.limits.field_at.Goals as goal
use Rattle.lang_rules.proofs.limits.field_at.Goals.{then-not-declares_constant+else-left-eq0, else-not-declares_constant}

pub loop-decl-preserved : goal.loop-decl-preserved
loop-decl-preserved c = elim c.if-not-declares_constant.branch [
  | then-not-declares_constant+else-left-eq0 w ↦ rw w.left-is (one_passed field_place c.args.decls.now c.loop-decl.decl-index c.decl-item.result _ c.loop-decl.left (search rules) c.decl-item.is (field_here _ (sym c.declares_constant.ensures ∙ w.if-not-declares_constant.true)) (search rules) ∙ c.loop-decl.invariant)
  | else-not-declares_constant w ↦ rw w.left-is (none_passed field_place c.args.decls.now c.loop-decl.decl-index c.decl-item.result c.loop-decl.left (search rules) c.decl-item.is (no_field_here _ (sym c.declares_constant.ensures ∙ w.if-not-declares_constant.false)) ∙ c.loop-decl.invariant)
]

pub returns-then-left-eq0 : goal.returns-then-left-eq0
returns-then-left-eq0 c =
    ap (λ at. Some at) c.place_of_name.ensures ∙ one_found field_place c.args.decls.now c.loop-decl.decl-index c.decl-item.result _ c.loop-decl.left (search rules) c.decl-item.is (field_here _ (sym c.declares_constant.ensures ∙ c.if-not-declares_constant.true)) c.if-left-eq0.true ∙ c.loop-decl.invariant
