use Rattle.std.proofs.Common.{Some, rules, ◌∙◌, ap, sym}
use Rattle.lang_rules.specs.Rules.{constant_place}
use Rattle.lang_rules.proofs.CountedDown.{none_passed, one_passed, one_found, constant_here, no_constant_here}
use Rattle.lang_rules.proofs.limits.constant_at.Goals as goal
use Rattle.lang_rules.proofs.limits.constant_at.Goals.{then-declares_constant+else-left-eq0, else-declares_constant}

pub loop-decl-preserved : goal.loop-decl-preserved
loop-decl-preserved c = elim c.if-declares_constant.branch [
  | then-declares_constant+else-left-eq0 w ↦ rw w.left-is (one_passed constant_place c.args.decls.now c.loop-decl.decl-index c.decl-item.result _ c.loop-decl.left (search rules) c.decl-item.is (constant_here _ (sym c.declares_constant.ensures ∙ w.if-declares_constant.true)) (search rules) ∙ c.loop-decl.invariant)
  | else-declares_constant w ↦ rw w.left-is (none_passed constant_place c.args.decls.now c.loop-decl.decl-index c.decl-item.result c.loop-decl.left (search rules) c.decl-item.is (no_constant_here _ (sym c.declares_constant.ensures ∙ w.if-declares_constant.false)) ∙ c.loop-decl.invariant)
]

pub returns-then-left-eq0 : goal.returns-then-left-eq0
returns-then-left-eq0 c =
    ap (λ at. Some at) c.place_of_name.ensures ∙ one_found constant_place c.args.decls.now c.loop-decl.decl-index c.decl-item.result _ c.loop-decl.left (search rules) c.decl-item.is (constant_here _ (sym c.declares_constant.ensures ∙ c.if-declares_constant.true)) c.if-left-eq0.true ∙ c.loop-decl.invariant
