use Rattle.std.proofs.Common.{◌≡◌}
use Rattle.lang_base.specs.declared.kind.Kind.TheVariants as kinds
use Rattle.lang_base.specs.SourceFaults.{earlier_of, least}
use Rattle.lang_forms.specs.Sense.{sense, wrong_type}
use Rattle.lang_forms.proofs.WholeFaults.{both_int, earlier_same, large_same, least_Compare, of_difference, whole_last, whole_some}
use Rattle.lang_forms.proofs.whole_fault.fault_of_comparison.Goals.{After-or}
use Rattle.lang_forms.proofs.whole_fault.fault_of_comparison.Goals as goal

-- the wrong types of both sides
wrong : (c : After-or) → c.earlier_of-wrong.result ≡ earlier_of (least (wrong_type kinds.Int (sense c.args.scope.now c.args.left.now))) (least (wrong_type kinds.Int (sense c.args.scope.now c.args.right.now)))
wrong c = earlier_same c.wrong_type.result c.wrong_type-2.result _ _ c.earlier_of-wrong.result c.earlier_of-wrong.ensures c.wrong_type.ensures c.wrong_type-2.ensures

pub returns-in-Some : goal.returns-in-Some
returns-in-Some c = λ op. whole_some c.args.part c.earlier_of-wrong.result c.in-Some.fault _ (of_difference c.args.scope.now c.args.left.now c.args.right.now) c.in-Some.ensures (least_Compare c.args.scope.now op c.args.left.now c.args.right.now c.args.part c.earlier_of-wrong.result c.requires.part (wrong (goal.at.returns-in-Some c).After-or))

pub difference-requires-clause-left : goal.difference-requires-clause-left
difference-requires-clause-left c = (both_int c.args.scope.now c.args.left.now c.args.right.now c.args.part c.earlier_of-wrong.result c.requires.part (wrong (goal.at.difference-requires-clause-left c).After-or) c.in_default.ensures).left_int

pub difference-requires-clause-right : goal.difference-requires-clause-right
difference-requires-clause-right c = (both_int c.args.scope.now c.args.left.now c.args.right.now c.args.part c.earlier_of-wrong.result c.requires.part (wrong (goal.at.difference-requires-clause-right c).After-or) c.in_default.ensures).right_int

pub returns : goal.returns
returns c = λ op.
    whole_last c.args.part c.earlier_of-wrong.result _ c.large_form.result (of_difference c.args.scope.now c.args.left.now c.args.right.now) c.in_default.ensures
    (least_Compare c.args.scope.now op c.args.left.now c.args.right.now c.args.part c.earlier_of-wrong.result c.requires.part (wrong (goal.at.returns c).After-or))
    (large_same c.first_place.result _ c.in_ok-difference.difference _ c.large_form.result c.large_form.ensures (c.first_place.ensures c.args.scope.now) c.in_ok-difference.ensures)
