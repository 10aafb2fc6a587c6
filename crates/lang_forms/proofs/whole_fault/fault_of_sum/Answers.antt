use Rattle.std.proofs.Common.{◌≡◌, rules, tests, map, ap, ◌∙◌}
use Rattle.std.specs.List.{flat_map}
use Rattle.std.proofs.lemmas.Iterator.{YieldsList-from_slice}
use Rattle.std.proofs.lemmas.Iterator.Consumers.{fold_from_yields_List}
use Rattle.lang_tree.specs.declared.tree.Addend.{Addend}
use Rattle.lang_base.specs.declared.kind.Kind.TheVariants as kinds
use Rattle.lang_base.specs.SourceFaults.{earlier_of, least}
use Rattle.lang_forms.specs.Sense.{sense, wrong_type, sum_form}
use Rattle.lang_forms.specs.Forms.{Form}
use Rattle.lang_forms.specs.inner.Parts.{addend_sense}
use Rattle.lang_forms.proofs.WholeFaults.{int_limited, ints_of, large_same, least_Sum, of_sum, part_of_scope, whole_last, whole_some, wrong_first}
use Rattle.lang_forms.proofs.whole_fault.fault_of_sum.Goals.{After-or}
use Rattle.lang_forms.proofs.whole_fault.fault_of_sum.Goals as goal

-- the wrong types of the parts
wrong : (c : After-or) → c.fold-wrong.result ≡ earlier_of (least (wrong_type kinds.Int (sense c.args.scope.now c.args.first.now))) (least (flat_map (λ addend. wrong_type kinds.Int (sense c.args.scope.now addend.of)) c.args.rest.now))
wrong c =
    wrong_first (λ (addend : Addend). wrong_type kinds.Int (sense c.args.scope.now addend.of)) (wrong_type kinds.Int (sense c.args.scope.now c.args.first.now)) c.args.rest.now c.wrong_type.result c.fold-wrong.result c.wrong_type.ensures
    (fold_from_yields_List _ (λ found addend. earlier_of found (least (wrong_type kinds.Int (sense c.args.scope.now addend.of)))) c.wrong_type.result c.fold-wrong.result c.fold-wrong.ensures.ran (YieldsList-from_slice c.args.rest.now c.iter.ensures.rest) (λ found addend next f k. search (rules, tests)))

pub returns-in-Some : goal.returns-in-Some
returns-in-Some c = whole_some c.args.part c.fold-wrong.result c.in-Some.fault _ (of_sum c.args.scope.now c.args.first.now c.args.rest.now) c.in-Some.ensures (least_Sum c.args.scope.now c.args.first.now c.args.rest.now c.args.part c.fold-wrong.result c.requires.part (wrong (goal.at.returns-in-Some c).After-or))

pub flat_of-requires-clause-fine : goal.flat_of-requires-clause-fine
flat_of-requires-clause-fine c = (ints_of c.args.scope.now (λ (addend : Addend). addend.of) c.args.first.now c.args.rest.now c.args.part c.fold-wrong.result c.requires.part (wrong (goal.at.flat_of-requires-clause-fine c).After-or) c.in_default.ensures).first_int.fine

pub flat_of-requires-clause-int : goal.flat_of-requires-clause-int
flat_of-requires-clause-int c = (ints_of c.args.scope.now (λ (addend : Addend). addend.of) c.args.first.now c.args.rest.now c.args.part c.fold-wrong.result c.requires.part (wrong (goal.at.flat_of-requires-clause-int c).After-or) c.in_default.ensures).first_int.int

pub add_all-requires-clause-of_scope : goal.add_all-requires-clause-of_scope
add_all-requires-clause-of_scope c = part_of_scope c.args.scope.now c.args.first.now c.in_ok-start.start c.requires.numbers c.in_ok-start.ensures

pub add_all-requires-clause-limited : goal.add_all-requires-clause-limited
add_all-requires-clause-limited c = int_limited c.args.scope.now c.args.first.now c.in_ok-start.start c.requires.numbers (ints_of c.args.scope.now (λ (addend : Addend). addend.of) c.args.first.now c.args.rest.now c.args.part c.fold-wrong.result c.requires.part (wrong (goal.at.add_all-requires-clause-limited c).After-or) c.in_default.ensures).first_int c.in_ok-start.ensures

pub add_all-requires-clause-parts : goal.add_all-requires-clause-parts
add_all-requires-clause-parts c = (ints_of c.args.scope.now (λ (addend : Addend). addend.of) c.args.first.now c.args.rest.now c.args.part c.fold-wrong.result c.requires.part (wrong (goal.at.add_all-requires-clause-parts c).After-or) c.in_default.ensures).rest_int

pub returns : goal.returns
returns c =
    whole_last c.args.part c.fold-wrong.result _ c.large_form.result (of_sum c.args.scope.now c.args.first.now c.args.rest.now) c.in_default.ensures
    (least_Sum c.args.scope.now c.args.first.now c.args.rest.now c.args.part c.fold-wrong.result c.requires.part (wrong (goal.at.returns c).After-or))
    (large_same c.first_place.result _ c.in_ok-sum.sum _ c.large_form.result c.large_form.ensures (c.first_place.ensures c.args.scope.now) (c.in_ok-sum.ensures ∙ ap (λ (form : Form). sum_form form (map (addend_sense c.args.scope.now) c.args.rest.now)) c.in_ok-start.ensures))
