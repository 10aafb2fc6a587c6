use Rattle.std.proofs.Common.{◌≡◌, rules, tests}
use Rattle.std.specs.List.{flat_map}
use Rattle.std.proofs.lemmas.Iterator.{YieldsList-from_slice}
use Rattle.std.proofs.lemmas.Iterator.Consumers.{fold_from_yields_List}
use Rattle.lang_tree.specs.declared.tree.Factor.{Factor}
use Rattle.lang_base.specs.declared.kind.Kind.TheVariants as kinds
use Rattle.lang_base.specs.SourceFaults.{earlier_of, least}
use Rattle.lang_forms.specs.Sense.{sense, wrong_type}
use Rattle.lang_forms.proofs.WholeFaults.{int_limited, ints_of, least_Product, of_product, product_same, whole_none, whole_some, wrong_first}
use Rattle.lang_forms.proofs.whole_fault.fault_of_product.Goals.{After-or}
use Rattle.lang_forms.proofs.whole_fault.fault_of_product.Goals as goal

-- the wrong types of the parts
wrong : (c : After-or) → c.fold-wrong.result ≡ earlier_of (least (wrong_type kinds.Int (sense c.args.scope.now c.args.first.now))) (least (flat_map (λ factor. wrong_type kinds.Int (sense c.args.scope.now factor.of)) c.args.rest.now))
wrong c =
    wrong_first (λ (factor : Factor). wrong_type kinds.Int (sense c.args.scope.now factor.of)) (wrong_type kinds.Int (sense c.args.scope.now c.args.first.now)) c.args.rest.now c.wrong_type.result c.fold-wrong.result c.wrong_type.ensures
    (fold_from_yields_List _ (λ found factor. earlier_of found (least (wrong_type kinds.Int (sense c.args.scope.now factor.of)))) c.wrong_type.result c.fold-wrong.result c.fold-wrong.ensures.ran (YieldsList-from_slice c.args.rest.now c.iter.ensures.rest) (λ found factor next f k. search (rules, tests)))

pub returns-in-Some : goal.returns-in-Some
returns-in-Some c = whole_some c.args.part c.fold-wrong.result c.in-Some.fault _ (of_product c.args.scope.now c.args.first.now c.args.rest.now) c.in-Some.ensures (least_Product c.args.scope.now c.args.first.now c.args.rest.now c.args.part c.fold-wrong.result c.requires.part (wrong (goal.at.returns-in-Some c).After-or))

pub flat_of-requires-clause-fine : goal.flat_of-requires-clause-fine
flat_of-requires-clause-fine c = (ints_of c.args.scope.now (λ (factor : Factor). factor.of) c.args.first.now c.args.rest.now c.args.part c.fold-wrong.result c.requires.part (wrong (goal.at.flat_of-requires-clause-fine c).After-or) c.in_default.ensures).first_int.fine

pub flat_of-requires-clause-int : goal.flat_of-requires-clause-int
flat_of-requires-clause-int c = (ints_of c.args.scope.now (λ (factor : Factor). factor.of) c.args.first.now c.args.rest.now c.args.part c.fold-wrong.result c.requires.part (wrong (goal.at.flat_of-requires-clause-int c).After-or) c.in_default.ensures).first_int.int

pub fault_of_factors-requires-clause-limited : goal.fault_of_factors-requires-clause-limited
fault_of_factors-requires-clause-limited c = int_limited c.args.scope.now c.args.first.now c.in_ok-start.start c.requires.numbers (ints_of c.args.scope.now (λ (factor : Factor). factor.of) c.args.first.now c.args.rest.now c.args.part c.fold-wrong.result c.requires.part (wrong (goal.at.fault_of_factors-requires-clause-limited c).After-or) c.in_default.ensures).first_int c.in_ok-start.ensures

pub fault_of_factors-requires-clause-rest : goal.fault_of_factors-requires-clause-rest
fault_of_factors-requires-clause-rest c = (ints_of c.args.scope.now (λ (factor : Factor). factor.of) c.args.first.now c.args.rest.now c.args.part c.fold-wrong.result c.requires.part (wrong (goal.at.fault_of_factors-requires-clause-rest c).After-or) c.in_default.ensures).rest_int

pub returns : goal.returns
returns c =
    whole_none c.args.part c.fold-wrong.result _ (of_product c.args.scope.now c.args.first.now c.args.rest.now) c.fault_of_factors.result c.in_default.ensures
    (least_Product c.args.scope.now c.args.first.now c.args.rest.now c.args.part c.fold-wrong.result c.requires.part (wrong (goal.at.returns c).After-or))
    (product_same c.first_place.result _ c.in_ok-start.start _ _ c.fault_of_factors.result (c.first_place.ensures c.args.scope.now) c.in_ok-start.ensures c.fault_of_factors.ensures)
