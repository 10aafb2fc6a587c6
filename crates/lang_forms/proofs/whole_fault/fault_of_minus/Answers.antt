use Rattle.std.proofs.Common.{◌≡◌, rules}
use Rattle.lang_base.specs.SourceFaults.{least}
use Rattle.lang_forms.proofs.WholeFaults.{int_alone, int_limited, least_Minus, of_opposite, whole_last, whole_some}
use Rattle.lang_forms.proofs.whole_fault.fault_of_minus.Goals as goal

pub returns-in-Some : goal.returns-in-Some
returns-in-Some c = whole_some c.args.part c.wrong_type.result c.in-Some.fault _ (of_opposite c.args.scope.now c.args.at c.args.of.now) c.in-Some.ensures (least_Minus c.args.scope.now c.args.at c.args.of.now c.args.part c.wrong_type.result c.requires.part c.wrong_type.ensures)

pub flat_of-requires-clause-fine : goal.flat_of-requires-clause-fine
flat_of-requires-clause-fine c = (int_alone c.args.scope.now c.args.of.now c.args.part c.wrong_type.result c.requires.part c.wrong_type.ensures c.in_default.ensures).fine

pub scale-requires-clause-limited : goal.scale-requires-clause-limited
scale-requires-clause-limited c = int_limited c.args.scope.now c.args.of.now c.in_ok-opposite.opposite c.requires.numbers (int_alone c.args.scope.now c.args.of.now c.args.part c.wrong_type.result c.requires.part c.wrong_type.ensures c.in_default.ensures) c.in_ok-opposite.ensures

pub returns : goal.returns
returns c =
    let large : c.large_form.result ≡ least (of_opposite c.args.scope.now c.args.at c.args.of.now) = search rules in
    whole_last c.args.part c.wrong_type.result _ c.large_form.result (of_opposite c.args.scope.now c.args.at c.args.of.now) c.in_default.ensures (least_Minus c.args.scope.now c.args.at c.args.of.now c.args.part c.wrong_type.result c.requires.part c.wrong_type.ensures) large
