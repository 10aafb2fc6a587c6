use Rattle.std.proofs.Common.{sym, ◌∙◌}
use Rattle.lang_forms.proofs.WholeFaults.{least_Not}
use Rattle.lang_forms.proofs.whole_fault.fault_of_not.Goals as goal

pub returns : goal.returns
returns c = λ at. c.or.ensures ∙ sym (least_Not c.args.scope.now at c.args.of.now c.args.part c.wrong_type.result c.requires c.wrong_type.ensures)
