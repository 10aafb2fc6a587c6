use Rattle.std.proofs.Common.{◌∙◌, ap}
use Rattle.std.specs.List.{flat_map}
use Rattle.lang_base.specs.SourceFaults.{least, order}
use Rattle.lang_script.specs.Faults.{method_faults, number_faults}
use Rattle.lang_script.specs.Scripts.{method_named}
use Rattle.lang_base.proofs.Least.{least_both}
use Rattle.lang_script.proofs.calls.fault_in_call.Goals as goal

pub returns : goal.returns
returns c =
    let monitor = c.args.monitor.now in
    let given = c.args.arguments.now in
    let method = c.method_fault.ensures ∙ ap (λ named. least (method_faults monitor c.args.name_at given named)) c.method_named-method.ensures.number in
    c.earlier_of.ensures ∙ least_both order _ _ (method_faults monitor c.args.name_at given (method_named monitor c.args.name.now)) (flat_map number_faults given) method c.large_number.ensures
