use Rattle.std.proofs.Common.{◌++◌, Some, None, length, arith, refl, rules, ◌∙◌, ap, map, take, if◌then◌else◌}
use Rattle.std.proofs.lemmas.Option.{slice_get_read}
use Rattle.lang_tree.specs.Names.{declared_name as bare_name}
use Rattle.lang_base.specs.SourceFaults.{fault_at}
use Rattle.lang_base.specs.declared.source_fault.Refusal.TheVariants.{Duplicate}
use Rattle.lang_rules.specs.Rules.{declared_name, input_name}
use Rattle.lang_rules.proofs.RepeatedNames.{again_three, repeated_more, repeated_all}
use Rattle.lang_rules.proofs.names.repeated_local.Goals as goal

pub loop-i-preserved : goal.loop-i-preserved
loop-i-preserved c =
    let decls = c.args.decls.now in
    let inputs = c.args.inputs.now in
    let locals = c.args.locals.now in
    let local = c.index-locals-i.result in
    let again = c.is_local_taken-again.result in
    let decides = c.is_local_taken-again.ensures local (slice_get_read locals (length locals) c.loop-i.i local refl (search rules) c.index-locals-i.is) in
    let among = again_three declared_name input_name declared_name decls inputs (take c.loop-i.i locals) (bare_name local) again decides in
    let here = c.repeated_at.ensures ∙ ap (λ at. if again then Some (fault_at Duplicate at) else None) c.place_of_name.ensures in
    c.earlier_of-fault.ensures ∙ repeated_more (map declared_name decls ++ map input_name inputs) declared_name locals c.loop-i.i local again _ _ (search rules) c.index-locals-i.is c.loop-i.invariant among here

pub returns : goal.returns
returns c = repeated_all (map declared_name c.args.decls.now ++ map input_name c.args.inputs.now) declared_name c.args.locals.now c.loop-i.i _ (omega arith) c.loop-i.invariant
