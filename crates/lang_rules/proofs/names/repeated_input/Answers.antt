use Rattle.std.proofs.Common.{length, arith, refl, rules, ◌∙◌, map, take}
use Rattle.std.proofs.lemmas.Option.{slice_get_read}
use Rattle.lang_rules.specs.Rules.{declared_name, input_name}
use Rattle.lang_rules.proofs.RepeatedNames.{again_both, repeated_more, repeated_all}
use Rattle.lang_rules.proofs.names.repeated_input.Goals as goal

pub loop-i-preserved : goal.loop-i-preserved
loop-i-preserved c =
    let inputs = c.args.inputs.now in
    let input = c.index-inputs-i.result in
    let again = c.is_taken-again.result in
    let decides = c.is_taken-again.ensures input (slice_get_read inputs (length inputs) c.loop-i.i input refl (search rules) c.index-inputs-i.is) in
    let among = again_both declared_name input_name c.args.decls.now (take c.loop-i.i inputs) input.name again decides in
    c.earlier_of-fault.ensures ∙ repeated_more (map declared_name c.args.decls.now) input_name inputs c.loop-i.i input again _ _ (search rules) c.index-inputs-i.is c.loop-i.invariant among c.repeated_at.ensures

pub returns : goal.returns
returns c = repeated_all (map declared_name c.args.decls.now) input_name c.args.inputs.now c.loop-i.i _ (omega arith) c.loop-i.invariant
