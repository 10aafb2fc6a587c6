use Rattle.std.proofs.Common.{length, arith, refl, rules, ◌∙◌, map, take}
use Rattle.std.proofs.lemmas.Option.{slice_get_read}
use Rattle.lang_rules.specs.Rules.{declared_name, method_name}
use Rattle.lang_rules.proofs.RepeatedNames.{again_both, repeated_more, repeated_all}
use Rattle.lang_rules.proofs.names.repeated_method.Goals as goal

pub loop-i-preserved : goal.loop-i-preserved
loop-i-preserved c =
    let methods = c.args.methods.now in
    let method = c.index-methods-i.result in
    let again = c.is_taken-again.result in
    let decides = c.is_taken-again.ensures method (slice_get_read methods (length methods) c.loop-i.i method refl (search rules) c.index-methods-i.is) in
    let among = again_both declared_name method_name c.args.decls.now (take c.loop-i.i methods) method.name again decides in
    c.earlier_of-fault.ensures ∙ repeated_more (map declared_name c.args.decls.now) method_name methods c.loop-i.i method again _ _ (search rules) c.index-methods-i.is c.loop-i.invariant among c.repeated_at.ensures

pub returns : goal.returns
returns c = repeated_all (map declared_name c.args.decls.now) method_name c.args.methods.now c.loop-i.i _ (omega arith) c.loop-i.invariant
