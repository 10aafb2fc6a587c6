use Rattle.std.proofs.Common.{[], Some, None, arith, rules, ◌∙◌, ap, take, if◌then◌else◌}
use Rattle.lang_tree.specs.Names.{declared_name as bare_name}
use Rattle.lang_base.proofs.Names.{again_at}
use Rattle.lang_base.specs.SourceFaults.{fault_at}
use Rattle.lang_base.specs.declared.source_fault.Refusal.TheVariants.{Duplicate}
use Rattle.lang_rules.specs.Rules.{declared_name}
use Rattle.lang_rules.proofs.RepeatedNames.{again_among, repeated_more, repeated_all}
use Rattle.lang_rules.proofs.names.repeated_declaration.Goals as goal

pub loop-i-preserved : goal.loop-i-preserved
loop-i-preserved c =
    let decls = c.args.decls.now in
    let decl = c.index-decls-i.result in
    let again = c.is_repeated-again.result in
    let decides = again_at bare_name decls c.loop-i.i decl again (search rules) c.index-decls-i.is c.is_repeated-again.ensures in
    let among = again_among declared_name (take c.loop-i.i decls) (bare_name decl) again decides in
    let here = c.repeated_at.ensures ∙ ap (λ at. if again then Some (fault_at Duplicate at) else None) c.place_of_name.ensures in
    c.earlier_of-fault.ensures ∙ repeated_more [] declared_name decls c.loop-i.i decl again _ _ (search rules) c.index-decls-i.is c.loop-i.invariant among here

pub returns : goal.returns
returns c = repeated_all [] declared_name c.args.decls.now c.loop-i.i _ (omega arith) c.loop-i.invariant
