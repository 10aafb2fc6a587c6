use Rattle.std.proofs.Common.{rules, arith, ◌∙◌}
use Rattle.lang_rules.proofs.StartRules.{sources_all, sources_more}
use Rattle.lang_rules.proofs.starts.unknown_source.Goals as goal

pub loop-i-preserved : goal.loop-i-preserved
loop-i-preserved c =
    c.earlier_of-fault.ensures ∙ sources_more c.args.decls.now c.loop-i.i c.index-decls-i.result _ _ (search rules) c.index-decls-i.is c.loop-i.invariant c.source_fault.ensures

pub returns : goal.returns
returns c = sources_all c.args.decls.now c.loop-i.i _ (omega arith) c.loop-i.invariant
