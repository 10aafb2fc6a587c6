use Rattle.std.proofs.Common.{◌∙◌}
use Rattle.emit_comments.proofs.Numbered.{tested_all, tested_more}
use Rattle.emit_statements.specs.Sources.{seen}
use Rattle.emit_method.specs.Methods.{has_times}
use Rattle.emit_module.proofs.module.any_times.Goals as goal

pub loop-number-preserved : goal.loop-number-preserved
loop-number-preserved c =
    c.either-found.ensures ∙ tested_more (has_times (seen c.args.source.now)) c.args.methods.now c.loop-number.number c.index-methods-number.result _ _ c.loop-number-test.true c.index-methods-number.is c.has_times-here.ensures c.loop-number.invariant

pub returns : goal.returns
returns c =
    c.loop-number.invariant ∙ tested_all (has_times (seen c.args.source.now)) c.args.methods.now c.loop-number.number c.loop-number-test.false
