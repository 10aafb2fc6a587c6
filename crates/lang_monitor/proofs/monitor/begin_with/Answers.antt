use Rattle.std.proofs.Common.{◌∙◌, sym}
use Rattle.lang_monitor.proofs.Openings.{one_more_begun, started_none}
use Rattle.lang_monitor.proofs.monitor.begin_with.Goals as goal

pub loop-i-init : goal.loop-i-init
loop-i-init c = sym (started_none c.args.fields.now)

pub loop-i-preserved : goal.loop-i-preserved
loop-i-preserved c =
    one_more_begun c.args.fields.now c.loop-i.fields c.args.start.now c.loop-i.i _ c.index-fields-i.result c.loop-i.invariant c.loop-i-test.true c.requires
