use Rattle.std.proofs.Common.{◌≡◌, ◌<◌, length, get_or, rules, arith}
use Rattle.report_proofs.proofs.KeptLines.{going_end, going_turn}
use Rattle.report_proofs.proofs.kept.read_kept.Goals as goal

pub loop-index-preserved : goal.loop-index-preserved
loop-index-preserved c =
    let low : c.loop-index.index < length c.in_ok-all.all.items = omega (arith, c.loop-index-test.true) in
    let at : c.index.result.now ≡ get_or c.in_ok-all.all.items c.loop-index.index c.index.result.now = search rules in
    going_turn c.args.monitor.now c.in_ok-all.all.items c.args.bytes.now c.loop-index.index c.loop-index.kept.items c.take_kept.new.kept.items c.index.result.now c.index.result.now c.loop-index.rest.now
    c.in_ok-rest.rest.now c.blocks-blocks.ensures.rule c.in_ok-all.ensures low at c.in_ok-rest.ensures c.loop-index.invariant

pub returns : goal.returns
returns c =
    going_end c.args.monitor.now c.in_ok-all.all.items c.args.bytes.now c.loop-index.index c.loop-index.kept.items c.loop-index.rest.now (omega (arith, c.loop-index-test.false)) c.in_ok-all.ensures
    c.loop-index.invariant
