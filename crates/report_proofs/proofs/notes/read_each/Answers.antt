use Rattle.std.proofs.Common.{◌<◌, ◌^◌, ℕ, length, ap, arith}
use Rattle.report_proofs.proofs.NoteLines.{going_end, going_turn}
use Rattle.report_proofs.proofs.notes.read_each.Goals as goal

pub loop-index-preserved : goal.loop-index-preserved
loop-index-preserved c =
    let rule = c.conditions.ensures.rule in
    let few : length c.args.monitor.now.conditions < 2 ^ 32 = omega (arith, rule.few_conditions) in
    let low : c.loop-index.index < length c.args.monitor.now.conditions = omega (arith, ap {B = ℕ} length c.conditions.ensures.conditions, rule.few_conditions, c.loop-index-test.true) in
    going_turn c.args.monitor.now c.args.bytes.now c.loop-index.index c.loop-index.notes.items c.take_note.new.notes.items c.loop-index.rest.now c.in_ok-rest.rest.now few low c.in_ok-rest.ensures
    c.loop-index.invariant

pub returns : goal.returns
returns c =
    let rule = c.conditions.ensures.rule in
    going_end c.args.monitor.now c.args.bytes.now c.loop-index.index c.loop-index.notes.items c.loop-index.rest.now
    (omega (arith, ap {B = ℕ} length c.conditions.ensures.conditions, rule.few_conditions, c.loop-index-test.false)) c.loop-index.invariant
