use Rattle.std.proofs.Common.{ap}
use Rattle.std.specs.List.{flat_map, enumerate_from}
use Rattle.machine_events.specs.PlanText.{block_text}
use Rattle.base_io.proofs.Rows.{row_went, row_stopped}
use Rattle.base_io.proofs.Writing.{wrote_same}
use Rattle.report_text.proofs.PlanRows.{both}
use Rattle.report_text.proofs.LogRows.{within_enumerated, enumerated_at, enumerated_end}
use Rattle.report_text.proofs.plan.write_blocks.Goals as goal

pub loop-block-preserved : goal.loop-block-preserved
loop-block-preserved g c =
    row_went (λ one. block_text c.args.monitor.now one.0 one.1) (enumerate_from 0 c.args.lists.now) c.loop-block.block (both c.loop-block.block c.index-lists-block.result) _
    (within_enumerated c.args.lists.now c.loop-block.block c.loop-block-test.true) (enumerated_at c.args.lists.now c.loop-block.block c.index-lists-block.result c.loop-block-test.true c.index-lists-block.is)
    (ap (block_text c.args.monitor.now c.loop-block.block) c.notes.ensures.notes) c.loop-block.invariant c.in_ok-write_block.ensures

pub returns-in_err-write_block : goal.returns-in_err-write_block
returns-in_err-write_block g c =
    row_stopped (λ one. block_text c.args.monitor.now one.0 one.1) (enumerate_from 0 c.args.lists.now) c.loop-block.block (both c.loop-block.block c.index-lists-block.result) _ _
    (within_enumerated c.args.lists.now c.loop-block.block c.loop-block-test.true) (enumerated_at c.args.lists.now c.loop-block.block c.index-lists-block.result c.loop-block-test.true c.index-lists-block.is)
    (ap (block_text c.args.monitor.now c.loop-block.block) c.notes.ensures.notes) c.from_residual.ensures.0 c.loop-block.invariant c.in_err-write_block.ensures

pub returns : goal.returns
returns g c = wrote_same _ (ap (flat_map (λ one. block_text c.args.monitor.now one.0 one.1)) (enumerated_end c.args.lists.now c.loop-block.block c.loop-block-test.false)) c.loop-block.invariant
