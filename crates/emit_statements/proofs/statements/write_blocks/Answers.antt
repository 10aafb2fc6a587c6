use Rattle.std.proofs.Common.{ap, arith, ◌≡◌}
use Rattle.base_io.proofs.Writing.{wrote_both, wrote_same, wrote_until}
use Rattle.emit_statements.proofs.Blocks.{blocks_cut, blocks_more}
use Rattle.emit_statements.specs.Statements.{blocks_ops, method_seen}
use Rattle.emit_statements.proofs.statements.write_blocks.Goals as goal

pub loop-index-preserved : goal.loop-index-preserved
loop-index-preserved g c =
    let less = c.loop-index-test.true in
    (omega (arith, less), wrote_same _ (blocks_more (method_seen c.args.it.now) c.loop-index.index) (wrote_both c.loop-index.invariant.1 c.in_ok-write_block.ensures))

pub returns-in_err-write_block : goal.returns-in_err-write_block
returns-in_err-write_block g c =
    let cut = blocks_cut (method_seen c.args.it.now) c.loop-index.index c.args.count c.loop-index-test.true in
    wrote_until cut.0 _ _ cut.1 c.from_residual.ensures.0 c.loop-index.invariant.1 c.in_err-write_block.ensures

pub returns : goal.returns
returns g c =
    let most = c.loop-index.invariant.0 in
    let least = c.loop-index-test.false in
    let all : c.loop-index.index ≡ c.args.count = omega (arith, most, least) in
    wrote_same _ (ap (blocks_ops (method_seen c.args.it.now)) all) c.loop-index.invariant.1
