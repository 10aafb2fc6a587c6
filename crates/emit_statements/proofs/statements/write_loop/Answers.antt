use Rattle.machine_events.specs.Configurations.{block_condition}
use Rattle.base_io.proofs.Writing.{wrote_both, wrote_fails, wrote_longer}
use Rattle.emit_statements.specs.Sources.{seen}
use Rattle.emit_statements.specs.Statements.{end_at, method_seen, sleep_text, test_text}
use Rattle.emit_statements.proofs.statements.write_loop.Goals as goal

pub returns-in_err-write_piece : goal.returns-in_err-write_piece
returns-in_err-write_piece g c =
    wrote_fails _ c.from_residual.ensures.0 (wrote_longer (sleep_text (seen c.args.it.now.source.now) (end_at (method_seen c.args.it.now) c.args.block) (block_condition c.args.it.now.source.now.monitor.now c.args.block)) (wrote_longer (test_text (method_seen c.args.it.now) c.args.block) c.in_err-write_piece.ensures))

pub returns-in_err-write_call_of_test : goal.returns-in_err-write_call_of_test
returns-in_err-write_call_of_test g c =
    wrote_fails _ c.from_residual-in_err-write_call_of_test.ensures.0 (wrote_longer (sleep_text (seen c.args.it.now.source.now) (end_at (method_seen c.args.it.now) c.args.block) (block_condition c.args.it.now.source.now.monitor.now c.args.block)) (wrote_both c.in_ok-write_piece.ensures c.in_err-write_call_of_test.ensures))

pub returns : goal.returns
returns g c =
    wrote_both (wrote_both c.in_ok-write_piece.ensures c.in_ok-write_call_of_test.ensures) c.write_own_sleep.ensures
