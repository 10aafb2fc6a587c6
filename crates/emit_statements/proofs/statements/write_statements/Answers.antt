use Rattle.base_io.proofs.Writing.{wrote_both, wrote_fails, wrote_longer}
use Rattle.emit_statements.specs.Statements.{method_seen}
use Rattle.emit_statements.specs.inner.Parts.{run_op, test_ops, told_ops}
use Rattle.emit_statements.proofs.statements.write_statements.Goals as goal

pub returns-in_err-write_piece : goal.returns-in_err-write_piece
returns-in_err-write_piece g c =
    wrote_fails _ c.from_residual.ensures.0 (wrote_longer (told_ops (method_seen c.args.it.now) c.args.block) (wrote_longer (run_op (method_seen c.args.it.now) c.args.block) (wrote_longer (test_ops (method_seen c.args.it.now) c.args.tries c.args.block) c.in_err-write_piece.ensures)))

pub returns-in_err-write_test : goal.returns-in_err-write_test
returns-in_err-write_test g c =
    wrote_fails _ c.from_residual-in_err-write_test.ensures.0 (wrote_longer (told_ops (method_seen c.args.it.now) c.args.block) (wrote_longer (run_op (method_seen c.args.it.now) c.args.block) (wrote_both c.in_ok-write_piece.ensures c.in_err-write_test.ensures)))

pub returns-in_err-write_run : goal.returns-in_err-write_run
returns-in_err-write_run g c =
    wrote_fails _ c.from_residual-in_err-write_run.ensures.0 (wrote_longer (told_ops (method_seen c.args.it.now) c.args.block) (wrote_both (wrote_both c.in_ok-write_piece.ensures c.in_ok-write_test.ensures) c.in_err-write_run.ensures))

pub returns : goal.returns
returns g c =
    wrote_both (wrote_both (wrote_both c.in_ok-write_piece.ensures c.in_ok-write_test.ensures) c.in_ok-write_run.ensures) c.write_told.ensures
