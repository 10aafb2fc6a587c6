use Rattle.base_io.proofs.Writing.{wrote_both, wrote_fails, wrote_longer, wrote_same}
use Rattle.emit_statements.specs.Statements.{method_seen, refusal_text, test_text}
use Rattle.emit_statements.proofs.statements.write_refusal.Goals as goal

pub returns-in_err-write_piece : goal.returns-in_err-write_piece
returns-in_err-write_piece g c =
    wrote_fails _ c.from_residual.ensures.0 (wrote_longer (refusal_text c.args.it.now.fails) (wrote_longer (test_text (method_seen c.args.it.now) c.args.block) c.in_err-write_piece.ensures))

pub returns-in_err-write_call_of_test : goal.returns-in_err-write_call_of_test
returns-in_err-write_call_of_test g c =
    wrote_fails _ c.from_residual-in_err-write_call_of_test.ensures.0 (wrote_longer (refusal_text c.args.it.now.fails) (wrote_both c.in_ok-write_piece.ensures c.in_err-write_call_of_test.ensures))

pub returns : goal.returns
returns g c =
    wrote_both (wrote_both c.in_ok-write_piece.ensures c.in_ok-write_call_of_test.ensures) (wrote_same _ (c.refusal_bytes.ensures) c.write_piece-2.ensures)
