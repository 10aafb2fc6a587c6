use Rattle.base_io.proofs.Writing.{wrote_both, wrote_fails, wrote_longer}
use Rattle.emit_statements.specs.Statements.{call_text, method_seen}
use Rattle.emit_statements.proofs.statements.write_plain_run.Goals as goal

pub returns-in_err-write_let : goal.returns-in_err-write_let
returns-in_err-write_let g c =
    wrote_fails _ c.from_residual.ensures.0 (wrote_longer (c.args.ending.now) (wrote_longer (call_text (method_seen c.args.it.now) c.args.block) c.in_err-write_let.ensures))

pub returns-in_err-write_call : goal.returns-in_err-write_call
returns-in_err-write_call g c =
    wrote_fails _ c.from_residual-in_err-write_call.ensures.0 (wrote_longer (c.args.ending.now) (wrote_both c.in_ok-write_let.ensures c.in_err-write_call.ensures))

pub returns : goal.returns
returns g c =
    wrote_both (wrote_both c.in_ok-write_let.ensures c.in_ok-write_call.ensures) c.write_piece.ensures
