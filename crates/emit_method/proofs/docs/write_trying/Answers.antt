use Rattle.emit_method.specs.Docs.{refusal_docs}
use Rattle.emit_statements.specs.Statements.{method_seen}
use Rattle.base_io.proofs.Writing.{wrote_both, wrote_fails, wrote_longer}
use Rattle.emit_method.proofs.docs.write_trying.Goals as goal

pub returns-in_err-write_doing : goal.returns-in_err-write_doing
returns-in_err-write_doing g c =
    wrote_fails _ c.from_residual.ensures.0 (wrote_longer (refusal_docs (method_seen c.args.it.now)) c.in_err-write_doing.ensures)

pub returns : goal.returns
returns g c =
    wrote_both c.in_ok-write_doing.ensures c.write_refusals.ensures
