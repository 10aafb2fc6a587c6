use Rattle.emit_method.specs.Docs.{failure_docs}
use Rattle.emit_statements.specs.Statements.{method_seen}
use Rattle.base_io.proofs.Writing.{wrote_both, wrote_fails, wrote_longer}
use Rattle.emit_method.proofs.docs.write_work_docs.Goals as goal

pub returns-in_err-write_work_likeness : goal.returns-in_err-write_work_likeness
returns-in_err-write_work_likeness g c =
    wrote_fails _ c.from_residual.ensures.0 (wrote_longer (failure_docs (method_seen c.args.it.now)) c.in_err-write_work_likeness.ensures)

pub returns : goal.returns
returns g c =
    wrote_both c.in_ok-write_work_likeness.ensures c.write_failures.ensures
