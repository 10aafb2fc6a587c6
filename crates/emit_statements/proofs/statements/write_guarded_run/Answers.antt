use Rattle.std.proofs.Common.{codes}
use Rattle.machine_events.specs.Configurations.{block_condition}
use Rattle.emit_statements.specs.Conditions.{around_name}
use Rattle.emit_statements.specs.Sources.{seen}
use Rattle.emit_statements.specs.Statements.{call_text, method_seen}
use Rattle.emit_statements.specs.Ways.{may_refuse}
use Rattle.emit_statements.specs.inner.Parts.{guarded_end}
use Rattle.base_io.proofs.Writing.{wrote_both, wrote_fails, wrote_longer}
use Rattle.emit_statements.proofs.statements.write_guarded_run.Goals as goal

pub returns-in_err-write_let_ok : goal.returns-in_err-write_let_ok
returns-in_err-write_let_ok g c =
    wrote_fails _ c.from_residual.ensures.0 (wrote_longer (around_name (seen c.args.it.now.source.now) (codes " else {\n            self.") (block_condition c.args.it.now.source.now.monitor.now c.args.block) (guarded_end (may_refuse c.args.it.now.way))) (wrote_longer (call_text (method_seen c.args.it.now) c.args.block) c.in_err-write_let_ok.ensures))

pub returns-in_err-write_call : goal.returns-in_err-write_call
returns-in_err-write_call g c =
    wrote_fails _ c.from_residual-in_err-write_call.ensures.0 (wrote_longer (around_name (seen c.args.it.now.source.now) (codes " else {\n            self.") (block_condition c.args.it.now.source.now.monitor.now c.args.block) (guarded_end (may_refuse c.args.it.now.way))) (wrote_both c.in_ok-write_let_ok.ensures c.in_err-write_call.ensures))

pub returns : goal.returns
returns g c =
    wrote_both (wrote_both c.in_ok-write_let_ok.ensures c.in_ok-write_call.ensures) c.write_overflow.ensures
