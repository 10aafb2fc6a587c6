use Rattle.base_io.proofs.Writing.{wrote_same}
use Rattle.emit_statements.proofs.Choices.{no_text, yes_text}
use Rattle.emit_code.specs.Code.{overflow_notes}
use Rattle.emit_statements.specs.Statements.{method_seen, work_text, works_at}
use Rattle.emit_statements.specs.inner.Parts.{own_run}
use Rattle.emit_statements.proofs.statements.write_run.Goals as goal

pub returns-then-works_at : goal.returns-then-works_at
returns-then-works_at g c =
    wrote_same _ (yes_text (works_at (method_seen c.args.it.now) c.args.block) _ (work_text (method_seen c.args.it.now) c.args.block (overflow_notes c.args.it.now.source.now.monitor.now c.args.block)) (own_run (method_seen c.args.it.now) c.args.block) c.works_at.ensures c.if-works_at.true) c.write_work.ensures

pub returns : goal.returns
returns g c =
    wrote_same _ (no_text (works_at (method_seen c.args.it.now) c.args.block) _ (work_text (method_seen c.args.it.now) c.args.block (overflow_notes c.args.it.now.source.now.monitor.now c.args.block)) (own_run (method_seen c.args.it.now) c.args.block) c.works_at.ensures c.if-works_at.false) c.write_own_run.ensures
