use Rattle.base_io.proofs.Writing.{wrote_same}
use Rattle.emit_statements.proofs.Runs.{run_alone, run_guarded, run_sure}
use Rattle.emit_statements.specs.Statements.{method_seen}
use Rattle.emit_statements.proofs.statements.write_own_run.Goals as goal

pub returns-then-not-fails_at : goal.returns-then-not-fails_at
returns-then-not-fails_at g c =
    wrote_same _ (run_sure (method_seen c.args.it.now) c.args.block _ c.fails_at.ensures c.if-not-fails_at.true) c.write_plain_run.ensures

pub returns-then-not-waits_at : goal.returns-then-not-waits_at
returns-then-not-waits_at g c =
    wrote_same _ (run_alone (method_seen c.args.it.now) c.args.block _ _ c.fails_at.ensures c.if-not-fails_at.false c.waits_at.ensures c.if-not-waits_at.true) c.write_plain_run-then-not-waits_at.ensures

pub returns : goal.returns
returns g c =
    wrote_same _ (run_guarded (method_seen c.args.it.now) c.args.block _ _ c.fails_at.ensures c.if-not-fails_at.false c.waits_at.ensures c.if-not-waits_at.false) c.write_guarded_run.ensures
