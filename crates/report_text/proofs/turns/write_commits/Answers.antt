use Rattle.report_text.specs.TurnsText.{commit_text}
use Rattle.base_io.proofs.Rows.{flat_map-next, flat_map-parts}
use Rattle.base_io.proofs.Writing.{wrote_both, wrote_same, wrote_until}
use Rattle.report_text.proofs.turns.write_commits.Goals as goal

pub loop-commit-preserved : goal.loop-commit-preserved
loop-commit-preserved g c =
    wrote_same _ (flat_map-next (commit_text c.args.monitor.now c.args.clients.now) c.args.history.now c.loop-commit.commit-index _ c.loop-commit-test.true) (wrote_both c.loop-commit.invariant c.in_ok-write_commit.ensures)

pub returns-in_err-write_commit : goal.returns-in_err-write_commit
returns-in_err-write_commit g c =
    wrote_until _ _ _ (flat_map-parts (commit_text c.args.monitor.now c.args.clients.now) c.args.history.now c.loop-commit.commit-index _ c.loop-commit-test.true) c.from_residual.ensures.0 c.loop-commit.invariant c.in_err-write_commit.ensures
