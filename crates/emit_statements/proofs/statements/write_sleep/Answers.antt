use Rattle.std.proofs.Common.{◌∙◌, ap, codes}
use Rattle.emit_statements.specs.Conditions.{around_count, around_name}
use Rattle.emit_statements.specs.Sources.{seen}
use Rattle.emit_statements.specs.Statements.{sleep_start, wait_end, wait_start}
use Rattle.base_io.proofs.Writing.{wrote_both, wrote_fails, wrote_longer, wrote_same}
use Rattle.emit_statements.proofs.statements.write_sleep.Goals as goal

pub returns-in_err-write_around_count : goal.returns-in_err-write_around_count
returns-in_err-write_around_count g c =
    wrote_fails _ c.from_residual.ensures.0 (wrote_longer (around_count (seen c.args.source.now) (codes "            inner.") c.args.condition (codes " -= 1;\n        }\n")) (wrote_longer (around_name (seen c.args.source.now) (wait_start c.args.end) c.args.condition (wait_end c.args.end)) (wrote_same _ (ap (λ t. around_count (seen c.args.source.now) t c.args.condition (codes " += 1;\n")) c.sleep_start.ensures) c.in_err-write_around_count.ensures)))

pub returns-in_err-write_around_name : goal.returns-in_err-write_around_name
returns-in_err-write_around_name g c =
    wrote_fails _ c.from_residual-in_err-write_around_name.ensures.0 (wrote_longer (around_count (seen c.args.source.now) (codes "            inner.") c.args.condition (codes " -= 1;\n        }\n")) (wrote_both (wrote_same _ (ap (λ t. around_count (seen c.args.source.now) t c.args.condition (codes " += 1;\n")) c.sleep_start.ensures) c.in_ok-write_around_count.ensures) (wrote_same _ (ap (λ t. around_name (seen c.args.source.now) t c.args.condition c.wait_end.result.now) c.wait_start.ensures ∙ ap (around_name (seen c.args.source.now) (wait_start c.args.end) c.args.condition) c.wait_end.ensures) c.in_err-write_around_name.ensures)))

pub returns : goal.returns
returns g c =
    wrote_both (wrote_both (wrote_same _ (ap (λ t. around_count (seen c.args.source.now) t c.args.condition (codes " += 1;\n")) c.sleep_start.ensures) c.in_ok-write_around_count.ensures) (wrote_same _ (ap (λ t. around_name (seen c.args.source.now) t c.args.condition c.wait_end.result.now) c.wait_start.ensures ∙ ap (around_name (seen c.args.source.now) (wait_start c.args.end) c.args.condition) c.wait_end.ensures) c.in_ok-write_around_name.ensures)) c.write_around_count-2.ensures
