use Rattle.std.proofs.Common.{◌∙◌, ℕ, Bool, Option, ap}
use Rattle.base_io.proofs.Writing.{wrote_same}
use Rattle.emit_statements.specs.Sources.{seen}
use Rattle.emit_statements.specs.Statements.{end_at, method_seen, sleep_text}
use Rattle.emit_statements.proofs.statements.write_own_sleep.Goals as goal

pub returns : goal.returns
returns g c =
    wrote_same _
    (ap (λ (end : Option Bool). sleep_text (seen c.args.it.now.source.now) end c.condition_of-condition.result) c.end_at.ensures
    ∙ ap (λ (q : ℕ). sleep_text (seen c.args.it.now.source.now) (end_at (method_seen c.args.it.now) c.args.block) q) c.condition_of-condition.ensures)
    c.write_sleep.ensures
