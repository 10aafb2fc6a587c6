use Rattle.std.proofs.Common.{ap, ℕ}
use Rattle.base_io.proofs.Writing.{wrote_same}
use Rattle.emit_statements.specs.Conditions.{around_name}
use Rattle.emit_statements.specs.Sources.{seen}
use Rattle.emit_statements.proofs.statements.write_around_own_name.Goals as goal

pub returns : goal.returns
returns g c =
    wrote_same _ (ap (λ (q : ℕ). around_name (seen c.args.it.now.source.now) c.args.before.now q c.args.after.now) c.condition_of-condition.ensures) c.write_around_name.ensures
