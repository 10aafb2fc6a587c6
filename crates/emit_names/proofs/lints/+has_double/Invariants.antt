use Rattle.std.proofs.Common.{length}
use Rattle.emit_names.proofs.lints.+has_double.Given as goal

abbrev pub decreases-has_double : goal.decreases-has_double
decreases-has_double l = length l.name.now
