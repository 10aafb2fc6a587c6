use Rattle.std.proofs.Common.{length}
use Rattle.emit_names.proofs.names.+write_spelled.Given as goal

abbrev pub decreases-write_spelled : goal.decreases-write_spelled
decreases-write_spelled g l = length l.name.now
