use Rattle.std.proofs.Common.{length}
use Rattle.emit_names.proofs.names.+write_camel.Given as goal

abbrev pub decreases-write_camel : goal.decreases-write_camel
decreases-write_camel g l = length l.name.now
