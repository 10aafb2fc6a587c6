use Rattle.std.proofs.Common.{length}
use Rattle.emit_names.proofs.names.+is_shifted.Given as goal

abbrev pub decreases-is_shifted : goal.decreases-is_shifted
decreases-is_shifted l = length l.text.now
