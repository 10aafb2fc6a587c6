use Rattle.std.proofs.Common.{length}
use Rattle.emit_names.proofs.names.+is_camel_shifted.Given as goal

abbrev pub decreases-is_camel_shifted : goal.decreases-is_camel_shifted
decreases-is_camel_shifted l = length l.text.now
