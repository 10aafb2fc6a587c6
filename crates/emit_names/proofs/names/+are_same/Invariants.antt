use Rattle.std.proofs.Common.{◌+◌, length}
use Rattle.emit_names.proofs.names.+are_same.Given as goal

abbrev pub decreases-are_same : goal.decreases-are_same
decreases-are_same l = length l.text.now + length l.other.now
