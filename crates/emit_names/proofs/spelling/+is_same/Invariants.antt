use Rattle.std.proofs.Common.{length}
use Rattle.emit_names.specs.inner.Spellings.{spelling_text}
use Rattle.emit_names.proofs.spelling.+is_same.Given as goal

abbrev pub decreases-is_same : goal.decreases-is_same
decreases-is_same l = length (spelling_text l.it)
