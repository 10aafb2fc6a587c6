use Rattle.std.proofs.Common.{◌≡◌, replicate}
use Rattle.lang_script.specs.Scripts.{joined}
use Rattle.lang_script.proofs.making.copies.Given as goal

abbrev pub invariant-loop-copy : goal.invariant-loop-copy
invariant-loop-copy l = l.made.items ≡ joined (replicate l._copy l.calls.items)
