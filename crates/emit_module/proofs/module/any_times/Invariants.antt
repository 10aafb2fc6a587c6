use Rattle.std.proofs.Common.{◌≡◌, take}
use Rattle.emit_comments.proofs.Numbered.{numbered_test}
use Rattle.emit_statements.specs.Sources.{seen}
use Rattle.emit_method.specs.Methods.{has_times}
use Rattle.std.specs.List.{enumerate_from, list_any}
use Rattle.emit_module.proofs.module.any_times.Given as goal

abbrev pub invariant-loop-number : goal.invariant-loop-number
invariant-loop-number l =
    l.found ≡ list_any (numbered_test (has_times (seen l.source))) (take l.number (enumerate_from 0 l.methods))
