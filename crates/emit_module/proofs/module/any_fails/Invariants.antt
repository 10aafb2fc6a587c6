use Rattle.std.proofs.Common.{◌≡◌, take}
use Rattle.emit_comments.proofs.Numbered.{numbered_test}
use Rattle.emit_statements.specs.Sources.{seen}
use Rattle.emit_statements.specs.Statements.{method_fails}
use Rattle.std.specs.List.{enumerate_from, list_any}
use Rattle.emit_module.proofs.module.any_fails.Given as goal

abbrev pub invariant-loop-number : goal.invariant-loop-number
invariant-loop-number l =
    l.found ≡ list_any (numbered_test (method_fails (seen l.source))) (take l.number (enumerate_from 0 l.methods))
