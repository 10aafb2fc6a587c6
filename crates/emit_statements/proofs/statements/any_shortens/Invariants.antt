use Rattle.std.proofs.Common.{◌≡◌, ◌+◌, take}
use Rattle.std.specs.List.{enumerate_from, list_any}
use Rattle.emit_comments.proofs.Numbered.{numbered_test}
use Rattle.emit_statements.specs.Sources.{seen}
use Rattle.emit_statements.specs.Statements.{block_shortens}
use Rattle.emit_statements.proofs.statements.any_shortens.Given as goal

abbrev pub invariant-loop-place : goal.invariant-loop-place
invariant-loop-place l =
    l.found ≡ list_any (numbered_test (λ place. block_shortens (seen l.source) l.method (l.first + place))) (take l.place (enumerate_from 0 l.blocks))
