use Rattle.std.proofs.Common.{◌+◌, ◌∙◌, List, ℕ, ap}
use Rattle.std.specs.List.{enumerate_from, list_any}
use Rattle.emit_comments.proofs.Numbered.{numbered_test}
use Rattle.emit_statements.specs.Sources.{seen}
use Rattle.emit_statements.specs.Statements.{block_fails, first_of}
use Rattle.lang_tree.specs.declared.tree.BlockTree.{BlockTree}
use Rattle.emit_statements.proofs.statements.method_fails.Goals as goal

pub returns : goal.returns
returns c =
    c.any_fails.ensures
    ∙ ap (λ (first : ℕ). list_any (numbered_test (λ place. block_fails (seen c.args.source.now) c.args.method.now (first + place))) (enumerate_from 0 c.items.result.now)) c.first_of-first.ensures
    ∙ ap (λ (xs : List BlockTree). list_any (numbered_test (λ place. block_fails (seen c.args.source.now) c.args.method.now (first_of (seen c.args.source.now) c.args.number + place))) (enumerate_from 0 xs)) c.items.ensures
