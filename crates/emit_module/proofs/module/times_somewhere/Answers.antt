use Rattle.std.proofs.Common.{◌∙◌, List, ap}
use Rattle.std.specs.List.{enumerate_from, list_any}
use Rattle.emit_comments.proofs.Numbered.{numbered_test}
use Rattle.emit_statements.specs.Sources.{seen}
use Rattle.emit_method.specs.Methods.{has_times}
use Rattle.lang_tree.specs.declared.tree.MethodTree.{MethodTree}
use Rattle.emit_module.proofs.module.times_somewhere.Goals as goal

pub returns : goal.returns
returns c =
    c.any_times.ensures ∙ ap (λ (xs : List MethodTree). list_any (numbered_test (has_times (seen c.args.source.now))) (enumerate_from 0 xs)) c.items.ensures
