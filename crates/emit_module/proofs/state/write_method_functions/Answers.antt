use Rattle.std.proofs.Common.{◌∙◌, ap, List, ℕ}
use Rattle.base_io.proofs.Writing.{wrote_same}
use Rattle.emit_comments.proofs.Numbered.{numbered}
use Rattle.emit_module.specs.Modules.{block_functions}
use Rattle.emit_statements.specs.Sources.{seen}
use Rattle.lang_tree.specs.declared.tree.BlockTree.{BlockTree}
use Rattle.std.specs.List.{enumerate_from, flat_map}
use Rattle.emit_module.proofs.state.write_method_functions.Goals as goal

pub returns : goal.returns
returns g c =
    wrote_same _ (ap (λ (xs : List BlockTree). flat_map (numbered (block_functions (seen c.args.source.now) c.args.method.now c.first_of-first.result)) (enumerate_from 0 xs)) c.items.ensures ∙ ap (λ (n : ℕ). flat_map (numbered (block_functions (seen c.args.source.now) c.args.method.now n)) (enumerate_from 0 c.args.method.now.blocks)) c.first_of-first.ensures) c.write_functions_from.ensures
