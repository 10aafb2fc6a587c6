use Rattle.std.proofs.Common.{ap, List}
use Rattle.std.specs.List.{enumerate_from, flat_map}
use Rattle.base_io.proofs.Writing.{wrote_same}
use Rattle.emit_comments.proofs.Numbered.{numbered}
use Rattle.emit_statements.specs.Conditions.{handed_parameter}
use Rattle.lang_tree.specs.declared.tree.InputTree.{InputTree}
use Rattle.emit_method.proofs.lasting.write_parameters_given.Goals as goal

pub returns : goal.returns
returns g c = wrote_same _ (ap (λ (xs : List InputTree). flat_map (numbered (handed_parameter c.args.method.now)) (enumerate_from 0 xs)) c.items.ensures) c.write_handed_parameters.ensures
