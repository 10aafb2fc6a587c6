use Rattle.std.proofs.Common.{codes, ap, List}
use Rattle.base_io.proofs.Writing.{wrote_both, wrote_fails, wrote_longer, wrote_same}
use Rattle.emit_comments.proofs.Numbered.{numbered}
use Rattle.emit_choices.specs.Starts.{starts_text}
use Rattle.emit_module.specs.Modules.{lints_text, method_functions}
use Rattle.emit_statements.specs.Sources.{seen}
use Rattle.lang_tree.specs.declared.tree.MethodTree.{MethodTree}
use Rattle.std.specs.List.{enumerate_from, flat_map}
use Rattle.emit_module.proofs.state.write_state_impl.Goals as goal

pub returns-in_err-write_piece : goal.returns-in_err-write_piece
returns-in_err-write_piece g c =
    wrote_fails _ c.from_residual.ensures.0 (wrote_longer (codes "}\n") (wrote_longer (flat_map (numbered (method_functions (seen c.args.source.now))) (enumerate_from 0 c.args.source.now.tree.now.methods)) (wrote_longer (starts_text c.args.source.now.tree.now) (wrote_longer (codes "impl State {\n") (wrote_longer (lints_text c.args.source.now.tree.now) (wrote_same _ (c.state_impl_bytes.ensures) c.in_err-write_piece.ensures))))))

pub returns-in_err-write_lints : goal.returns-in_err-write_lints
returns-in_err-write_lints g c =
    wrote_fails _ c.from_residual-in_err-write_lints.ensures.0 (wrote_longer (codes "}\n") (wrote_longer (flat_map (numbered (method_functions (seen c.args.source.now))) (enumerate_from 0 c.args.source.now.tree.now.methods)) (wrote_longer (starts_text c.args.source.now.tree.now) (wrote_longer (codes "impl State {\n") (wrote_both (wrote_same _ (c.state_impl_bytes.ensures) c.in_ok-write_piece.ensures) c.in_err-write_lints.ensures)))))

pub returns-in_err-write_piece-2 : goal.returns-in_err-write_piece-2
returns-in_err-write_piece-2 g c =
    wrote_fails _ c.from_residual-in_err-write_piece-2.ensures.0 (wrote_longer (codes "}\n") (wrote_longer (flat_map (numbered (method_functions (seen c.args.source.now))) (enumerate_from 0 c.args.source.now.tree.now.methods)) (wrote_longer (starts_text c.args.source.now.tree.now) (wrote_both (wrote_both (wrote_same _ (c.state_impl_bytes.ensures) c.in_ok-write_piece.ensures) c.in_ok-write_lints.ensures) c.in_err-write_piece-2.ensures))))

pub returns-in_err-write_starts : goal.returns-in_err-write_starts
returns-in_err-write_starts g c =
    wrote_fails _ c.from_residual-in_err-write_starts.ensures.0 (wrote_longer (codes "}\n") (wrote_longer (flat_map (numbered (method_functions (seen c.args.source.now))) (enumerate_from 0 c.args.source.now.tree.now.methods)) (wrote_both (wrote_both (wrote_both (wrote_same _ (c.state_impl_bytes.ensures) c.in_ok-write_piece.ensures) c.in_ok-write_lints.ensures) c.in_ok-write_piece-2.ensures) c.in_err-write_starts.ensures)))

pub returns-in_err-write_functions_of_blocks : goal.returns-in_err-write_functions_of_blocks
returns-in_err-write_functions_of_blocks g c =
    wrote_fails _ c.from_residual-in_err-write_functions_of_blocks.ensures.0 (wrote_longer (codes "}\n") (wrote_both (wrote_both (wrote_both (wrote_both (wrote_same _ (c.state_impl_bytes.ensures) c.in_ok-write_piece.ensures) c.in_ok-write_lints.ensures) c.in_ok-write_piece-2.ensures) c.in_ok-write_starts.ensures) (wrote_same _ (ap (λ (xs : List MethodTree). flat_map (numbered (method_functions (seen c.args.source.now))) (enumerate_from 0 xs)) c.items.ensures) c.in_err-write_functions_of_blocks.ensures)))

pub returns : goal.returns
returns g c =
    wrote_both (wrote_both (wrote_both (wrote_both (wrote_both (wrote_same _ (c.state_impl_bytes.ensures) c.in_ok-write_piece.ensures) c.in_ok-write_lints.ensures) c.in_ok-write_piece-2.ensures) c.in_ok-write_starts.ensures) (wrote_same _ (ap (λ (xs : List MethodTree). flat_map (numbered (method_functions (seen c.args.source.now))) (enumerate_from 0 xs)) c.items.ensures) c.in_ok-write_functions_of_blocks.ensures)) c.write_piece-3.ensures
