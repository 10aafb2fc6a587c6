use Rattle.std.proofs.Common.{codes, ap, List}
use Rattle.std.specs.List.{enumerate_from, flat_map}
use Rattle.lang_tree.specs.declared.tree.MethodTree.{MethodTree}
use Rattle.emit_comments.proofs.Numbered.{numbered}
use Rattle.emit_names.specs.Names.{type_name}
use Rattle.emit_statements.specs.Sources.{seen}
use Rattle.emit_method.specs.Methods.{methods_text}
use Rattle.emit_module.specs.Fixed.{DATA}
use Rattle.emit_module.specs.Modules.{opening_text}
use Rattle.base_io.proofs.Writing.{wrote_both, wrote_fails, wrote_longer, wrote_same}
use Rattle.emit_module.proofs.module.write_with_impl.Goals as goal

pub returns-in_err-write_piece : goal.returns-in_err-write_piece
returns-in_err-write_piece g c =
    wrote_fails _ c.from_residual.ensures.0 (wrote_longer (codes "}\n\n") (wrote_longer (flat_map (numbered (methods_text (seen c.args.source.now))) (enumerate_from 0 c.args.source.now.tree.now.methods)) (wrote_longer (DATA) (wrote_longer (opening_text (seen c.args.source.now)) (wrote_longer (codes "<D> {\n") (wrote_longer (type_name c.args.source.now.tree.now) (wrote_same _ (c.with_bytes.ensures) c.in_err-write_piece.ensures)))))))

pub returns-in_err-write_type : goal.returns-in_err-write_type
returns-in_err-write_type g c =
    wrote_fails _ c.from_residual-in_err-write_type.ensures.0 (wrote_longer (codes "}\n\n") (wrote_longer (flat_map (numbered (methods_text (seen c.args.source.now))) (enumerate_from 0 c.args.source.now.tree.now.methods)) (wrote_longer (DATA) (wrote_longer (opening_text (seen c.args.source.now)) (wrote_longer (codes "<D> {\n") (wrote_both (wrote_same _ (c.with_bytes.ensures) c.in_ok-write_piece.ensures) c.in_err-write_type.ensures))))))

pub returns-in_err-write_piece-2 : goal.returns-in_err-write_piece-2
returns-in_err-write_piece-2 g c =
    wrote_fails _ c.from_residual-in_err-write_piece-2.ensures.0 (wrote_longer (codes "}\n\n") (wrote_longer (flat_map (numbered (methods_text (seen c.args.source.now))) (enumerate_from 0 c.args.source.now.tree.now.methods)) (wrote_longer (DATA) (wrote_longer (opening_text (seen c.args.source.now)) (wrote_both (wrote_both (wrote_same _ (c.with_bytes.ensures) c.in_ok-write_piece.ensures) c.in_ok-write_type.ensures) c.in_err-write_piece-2.ensures)))))

pub returns-in_err-write_opening : goal.returns-in_err-write_opening
returns-in_err-write_opening g c =
    wrote_fails _ c.from_residual-in_err-write_opening.ensures.0 (wrote_longer (codes "}\n\n") (wrote_longer (flat_map (numbered (methods_text (seen c.args.source.now))) (enumerate_from 0 c.args.source.now.tree.now.methods)) (wrote_longer (DATA) (wrote_both (wrote_both (wrote_both (wrote_same _ (c.with_bytes.ensures) c.in_ok-write_piece.ensures) c.in_ok-write_type.ensures) c.in_ok-write_piece-2.ensures) c.in_err-write_opening.ensures))))

pub returns-in_err-write_piece-3 : goal.returns-in_err-write_piece-3
returns-in_err-write_piece-3 g c =
    wrote_fails _ c.from_residual-in_err-write_piece-3.ensures.0 (wrote_longer (codes "}\n\n") (wrote_longer (flat_map (numbered (methods_text (seen c.args.source.now))) (enumerate_from 0 c.args.source.now.tree.now.methods)) (wrote_both (wrote_both (wrote_both (wrote_both (wrote_same _ (c.with_bytes.ensures) c.in_ok-write_piece.ensures) c.in_ok-write_type.ensures) c.in_ok-write_piece-2.ensures) c.in_ok-write_opening.ensures) (wrote_same _ (c.data_bytes.ensures) c.in_err-write_piece-3.ensures))))

pub returns-in_err-write_methods : goal.returns-in_err-write_methods
returns-in_err-write_methods g c =
    wrote_fails _ c.from_residual-in_err-write_methods.ensures.0 (wrote_longer (codes "}\n\n") (wrote_both (wrote_both (wrote_both (wrote_both (wrote_both (wrote_same _ (c.with_bytes.ensures) c.in_ok-write_piece.ensures) c.in_ok-write_type.ensures) c.in_ok-write_piece-2.ensures) c.in_ok-write_opening.ensures) (wrote_same _ (c.data_bytes.ensures) c.in_ok-write_piece-3.ensures)) (wrote_same _ (ap (λ (xs : List MethodTree). flat_map (numbered (methods_text (seen c.args.source.now))) (enumerate_from 0 xs)) c.items.ensures) c.in_err-write_methods.ensures)))

pub returns : goal.returns
returns g c =
    wrote_both (wrote_both (wrote_both (wrote_both (wrote_both (wrote_both (wrote_same _ (c.with_bytes.ensures) c.in_ok-write_piece.ensures) c.in_ok-write_type.ensures) c.in_ok-write_piece-2.ensures) c.in_ok-write_opening.ensures) (wrote_same _ (c.data_bytes.ensures) c.in_ok-write_piece-3.ensures)) (wrote_same _ (ap (λ (xs : List MethodTree). flat_map (numbered (methods_text (seen c.args.source.now))) (enumerate_from 0 xs)) c.items.ensures) c.in_ok-write_methods.ensures)) c.write_piece-4.ensures
