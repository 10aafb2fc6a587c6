use Rattle.std.proofs.Common.{codes}
use Rattle.emit_statements.specs.Sources.{seen}
use Rattle.emit_names.specs.Names.{type_name}
use Rattle.emit_choices.specs.Openings.{new_text}
use Rattle.emit_module.specs.Modules.{constants_text, lints_text}
use Rattle.base_io.proofs.Writing.{wrote_both, wrote_fails, wrote_longer}
use Rattle.emit_module.proofs.module.write_own_impl.Goals as goal

pub returns-in_err-write_piece : goal.returns-in_err-write_piece
returns-in_err-write_piece g c =
    wrote_fails _ c.from_residual.ensures.0 (wrote_longer (new_text c.args.source.now.text.now c.args.source.now.tree.now) (wrote_longer (constants_text (seen c.args.source.now)) (wrote_longer (codes " {\n") (wrote_longer (type_name c.args.source.now.tree.now) (wrote_longer (codes "impl ") (wrote_longer (lints_text c.args.source.now.tree.now) c.in_err-write_piece.ensures))))))

pub returns-in_err-write_lints : goal.returns-in_err-write_lints
returns-in_err-write_lints g c =
    wrote_fails _ c.from_residual-in_err-write_lints.ensures.0 (wrote_longer (new_text c.args.source.now.text.now c.args.source.now.tree.now) (wrote_longer (constants_text (seen c.args.source.now)) (wrote_longer (codes " {\n") (wrote_longer (type_name c.args.source.now.tree.now) (wrote_longer (codes "impl ") (wrote_both c.in_ok-write_piece.ensures c.in_err-write_lints.ensures))))))

pub returns-in_err-write_piece-2 : goal.returns-in_err-write_piece-2
returns-in_err-write_piece-2 g c =
    wrote_fails _ c.from_residual-in_err-write_piece-2.ensures.0 (wrote_longer (new_text c.args.source.now.text.now c.args.source.now.tree.now) (wrote_longer (constants_text (seen c.args.source.now)) (wrote_longer (codes " {\n") (wrote_longer (type_name c.args.source.now.tree.now) (wrote_both (wrote_both c.in_ok-write_piece.ensures c.in_ok-write_lints.ensures) c.in_err-write_piece-2.ensures)))))

pub returns-in_err-write_type : goal.returns-in_err-write_type
returns-in_err-write_type g c =
    wrote_fails _ c.from_residual-in_err-write_type.ensures.0 (wrote_longer (new_text c.args.source.now.text.now c.args.source.now.tree.now) (wrote_longer (constants_text (seen c.args.source.now)) (wrote_longer (codes " {\n") (wrote_both (wrote_both (wrote_both c.in_ok-write_piece.ensures c.in_ok-write_lints.ensures) c.in_ok-write_piece-2.ensures) c.in_err-write_type.ensures))))

pub returns-in_err-write_piece-3 : goal.returns-in_err-write_piece-3
returns-in_err-write_piece-3 g c =
    wrote_fails _ c.from_residual-in_err-write_piece-3.ensures.0 (wrote_longer (new_text c.args.source.now.text.now c.args.source.now.tree.now) (wrote_longer (constants_text (seen c.args.source.now)) (wrote_both (wrote_both (wrote_both (wrote_both c.in_ok-write_piece.ensures c.in_ok-write_lints.ensures) c.in_ok-write_piece-2.ensures) c.in_ok-write_type.ensures) c.in_err-write_piece-3.ensures)))

pub returns-in_err-write_constants : goal.returns-in_err-write_constants
returns-in_err-write_constants g c =
    wrote_fails _ c.from_residual-in_err-write_constants.ensures.0 (wrote_longer (new_text c.args.source.now.text.now c.args.source.now.tree.now) (wrote_both (wrote_both (wrote_both (wrote_both (wrote_both c.in_ok-write_piece.ensures c.in_ok-write_lints.ensures) c.in_ok-write_piece-2.ensures) c.in_ok-write_type.ensures) c.in_ok-write_piece-3.ensures) c.in_err-write_constants.ensures))

pub returns : goal.returns
returns g c =
    wrote_both (wrote_both (wrote_both (wrote_both (wrote_both (wrote_both c.in_ok-write_piece.ensures c.in_ok-write_lints.ensures) c.in_ok-write_piece-2.ensures) c.in_ok-write_type.ensures) c.in_ok-write_piece-3.ensures) c.in_ok-write_constants.ensures) c.write_new.ensures
