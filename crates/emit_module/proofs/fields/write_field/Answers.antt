use Rattle.std.proofs.Common.{◌∙◌, ap, codes}
use Rattle.lang_tree.specs.Names.{declared_name}
use Rattle.emit_bodies.specs.Blocks.{kind_declared, kind_text}
use Rattle.emit_names.specs.declared.style.Style.TheVariants as styles
use Rattle.emit_names.specs.Names.{member_name}
use Rattle.base_io.proofs.Writing.{wrote_both, wrote_fails, wrote_longer, wrote_same}
use Rattle.emit_module.proofs.fields.write_field.Goals as goal

pub returns-in_err-write_piece : goal.returns-in_err-write_piece
returns-in_err-write_piece g c = wrote_fails _ c.from_residual.ensures.0 (wrote_longer (codes ",\n") (wrote_longer (kind_text (kind_declared c.args.declared.now)) (wrote_longer (codes ": ") (wrote_longer (member_name c.args.tree.now styles.Snake (declared_name c.args.declared.now)) c.in_err-write_piece.ensures))))

pub returns-in_err-write_member : goal.returns-in_err-write_member
returns-in_err-write_member g c = wrote_fails _ c.from_residual-in_err-write_member.ensures.0 (wrote_longer (codes ",\n") (wrote_longer (kind_text (kind_declared c.args.declared.now)) (wrote_longer (codes ": ") (wrote_both c.in_ok-write_piece.ensures (wrote_same _ (ap (member_name c.args.tree.now styles.Snake) c.name.ensures) c.in_err-write_member.ensures)))))

pub returns-in_err-write_piece-2 : goal.returns-in_err-write_piece-2
returns-in_err-write_piece-2 g c = wrote_fails _ c.from_residual-in_err-write_piece-2.ensures.0 (wrote_longer (codes ",\n") (wrote_longer (kind_text (kind_declared c.args.declared.now)) (wrote_both (wrote_both c.in_ok-write_piece.ensures (wrote_same _ (ap (member_name c.args.tree.now styles.Snake) c.name.ensures) c.in_ok-write_member.ensures)) c.in_err-write_piece-2.ensures)))

pub returns-in_err-write_piece-3 : goal.returns-in_err-write_piece-3
returns-in_err-write_piece-3 g c = wrote_fails _ c.from_residual-in_err-write_piece-3.ensures.0 (wrote_longer (codes ",\n") (wrote_both (wrote_both (wrote_both c.in_ok-write_piece.ensures (wrote_same _ (ap (member_name c.args.tree.now styles.Snake) c.name.ensures) c.in_ok-write_member.ensures)) c.in_ok-write_piece-2.ensures) (wrote_same _ (c.kind_bytes.ensures ∙ ap kind_text c.kind_declared.ensures) c.in_err-write_piece-3.ensures)))

pub returns : goal.returns
returns g c = wrote_both (wrote_both (wrote_both (wrote_both c.in_ok-write_piece.ensures (wrote_same _ (ap (member_name c.args.tree.now styles.Snake) c.name.ensures) c.in_ok-write_member.ensures)) c.in_ok-write_piece-2.ensures) (wrote_same _ (c.kind_bytes.ensures ∙ ap kind_text c.kind_declared.ensures) c.in_ok-write_piece-3.ensures)) c.write_piece-4.ensures
