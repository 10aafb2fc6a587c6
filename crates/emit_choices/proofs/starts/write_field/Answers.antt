use Rattle.std.proofs.Common.{ap, codes}
use Rattle.lang_tree.specs.Names.{declared_name}
use Rattle.emit_names.specs.declared.style.Style.TheVariants as styles
use Rattle.emit_names.specs.Names.{member_name}
use Rattle.emit_choices.specs.Starts.{value_text}
use Rattle.base_io.proofs.Writing.{wrote_both, wrote_fails, wrote_longer, wrote_same}
use Rattle.emit_choices.proofs.starts.write_field.Goals as goal

pub returns-in_err-write_piece : goal.returns-in_err-write_piece
returns-in_err-write_piece g c = wrote_fails _ c.from_residual.ensures.0 (wrote_longer (codes ",\n") (wrote_longer (value_text c.args.tree.now c.args.declared.now) (wrote_longer (member_name c.args.tree.now styles.Snake (declared_name c.args.declared.now)) c.in_err-write_piece.ensures)))

pub returns-in_err-write_member : goal.returns-in_err-write_member
returns-in_err-write_member g c = wrote_fails _ c.from_residual-in_err-write_member.ensures.0 (wrote_longer (codes ",\n") (wrote_longer (value_text c.args.tree.now c.args.declared.now) (wrote_both c.in_ok-write_piece.ensures (wrote_same _ (ap (member_name c.args.tree.now styles.Snake) c.name.ensures) c.in_err-write_member.ensures))))

pub returns-in_err-write_value : goal.returns-in_err-write_value
returns-in_err-write_value g c = wrote_fails _ c.from_residual-in_err-write_value.ensures.0 (wrote_longer (codes ",\n") (wrote_both (wrote_both c.in_ok-write_piece.ensures (wrote_same _ (ap (member_name c.args.tree.now styles.Snake) c.name.ensures) c.in_ok-write_member.ensures)) c.in_err-write_value.ensures))

pub returns : goal.returns
returns g c = wrote_both (wrote_both (wrote_both c.in_ok-write_piece.ensures (wrote_same _ (ap (member_name c.args.tree.now styles.Snake) c.name.ensures) c.in_ok-write_member.ensures)) c.in_ok-write_value.ensures) c.write_piece-2.ensures
