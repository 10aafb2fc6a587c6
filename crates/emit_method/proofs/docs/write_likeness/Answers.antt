use Rattle.std.proofs.Common.{codes}
use Rattle.emit_method.specs.Docs.{first_guard, longest_text, unlike_text}
use Rattle.emit_names.specs.Names.{member_name}
use Rattle.emit_names.specs.declared.style.Style.TheVariants as styles
use Rattle.base_io.proofs.Writing.{wrote_both, wrote_fails, wrote_longer, wrote_same}
use Rattle.emit_method.proofs.docs.write_likeness.Goals as goal

pub returns-in_err-write_piece : goal.returns-in_err-write_piece
returns-in_err-write_piece g c =
    wrote_fails _ c.from_residual.ensures.0 (wrote_longer (longest_text c.args.it.now.way) (wrote_longer (first_guard c.args.it.now.method.now) (wrote_longer (unlike_text c.args.it.now.way) (wrote_longer (member_name c.args.it.now.source.now.tree.now styles.Snake c.args.it.now.method.now.name) (wrote_longer (codes "`](Self::") (wrote_longer (member_name c.args.it.now.source.now.tree.now styles.Snake c.args.it.now.method.now.name) c.in_err-write_piece.ensures))))))

pub returns-in_err-write_member : goal.returns-in_err-write_member
returns-in_err-write_member g c =
    wrote_fails _ c.from_residual-in_err-write_member.ensures.0 (wrote_longer (longest_text c.args.it.now.way) (wrote_longer (first_guard c.args.it.now.method.now) (wrote_longer (unlike_text c.args.it.now.way) (wrote_longer (member_name c.args.it.now.source.now.tree.now styles.Snake c.args.it.now.method.now.name) (wrote_longer (codes "`](Self::") (wrote_both c.in_ok-write_piece.ensures c.in_err-write_member.ensures))))))

pub returns-in_err-write_piece-2 : goal.returns-in_err-write_piece-2
returns-in_err-write_piece-2 g c =
    wrote_fails _ c.from_residual-in_err-write_piece-2.ensures.0 (wrote_longer (longest_text c.args.it.now.way) (wrote_longer (first_guard c.args.it.now.method.now) (wrote_longer (unlike_text c.args.it.now.way) (wrote_longer (member_name c.args.it.now.source.now.tree.now styles.Snake c.args.it.now.method.now.name) (wrote_both (wrote_both c.in_ok-write_piece.ensures c.in_ok-write_member.ensures) c.in_err-write_piece-2.ensures)))))

pub returns-in_err-write_member-2 : goal.returns-in_err-write_member-2
returns-in_err-write_member-2 g c =
    wrote_fails _ c.from_residual-in_err-write_member-2.ensures.0 (wrote_longer (longest_text c.args.it.now.way) (wrote_longer (first_guard c.args.it.now.method.now) (wrote_longer (unlike_text c.args.it.now.way) (wrote_both (wrote_both (wrote_both c.in_ok-write_piece.ensures c.in_ok-write_member.ensures) c.in_ok-write_piece-2.ensures) c.in_err-write_member-2.ensures))))

pub returns-in_err-write_piece-3 : goal.returns-in_err-write_piece-3
returns-in_err-write_piece-3 g c =
    wrote_fails _ c.from_residual-in_err-write_piece-3.ensures.0 (wrote_longer (longest_text c.args.it.now.way) (wrote_longer (first_guard c.args.it.now.method.now) (wrote_both (wrote_both (wrote_both (wrote_both c.in_ok-write_piece.ensures c.in_ok-write_member.ensures) c.in_ok-write_piece-2.ensures) c.in_ok-write_member-2.ensures) (wrote_same _ (c.unlike_bytes.ensures) c.in_err-write_piece-3.ensures))))

pub returns-in_err-write_guard : goal.returns-in_err-write_guard
returns-in_err-write_guard g c =
    wrote_fails _ c.from_residual-in_err-write_guard.ensures.0 (wrote_longer (longest_text c.args.it.now.way) (wrote_both (wrote_both (wrote_both (wrote_both (wrote_both c.in_ok-write_piece.ensures c.in_ok-write_member.ensures) c.in_ok-write_piece-2.ensures) c.in_ok-write_member-2.ensures) (wrote_same _ (c.unlike_bytes.ensures) c.in_ok-write_piece-3.ensures)) c.in_err-write_guard.ensures))

pub returns : goal.returns
returns g c =
    wrote_both (wrote_both (wrote_both (wrote_both (wrote_both (wrote_both c.in_ok-write_piece.ensures c.in_ok-write_member.ensures) c.in_ok-write_piece-2.ensures) c.in_ok-write_member-2.ensures) (wrote_same _ (c.unlike_bytes.ensures) c.in_ok-write_piece-3.ensures)) c.in_ok-write_guard.ensures) (wrote_same _ (c.longest_bytes.ensures) c.write_piece-4.ensures)
