use Rattle.std.proofs.Common.{codes, ap}
use Rattle.emit_choices.specs.Declarations.{typed_start}
use Rattle.emit_names.specs.Names.{member_name}
use Rattle.lang_tree.specs.Names.{declared_name}
use Rattle.emit_names.specs.declared.style.Style.TheVariants as styles
use Rattle.emit_module.specs.Modules.{constant_docs}
use Rattle.std.proofs.Common.{ℕ}
use Rattle.base_io.proofs.Writing.{wrote_both, wrote_fails, wrote_longer, wrote_same}
use Rattle.emit_module.proofs.module.write_constant.Goals as goal

pub returns-in_err-write_constant_docs : goal.returns-in_err-write_constant_docs
returns-in_err-write_constant_docs g c =
    wrote_fails _ c.from_residual.ensures.0 (wrote_longer (codes ";\n") (wrote_longer (typed_start c.args.declared.now) (wrote_longer (member_name c.args.source.now.tree.now styles.Upper (declared_name c.args.declared.now)) (wrote_longer (codes "    pub const ") (wrote_same _ (ap (λ (n : ℕ). constant_docs c.args.source.now.text.now n c.args.declared.now) c.line_of.ensures) c.in_err-write_constant_docs.ensures)))))

pub returns-in_err-write_piece : goal.returns-in_err-write_piece
returns-in_err-write_piece g c =
    wrote_fails _ c.from_residual-in_err-write_piece.ensures.0 (wrote_longer (codes ";\n") (wrote_longer (typed_start c.args.declared.now) (wrote_longer (member_name c.args.source.now.tree.now styles.Upper (declared_name c.args.declared.now)) (wrote_both (wrote_same _ (ap (λ (n : ℕ). constant_docs c.args.source.now.text.now n c.args.declared.now) c.line_of.ensures) c.in_ok-write_constant_docs.ensures) c.in_err-write_piece.ensures))))

pub returns-in_err-write_member : goal.returns-in_err-write_member
returns-in_err-write_member g c =
    wrote_fails _ c.from_residual-in_err-write_member.ensures.0 (wrote_longer (codes ";\n") (wrote_longer (typed_start c.args.declared.now) (wrote_both (wrote_both (wrote_same _ (ap (λ (n : ℕ). constant_docs c.args.source.now.text.now n c.args.declared.now) c.line_of.ensures) c.in_ok-write_constant_docs.ensures) c.in_ok-write_piece.ensures) (wrote_same _ (ap (member_name c.args.source.now.tree.now styles.Upper) c.name.ensures) c.in_err-write_member.ensures))))

pub returns-in_err-write_typed_start : goal.returns-in_err-write_typed_start
returns-in_err-write_typed_start g c =
    wrote_fails _ c.from_residual-in_err-write_typed_start.ensures.0 (wrote_longer (codes ";\n") (wrote_both (wrote_both (wrote_both (wrote_same _ (ap (λ (n : ℕ). constant_docs c.args.source.now.text.now n c.args.declared.now) c.line_of.ensures) c.in_ok-write_constant_docs.ensures) c.in_ok-write_piece.ensures) (wrote_same _ (ap (member_name c.args.source.now.tree.now styles.Upper) c.name.ensures) c.in_ok-write_member.ensures)) c.in_err-write_typed_start.ensures))

pub returns : goal.returns
returns g c =
    wrote_both (wrote_both (wrote_both (wrote_both (wrote_same _ (ap (λ (n : ℕ). constant_docs c.args.source.now.text.now n c.args.declared.now) c.line_of.ensures) c.in_ok-write_constant_docs.ensures) c.in_ok-write_piece.ensures) (wrote_same _ (ap (member_name c.args.source.now.tree.now styles.Upper) c.name.ensures) c.in_ok-write_member.ensures)) c.in_ok-write_typed_start.ensures) c.write_piece-2.ensures
