use Rattle.std.proofs.Common.{◌++◌, ap}
use Rattle.emit_expressions.specs.Expressions.{plain_text}
use Rattle.base_io.proofs.Writing.{wrote_both, wrote_fails, wrote_longer, wrote_same}
use Rattle.emit_expressions.specs.Scopes.{seen}
use Rattle.emit_expressions.proofs.values.write_plain_addend.Goals as goal

pub returns-in_err-write_piece : goal.returns-in_err-write_piece
returns-in_err-write_piece g c =
    let text = plain_text (seen c.args.scope.now) c.args.addend.now.of in
    wrote_same _ (ap (λ sign. sign ++ text) c.sign_bytes.ensures) (wrote_fails _ c.from_residual.ensures.0 (wrote_longer text c.in_err-write_piece.ensures))

pub returns : goal.returns
returns g c =
    let text = plain_text (seen c.args.scope.now) c.args.addend.now.of in
    wrote_same _ (ap (λ sign. sign ++ text) c.sign_bytes.ensures) (wrote_both c.in_ok-write_piece.ensures c.write_plain.ensures)
