use Rattle.std.proofs.Common.{refl, ◌∙◌}
use Rattle.lang_tokens.proofs.Signs.{sign_found}
use Rattle.lang_tokens.proofs.piece.sign_at.Goals as goal

pub returns : goal.returns
returns c = c.sign_among.ensures ∙ sign_found c.args.bytes.now c.as_slice.result.now (rw c.as_slice.ensures refl)
