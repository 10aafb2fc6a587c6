use Rattle.std.proofs.Common.{◌∙◌, ap, Bool, false}
use Rattle.emit_statements.specs.Sources.{seen}
use Rattle.emit_module.specs.Modules.{refuses_somewhere, text_if}
use Rattle.base_io.proofs.Writing.{wrote_same}
use Rattle.emit_module.proofs.module.write_refused.Goals as goal

pub returns : goal.returns
returns g c =
    (wrote_same _ (c.text_if.ensures ∙ ap (λ (b : Bool). text_if b c.refused_bytes.result.now) c.refuses_somewhere.ensures ∙ ap (text_if (refuses_somewhere (seen c.args.source.now) false)) c.refused_bytes.ensures) c.write_piece.ensures)
