use Rattle.std.proofs.Common.{◌∙◌, ap, Bool}
use Rattle.emit_statements.specs.Sources.{seen}
use Rattle.emit_module.specs.Modules.{text_if, times_somewhere}
use Rattle.base_io.proofs.Writing.{wrote_same}
use Rattle.emit_module.proofs.module.write_times.Goals as goal

pub returns : goal.returns
returns g c =
    wrote_same _ (c.text_if.ensures ∙ ap (λ (b : Bool). text_if b c.times_bytes.result.now) c.times_somewhere.ensures ∙ ap (text_if (times_somewhere (seen c.args.source.now))) c.times_bytes.ensures) c.write_piece.ensures
