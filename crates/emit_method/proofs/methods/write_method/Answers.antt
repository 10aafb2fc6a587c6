use Rattle.std.proofs.Common.{◌∙◌, ap}
use Rattle.base_io.proofs.Writing.{wrote_same}
use Rattle.emit_method.specs.Methods.{lasting_text, lasts, parts_of}
use Rattle.emit_statements.specs.Sources.{seen}
use Rattle.emit_statements.specs.Statements.{MethodParts}
use Rattle.emit_statements.proofs.Choices.{no_text, yes_text}
use Rattle.emit_method.specs.inner.Parts.{calls_text}
use Rattle.lang_monitor.specs.MonitorParts.{count_in}
use Rattle.std.specs.Prelude.{slice_get}
use Rattle.emit_method.proofs.methods.write_method.Goals as goal

pub returns-then-lasts : goal.returns-then-lasts
returns-then-lasts g c =
    wrote_same _
    (ap lasting_text c.calls_of-it.ensures
    ∙ yes_text (lasts c.args.way) _ _
    (calls_text (parts_of (seen c.args.source.now) c.args.number c.args.method.now c.args.way c.args.works) (count_in (slice_get c.args.source.now.monitor.now.methods c.args.number))) c.lasts.ensures c.if-lasts.true)
    c.write_lasting.ensures

pub returns : goal.returns
returns g c =
    wrote_same _
    (ap (λ (it : MethodParts). calls_text it c.count_of.result) c.calls_of-it.ensures ∙ ap (calls_text (parts_of (seen c.args.source.now) c.args.number c.args.method.now c.args.way c.args.works)) c.count_of.ensures
    ∙ no_text (lasts c.args.way) _ (lasting_text (parts_of (seen c.args.source.now) c.args.number c.args.method.now c.args.way c.args.works)) _ c.lasts.ensures c.if-lasts.false)
    c.write_calls.ensures
