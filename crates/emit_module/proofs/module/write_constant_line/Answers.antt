use Rattle.std.proofs.Common.{◌∙◌, ap, sym, rules}
use Rattle.base_io.proofs.Writing.{wrote_same}
use Rattle.emit_statements.specs.Sources.{seen}
use Rattle.emit_module.specs.Modules.{constant_line, constant_text}
use Rattle.emit_module.proofs.module.write_constant_line.Goals as goal

pub returns-in-Const : goal.returns-in-Const
returns-in-Const g c =
    wrote_same _ (ap (constant_text (seen c.args.source.now) c.in-Const.at) c.in-Const.is ∙ ap (constant_line (seen c.args.source.now)) (sym c.in-Const.is)) c.write_constant.ensures

pub returns-in-Int : goal.returns-in-Int
returns-in-Int g c =
    wrote_same _ (ap (constant_line (seen c.args.source.now)) (sym c.in-Int.is)) (search rules)

pub returns-in-Flag : goal.returns-in-Flag
returns-in-Flag g c =
    wrote_same _ (ap (constant_line (seen c.args.source.now)) (sym c.in-Flag.is)) (search rules)
