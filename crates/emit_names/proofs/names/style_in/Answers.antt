use Rattle.emit_names.proofs.Reading.{style_says}
use Rattle.emit_names.proofs.names.style_in.Goals as goal

pub returns : goal.returns
returns g c =
    style_says g.T.Named.name_of g.U.Named.name_of c.args.first.now c.args.more.now c.args.style _ c.args.name.now _ _ c.style_unless.ensures c.is_met-met.ensures c.is_met-met_later.ensures
