use Rattle.emit_names.proofs.OddNames.{odd_says}
use Rattle.emit_names.proofs.lints.is_odd.Goals as goal

pub returns : goal.returns
returns g c =
    odd_says g.T.Named.name_of g.U.Named.name_of c.args.first.now c.args.more.now c.args.name.now _ _ _ _ _ c.odd_by.ensures c.is_met-met.ensures c.is_met-met_later.ensures
    c.begins_underlined-begins.ensures c.has_double-doubled.ensures
