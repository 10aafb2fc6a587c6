use Rattle.std.proofs.Common.{subst}
use Rattle.std.specs.Prelude.{All}
use Rattle.report_tally.specs.CountedTexts.{HasTypedColumn}
use Rattle.expresso_answers.proofs.Placed.{counting_is}
use Rattle.expresso_answers.proofs.placement.counting_of.Goals as goal

pub returns : goal.returns
returns c =
    let placed = c.in_ok-placed in
    let counted = c.in_ok-counted in
    counting_is c.args.monitor.now placed.placed counted.counted placed.ensures.placement placed.ensures.proofs counted.ensures.plan counted.ensures.counted counted.ensures.exact counted.ensures.backed counted.ensures.broadcasts
    counted.ensures.fits counted.ensures.lawful c.read_numbers.ensures (subst (All HasTypedColumn) c.items.ensures c.read_column_numbers.ensures)
