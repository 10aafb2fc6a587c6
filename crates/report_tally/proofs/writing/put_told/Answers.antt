use Rattle.std.proofs.Common.{sym, ap}
use Rattle.base_pen.proofs.Putting.{adds_same}
use Rattle.report_tally.specs.CountedTexts.{told_text}
use Rattle.report_tally.proofs.writing.put_told.Goals as goal

pub returns-in-Signal : goal.returns-in-Signal
returns-in-Signal g c = adds_same _ (ap (told_text c.args.monitor.now c.args.condition c.args.row c.args.block) (sym c.in-Signal.is)) c.put_signal.ensures
