use Rattle.std.proofs.Common.{ap, sym}
use Rattle.base_io.proofs.Writing.{wrote_same}
use Rattle.report_reasons.specs.ReasonText.{after_text}
use Rattle.report_failures.proofs.kept.write_after.Goals as goal

pub returns-in-None : goal.returns-in-None
returns-in-None g c = wrote_same _ (ap (after_text c.args.monitor.now) (sym c.in-None.is)) c.write_piece.ensures
