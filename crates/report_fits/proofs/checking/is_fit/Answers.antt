use Rattle.std.proofs.Common.{sym, ◌∙◌}
use Rattle.report_fits.proofs.Checks.{check_none, check_some}
use Rattle.report_fits.proofs.checking.is_fit.Goals as goal

pub returns-in-Some : goal.returns-in-Some
returns-in-Some c =
    check_some c.certified_blocks_fit.ensures c.args.monitor.now c.args.kept.now c.args.fit.now c.in-Some.question c.is_refuted.result
    (sym c.in_ok-question.ensures.made ∙ c.in-Some.is) c.is_refuted.ensures

pub returns-in-None : goal.returns-in-None
returns-in-None c = check_none c.args.monitor.now c.args.kept.now c.args.fit.now (sym c.in_ok-question.ensures.made ∙ c.in-None.is)
