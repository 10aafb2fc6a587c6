use Rattle.report_text.proofs.WokenRows.{none_before, woken_there}
use Rattle.report_text.proofs.log.next_woken.Goals as goal

pub returns-clause-none : goal.returns-clause-none
returns-clause-none c = λ number later before. none_before c.args.woken c.args.from number c.ranges.woken.fits later before

pub returns-clause-woken : goal.returns-clause-woken
returns-clause-woken c = λ within. woken_there c.args.woken c.args.from c.ranges.woken.fits within
