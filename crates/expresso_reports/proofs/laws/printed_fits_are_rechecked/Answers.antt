use Rattle.std.proofs.Common.{refl}
use Rattle.expresso_reports.proofs.Rechecked.{counted_accepted, line_of, none_refused, plain_accepted, with_fits}
use Rattle.expresso_reports.proofs.laws.printed_fits_are_rechecked.Goals as goal

pub returns-clause-refusals : goal.returns-clause-refusals
returns-clause-refusals c = λ held later file report_file text line is.
    none_refused c.one_spelling.ensures.one c.one_spelling.ensures.stuck c.derives_one_tree.ensures.monitors held later file report_file text is.printed.tree is.printed.monitor is.printed.holds _ _ _
    (with_fits is.printed.monitor is.front text _ _ is.printed.placed.plan.kept
    (plain_accepted c.reports_are_uncounted.ensures.read c.reports_are_uncounted.ensures.verdict c.easy_reports_are_accepted.ensures held file is.front is.printed is.easy c.reports_are_uncounted.ensures.text) refl is.fits) is.short is.same is.there line

pub returns-clause-lines : goal.returns-clause-lines
returns-clause-lines c = λ held later file report_file text line is.
    line_of c.one_spelling.ensures.one c.one_spelling.ensures.stuck c.derives_one_tree.ensures.monitors held later file report_file text is.printed.tree is.printed.monitor is.printed.holds _ _ _
    (with_fits is.printed.monitor is.front text _ _ is.printed.placed.plan.kept
    (plain_accepted c.reports_are_uncounted.ensures.read c.reports_are_uncounted.ensures.verdict c.easy_reports_are_accepted.ensures held file is.front is.printed is.easy c.reports_are_uncounted.ensures.text) refl is.fits) is.short is.same is.there line

pub returns-clause-counted_refusals : goal.returns-clause-counted_refusals
returns-clause-counted_refusals c = λ held later file report_file text line is.
    none_refused c.one_spelling.ensures.one c.one_spelling.ensures.stuck c.derives_one_tree.ensures.monitors held later file report_file text is.printed.tree is.printed.monitor is.printed.holds _ _ _
    (with_fits is.printed.monitor is.front text _ _ is.printed.counted.plan.kept
    (counted_accepted c.counted_text_is_report_text.ensures.text c.printed_counted_reports_are_accepted.ensures.read c.printed_counted_reports_are_accepted.ensures.accepted
    held file is.front is.printed is.owes) refl is.fits) is.short is.same is.there line

pub returns-clause-counted_lines : goal.returns-clause-counted_lines
returns-clause-counted_lines c = λ held later file report_file text line is.
    line_of c.one_spelling.ensures.one c.one_spelling.ensures.stuck c.derives_one_tree.ensures.monitors held later file report_file text is.printed.tree is.printed.monitor is.printed.holds _ _ _
    (with_fits is.printed.monitor is.front text _ _ is.printed.counted.plan.kept
    (counted_accepted c.counted_text_is_report_text.ensures.text c.printed_counted_reports_are_accepted.ensures.read c.printed_counted_reports_are_accepted.ensures.accepted
    held file is.front is.printed is.owes) refl is.fits) is.short is.same is.there line
