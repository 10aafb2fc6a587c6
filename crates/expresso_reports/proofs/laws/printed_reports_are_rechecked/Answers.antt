use Rattle.std.proofs.Common.{[], append-nil, ◌∙◌}
use Rattle.expresso_reports.proofs.Rechecked.{alone, line_of, none_refused, plain_accepted}
use Rattle.expresso_reports.proofs.laws.printed_reports_are_rechecked.Goals as goal

pub returns-clause-refusals : goal.returns-clause-refusals
returns-clause-refusals c = λ held later file report_file text line is.
    none_refused c.one_spelling.ensures.one c.one_spelling.ensures.stuck c.derives_one_tree.ensures.monitors held later file report_file text is.printed.tree is.printed.monitor is.printed.holds _ _ []
    (alone is.printed.monitor text _ _
    (plain_accepted c.reports_are_uncounted.ensures.read c.reports_are_uncounted.ensures.verdict c.easy_reports_are_accepted.ensures held file text is.printed is.easy c.reports_are_uncounted.ensures.text)) is.short is.same is.there line

pub returns-clause-lines : goal.returns-clause-lines
returns-clause-lines c = λ held later file report_file text line is done.
    line_of c.one_spelling.ensures.one c.one_spelling.ensures.stuck c.derives_one_tree.ensures.monitors held later file report_file text is.printed.tree is.printed.monitor is.printed.holds _ _ []
    (alone is.printed.monitor text _ _
    (plain_accepted c.reports_are_uncounted.ensures.read c.reports_are_uncounted.ensures.verdict c.easy_reports_are_accepted.ensures held file text is.printed is.easy c.reports_are_uncounted.ensures.text)) is.short is.same is.there line done ∙ append-nil _
