use Rattle.std.proofs.Common.{[], append-nil, ◌∙◌}
use Rattle.expresso_reports.proofs.Rechecked.{alone, counted_accepted, line_of, none_refused}
use Rattle.expresso_reports.proofs.laws.printed_counted_reports_are_rechecked.Goals as goal

pub returns-clause-refusals : goal.returns-clause-refusals
returns-clause-refusals c = λ held later file report_file text line is.
    none_refused c.one_spelling.ensures.one c.one_spelling.ensures.stuck c.derives_one_tree.ensures.monitors held later file report_file text is.printed.tree is.printed.monitor is.printed.holds _ _ []
    (alone is.printed.monitor text _ _
    (counted_accepted c.counted_text_is_report_text.ensures.text c.printed_counted_reports_are_accepted.ensures.read c.printed_counted_reports_are_accepted.ensures.accepted
    held file text is.printed is.owes)) is.short is.same is.there line

pub returns-clause-lines : goal.returns-clause-lines
returns-clause-lines c = λ held later file report_file text line is done.
    line_of c.one_spelling.ensures.one c.one_spelling.ensures.stuck c.derives_one_tree.ensures.monitors held later file report_file text is.printed.tree is.printed.monitor is.printed.holds _ _ []
    (alone is.printed.monitor text _ _
    (counted_accepted c.counted_text_is_report_text.ensures.text c.printed_counted_reports_are_accepted.ensures.read c.printed_counted_reports_are_accepted.ensures.accepted
    held file text is.printed is.owes)) is.short is.same is.there line done ∙ append-nil _
