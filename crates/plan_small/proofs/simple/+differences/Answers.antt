use Rattle.std.proofs.Common.{sym, ap, ◌∙◌}
use Rattle.std.specs.List.{list_all}
use Rattle.logic_linear.specs.Differences.{has_difference_rows}
use Rattle.plan_small.proofs.DifferenceRows.{all_differs, any_differs}
use Rattle.plan_small.proofs.simple.+differences.Goals as goal

pub has_difference_rows-returns-in-All : goal.has_difference_rows-returns-in-All
has_difference_rows-returns-in-All t c =
    c.have_difference_rows.ensures ∙ ap (list_all has_difference_rows) c.items.ensures ∙ sym (ap has_difference_rows c.in-All.is ∙ all_differs c.in-All.parts)

pub has_difference_rows-returns-in-Any : goal.has_difference_rows-returns-in-Any
has_difference_rows-returns-in-Any t c =
    c.have_difference_rows-in-Any.ensures ∙ ap (list_all has_difference_rows) c.items-in-Any.ensures ∙ sym (ap has_difference_rows c.in-Any.is ∙ any_differs c.in-Any.parts)
