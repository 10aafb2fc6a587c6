use Rattle.plan_counted.proofs.Counting.{counted_fits, counted_from, lawful_by_counting}
use Rattle.plan_counted.proofs.laws.answered_columns_count.Goals as goal

pub returns-clause-fits : goal.returns-clause-fits
returns-clause-fits c = counted_fits

pub returns-clause-lawful : goal.returns-clause-lawful
returns-clause-lawful c = lawful_by_counting c.answers_count.ensures c.counting_applies.ensures.plan

pub returns-clause-counted : goal.returns-clause-counted
returns-clause-counted c = counted_from
