use Rattle.expresso_reports.proofs.CheckedPlans.{safe_plan, safe_report}
use Rattle.expresso_reports.proofs.laws.checked_plans_lose_no_wakeup.Goals as goal

pub returns-clause-reports : goal.returns-clause-reports
returns-clause-reports c = safe_report (record {
  opened = c.monitors_may_be_opened.ensures.monitor;
  fits = c.lawful_for_every_choice.ensures.fits;
  plain = c.lawful_for_every_choice.ensures.lawful;
  counting = c.lawful_for_every_choice.ensures.counting;
  lawful = c.counting_loses_no_wakeup.ensures.lawful;
  pending = c.counting_loses_no_wakeup.ensures.pending;
  ends = c.counting_loses_no_wakeup.ensures.ends;
  closed = c.counting_loses_no_wakeup.ensures.closed;
  threads = c.counted_code_loses_none.ensures.printed;
})

pub returns-clause-plans : goal.returns-clause-plans
returns-clause-plans c = safe_plan (record {
  opened = c.monitors_may_be_opened.ensures.monitor;
  fits = c.lawful_for_every_choice.ensures.fits;
  plain = c.lawful_for_every_choice.ensures.lawful;
  counting = c.lawful_for_every_choice.ensures.counting;
  lawful = c.counting_loses_no_wakeup.ensures.lawful;
  pending = c.counting_loses_no_wakeup.ensures.pending;
  ends = c.counting_loses_no_wakeup.ensures.ends;
  closed = c.counting_loses_no_wakeup.ensures.closed;
  threads = c.counted_code_loses_none.ensures.printed;
})
