use Rattle.std.proofs.Common.{sym, ap, subst, ◌∙◌}
use Rattle.lang_monitor.specs.Candidates.{candidates_of}
use Rattle.machine_events.specs.declared.plan.Plan.{Plan}
use Rattle.machine_events.specs.Plans.{FitsPlan}
use Rattle.machine_events.specs.Counts.{IsLawfulByCounting}
use Rattle.logic_wp.specs.Expressible.{is_expressible}
use Rattle.plan_counted.specs.Counted.{AreBacked, IsCountedFrom, counted_of}
use Rattle.plan_counted.specs.CountedAndRelayed.{CountsBroadcasts}
use Rattle.plan_counted.specs.Rows.{NamesBestRows}
use Rattle.plan_counted.specs.inner.Answers.{AreColumns}
use Rattle.plan_counted.proofs.Answered.{backed, some_pass}
use Rattle.plan_counted.proofs.Counting.{best_named, broadcasts_counted}
use Rattle.plan_counted.proofs.placing.count_plan.Goals as goal

pub columns_of-requires-clause-kept : goal.columns_of-requires-clause-kept
columns_of-requires-clause-kept c =
    some_pass is_expressible c.args.placed.now.kept (candidates_of c.args.monitor.now) c.requires.fits.kept c.candidates_have_formulas.ensures

pub returns-clause-fits : goal.returns-clause-fits
returns-clause-fits c =
    let monitor = c.args.monitor.now in
    let placed = c.args.placed.now in
    subst (FitsPlan monitor) (sym c.in_ok-plan.ensures)
    (c.answered_columns_count.ensures.fits monitor placed c.deref.result.now c.blocks-blocks.ensures.rule c.requires.fits
    (subst (AreColumns monitor placed) (sym c.deref.ensures.value) c.in_ok-columns.ensures))

pub returns-clause-lawful : goal.returns-clause-lawful
returns-clause-lawful c =
    let monitor = c.args.monitor.now in
    let placed = c.args.placed.now in
    subst (IsLawfulByCounting monitor) (sym c.in_ok-plan.ensures)
    (c.answered_columns_count.ensures.lawful monitor placed c.deref.result.now c.blocks-blocks.ensures.rule c.requires.fits c.requires.lawful
    (subst (AreColumns monitor placed) (sym c.deref.ensures.value) c.in_ok-columns.ensures))

pub returns-clause-counted : goal.returns-clause-counted
returns-clause-counted c =
    let monitor = c.args.monitor.now in
    let placed = c.args.placed.now in
    subst (IsCountedFrom monitor placed) (sym c.in_ok-plan.ensures)
    (c.answered_columns_count.ensures.counted monitor placed c.deref.result.now c.blocks-blocks.ensures.rule c.requires.fits
    (subst (AreColumns monitor placed) (sym c.deref.ensures.value) c.in_ok-columns.ensures))

pub returns-clause-exact : goal.returns-clause-exact
returns-clause-exact c = λ none.
    let monitor = c.args.monitor.now in
    let placed = c.args.placed.now in
    c.counted_plans_are_exact.ensures monitor placed c.in_ok-plan.plan
    (subst (IsCountedFrom monitor placed) (sym c.in_ok-plan.ensures)
    (c.answered_columns_count.ensures.counted monitor placed c.deref.result.now c.blocks-blocks.ensures.rule c.requires.fits
    (subst (AreColumns monitor placed) (sym c.deref.ensures.value) c.in_ok-columns.ensures))) none

pub returns-clause-backed : goal.returns-clause-backed
returns-clause-backed c =
    let monitor = c.args.monitor.now in
    let placed = c.args.placed.now in
    subst (AreBacked monitor placed) (sym c.of.ensures) (backed monitor placed c.in_ok-columns.columns.items c.in_ok-columns.ensures)

pub returns-clause-broadcasts : goal.returns-clause-broadcasts
returns-clause-broadcasts c =
    let monitor = c.args.monitor.now in
    let placed = c.args.placed.now in
    subst (CountsBroadcasts monitor placed) (sym c.of.ensures) (broadcasts_counted monitor placed c.in_ok-columns.columns.items c.in_ok-columns.ensures)

pub returns-clause-rows : goal.returns-clause-rows
returns-clause-rows c =
    let monitor = c.args.monitor.now in
    let placed = c.args.placed.now in
    let columns = c.in_ok-columns.columns.items in
    subst (NamesBestRows monitor placed c.in_ok-plan.plan) (sym c.of.ensures)
    (subst (λ (plan : Plan). NamesBestRows monitor placed plan columns) (sym (c.in_ok-plan.ensures ∙ ap (counted_of placed) c.deref.ensures.value))
    (best_named monitor placed columns c.requires.fits c.in_ok-columns.ensures))

pub returns-clause-omits : goal.returns-clause-omits
returns-clause-omits c =
    let monitor = c.args.monitor.now in
    let placed = c.args.placed.now in
    c.counted_plans_omit_no_more.ensures monitor placed c.in_ok-plan.plan c.requires.fits
    (subst (IsCountedFrom monitor placed) (sym c.in_ok-plan.ensures)
    (c.answered_columns_count.ensures.counted monitor placed c.deref.result.now c.blocks-blocks.ensures.rule c.requires.fits
    (subst (AreColumns monitor placed) (sym c.deref.ensures.value) c.in_ok-columns.ensures)))
