use Rattle.std.proofs.Common.{rules, sym, ◌∙◌}
use Rattle.logic_linear.specs.declared.formula.Formula.TheViews.{the_lemmas}
use Rattle.logic_linear.specs.Truth.{truth_of}
use Rattle.logic_linear.proofs.LinearLemmas.{mapped_at}
use Rattle.lang_monitor.specs.MonitorParts.{fits_formula}
use Rattle.lang_monitor.specs.Bodies.{valuation}
use Rattle.machine_implicit.specs.inner.Held.{given, held_places}
use Rattle.machine_implicit.proofs.Parts.{all_stops, all_ends, any_stops, any_ends}
use Rattle.machine_implicit.proofs.evaluate.+formula_truth.Goals as goal

pub all_hold-formula_truth-requires : goal.all_hold-formula_truth-requires
all_hold-formula_truth-requires t c = (
  search (rules, the_lemmas),
  (c.requires.few, rw c.part-item.is (mapped_at (fits_formula (held_places c.args.state.now (given c.args.inputs.now c.args.locals.now))) _ _ c.part-item.result c.loop-part-test.true c.requires.fits)),
)

pub all_hold-returns-then-not-formula_truth : goal.all_hold-returns-then-not-formula_truth
all_hold-returns-then-not-formula_truth t c =
    all_stops (truth_of (valuation c.args.state.now (given c.args.inputs.now c.args.locals.now))) c.args.parts.now c.loop-part.part-index c.part-item.result c.loop-part-test.true c.part-item.is
    (sym c.formula_truth.ensures ∙ c.if-not-formula_truth.true)

pub all_hold-returns : goal.all_hold-returns
all_hold-returns t c = all_ends (truth_of (valuation c.args.state.now (given c.args.inputs.now c.args.locals.now))) c.args.parts.now c.loop-part.part-index c.loop-part-test.false c.loop-part.invariant

pub any_holds-formula_truth-requires : goal.any_holds-formula_truth-requires
any_holds-formula_truth-requires t c = (
  search (rules, the_lemmas),
  (c.requires.few, rw c.part-item.is (mapped_at (fits_formula (held_places c.args.state.now (given c.args.inputs.now c.args.locals.now))) _ _ c.part-item.result c.loop-part-test.true c.requires.fits)),
)

pub any_holds-returns-then-formula_truth : goal.any_holds-returns-then-formula_truth
any_holds-returns-then-formula_truth t c =
    any_stops (truth_of (valuation c.args.state.now (given c.args.inputs.now c.args.locals.now))) c.args.parts.now c.loop-part.part-index c.part-item.result c.loop-part-test.true c.part-item.is
    (sym c.formula_truth.ensures ∙ c.if-formula_truth.true)

pub any_holds-returns : goal.any_holds-returns
any_holds-returns t c = any_ends (truth_of (valuation c.args.state.now (given c.args.inputs.now c.args.locals.now))) c.args.parts.now c.loop-part.part-index c.loop-part-test.false c.loop-part.invariant
