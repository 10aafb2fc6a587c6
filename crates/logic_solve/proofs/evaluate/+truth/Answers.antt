use Rattle.std.proofs.Common.{◌≡◌, false, List, arith, subst, sym, ◌∙◌}
use Rattle.logic_linear.specs.declared.formula.Formula.{Formula}
use Rattle.logic_solve.specs.Solutions.{valuation_of}
use Rattle.logic_solve.specs.WideNumbers.{IsComputed}
use Rattle.logic_solve.specs.inner.Evaluating.{all_true, any_true, HasWidePart}
use Rattle.logic_solve.proofs.Evaluation.{all_stops, all_ends, any_stops, any_ends}
use Rattle.logic_solve.proofs.Evaluation.{in_all, in_any}
use Rattle.logic_solve.proofs.evaluate.+truth.Goals as goal

pub all_hold-returns-then-not-held : goal.all_hold-returns-then-not-held
all_hold-returns-then-not-held t c =
    let no : c.in_ok-held.held ≡ false = grind (arith, c.if-not-held.true) in
    all_stops (valuation_of c.args.at.now) c.args.parts.now c.loop-part.part-index c.part-item.result c.loop-part-test.true c.part-item.is (sym no ∙ c.in_ok-held.ensures)

pub all_hold-returns : goal.all_hold-returns
all_hold-returns t c = all_ends (valuation_of c.args.at.now) c.args.parts.now c.loop-part.part-index c.loop-part-test.false c.loop-part.invariant

pub any_holds-returns-then-held : goal.any_holds-returns-then-held
any_holds-returns-then-held t c =
    any_stops (valuation_of c.args.at.now) c.args.parts.now c.loop-part.part-index c.part-item.result c.loop-part-test.true c.part-item.is (sym c.if-held.true ∙ c.in_ok-held.ensures)

pub any_holds-returns : goal.any_holds-returns
any_holds-returns t c = any_ends (valuation_of c.args.at.now) c.args.parts.now c.loop-part.part-index c.loop-part-test.false c.loop-part.invariant

pub formula_truth-returns-in-All : goal.formula_truth-returns-in-All
formula_truth-returns-in-All t c =
    in_all (valuation_of c.args.at.now) c.args.formula.now c.in-All.parts c.all_hold.result c.in-All.is
    (subst (λ (parts : List Formula). IsComputed (all_true (valuation_of c.args.at.now) parts) (HasWidePart (valuation_of c.args.at.now) parts) c.all_hold.result) c.items.ensures c.all_hold.ensures)

pub formula_truth-returns-in-Any : goal.formula_truth-returns-in-Any
formula_truth-returns-in-Any t c =
    in_any (valuation_of c.args.at.now) c.args.formula.now c.in-Any.parts c.any_holds.result c.in-Any.is
    (subst (λ (parts : List Formula). IsComputed (any_true (valuation_of c.args.at.now) parts) (HasWidePart (valuation_of c.args.at.now) parts) c.any_holds.result) c.items-in-Any.ensures c.any_holds.ensures)
