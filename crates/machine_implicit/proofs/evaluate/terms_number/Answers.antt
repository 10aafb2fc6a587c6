use Rattle.std.proofs.Common.{pos, ◌^◌, arith}
use Rattle.std.proofs.lemmas.Int.{ints}
use Rattle.logic_linear.specs.declared.form.Term.{Term}
use Rattle.lang_monitor.specs.Bodies.{valuation}
use Rattle.machine_implicit.specs.inner.Held.{given}
use Rattle.machine_implicit.proofs.Sums.{sum_more, within_bounds}
use Rattle.machine_implicit.proofs.evaluate.terms_number.Goals as goal

abbrev no_term : Term
no_term = record { place = 0; times = pos 0 }

pub loop-term-preserved : goal.loop-term-preserved
loop-term-preserved c =
    let more = sum_more (valuation c.args.state.now (given c.args.inputs.now c.args.locals.now)) c.args.terms.now c.loop-term.term-index no_term c.loop-term-test.true in
    let bounds = within_bounds (2 ^ 94) c.term_number-sum.result c.term_number-sum.ensures.small in
    record {
      so_far = omega (arith, ints, more, c.term_number-sum.ensures.value, bounds.0, bounds.1);
      above = omega (arith, ints, bounds.0, bounds.1);
      below = omega (arith, ints, bounds.0, bounds.1);
    }
