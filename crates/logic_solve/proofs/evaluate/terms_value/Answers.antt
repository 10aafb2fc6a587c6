use Rattle.std.proofs.Common.{◌≡◌, ◌+◌, ◌+ℤ◌, pos, take, arith, rules}
use Rattle.std.proofs.lemmas.Int.{ints, to_z-of_z}
use mir.Syntax.{w128}
use mir.Val.{SFits, to_z}
use Rattle.logic_linear.specs.declared.form.Term.{Term}
use Rattle.logic_linear.specs.Truth.{sum_of}
use Rattle.logic_solve.specs.Solutions.{valuation_of}
use Rattle.logic_solve.specs.WideNumbers.{HasWideSum}
use Rattle.logic_solve.proofs.Evaluation.{sum_more}
use Rattle.logic_solve.proofs.Evaluation.{none_is, wide_product, wide_front}
use Rattle.logic_solve.proofs.evaluate.terms_value.Goals as goal

abbrev no_term : Term
no_term = record { place = 0; times = pos 0 }

pub loop-term-preserved : goal.loop-term-preserved
loop-term-preserved c =
    let more = sum_more (valuation_of c.args.at.now) c.args.terms.now c.loop-term.term-index no_term c.loop-term-test.true in
    let fits : SFits w128 c.in_ok-sum.sum = search rules in
    rw (to_z-of_z w128 c.in_ok-sum.sum fits) (omega (arith, ints, more, c.in_ok-sum.ensures, c.in_ok-value.ensures, c.loop-term.invariant))

pub returns-in_err-value : goal.returns-in_err-value
returns-in_err-value c =
    none_is (sum_of (valuation_of c.args.at.now) c.args.terms.now) (HasWideSum (valuation_of c.args.at.now) c.args.terms.now) c.from_residual.result c.from_residual.ensures
    (wide_product (valuation_of c.args.at.now) c.args.terms.now c.loop-term.term-index no_term c.loop-term-test.true c.in_err-value.ensures)

pub returns-in_err-sum : goal.returns-in_err-sum
returns-in_err-sum c =
    let more = sum_more (valuation_of c.args.at.now) c.args.terms.now c.loop-term.term-index no_term c.loop-term-test.true in
    let fits : SFits w128 c.in_ok-value.value = search rules in
    let is : to_z w128 c.loop-term.sum-bits +ℤ c.in_ok-value.value ≡ sum_of (valuation_of c.args.at.now) (take (c.loop-term.term-index + 1) c.args.terms.now) = omega (arith, ints, more, c.in_ok-value.ensures, c.loop-term.invariant, c.loop-term.sum-is) in
    none_is (sum_of (valuation_of c.args.at.now) c.args.terms.now) (HasWideSum (valuation_of c.args.at.now) c.args.terms.now) c.from_residual-in_err-sum.result c.from_residual-in_err-sum.ensures
    (wide_front (valuation_of c.args.at.now) c.args.terms.now (c.loop-term.term-index + 1) (to_z w128 c.loop-term.sum-bits +ℤ c.in_ok-value.value) is (simp to_z-of_z at c.in_err-sum.ensures))
