use Rattle.std.proofs.Common.{arith, pos, refl}
use Rattle.logic_linear.specs.declared.form.Term.{Term}
use Rattle.logic_outline.proofs.FormLemmas.{all_rise, none_rise, not_rising, rises_more}
use Rattle.logic_outline.proofs.forms.are_rising.Goals as goal

abbrev no_term : Term
no_term = record { place = 0; times = pos 0 }

pub loop-i-init : goal.loop-i-init
loop-i-init c = record { low = omega arith; rises = none_rise c.args.terms.now }

pub loop-i-preserved : goal.loop-i-preserved
loop-i-preserved c = record {
  low = omega arith;
  rises = rises_more c.args.terms.now c.loop-i.i no_term c.loop-i.invariant.low c.loop-i-test.true c.if-terms-i.false c.loop-i.invariant.rises;
}

pub returns-then-terms-i : goal.returns-then-terms-i
returns-then-terms-i c = (λ told. absurd cc, λ rising. absurd (not_rising c.args.terms.now c.loop-i.i no_term c.loop-i.invariant.low c.loop-i-test.true c.if-terms-i.true rising))

pub returns : goal.returns
returns c = (λ told. all_rise c.args.terms.now c.loop-i.i c.loop-i-test.false c.loop-i.invariant.rises, λ rising. refl)
