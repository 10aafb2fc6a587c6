use Rattle.std.proofs.Common.{arith, pos}
use Rattle.std.proofs.lemmas.List.Elements.{All-more}
use Rattle.logic_linear.specs.declared.form.Term.{Term}
use Rattle.logic_outline.specs.Outlines.{HasTypedPlace}
use Rattle.report_verdict.proofs.Pairs.{all_taken}
use Rattle.report_proofs.proofs.ranges.of_places.Goals as goal

abbrev no_term : Term
no_term = record { place = 0; times = pos 0 }

pub loop-term-preserved : goal.loop-term-preserved
loop-term-preserved c = All-more HasTypedPlace c.args.terms.now c.loop-term.term-index no_term c.loop-term-test.true c.loop-term.invariant c.of_place.ensures

pub returns : goal.returns
returns c = all_taken HasTypedPlace c.args.terms.now c.loop-term.term-index (omega (arith, c.loop-term-test.false)) c.loop-term.invariant
