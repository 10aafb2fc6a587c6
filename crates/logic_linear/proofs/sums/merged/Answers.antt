use Rattle.std.proofs.Common.{pos, ◌∙◌}
use Rattle.std.specs.List.{list_all}
use Rattle.std.proofs.lemmas.Int.{to_z-of_z}
use mir.Syntax.{w128}
use mir.Val.{SFits}
use Rattle.logic_linear.specs.declared.form.Term.{Term}
use Rattle.logic_linear.specs.Sums.{term_fits}
use Rattle.logic_linear.specs.inner.Merging.{merged}
use Rattle.logic_linear.proofs.LimitedLemmas.{stops}
use Rattle.logic_linear.proofs.MergeLemmas.{merged_done, merged_stops, rest_products, tail_slice}
use Rattle.logic_linear.proofs.sums.merged.Goals as goal

abbrev no_term : Term
no_term = record { place = 0; times = pos 0 }

pub returns-in_default : goal.returns-in_default
returns-in_default c =
    let ff : SFits w128 c.args.factor = c.ranges.factor in
    let out = simp (to_z-of_z, tail_slice) at (rw c.in_default.is at c.in_ok-taken.ensures) in
    stops (list_all term_fits) (merged c.args.factor c.args.terms.now c.args.others.now)
    (merged_stops c.args.factor c.args.terms.now c.args.others.now c.loop-term.sums.items c.loop-term.term-index c.loop-term.next no_term (simp to_z-of_z at c.loop-term.invariant.here) c.loop-term.invariant.fits c.loop-term-test.true out)

pub merge_term-requires-clause-products : goal.merge_term-requires-clause-products
merge_term-requires-clause-products c = let ff : SFits w128 c.args.factor = c.ranges.factor in simp to_z-of_z (rest_products c.args.factor c.args.others.now c.loop-term.next c.requires.products)

pub push_multiples-requires : goal.push_multiples-requires
push_multiples-requires c = let ff : SFits w128 c.args.factor = c.ranges.factor in simp to_z-of_z (rest_products c.args.factor c.args.others.now c.loop-term.next c.requires.products)

pub returns : goal.returns
returns c =
    let ff : SFits w128 c.args.factor = c.ranges.factor in
    let is = simp (to_z-of_z, tail_slice) at c.in_ok-push_multiples.ensures in
    merged_done c.args.factor c.args.terms.now c.args.others.now c.loop-term.sums.items c.of.result c.loop-term.term-index c.loop-term.next
    (simp to_z-of_z at c.loop-term.invariant.here) c.loop-term-test.false c.loop-term.invariant.fits c.requires.products (c.of.ensures ∙ is)
