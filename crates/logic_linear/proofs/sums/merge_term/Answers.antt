use Rattle.std.proofs.Common.{arith, rules, get_or, pos, ◌*ℤ◌}
use Rattle.std.proofs.lemmas.Int.{to_z-of_z}
use mir.Syntax.{w128}
use mir.Val.{SFits}
use Rattle.logic_linear.specs.declared.form.Term.{Term}
use Rattle.logic_linear.proofs.MergeLemmas.{takes_above, takes_found, takes_all, goes_on, stops_same, pushed_fits, product_at}
use Rattle.logic_linear.proofs.sums.merge_term.Goals as goal

abbrev no_term : Term
no_term = record { place = 0; times = pos 0 }

pub returns-then-term-other : goal.returns-then-term-other
returns-then-term-other c =
    let ff : SFits w128 c.args.factor = c.ranges.factor in
    takes_above c.args.factor c.args.term c.args.others.now c.args.sums.now.items c.loop-index.sums.items c.push.new.self.items c.loop-index.index no_term
    (simp to_z-of_z at c.loop-index.invariant.same) c.loop-index-test.true c.if-term-other.true c.in_ok-push.ensures.items c.loop-index.invariant.fits c.requires.term

pub returns-in_default : goal.returns-in_default
returns-in_default c =
    let ff : SFits w128 c.args.factor = c.ranges.factor in
    let fo : SFits w128 (get_or c.args.others.now c.loop-index.index no_term).times = search rules in
    let ft : SFits w128 c.args.term.times = search rules in
    stops_same c.args.factor c.args.term c.args.others.now c.args.sums.now.items c.loop-index.sums.items c.loop-index.index no_term
    (simp to_z-of_z at c.loop-index.invariant.same) c.loop-index-test.true c.if-other-term.true c.requires.sums (simp to_z-of_z at c.in_default.ensures)

pub returns-then-other-term : goal.returns-then-other-term
returns-then-other-term c =
    let ff : SFits w128 c.args.factor = c.ranges.factor in
    let fo : SFits w128 (get_or c.args.others.now c.loop-index.index no_term).times = search rules in
    let ft : SFits w128 c.args.term.times = search rules in
    let fs : SFits w128 c.in-Some.times = search rules in
    takes_found c.args.factor c.args.term c.args.others.now c.args.sums.now.items c.loop-index.sums.items c.push_counted.new.sums.items c.loop-index.index no_term c.in-Some.times
    (simp to_z-of_z at c.loop-index.invariant.same) c.loop-index-test.true c.if-other-term.true (simp to_z-of_z at c.in-Some.ensures.0) c.in-Some.ensures.1 (simp to_z-of_z at c.in_ok-push_counted.ensures) c.loop-index.invariant.fits

pub push_multiple-requires : goal.push_multiple-requires
push_multiple-requires c =
    let ff : SFits w128 c.args.factor = c.ranges.factor in
    simp to_z-of_z (product_at c.args.factor c.args.others.now c.loop-index.index no_term c.loop-index-test.true c.requires.products)

pub loop-index-preserved : goal.loop-index-preserved
loop-index-preserved c =
    let ff : SFits w128 c.args.factor = c.ranges.factor in
    let is = simp to_z-of_z at c.in_ok-push_multiple.ensures in
    let other = get_or c.args.others.now c.loop-index.index no_term in
    record {
      same = simp to_z-of_z (goes_on c.args.factor c.args.term c.args.others.now c.args.sums.now.items c.loop-index.sums.items c.push_multiple.new.sums.items c.loop-index.index no_term
          (simp to_z-of_z at c.loop-index.invariant.same) c.loop-index-test.true (omega arith) is);
      fits = pushed_fits c.loop-index.sums.items c.push_multiple.new.sums.items other.place (c.args.factor *ℤ other.times) is c.loop-index.invariant.fits
          (product_at c.args.factor c.args.others.now c.loop-index.index no_term c.loop-index-test.true c.requires.products);
    }

pub returns : goal.returns
returns c =
    let ff : SFits w128 c.args.factor = c.ranges.factor in
    takes_all c.args.factor c.args.term c.args.others.now c.args.sums.now.items c.loop-index.sums.items c.push-2.new.self.items c.loop-index.index
    (simp to_z-of_z at c.loop-index.invariant.same) c.loop-index-test.false c.in_ok-push-2.ensures.items c.loop-index.invariant.fits c.requires.term
