use Rattle.std.proofs.Common.{arith}
use Rattle.logic_elim.specs.declared.elimination.Progress.TheVariants.{Left, Closed}
use Rattle.logic_elim.specs.Chains.{state_of}
use Rattle.logic_elim.proofs.Loops.{none_summed, lower_sound, lower_stops}
use Rattle.logic_elim.proofs.Loops.{lower_added, lowers_added}
use Rattle.logic_elim.proofs.elimination.add_sums_of.Goals as goal

pub loop-lower-init : goal.loop-lower-init
loop-lower-init c = record { sound = λ rows others sound. sound; adds = none_summed (state_of c.args.left.now) }

pub returns-in-Closed-clause-sound : goal.returns-in-Closed-clause-sound
returns-in-Closed-clause-sound c =
    lower_sound c.args.most c.args.place c.args.upper.now c.lower-item.result c.args.lowers.now c.loop-lower.lower-index (state_of c.args.left.now) (state_of c.loop-lower.left) (state_of c.add_sum.new.left) Closed
    c.loop-lower-test.true c.lower-item.is c.loop-lower.invariant.sound (rw c.in-Closed.is at c.in_ok-add_sum.ensures)

pub returns-in-Stopped-clause-adds : goal.returns-in-Stopped-clause-adds
returns-in-Stopped-clause-adds c =
    lower_stops c.args.most c.args.place c.args.upper.now c.lower-item.result c.args.lowers.now c.loop-lower.lower-index (state_of c.args.left.now) (state_of c.loop-lower.left) (state_of c.add_sum.new.left)
    c.loop-lower-test.true c.lower-item.is c.loop-lower.invariant.adds (rw c.in-Stopped.is at c.in_ok-add_sum.ensures)

pub loop-lower-preserved : goal.loop-lower-preserved
loop-lower-preserved c = record {
  sound = lower_sound c.args.most c.args.place c.args.upper.now c.lower-item.result c.args.lowers.now c.loop-lower.lower-index (state_of c.args.left.now) (state_of c.loop-lower.left) (state_of c.add_sum.new.left) Left
      c.loop-lower-test.true c.lower-item.is c.loop-lower.invariant.sound (rw c.in-Left.is at c.in_ok-add_sum.ensures);
  adds = lower_added c.args.most c.args.place c.args.upper.now c.lower-item.result c.args.lowers.now c.loop-lower.lower-index (state_of c.args.left.now) (state_of c.loop-lower.left) (state_of c.add_sum.new.left)
      c.loop-lower-test.true c.lower-item.is c.loop-lower.invariant.adds (rw c.in-Left.is at c.in_ok-add_sum.ensures);
}

pub returns-clause-adds : goal.returns-clause-adds
returns-clause-adds c =
    lowers_added c.args.most c.args.place c.args.upper.now c.args.lowers.now c.loop-lower.lower-index (state_of c.args.left.now) (state_of c.loop-lower.left) (omega arith) c.loop-lower.invariant.adds
