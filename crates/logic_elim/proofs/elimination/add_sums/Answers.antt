use Rattle.std.proofs.Common.{arith}
use Rattle.logic_elim.specs.declared.elimination.Progress.TheVariants.{Left, Closed}
use Rattle.logic_elim.specs.Chains.{state_of}
use Rattle.logic_elim.proofs.Loops.{none_summed, upper_sound, upper_stops}
use Rattle.logic_elim.proofs.Loops.{upper_added, uppers_added}
use Rattle.logic_elim.proofs.elimination.add_sums.Goals as goal

pub loop-upper-init : goal.loop-upper-init
loop-upper-init c = record { sound = λ rows others sound. sound; adds = none_summed (state_of c.args.left.now) }

pub returns-in-Closed-clause-sound : goal.returns-in-Closed-clause-sound
returns-in-Closed-clause-sound c =
    upper_sound c.upper-item.result c.args.uppers.now c.args.lowers.now c.loop-upper.upper-index (state_of c.args.left.now) (state_of c.loop-upper.left) (state_of c.add_sums_of.new.left) Closed
    c.loop-upper-test.true c.upper-item.is c.loop-upper.invariant.sound (rw c.in-Closed.is at c.in_ok-add_sums_of.ensures.sound)

pub returns-in-Stopped-clause-adds : goal.returns-in-Stopped-clause-adds
returns-in-Stopped-clause-adds c =
    upper_stops c.args.most c.args.place c.upper-item.result c.args.uppers.now c.args.lowers.now c.loop-upper.upper-index (state_of c.args.left.now) (state_of c.loop-upper.left) (state_of c.add_sums_of.new.left)
    c.loop-upper-test.true c.upper-item.is c.loop-upper.invariant.adds (rw c.in-Stopped.is at c.in_ok-add_sums_of.ensures.adds)

pub loop-upper-preserved : goal.loop-upper-preserved
loop-upper-preserved c = record {
  sound = upper_sound c.upper-item.result c.args.uppers.now c.args.lowers.now c.loop-upper.upper-index (state_of c.args.left.now) (state_of c.loop-upper.left) (state_of c.add_sums_of.new.left) Left
      c.loop-upper-test.true c.upper-item.is c.loop-upper.invariant.sound (rw c.in-Left.is at c.in_ok-add_sums_of.ensures.sound);
  adds = upper_added c.args.most c.args.place c.upper-item.result c.args.uppers.now c.args.lowers.now c.loop-upper.upper-index (state_of c.args.left.now) (state_of c.loop-upper.left) (state_of c.add_sums_of.new.left)
      c.loop-upper-test.true c.upper-item.is c.loop-upper.invariant.adds (rw c.in-Left.is at c.in_ok-add_sums_of.ensures.adds);
}

pub returns-clause-adds : goal.returns-clause-adds
returns-clause-adds c =
    uppers_added c.args.most c.args.place c.args.uppers.now c.args.lowers.now c.loop-upper.upper-index (state_of c.args.left.now) (state_of c.loop-upper.left) (omega arith) c.loop-upper.invariant.adds
