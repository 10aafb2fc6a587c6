use Rattle.std.proofs.Common.{◌≡◌, ◌+◌, suc, subst, arith}
use Rattle.logic_elim.specs.Chains.{state_of}
use Rattle.logic_elim.proofs.Rounds.{SoFar, no_rounds, one_more_round, all_rounds, no_variable_left, never_stops}
use Rattle.logic_elim.proofs.decision.eliminate_light.Goals as goal

pub loop-round-init : goal.loop-round-init
loop-round-init c = no_rounds (state_of c.args.left.now) c.requires

pub returns-in_default : goal.returns-in_default
returns-in_default c =
    no_variable_left c.loop-round.round (state_of c.args.left.now) (state_of c.loop-round.left) c.in_default.ensures c.loop-round.invariant

pub loop-round-preserved : goal.loop-round-preserved
loop-round-preserved c =
    let next : suc c.loop-round.round ≡ c.loop-round.round + 1 = omega arith in
    subst (λ round. SoFar round (state_of c.args.left.now) (state_of c.eliminate.new.left)) next
    (one_more_round c.loop-round.round 65536 c.in-Some.place (state_of c.args.left.now) (state_of c.loop-round.left) (state_of c.eliminate.new.left) (omega arith)
    c.in-Some.ensures c.loop-round.invariant
    (rw c.in-Left.is at c.in_ok-eliminate.ensures.sound) (rw c.in-Left.is at c.in_ok-eliminate.ensures.eliminates))

pub returns : goal.returns
returns c = all_rounds c.loop-round.round (state_of c.args.left.now) (state_of c.loop-round.left) (omega arith) c.loop-round.invariant

pub unreachable-requires : goal.unreachable-requires
unreachable-requires c =
    never_stops c.loop-round.round 65536 c.in-Some.place (state_of c.args.left.now) (state_of c.loop-round.left) (state_of c.eliminate.new.left) (omega arith) (omega arith)
    c.in-Some.ensures c.loop-round.invariant (rw c.in-Stopped.is at c.in_ok-eliminate.ensures.eliminates)
