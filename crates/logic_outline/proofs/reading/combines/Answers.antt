use Rattle.std.proofs.Common.{arith}
use Rattle.logic_cert.specs.CertText.{combine_text}
use Rattle.logic_outline.specs.Outlines.{IsCombine}
use Rattle.logic_outline.proofs.Readings.{finish_turn, follow_turn, stop_turn}
use Rattle.logic_outline.proofs.NodeParts.{combine_starts}
use Rattle.logic_outline.proofs.reading.combines.Goals as goal

pub returns-in-None : goal.returns-in-None
returns-in-None c = stop_turn combine_text IsCombine combine_starts c.args.bytes.now c.args.count c.loop-turn._turn c.loop-turn.combines.items c.loop-turn.left.now c.loop-turn-test.true c.in-None.ensures c.loop-turn.invariant

pub loop-turn-preserved : goal.loop-turn-preserved
loop-turn-preserved c = rw c.in_ok-push-in-Some.ensures.items (follow_turn combine_text IsCombine combine_starts c.args.bytes.now c.args.count c.loop-turn._turn c.loop-turn.combines.items c.loop-turn.left.now (c.in-Some.combine, c.in-Some.rest) c.loop-turn-test.true c.in-Some.ensures c.loop-turn.invariant)

pub returns : goal.returns
returns c = rw c.of.ensures (finish_turn combine_text IsCombine c.args.bytes.now c.args.count c.loop-turn._turn c.loop-turn.combines.items c.loop-turn.left (omega (arith, c.loop-turn-test.false)) c.loop-turn.invariant)
