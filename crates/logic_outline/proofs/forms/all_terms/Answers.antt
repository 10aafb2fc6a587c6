use Rattle.std.proofs.Common.{arith}
use Rattle.logic_cert.specs.CertText.{term_text}
use Rattle.logic_outline.specs.inner.Parts.{IsTypedTerm}
use Rattle.logic_outline.proofs.Readings.{finish_turn, follow_turn, stop_turn}
use Rattle.logic_outline.proofs.FormLemmas.{term_starts}
use Rattle.logic_outline.proofs.forms.all_terms.Goals as goal

pub returns-in-None : goal.returns-in-None
returns-in-None c = stop_turn term_text IsTypedTerm term_starts c.args.bytes.now c.args.count c.loop-turn._turn c.loop-turn.terms.items c.loop-turn.left.now c.loop-turn-test.true c.in-None.ensures c.loop-turn.invariant

pub loop-turn-preserved : goal.loop-turn-preserved
loop-turn-preserved c = rw c.in_ok-push-in-Some.ensures.items (follow_turn term_text IsTypedTerm term_starts c.args.bytes.now c.args.count c.loop-turn._turn c.loop-turn.terms.items c.loop-turn.left.now (c.in-Some.term, c.in-Some.rest) c.loop-turn-test.true c.in-Some.ensures c.loop-turn.invariant)

pub returns : goal.returns
returns c = rw c.of.ensures (finish_turn term_text IsTypedTerm c.args.bytes.now c.args.count c.loop-turn._turn c.loop-turn.terms.items c.loop-turn.left (omega (arith, c.loop-turn-test.false)) c.loop-turn.invariant)
