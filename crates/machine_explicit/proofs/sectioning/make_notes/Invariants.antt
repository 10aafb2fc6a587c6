use Rattle.machine_explicit.specs.inner.Waiting.{AreMaking}
use Rattle.machine_explicit.proofs.sectioning.make_notes.Given as goal

abbrev pub invariant-loop-made : goal.invariant-loop-made
invariant-loop-made l = AreMaking l.client l.fn.config l.fn.rings l.config l.rings l._made l._made-end l.woken.bits
