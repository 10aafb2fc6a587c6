use Rattle.logic_solve.proofs.elimination.eliminate_all.Goals as goal

pub loop-place-init : goal.loop-place-init
loop-place-init c = λ rows others sound. sound

pub loop-place-preserved : goal.loop-place-preserved
loop-place-preserved c = λ rows others sound. (rw c.in-Left.is at c.in_ok-eliminate.ensures.sound) rows others (c.loop-place.invariant rows others sound)
