use Rattle.logic_cert.proofs.BranchLemmas.{follow_shrinks}
use Rattle.logic_cert.proofs.acceptance.follow_all.Goals as goal

pub loop-branch-smaller : goal.loop-branch-smaller
loop-branch-smaller c = follow_shrinks c.loop-branch.branches c.pop.new.self c.follow.new.branches c.in-Some.branch c.in_ok-follow.field-0 c.in-Some.ensures.items c.if-not-branch.false c.in_ok-follow.ensures.less
