use Rattle.std.proofs.Common.{subst}
use Rattle.logic_solve.specs.Solutions.{IsSolution}
use Rattle.plan_why.proofs.Solved.{block_there, failed_at, unsolved}
use Rattle.plan_why.proofs.failing.solved.Goals as goal

pub returns-in-None : goal.returns-in-None
returns-in-None c =
    unsolved c.args.monitor.now c.args.query.now c.args.formula.now c.refuted_query_is_valid.ensures c.blocks-2.ensures.rule c.requires.block c.requires.formula (subst (IsSolution c.args.formula.now) c.in-None.is c.in_ok-solution.ensures)

pub returns-in_ok-after-in-Some : goal.returns-in_ok-after-in-Some
returns-in_ok-after-in-Some c =
    failed_at c.args.monitor.now c.args.query.now c.args.formula.now c.in-Some.before c.in_ok-after-in-Some.after c.index-blocks-query.result c.items.result.now c.negated_query_is_exact.ensures c.blocks-2.ensures.rule c.requires.block c.requires.formula
    (subst (IsSolution c.args.formula.now) c.in-Some.is c.in_ok-solution.ensures) (block_there c.args.monitor.now c.blocks-2.result.now c.args.query.now.block c.index-blocks-query.result c.blocks-2.ensures.blocks c.requires.block c.index-blocks-query.is) c.items.ensures
    c.in_ok-after-in-Some.ensures
