use Rattle.std.proofs.Common.{arith, rules}
use Rattle.lang_monitor.specs.declared.monitor.Stmt.TheViews.{the_lemmas}
use Rattle.logic_linear.proofs.LinearLemmas.{mapped_at}
use Rattle.logic_wp.specs.inner.Negatable.{negates_statement}
use Rattle.logic_wp.proofs.pathing.+paths.Goals as goal

pub paths_of_body-paths_of_statement-requires : goal.paths_of_body-paths_of_statement-requires
paths_of_body-paths_of_statement-requires t c = (search (rules, the_lemmas), rw c.index-body-left.is (mapped_at negates_statement c.args.body.now _ c.index-body-left.result (omega (arith, c.loop-left-test.true, c.loop-left.invariant.within)) c.requires))
