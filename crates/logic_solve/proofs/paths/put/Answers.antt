use Rattle.std.proofs.Common.{◌∙◌}
use Rattle.logic_solve.proofs.PathLemmas.{put_new, put_there}
use Rattle.logic_solve.proofs.paths.put.Goals as goal

pub returns-in-Some : goal.returns-in-Some
returns-in-Some c = put_there c.args.reached.now.items c.deref.result.now c.args.new c.in-Some.at c.deref.ensures.value c.in-Some.ensures

pub returns : goal.returns
returns c = c.in_ok-push.ensures.items ∙ put_new c.args.reached.now.items c.deref.result.now c.args.new c.deref.ensures.value c.in_default.ensures
