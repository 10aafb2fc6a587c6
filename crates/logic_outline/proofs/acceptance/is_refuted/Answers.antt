use Rattle.logic_outline.proofs.BranchLemmas.{refuted_so}
use Rattle.logic_outline.proofs.acceptance.is_refuted.Goals as goal

pub returns : goal.returns
returns c = refuted_so c.args.formula.now c.args.outline.now c.follow_all.result (c.follow_all.ensures c.args.outline.now c.nodes.ensures)
