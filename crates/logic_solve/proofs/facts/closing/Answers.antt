use Rattle.logic_solve.proofs.MarkLemmas.{no_more}
use Rattle.logic_solve.proofs.facts.closing.Goals as goal

pub returns-then-count-le-FEW_LITERALS-clause-more : goal.returns-then-count-le-FEW_LITERALS-clause-more
returns-then-count-le-FEW_LITERALS-clause-more c = no_more c.args.facts.now
