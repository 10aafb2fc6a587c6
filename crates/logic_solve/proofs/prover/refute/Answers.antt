use Rattle.std.proofs.Common.{refl}
use Rattle.logic_solve.proofs.MarkLemmas.{no_facts}
use Rattle.logic_solve.proofs.FormulaLemmas.{answered, answered_leanly}
use Rattle.logic_solve.proofs.prover.refute.Goals as goal

pub search-requires-clause-facts : goal.search-requires-clause-facts
search-requires-clause-facts c = no_facts c.new-literals.result.items c.new-facts.result c.new-literals.ensures.items c.new-facts.ensures.literals c.new-facts.ensures.numbers c.new-facts.ensures.looked

pub returns-clause-answer : goal.returns-clause-answer
returns-clause-answer c = answered c.args.formula.now _ c.new-literals.result.items _ c.in_ok-search.field-0 refl c.new-literals.ensures.items c.in_ok-search.ensures.found

pub returns-clause-lean : goal.returns-clause-lean
returns-clause-lean c = answered_leanly c.args.formula.now _ c.new-literals.result.items _ c.in_ok-search.field-0 refl c.new-literals.ensures.items c.in_ok-search.ensures.found
