use Rattle.std.proofs.Common.{arith, refl}
use Rattle.logic_solve.proofs.NotedLemmas.{one_more_fact}
use Rattle.logic_solve.proofs.MarkLemmas.{all_facts, looked_at_all, no_more, one_more_noted}
use Rattle.logic_solve.proofs.facts.catch_up.Goals as goal

pub loop-i-init : goal.loop-i-init
loop-i-init c = record { are = c.requires.facts.are; more = no_more c.args.facts.now }

pub loop-i-preserved : goal.loop-i-preserved
loop-i-preserved c = record {
  are = one_more_fact c.args.literals.now c.loop-i.i c.index-literals-i.result c.loop-i.facts.literals.items c.note.new.facts.literals.items c.loop-i.facts.numbers.items c.note.new.facts.numbers.items c.loop-i-test.true c.index-literals-i.is c.loop-i.invariant.are c.in_ok-note.ensures;
  more = one_more_noted c.args.facts.now c.loop-i.facts c.note.new.facts c.loop-i.i c.index-literals-i.result c.loop-i.invariant.more c.in_ok-note.ensures;
}

pub returns-clause-all : goal.returns-clause-all
returns-clause-all c = all_facts c.args.literals.now c.loop-i.facts c.loop-i.facts c.loop-i.i (omega arith) refl refl c.loop-i.invariant.are

pub returns-clause-facts : goal.returns-clause-facts
returns-clause-facts c = looked_at_all c.args.literals.now _ refl (all_facts c.args.literals.now c.loop-i.facts c.loop-i.facts c.loop-i.i (omega arith) refl refl c.loop-i.invariant.are)

pub returns-clause-more : goal.returns-clause-more
returns-clause-more c = record { literals = c.loop-i.invariant.more.literals; numbers = c.loop-i.invariant.more.numbers }
