use Rattle.logic_cert.proofs.BranchLemmas.{row_goes, row_shrinks, flag_goes, flag_shrinks, all_goes, all_shrinks, any_paused, any_stays}
use Rattle.logic_cert.proofs.acceptance.gather.Goals as goal

pub loop-formula-smaller-in_ok-push-in-Row : goal.loop-formula-smaller-in_ok-push-in-Row
loop-formula-smaller-in_ok-push-in-Row c = row_shrinks c.loop-formula.branch.todo.items c.pop.new.self.items c.in-Some.formula c.in-Row.form c.in-Some.ensures.items c.in-Row.is

pub loop-formula-preserved-in_ok-push-in-Row : goal.loop-formula-preserved-in_ok-push-in-Row
loop-formula-preserved-in_ok-push-in-Row c = record {
  same = row_goes _ c.loop-formula.branch.todo.items c.pop.new.self.items c.in-Some.formula c.in-Row.form c.in_ok-clone-in-Row.field-0 c.loop-formula.branch.literals.items c.push.new.self.items c.loop-formula.branch.cert.now
      c.loop-formula.invariant.same c.in-Some.ensures.items c.in-Row.is c.in_ok-clone-in-Row.ensures.cases c.in_ok-push-in-Row.ensures.items;
  cert = c.loop-formula.invariant.cert;
}

pub loop-formula-smaller-in_ok-push-in-Flag : goal.loop-formula-smaller-in_ok-push-in-Flag
loop-formula-smaller-in_ok-push-in-Flag c = flag_shrinks c.loop-formula.branch.todo.items c.pop.new.self.items c.in-Some.formula c.in-Flag.place c.in-Flag.is' c.in-Some.ensures.items c.in-Flag.is

pub loop-formula-preserved-in_ok-push-in-Flag : goal.loop-formula-preserved-in_ok-push-in-Flag
loop-formula-preserved-in_ok-push-in-Flag c = record {
  same = flag_goes _ c.loop-formula.branch.todo.items c.pop.new.self.items c.in-Some.formula c.in-Flag.place c.in-Flag.is' c.loop-formula.branch.literals.items c.push-in-Flag.new.self.items c.loop-formula.branch.cert.now
      c.loop-formula.invariant.same c.in-Some.ensures.items c.in-Flag.is c.in_ok-push-in-Flag.ensures.items;
  cert = c.loop-formula.invariant.cert;
}

pub loop-formula-smaller : goal.loop-formula-smaller
loop-formula-smaller c = all_shrinks c.loop-formula.branch.todo.items c.pop.new.self.items c.put_first.new.todo.items c.in-Some.formula c.in-All.parts c.items.result.now c.in-Some.ensures.items c.in-All.is c.items.ensures c.in_ok-put_first-in-All.ensures.weight

pub loop-formula-preserved : goal.loop-formula-preserved
loop-formula-preserved c = record {
  same = all_goes _ c.loop-formula.branch.todo.items c.pop.new.self.items c.put_first.new.todo.items c.in-Some.formula c.in-All.parts c.items.result.now c.loop-formula.branch.literals.items c.loop-formula.branch.cert.now
      c.loop-formula.invariant.same c.in-Some.ensures.items c.in-All.is c.items.ensures c.in_ok-put_first-in-All.ensures.order;
  cert = c.loop-formula.invariant.cert;
}

pub returns-in-Any : goal.returns-in-Any
returns-in-Any c = record {
  same = any_stays _ c.loop-formula.branch.todo.items c.pop.new.self.items c.push-in-Any.new.self.items c.in-Some.formula c.loop-formula.branch.literals.items c.loop-formula.branch.cert.now c.loop-formula.invariant.same c.in-Some.ensures.items c.in_ok-push-in-Any.ensures.items;
  cert = c.loop-formula.invariant.cert;
  paused = any_paused c.pop.new.self.items c.push-in-Any.new.self.items c.in-Some.formula c.in-Any.field-0 c.in_ok-push-in-Any.ensures.items c.in-Any.is;
}
