use Rattle.logic_cert.proofs.BranchLemmas.{row_shrinks, flag_shrinks, all_goes, all_shrinks, any_paused, any_stays}
use Rattle.logic_outline.specs.inner.Branches.{met_literals}
use Rattle.logic_outline.proofs.BranchLemmas.{flag_met, row_met}
use Rattle.logic_outline.proofs.acceptance.gather.Goals as goal

pub loop-formula-smaller-in-Continue-1 : goal.loop-formula-smaller-in-Continue-1
loop-formula-smaller-in-Continue-1 c = row_shrinks c.loop-formula.branch.todo.items c.pop.new.self.items c.in-Some.formula c.in-Row.field-0 c.in-Some.ensures.items c.in-Row.is

pub loop-formula-preserved-in-Continue-1 : goal.loop-formula-preserved-in-Continue-1
loop-formula-preserved-in-Continue-1 c cert =
    row_met _ c.loop-formula.branch.todo.items c.pop.new.self.items c.loop-formula.branch.met.items c.push.new.self.items c.in-Some.formula c.in-Row.field-0 cert
    (c.loop-formula.invariant cert) c.in-Some.ensures.items c.in-Row.is c.in_ok-push-in-Row.ensures.items

pub loop-formula-smaller-in-Continue-branch-2 : goal.loop-formula-smaller-in-Continue-branch-2
loop-formula-smaller-in-Continue-branch-2 c = flag_shrinks c.loop-formula.branch.todo.items c.pop.new.self.items c.in-Some.formula c.in-Flag.place c.in-Flag.is' c.in-Some.ensures.items c.in-Flag.is

pub loop-formula-preserved-in-Continue-branch-2 : goal.loop-formula-preserved-in-Continue-branch-2
loop-formula-preserved-in-Continue-branch-2 c cert =
    flag_met _ c.loop-formula.branch.todo.items c.pop.new.self.items c.loop-formula.branch.met.items c.push-in-Flag.new.self.items c.in-Some.formula c.in-Flag.place c.in-Flag.is' cert
    (c.loop-formula.invariant cert) c.in-Some.ensures.items c.in-Flag.is c.in_ok-push-in-Flag.ensures.items

pub loop-formula-smaller : goal.loop-formula-smaller
loop-formula-smaller c = all_shrinks c.loop-formula.branch.todo.items c.pop.new.self.items c.put_first.new.todo.items c.in-Some.formula c.in-All.parts c.items.result.now c.in-Some.ensures.items c.in-All.is c.items.ensures c.in_ok-put_first-in-All.ensures.weight

pub loop-formula-preserved : goal.loop-formula-preserved
loop-formula-preserved c cert =
    all_goes _ c.loop-formula.branch.todo.items c.pop.new.self.items c.put_first.new.todo.items c.in-Some.formula c.in-All.parts c.items.result.now (met_literals c.loop-formula.branch.met.items) cert
    (c.loop-formula.invariant cert) c.in-Some.ensures.items c.in-All.is c.items.ensures c.in_ok-put_first-in-All.ensures.order

pub returns-in-Any : goal.returns-in-Any
returns-in-Any c = record {
  same = λ cert. any_stays _ c.loop-formula.branch.todo.items c.pop.new.self.items c.push-in-Any.new.self.items c.in-Some.formula (met_literals c.loop-formula.branch.met.items) cert (c.loop-formula.invariant cert) c.in-Some.ensures.items c.in_ok-push-in-Any.ensures.items;
  paused = any_paused c.pop.new.self.items c.push-in-Any.new.self.items c.in-Some.formula c.in-Any.field-0 c.in_ok-push-in-Any.ensures.items c.in-Any.is;
}
