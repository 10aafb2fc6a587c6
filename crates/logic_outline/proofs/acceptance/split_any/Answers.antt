use Rattle.std.proofs.Common.{refl, rules}
use Rattle.logic_cert.proofs.BranchLemmas.{not_paused}
use Rattle.logic_outline.proofs.BranchLemmas.{no_split_so, split_so}
use Rattle.logic_outline.proofs.acceptance.split_any.Goals as goal

pub returns-in-None : goal.returns-in-None
returns-in-None c = no_split_so c.args.branch c.args.count (search rules)

pub returns-in-None-parts_of : goal.returns-in-None-parts_of
returns-in-None-parts_of c = absurd (not_paused c.args.branch.todo.items c.pop.new.self.items c.in-Some.any c.in-Some.ensures.items c.in-None-parts_of.ensures c.requires)

pub returns : goal.returns
returns c =
    split_so c.args.branch (record { todo = c.pop.new.self; met = c.args.branch.met }) c.in-Some.any c.in-Some-parts_of.parts.now c.args.count c.args.branches.now.items c.split.new.branches.items c.split.result
    c.in-Some.ensures.items c.in-Some-parts_of.ensures refl c.split.ensures
