use Rattle.std.proofs.Common.{arith, drop, rules, ◌∙◌}
use Rattle.logic_outline.proofs.BranchLemmas.{all_gone, first_follows, no_branch, none_left, rows_there, step_there}
use Rattle.logic_outline.proofs.acceptance.follow_each.Goals as goal

pub loop-i-init : goal.loop-i-init
loop-i-init c cert is =
    first_follows c.args.formula.now cert c.args.nodes.now c.new-branches.result.items c.push.new.self.items c.in_ok-first_branch.field-0 is c.new-branches.ensures.items c.in_ok-push.ensures.items c.in_ok-first_branch.ensures

pub returns-then-not-branch : goal.returns-then-not-branch
returns-then-not-branch c cert is =
    (step_there c.args.formula.now cert c.args.nodes.now c.loop-i.i c.index-nodes-i.result c.loop-i.branches.items c.pop.new.self.items c.follow.new.branches.items c.in-Some.branch c.in_ok-follow.field-0
    c.loop-i-test.true c.index-nodes-i.is c.in-Some.ensures.items c.in_ok-follow.ensures (c.loop-i.invariant cert is)).fails c.if-not-branch.true

pub loop-i-preserved : goal.loop-i-preserved
loop-i-preserved c cert is =
    (step_there c.args.formula.now cert c.args.nodes.now c.loop-i.i c.index-nodes-i.result c.loop-i.branches.items c.pop.new.self.items c.follow.new.branches.items c.in-Some.branch c.in_ok-follow.field-0
    c.loop-i-test.true c.index-nodes-i.is c.in-Some.ensures.items c.in_ok-follow.ensures (c.loop-i.invariant cert is)).goes c.if-not-branch.false

pub returns : goal.returns
returns c cert is =
    none_left c.args.formula.now cert (drop c.loop-i.i c.args.nodes.now) c.loop-i.branches.items (all_gone c.args.nodes.now c.loop-i.i (omega (arith, c.loop-i-test.false))) (c.loop-i.invariant cert is)

pub returns-in_default : goal.returns-in_default
returns-in_default c cert is = absurd (no_branch c.args.formula.now cert c.args.nodes.now c.loop-i.i c.loop-i.branches.items c.loop-i-test.true (search rules) (c.loop-i.invariant cert is))

pub follow-requires : goal.follow-requires
follow-requires c = c.items.ensures ∙ rows_there c.args.nodes.now c.args.rows.now c.loop-i.i c.index-nodes-i.result c.index-rows-i.result c.requires c.loop-i-test.true c.index-nodes-i.is c.index-rows-i.is
