use Rattle.std.proofs.Common.{ap, ◌∙◌}
use Rattle.logic_outline.specs.inner.Branches.{rows_of}
use Rattle.logic_outline.proofs.BranchLemmas.{at_node, followed_cases, followed_end, followed_split}
use Rattle.logic_outline.proofs.acceptance.follow.Goals as goal

pub returns-in-End : goal.returns-in-End
returns-in-End c =
    at_node c.args.branch c.args.node.now _ c.args.branches.now.items c.args.branches.now.items c.closes.result c.in-End.is
    (followed_end c.args.branch c.gather.new.branch c.in-End.cert c.deref.result.now c.args.branches.now.items c.closes.result c.in_ok-gather.ensures c.deref.ensures.value c.closes.ensures)

pub returns-in-Parts : goal.returns-in-Parts
returns-in-Parts c =
    at_node c.args.branch c.args.node.now _ c.args.branches.now.items c.split_any.new.branches.items c.split_any.result c.in-Parts.is
    (followed_split c.args.branch c.gather.new.branch c.in-Parts.count c.args.branches.now.items c.split_any.new.branches.items c.split_any.result c.in_ok-gather.ensures c.split_any.ensures)

pub returns-in-Sides : goal.returns-in-Sides
returns-in-Sides c =
    at_node c.args.branch c.args.node.now _ c.args.branches.now.items c.split.new.branches.items c.split.result c.in-Sides.is
    (followed_cases c.args.branch c.gather.new.branch c.in-Sides.field-0 c.args.rows.now c.args.branches.now.items c.split.new.branches.items c.split.result c.in_ok-gather.ensures (c.requires ∙ ap rows_of c.in-Sides.is) c.split.ensures)
