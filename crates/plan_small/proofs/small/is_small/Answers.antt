use Rattle.std.proofs.Common.{ap, ◌∙◌}
use Rattle.std.specs.List.{list_all}
use Rattle.logic_wp.specs.PlainClaims.{is_simple_block}
use Rattle.plan_small.proofs.Smallness.{not_simple, plain_told, small_told}
use Rattle.plan_small.proofs.small.is_small.Goals as goal

pub returns-then-not-simple-clause-plain : goal.returns-then-not-simple-clause-plain
returns-then-not-simple-clause-plain c =
    not_simple c.args.monitor.now c.are_simple_blocks-simple.result (c.are_simple_blocks-simple.ensures ∙ ap (list_all is_simple_block) c.blocks-2.ensures.blocks) c.if-not-simple.true

pub returns-clause-plain : goal.returns-clause-plain
returns-clause-plain c =
    plain_told c.args.monitor.now c.are_simple_blocks-simple.result c.are_plain_blocks.result (c.are_simple_blocks-simple.ensures ∙ ap (list_all is_simple_block) c.blocks-2.ensures.blocks) c.if-not-simple.false c.are_plain_blocks.ensures

pub returns-clause-small : goal.returns-clause-small
returns-clause-small c =
    small_told c.args.monitor.now c.are_plain_blocks.result (c.plain_claims_are_not_hard.ensures c.args.monitor.now) (plain_told c.args.monitor.now c.are_simple_blocks-simple.result c.are_plain_blocks.result (c.are_simple_blocks-simple.ensures ∙ ap (list_all is_simple_block) c.blocks-2.ensures.blocks) c.if-not-simple.false c.are_plain_blocks.ensures)
