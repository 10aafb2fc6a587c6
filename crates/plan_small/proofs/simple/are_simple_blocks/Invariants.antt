use Rattle.std.proofs.Common.{◌≡◌, take, true}
use Rattle.std.specs.List.{list_all}
use Rattle.logic_wp.specs.PlainClaims.{is_simple_block}
use Rattle.plan_small.proofs.simple.are_simple_blocks.Given as goal

abbrev pub invariant-loop-block : goal.invariant-loop-block
invariant-loop-block l = list_all is_simple_block (take l.block-index l.blocks) ≡ true
