use Rattle.std.proofs.Common.{◌≡◌, take}
use Rattle.std.specs.List.{flat_map}
use Rattle.lang_base.specs.SourceFaults.{least}
use Rattle.lang_rules.specs.Rules.{block_faults}
use Rattle.lang_rules.proofs.blocks.fault_in_blocks.Given as goal

abbrev pub invariant-loop-block : goal.invariant-loop-block
invariant-loop-block l = l.fault ≡ least (flat_map (block_faults l.scope) (take l.block-index l.blocks))
