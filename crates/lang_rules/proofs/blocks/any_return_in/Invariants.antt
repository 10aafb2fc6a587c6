use Rattle.std.proofs.Common.{◌≡◌, List, take}
use Rattle.std.specs.List.{flat_map}
use Rattle.lang_forms.specs.declared.scope.Entry.{Entry}
use Rattle.lang_base.specs.SourceFaults.{least}
use Rattle.lang_rules.specs.Rules.{return_faults}
use Rattle.lang_rules.proofs.blocks.any_return_in.Given as goal

abbrev pub invariant-loop-block : goal.invariant-loop-block
invariant-loop-block l = (scope : List Entry) → l.fault ≡ least (flat_map (λ block. return_faults scope block.body) (take l.block-index l.blocks))
