use Rattle.machine_stress.proofs.BufferRules.{made_buffer}
use Rattle.machine_stress.proofs.buffer.buffer.Goals as goal

pub of-requires : goal.of-requires
of-requires c =
    made_buffer c.args.capacity _ _ _ _ _ c.requires c.in_ok-name.ensures c.in_ok-fields.ensures c.in_ok-methods.ensures c.in_ok-blocks.ensures c.in_ok-conditions.ensures
