use Rattle.base_io.proofs.Writing.{wrote_both, wrote_same}
use Rattle.emit_bodies.proofs.TakenTexts.{inputs_says}
use Rattle.emit_bodies.proofs.blocks.write_all_inputs.Goals as goal

pub returns : goal.returns
returns g c =
    wrote_same _ (inputs_says c.args.method.now c.args.reach _ _ c.items.ensures c.items-2.ensures) (wrote_both c.in_ok-write_parameters.ensures c.write_locals.ensures)
