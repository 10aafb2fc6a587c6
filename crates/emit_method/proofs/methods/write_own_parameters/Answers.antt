use Rattle.std.proofs.Common.{ap}
use Rattle.emit_bodies.specs.Blocks.{parameter_text}
use Rattle.base_io.proofs.Writing.{wrote_same}
use Rattle.std.specs.List.{flat_map}
use Rattle.emit_method.proofs.methods.write_own_parameters.Goals as goal

pub returns : goal.returns
returns g c =
    wrote_same _ (ap (flat_map (parameter_text c.args.it.now.method.now)) c.items.ensures) c.write_parameters.ensures
