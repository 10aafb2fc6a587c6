use Rattle.std.proofs.Common.{ap}
use Rattle.base_io.proofs.Writing.{wrote_same}
use Rattle.emit_method.specs.Methods.{local_line}
use Rattle.std.specs.List.{flat_map}
use Rattle.emit_method.proofs.methods.write_own_locals.Goals as goal

pub returns : goal.returns
returns g c =
    wrote_same _ (ap (flat_map (local_line c.args.it.now.method.now)) c.items.ensures) c.write_locals.ensures
