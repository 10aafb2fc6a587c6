use Rattle.base_io.proofs.Writing.{wrote_same}
use Rattle.emit_bodies.proofs.TakenTexts.{local_says}
use Rattle.emit_bodies.proofs.blocks.write_local.Goals as goal

pub returns : goal.returns
returns g c =
    wrote_same _ (local_says c.args.method.now c.args.reach c.args.local.now _ _ _ c.name.ensures c.kind_declared-kind.ensures c.lending_bytes.ensures) c.write_taken.ensures
