use Rattle.std.proofs.Common.{refl}
use Rattle.machine_implicit.proofs.Progressing.{progress_begun}
use Rattle.machine_implicit.proofs.progress.begun.Goals as goal

pub returns : goal.returns
returns c =
    progress_begun c.args.monitor.now c.args.clients.now _ c.methods-methods.ensures.rule c.requires c.new.ensures.items c.in_ok-places_at_start.ensures refl c.start.ensures.start
