use Rattle.machine_explicit.proofs.Waiters.{notes_counted}
use Rattle.machine_explicit.proofs.config.Config.notes_left.Goals as goal

pub returns : goal.returns
returns c =
    let i = c.self.inside in
    rw (← c.self.view_is) (notes_counted i.plan i.positions.items c.args.client c.count_notes.result (rw c.deref.ensures.value at c.count_notes.ensures))
