use Rattle.std.proofs.Common.{rules, ◌<◌, length}
use Rattle.threads_lock.proofs.Ending.{is_closed, has_ended}
use Rattle.threads_call.proofs.callers.end.Goals as goal

pub returns-clause-closed : goal.returns-clause-closed
returns-clause-closed c =
    let some : 0 < length c.args.callers.items = search rules in
    is_closed c.close-last.result c.args.callers.items some c.requires.closed c.close-last.ensures.covers

pub returns-clause-ends : goal.returns-clause-ends
returns-clause-ends c =
    let some : 0 < length c.args.callers.items = search rules in
    has_ended c.close-last.result c.args.callers.items c.closed-closed.result some c.requires.closed c.close-last.ensures.covers c.closed-closed.ensures.closed c.closed-closed.ensures.ends
