use Rattle.std.proofs.Common.{sym, subst, ◌∙◌}
use Rattle.machine_explicit.specs.Machines.{IsMachine}
use Rattle.machine_explicit.proofs.Opening.{opened_is, opened_meets}
use Rattle.machine_explicit.proofs.config.Config.starting.Goals as goal

pub invariant_of-result : goal.invariant_of-result
invariant_of-result c =
    let rule = rw c.monitor.view_is at c.monitor.invariant in
    let idle = rw c.clients-clients.ensures.clients at c.in_ok-positions.ensures in
    let room = rw c.clients-clients.ensures.clients at c.all_blocks-room.ensures.blocks in (
      subst IsMachine
          (sym (opened_is c.args.monitor c.args.plan c.args.scripts c.start-state.result c.in_ok-commits.commits.items c.in_ok-positions.positions.items c.start-state.ensures.start c.in_ok-commits.ensures.items idle))
          (opened_meets c.args.monitor c.args.plan c.args.scripts rule c.clients-clients.ensures.rule c.requires.scripts c.requires.plan),
      c.in_ok-commits.ensures.exact ∙ room,
    )

pub returns : goal.returns
returns c =
    opened_is c.args.monitor c.args.plan c.args.scripts c.start-state.result c.in_ok-commits.commits.items c.in_ok-positions.positions.items c.start-state.ensures.start c.in_ok-commits.ensures.items
    (rw c.clients-clients.ensures.clients at c.in_ok-positions.ensures)
