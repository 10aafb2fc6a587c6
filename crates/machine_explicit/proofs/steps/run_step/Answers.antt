use Rattle.std.proofs.Common.{ap, arith}
use Rattle.machine_events.specs.declared.event.Stage.TheVariants.{Notifying}
use Rattle.machine_explicit.proofs.Counting.{call_number_small}
use Rattle.machine_explicit.proofs.Stepping.{read_call, call_fits_here, block_within, has_run}
use Rattle.machine_explicit.proofs.steps.run_step.Goals as goal

pub overflow_add-commit : goal.overflow_add-commit
overflow_add-commit c =
    let monitor = c.args.monitor.now in
    let clients = c.args.clients.now in
    let place = c.args.position.now.place in
    let call = c.index-items-place.result in
    let at = read_call monitor clients c.args.state.now c.args.client place c.index-clients-client.result c.items.result.now call c.requires.client c.items.ensures c.requires.guard c.index-items-place.is in
    omega (arith, call_number_small clients c.args.client place.past call c.requires.clients at)

pub go_to_next-requires-clause-call : goal.go_to_next-requires-clause-call
go_to_next-requires-clause-call c =
    let monitor = c.args.monitor.now in
    let clients = c.args.clients.now in
    let place = c.args.position.now.place in
    let call = c.index-items-place.result in
    let at = read_call monitor clients c.args.state.now c.args.client place c.index-clients-client.result c.items.result.now call c.requires.client c.items.ensures c.requires.guard c.index-items-place.is in
    call_fits_here monitor clients c.args.client place call c.requires.scripts at

pub go_to_next-requires-clause-past : goal.go_to_next-requires-clause-past
go_to_next-requires-clause-past c =
    let monitor = c.args.monitor.now in
    let clients = c.args.clients.now in
    let place = c.args.position.now.place in
    let call = c.index-items-place.result in
    let at = read_call monitor clients c.args.state.now c.args.client place c.index-clients-client.result c.items.result.now call c.requires.client c.items.ensures c.requires.guard c.index-items-place.is in
    call_number_small clients c.args.client place.past call c.requires.clients at

pub to_come_after-requires : goal.to_come_after-requires
to_come_after-requires c = block_within c.args.monitor.now c.block_number-block.result _ c.block_number-block.ensures.fits

pub returns : goal.returns
returns c =
    let monitor = c.args.monitor.now in
    let clients = c.args.clients.now in
    let place = c.args.position.now.place in
    let call = c.index-items-place.result in
    let at = read_call monitor clients c.args.state.now c.args.client place c.index-clients-client.result c.items.result.now call c.requires.client c.items.ensures c.requires.guard c.index-items-place.is in
    has_run monitor clients c.args.client c.args.position.now (record { place = c.go_to_next.new.place; stage = Notifying c.to_come_after.result }) call c.block_number-block.result c.args.state.now c.run_block-reply.new.state
    c.items-2.result.now c.run_block-reply.new.locals c.run_block-reply.result at c.block_number-block.ensures.number c.items-2.ensures c.run_block-reply.ensures.step c.go_to_next.ensures (ap Notifying c.to_come_after.ensures)
