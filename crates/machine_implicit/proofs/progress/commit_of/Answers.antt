use Rattle.std.proofs.Common.{arith}
use Rattle.std.proofs.lemmas.Option.{slice_get_within}
use Rattle.machine_implicit.proofs.Acting.{read_at, commit_follows}
use Rattle.machine_implicit.proofs.progress.commit_of.Goals as goal

pub overflow_add-call : goal.overflow_add-call
overflow_add-call c =
    let one = read_at c.args.monitor.now c.args.clients.now c.args.state.now c.args.places.now c.args.client c.index-places-client.result c.methods-methods.ensures.rule c.requires.clients c.requires.scripts c.requires.one_each c.requires.fits c.requires.can in
    let past = one.past in
    omega (arith, past)

pub overflow_add-block : goal.overflow_add-block
overflow_add-block c =
    let one = read_at c.args.monitor.now c.args.clients.now c.args.state.now c.args.places.now c.args.client c.index-places-client-2.result c.methods-methods.ensures.rule c.requires.clients c.requires.scripts c.requires.one_each c.requires.fits c.requires.can in
    let block = one.block in
    omega (arith, block)

pub bounds-places-client-5 : goal.bounds-places-client-5
bounds-places-client-5 c =
    let one = read_at c.args.monitor.now c.args.clients.now c.args.state.now c.args.places.now c.args.client c.index-places-client-2.result c.methods-methods.ensures.rule c.requires.clients c.requires.scripts c.requires.one_each c.requires.fits c.requires.can in
    slice_get_within c.args.places.now c.args.client _ one.at

pub make_step-reply-requires-clause-client : goal.make_step-reply-requires-clause-client
make_step-reply-requires-clause-client c = (read_at c.args.monitor.now c.args.clients.now c.args.state.now c.args.places.now c.args.client c.index-places-client-3.result c.methods-methods.ensures.rule c.requires.clients c.requires.scripts c.requires.one_each c.requires.fits c.requires.can).within

pub make_step-reply-requires-clause-few : goal.make_step-reply-requires-clause-few
make_step-reply-requires-clause-few c = (read_at c.args.monitor.now c.args.clients.now c.args.state.now c.args.places.now c.args.client c.index-places-client-3.result c.methods-methods.ensures.rule c.requires.clients c.requires.scripts c.requires.one_each c.requires.fits c.requires.can).past

pub make_step-reply-requires-clause-place : goal.make_step-reply-requires-clause-place
make_step-reply-requires-clause-place c = (read_at c.args.monitor.now c.args.clients.now c.args.state.now c.args.places.now c.args.client c.index-places-client-3.result c.methods-methods.ensures.rule c.requires.clients c.requires.scripts c.requires.one_each c.requires.fits c.requires.can).fits

pub make_step-reply-requires-clause-may : goal.make_step-reply-requires-clause-may
make_step-reply-requires-clause-may c = (read_at c.args.monitor.now c.args.clients.now c.args.state.now c.args.places.now c.args.client c.index-places-client-3.result c.methods-methods.ensures.rule c.requires.clients c.requires.scripts c.requires.one_each c.requires.fits c.requires.can).may

pub returns-clause-next : goal.returns-clause-next
returns-clause-next c =
    commit_follows c.args.monitor.now c.args.clients.now c.args.state.now c.make_step-reply.new.state c.args.places.now c.args.client
    c.index-places-client.result c.index-places-client-2.result c.index-places-client-3.result c.make_step-reply.new.place c.make_step-reply.result
    (read_at c.args.monitor.now c.args.clients.now c.args.state.now c.args.places.now c.args.client c.index-places-client-3.result c.methods-methods.ensures.rule c.requires.clients c.requires.scripts
    c.requires.one_each c.requires.fits c.requires.can) c.make_step-reply.ensures.step
