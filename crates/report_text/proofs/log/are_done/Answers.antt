use Rattle.std.proofs.Common.{◌≡◌, ◌∙◌, List, true, false, sym, subst, arith}
use Rattle.machine_implicit.specs.declared.script.Client.{Client}
use Rattle.machine_events.specs.Configurations.{situation_of}
use Rattle.report_text.specs.LogText.{are_done}
use Rattle.report_text.proofs.Finished.{one_left, one_more, all_done}
use Rattle.report_text.proofs.log.are_done.Goals as goal

pub returns-then-not-has_done : goal.returns-then-not-has_done
returns-then-not-has_done c =
    let places = (situation_of c.args.free.now.now).places in
    subst (λ (all : List Client). false ≡ are_done all places) (c.clients-clients.ensures.clients ∙ c.scripts.ensures.scripts)
    (one_left c.clients-clients.result.now places c.loop-client.client c.place.result.now (omega (arith, c.loop-client-test.true, c.count-client-end.ensures)) c.place.ensures (sym c.if-not-has_done.ensures))

pub loop-client-preserved : goal.loop-client-preserved
loop-client-preserved c =
    one_more c.clients-clients.result.now (situation_of c.args.free.now.now).places c.loop-client.client c.place.result.now (omega (arith, c.loop-client-test.true, c.count-client-end.ensures))
    c.place.ensures (sym c.if-not-has_done.ensures) c.loop-client.invariant

pub returns : goal.returns
returns c =
    let places = (situation_of c.args.free.now.now).places in
    subst (λ (all : List Client). true ≡ are_done all places) (c.clients-clients.ensures.clients ∙ c.scripts.ensures.scripts)
    (all_done c.clients-clients.result.now places c.loop-client.client (omega (arith, c.loop-client-test.false, c.count-client-end.ensures)) c.loop-client.invariant)
