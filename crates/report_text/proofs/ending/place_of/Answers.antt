use Rattle.std.proofs.Common.{arith}
use Rattle.std.proofs.lemmas.List.{length-map}
use Rattle.machine_events.specs.Configurations.{Standing}
use Rattle.report_text.proofs.Finished.{listed_at}
use Rattle.report_text.proofs.ending.place_of.Goals as goal

pub overflow_cast-client : goal.overflow_cast-client
overflow_cast-client c =
    let standings = c.args.free.now.now.standings in
    omega (arith, c.requires, length-map standings (λ (standing : Standing). standing.place), c.log-log.ensures.always.sound.one_each, c.log-log.ensures.always.rule.clients.few)

pub place-requires : goal.place-requires
place-requires c =
    let standings = c.args.free.now.now.standings in
    omega (arith, c.requires, length-map standings (λ (standing : Standing). standing.place), c.log-log.ensures.always.sound.one_each)

pub returns : goal.returns
returns c = listed_at c.args.free.now.now.standings c.args.client c.place.result.now c.place.ensures.place
