use Rattle.std.proofs.Common.{List, [], ◌∷◌, ◌++◌, take, sym, ap, ◌∙◌}
use Rattle.machine_implicit.specs.declared.place.Place.{Place}
use Rattle.machine_implicit.specs.Runs.{first_places}
use Rattle.machine_implicit.proofs.Acting.{first_more}
use Rattle.machine_implicit.proofs.progress.places_at_start.Goals as goal

pub loop-client-preserved : goal.loop-client-preserved
loop-client-preserved c =
    let monitor = c.args.monitor.now in
    let clients = c.args.clients.now in
    c.in_ok-push.ensures.items ∙ ap (λ (places : List Place). places ++ c.place_at_start.result ∷ []) c.loop-client.invariant
    ∙ ap (λ (place : Place). first_places monitor clients 0 (take c.loop-client.client clients) ++ place ∷ []) c.place_at_start.ensures
    ∙ sym (first_more monitor clients c.loop-client.client c.loop-client-test.true)
