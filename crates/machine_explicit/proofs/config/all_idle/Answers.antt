use Rattle.std.proofs.Common.{List, [], ◌∷◌, ◌++◌, map, take, sym, ap, ◌∙◌}
use Rattle.std.proofs.lemmas.List.{map-append}
use Rattle.machine_implicit.specs.declared.place.Place.{Place}
use Rattle.machine_implicit.specs.Runs.{first_places}
use Rattle.machine_implicit.proofs.Acting.{first_more}
use Rattle.machine_explicit.specs.declared.position.Position.{Position}
use Rattle.machine_explicit.specs.inner.Positions.{idle_position}
use Rattle.machine_explicit.proofs.config.all_idle.Goals as goal

pub loop-client-preserved : goal.loop-client-preserved
loop-client-preserved c =
    let monitor = c.args.monitor.now in
    let clients = c.args.clients.now in
    let so_far = first_places monitor clients 0 (take c.loop-client.client clients) in
    c.in_ok-push.ensures.items
    ∙ ap (λ (positions : List Position). positions ++ idle_position c.place_at_start.result ∷ []) c.loop-client.invariant
    ∙ ap (λ (place : Place). map idle_position so_far ++ idle_position place ∷ []) c.place_at_start.ensures
    ∙ sym (map-append idle_position so_far _)
    ∙ ap (map idle_position) (sym (first_more monitor clients c.loop-client.client c.loop-client-test.true))
