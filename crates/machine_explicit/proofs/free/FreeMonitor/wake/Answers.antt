use Rattle.std.proofs.Common.{◌<◌, length, ap, sym, refl, ◌∙◌, arith}
use Rattle.machine_events.specs.declared.event.Event.TheVariants as events
use Rattle.machine_events.specs.declared.event.Stage.TheVariants.{Waiting}
use Rattle.machine_implicit.specs.declared.place.Place.{Place}
use Rattle.machine_explicit.specs.Sections.{FreeMachine}
use Rattle.machine_explicit.proofs.MakingEvents.{place_small}
use Rattle.machine_explicit.proofs.Sectioned.{place_read}
use Rattle.machine_explicit.proofs.Starting.{refused_when, happened_when}
use Rattle.machine_explicit.proofs.Logging.{stage_tells, stage_denies, can_wake}
use Rattle.machine_explicit.proofs.Logging.{woken_kept, woken_room}
use Rattle.machine_explicit.proofs.free.FreeMonitor.wake.Goals as goal

pub returns-in_default : goal.returns-in_default
returns-in_default c =
    let i = c.self.inside in
    rw (← c.self.view_is) (record {
      why = (c.len-entries.ensures ∙ i.log.ok.0, λ waits. stage_denies i.config.now.standings c.args.client c.stage.result c.stage.ensures.stage (sym c.waited.ensures ∙ c.in_default.is) waits.0 waits.1 waits.2);
      same = refl;
    })

pub returns-then-self : goal.returns-then-self
returns-then-self c =
    let i = c.self.inside in
    let waits = stage_tells i.config.now.standings c.args.client c.in-Some.condition c.stage.result c.stage.ensures.stage (sym c.in-Some.ensures) in
    rw (← c.self.view_is) (record { why = (omega (arith, c.if-self.true, c.self.invariant.counted, c.self.invariant.always.rule.spurious), (waits.0, c.in-Some.condition, waits.1)); same = refl })

pub overflow_add-call : goal.overflow_add-call
overflow_add-call c =
    let i = c.self.inside in
    let waits = stage_tells i.config.now.standings c.args.client c.in-Some.condition c.stage.result c.stage.ensures.stage (sym c.in-Some.ensures) in
    let same = place_read i.config.now.standings c.args.client waits.0 c.place-place.result.now (Waiting c.in-Some.condition) waits.1 c.place-place.ensures.place in
    let small = place_small i.config c.args.client waits.0 (Waiting c.in-Some.condition) c.place-place.ensures.rule waits.1 refl in
    omega (arith, small.past, ap (λ (place : Place). place.past) same)

pub overflow_add-block : goal.overflow_add-block
overflow_add-block c =
    let i = c.self.inside in
    let waits = stage_tells i.config.now.standings c.args.client c.in-Some.condition c.stage.result c.stage.ensures.stage (sym c.in-Some.ensures) in
    let same = place_read i.config.now.standings c.args.client waits.0 c.place-place.result.now (Waiting c.in-Some.condition) waits.1 c.place-place.ensures.place in
    let small = place_small i.config c.args.client waits.0 (Waiting c.in-Some.condition) c.place-place.ensures.rule waits.1 refl in
    omega (arith, small.block, ap (λ (place : Place). place.block) same)

pub unreachable-requires : goal.unreachable-requires
unreachable-requires c =
    let i = c.self.inside in
    let waits = stage_tells i.config.now.standings c.args.client c.in-Some.condition c.stage.result c.stage.ensures.stage (sym c.in-Some.ensures) in
    can_wake i.config c.args.client c.in-Some.condition waits (refused_when (events.Spurious c.args.client) i.config c.spurious.new.self c.spurious.result (sym c.is_err.ensures.value ∙ c.if-is_err.true) c.spurious.ensures)

pub push_reserved-requires : goal.push_reserved-requires
push_reserved-requires c =
    let i = c.self.inside in
    let within : c.args.client < length i.config.system.clients = omega (arith, c.requires, ap (λ (m : FreeMachine). length m.system.clients) c.self.view_is) in
    let waits = stage_tells i.config.now.standings c.args.client c.in-Some.condition c.stage.result c.stage.ensures.stage (sym c.in-Some.ensures) in
    let happened = happened_when (events.Spurious c.args.client) i.config c.spurious.new.self c.spurious.result (sym c.is_err.ensures.value ∙ c.if-is_err.false) c.spurious.ensures in
    omega (
      arith,
      i.log.ok.0,
      woken_room i.config i.log.items i.extra i.log.cap c.args.client c.place-place.result.now c.in-Some.condition i.rings i.spurious c.spurious.new.self c.self.invariant c.if-self.false waits c.place-place.ensures.place within happened,
    )

pub invariant_of-self : goal.invariant_of-self
invariant_of-self c =
    let i = c.self.inside in
    let within : c.args.client < length i.config.system.clients = omega (arith, c.requires, ap (λ (m : FreeMachine). length m.system.clients) c.self.view_is) in
    let waits = stage_tells i.config.now.standings c.args.client c.in-Some.condition c.stage.result c.stage.ensures.stage (sym c.in-Some.ensures) in
    let happened = happened_when (events.Spurious c.args.client) i.config c.spurious.new.self c.spurious.result (sym c.is_err.ensures.value ∙ c.if-is_err.false) c.spurious.ensures in
    rw (c.push_reserved.ensures.items, c.push_reserved.ensures.capacity, c.remove.ensures)
    (woken_kept i.config i.log.items i.extra i.log.cap c.args.client c.place-place.result.now c.in-Some.condition i.rings i.spurious c.spurious.new.self c.self.invariant c.if-self.false waits c.place-place.ensures.place within happened)
