use Rattle.std.proofs.Common.{length, ap, sym, refl, ◌∙◌, arith}
use Rattle.machine_implicit.specs.declared.place.Place.{Place}
use Rattle.machine_events.specs.declared.event.Stage.TheVariants.{Inside}
use Rattle.machine_explicit.proofs.Starting.{started_when, started_inside}
use Rattle.machine_explicit.proofs.MakingEvents.{place_small}
use Rattle.machine_explicit.proofs.Sectioned.{started_lines, section_told, place_read}
use Rattle.machine_explicit.proofs.sectioning.make_section.Goals as goal

pub place-place-requires : goal.place-place-requires
place-place-requires c =
    let started = started_when c.args.config.now c.start.new.self c.args.client c.start.result (sym c.is_err.ensures.value ∙ c.if-is_err.false) c.start.ensures in
    omega (arith, c.requires.within, ap (λ system. length system.clients) started.0)

pub overflow_add-call : goal.overflow_add-call
overflow_add-call c =
    let started = started_when c.args.config.now c.start.new.self c.args.client c.start.result (sym c.is_err.ensures.value ∙ c.if-is_err.false) c.start.ensures in
    let inside = started_inside c.args.config.now c.start.new.self c.args.client started in
    let same = place_read c.start.new.self.now.standings c.args.client inside.0 c.place-place.result.now Inside inside.1 c.place-place.ensures.place in
    let small = place_small c.start.new.self c.args.client inside.0 Inside c.place-place.ensures.rule inside.1 refl in
    omega (arith, small.past, ap (λ (place : Place). place.past) same)

pub overflow_add-block : goal.overflow_add-block
overflow_add-block c =
    let started = started_when c.args.config.now c.start.new.self c.args.client c.start.result (sym c.is_err.ensures.value ∙ c.if-is_err.false) c.start.ensures in
    let inside = started_inside c.args.config.now c.start.new.self c.args.client started in
    let same = place_read c.start.new.self.now.standings c.args.client inside.0 c.place-place.result.now Inside inside.1 c.place-place.ensures.place in
    let small = place_small c.start.new.self c.args.client inside.0 Inside c.place-place.ensures.rule inside.1 refl in
    omega (arith, small.block, ap (λ (place : Place). place.block) same)

pub go_on-outcome-requires-clause-inside : goal.go_on-outcome-requires-clause-inside
go_on-outcome-requires-clause-inside c =
    let started = started_when c.args.config.now c.start.new.self c.args.client c.start.result (sym c.is_err.ensures.value ∙ c.if-is_err.false) c.start.ensures in
    started_inside c.args.config.now c.start.new.self c.args.client started

pub go_on-outcome-requires-clause-lines : goal.go_on-outcome-requires-clause-lines
go_on-outcome-requires-clause-lines c =
    let started = started_when c.args.config.now c.start.new.self c.args.client c.start.result (sym c.is_err.ensures.value ∙ c.if-is_err.false) c.start.ensures in
    (c.requires.lines.0, started_lines c.args.client c.args.config.now c.start.new.self c.args.rings.now started c.requires.lines.0 c.requires.lines.1)

pub returns : goal.returns
returns c =
    let started = started_when c.args.config.now c.start.new.self c.args.client c.start.result (sym c.is_err.ensures.value ∙ c.if-is_err.false) c.start.ensures in
    section_told c.args.client c.place-place.result.now c.args.config.now c.start.new.self c.go_on-outcome.new.config c.args.rings.now c.go_on-outcome.new.rings c.go_on-outcome.result c.requires.settled
    started c.place-place.ensures.place c.go_on-outcome.ensures
