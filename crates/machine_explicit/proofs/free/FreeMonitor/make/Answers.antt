use Rattle.std.proofs.Common.{◌<◌, length, ap, ◌∙◌, arith}
use Rattle.machine_explicit.specs.Sections.{FreeMachine}
use Rattle.machine_explicit.proofs.Logging.{sound_of, not_made_told, sectioned_kept, section_room}
use Rattle.machine_explicit.proofs.free.FreeMonitor.make.Goals as goal

pub make_section-requires-clause-lines : goal.make_section-requires-clause-lines
make_section-requires-clause-lines c = (c.self.invariant.since, c.self.invariant.lines)

pub returns-in_default : goal.returns-in_default
returns-in_default c =
    let i = c.self.inside in
    let rule = c.self.invariant.always.rule in
    let within : c.args.client < length i.config.system.clients = omega (arith, c.requires, ap (λ (m : FreeMachine). length m.system.clients) c.self.view_is) in
    rw (← c.self.view_is) (not_made_told i.config i.log.items i.extra c.args.client c.len-place.result c.make_section.new.config
    (sound_of i.config.system i.log.items i.config.now rule.is rule.legal) (record { free = rule.free; none_enters = c.self.invariant.settled }) within (c.len-place.ensures ∙ i.log.ok.0) c.in_default.ensures.0)

pub push_reserved-requires : goal.push_reserved-requires
push_reserved-requires c =
    let i = c.self.inside in
    let within : c.args.client < length i.config.system.clients = omega (arith, c.requires, ap (λ (m : FreeMachine). length m.system.clients) c.self.view_is) in
    omega (arith, i.log.ok.0, section_room i.config i.log.items i.extra i.log.cap c.args.client i.rings i.spurious c.make_section.new.config c.make_section.new.rings c.in-Some.entry c.self.invariant within c.in-Some.ensures)

pub invariant_of-self-2 : goal.invariant_of-self-2
invariant_of-self-2 c =
    let i = c.self.inside in
    let within : c.args.client < length i.config.system.clients = omega (arith, c.requires, ap (λ (m : FreeMachine). length m.system.clients) c.self.view_is) in
    rw (c.push_reserved.ensures.items, c.push_reserved.ensures.capacity)
    (sectioned_kept i.config i.log.items i.extra i.log.cap c.args.client i.rings i.spurious c.make_section.new.config c.make_section.new.rings c.in-Some.entry c.self.invariant within c.in-Some.ensures)
