use Rattle.std.proofs.Common.{length, Some, ap, sym, refl, ◌∙◌}
use Rattle.std.proofs.lemmas.Option.{none-some, slice_get_read, slice_get_past}
use Rattle.machine_events.specs.declared.event.Stage.{Stage}
use Rattle.machine_events.specs.declared.event.Stage.TheVariants.{Notifying}
use Rattle.machine_explicit.specs.declared.position.ToCome.{ToCome}
use Rattle.machine_explicit.specs.inner.Positions.{coming_notes}
use Rattle.machine_explicit.proofs.MakingEvents.{none_left, some_left}
use Rattle.machine_explicit.proofs.MakingNotes.{same_coming, not_notifying}
use Rattle.machine_explicit.proofs.notes.finished.Goals as goal

pub returns-then-count-eq0 : goal.returns-then-count-eq0
returns-then-count-eq0 c =
    let found = slice_get_read c.args.positions.now (length c.args.positions.now) c.args.client c.in-Some.one.now refl c.in-Some.ensures.lookup.3.0 c.in-Some.ensures.lookup.1 in record {
      to_come = c.in-Notifying.to_come;
      at = found ∙ ap (λ (kept : Stage ToCome). Some (record { place = c.in-Some.one.now.place; stage = kept })) c.in-Notifying.is;
      none = none_left (coming_notes c.args.plan.now c.in-Notifying.to_come) (sym c.count.ensures ∙ c.if-count-eq0.true);
    }

pub returns-else-count-eq0 : goal.returns-else-count-eq0
returns-else-count-eq0 c place done =
    let same = same_coming c.args.positions.now c.args.client c.in-Some.one.now c.in-Notifying.to_come done.to_come place c.in-Some.ensures.lookup.3.0 c.in-Some.ensures.lookup.1 c.in-Notifying.is done.at in
    some_left (coming_notes c.args.plan.now c.in-Notifying.to_come) (λ none. c.if-count-eq0.false (c.count.ensures ∙ none)) (sym (ap (coming_notes c.args.plan.now) same) ∙ done.none)

pub returns-in_default : goal.returns-in_default
returns-in_default c place done =
    not_notifying c.args.positions.now c.args.client c.in-Some.one.now done.to_come place c.in-Some.ensures.lookup.3.0 c.in-Some.ensures.lookup.1 (λ to_come is. c.in_default.not-Notifying to_come is) done.at

pub returns-in-None : goal.returns-in-None
returns-in-None c place done = none-some (record { place = place; stage = Notifying done.to_come }) (sym (slice_get_past c.args.positions.now c.args.client c.in-None.ensures.lookup.3) ∙ done.at)
