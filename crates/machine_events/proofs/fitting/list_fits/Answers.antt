use Rattle.machine_events.proofs.fitting.list_fits.Goals as goal

pub returns : goal.returns
returns c =
    let told = rw c.notes.ensures.notes at c.notes_fit.ensures in
    (λ held. record { rising = c.notes.ensures.rule; each = told.0 held }, λ fits. told.1 fits.each)
