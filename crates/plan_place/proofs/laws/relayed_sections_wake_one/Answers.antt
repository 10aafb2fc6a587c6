use Rattle.plan_place.proofs.RelayedWakes.{section_wakes_one}
use Rattle.plan_place.proofs.laws.relayed_sections_wake_one.Goals as goal

pub returns : goal.returns
returns c = λ monitor plan clients log before next entry condition fits reads legal section.
    section_wakes_one monitor plan clients log before next entry condition reads section
