use Rattle.machine_events.proofs.Sound.{event_keeps_sound}
use Rattle.machine_events.proofs.Notified.{event_keeps_covered}
use Rattle.machine_events.proofs.Counting.{counting_plan}
use Rattle.machine_events.proofs.laws.events_keep.Goals as goal

pub returns-clause-sound : goal.returns-clause-sound
returns-clause-sound c system event before next is sound happens = event_keeps_sound system is.rule is.scripts event before next sound happens

pub returns-clause-covered : goal.returns-clause-covered
returns-clause-covered c system event before next set sound covered happens = event_keeps_covered system (counting_plan system set) event before next sound covered happens
