-- Where clients are left, and entries that are replies.
use Rattle.std.specs.Prelude.{Bool, true, false, List}
use Rattle.machine_implicit.specs.declared.place.Place.{Place}
use Rattle.machine_events.specs.declared.log.Outcome.{Outcome}
use Rattle.machine_events.specs.declared.log.Outcome.TheVariants as outcomes
use Rattle.machine_events.specs.declared.log.Entry.{Entry}
use Rattle.machine_events.specs.Configurations.{situation_of}
use Rattle.report_text.specs.declared.ending.Left.{Left}
use Rattle.report_text.specs.declared.ending.Left.TheVariants as kinds

-- the places of a run's clients, or those of a monitor's
abbrev pub places_listed : Left → List Place
places_listed (kinds.Run places) = places.now
places_listed (kinds.Free free) = (situation_of free.now.now).places

abbrev pub says_replies : Outcome → Bool
says_replies (outcomes.Replies reply woken) = true
says_replies outcome = false

abbrev pub is_reply : Entry → Bool
is_reply entry = says_replies entry.outcome
