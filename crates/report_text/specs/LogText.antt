-- The text of a log.
use Rattle.std.specs.Prelude.{ℕ, ◌^◌, ◌==◌, Bool, not, List, [], ◌++◌, slice_get}
use Rattle.std.specs.Prelude.{codes, if◌then◌else◌, bit_and}
use Rattle.std.specs.List.{flat_map, list_all, enumerate_from}
use Rattle.lang_monitor.specs.MonitorParts.{MonitorParts}
use Rattle.machine_implicit.specs.declared.commit.Reply.{Reply}
use Rattle.machine_implicit.specs.declared.script.Client.{Client}
use Rattle.machine_implicit.specs.declared.place.Place.{Place}
use Rattle.machine_implicit.specs.Runs.{Situation}
use Rattle.machine_events.specs.declared.log.Outcome.{Outcome}
use Rattle.machine_events.specs.declared.log.Outcome.TheVariants as outcomes
use Rattle.machine_events.specs.declared.log.Entry.{Entry}
use Rattle.machine_events.specs.Configurations.{System, Configuration, situation_of}
use Rattle.report_text.specs.TurnsText.{client_name, call_text, reply_text, has_done, ended_text}

-- ---- who was woken

-- the client's bit is set
abbrev pub is_woken : ℕ → ℕ → Bool
is_woken woken client = not (bit_and woken (2 ^ client) == 0)

-- a blank and the client's name, where it was woken
abbrev pub woken_name : ℕ → ℕ → Client → List ℕ
woken_name woken number client = if is_woken woken number then codes " " ++ client.name else []

-- the same for each client, in file order
abbrev pub woken_names : ℕ → List Client → List ℕ
woken_names woken clients =
    flat_map (λ one. woken_name woken one.0 one.1) (enumerate_from 0 clients)

-- ` wakes B C`, and nothing where no client was woken
abbrev pub wakes_text : List Client → ℕ → List ℕ
wakes_text clients woken = if woken == 0 then [] else codes " wakes" ++ woken_names woken clients

-- ---- entries

-- ` = - wakes B` and a line feed
abbrev pub replied_text : List Client → Reply → ℕ → List ℕ
replied_text clients reply woken =
    codes " = " ++ reply_text reply ++ wakes_text clients woken ++ codes "\n"

-- the line of a client at a block of its call, by what came of it: `A.1 put(3) waits`,
-- `A.1 put(3) = - wakes B`, or `spurious A`
abbrev pub outcome_text : MonitorParts → List Client → ℕ → ℕ → ℕ → Outcome → List ℕ
outcome_text monitor clients client call block outcomes.Waits =
    call_text monitor clients client call block ++ codes " waits\n"
outcome_text monitor clients client call block (outcomes.Replies reply woken) =
    call_text monitor clients client call block ++ replied_text clients reply woken
outcome_text monitor clients client call block outcomes.Spurious =
    codes "spurious " ++ client_name (slice_get clients client) ++ codes "\n"

abbrev pub entry_text : MonitorParts → List Client → Entry → List ℕ
entry_text monitor clients entry =
    outcome_text monitor clients entry.client entry.call entry.block entry.outcome

-- ---- the whole

-- no client has a call left at its place
abbrev pub are_done : List Client → List Place → Bool
are_done clients places = list_all (λ one. has_done clients one.0 one.1) (enumerate_from 0 places)

-- how a log ended in a situation, as a run ends there, then the state
abbrev pub closing_text : MonitorParts → List Client → Situation → List ℕ
closing_text monitor clients now = ended_text monitor clients now (are_done clients now.places)

-- the text of a system's log that ended in a configuration: a line for each entry, then how it
-- ended
abbrev pub log_text : System → List Entry → Configuration → List ℕ
log_text system log last =
    flat_map (entry_text system.monitor system.clients) log
    ++ closing_text system.monitor system.clients (situation_of last)
