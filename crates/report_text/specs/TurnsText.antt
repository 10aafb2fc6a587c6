-- The text of a run by rounds.
use Rattle.std.specs.Prelude.{ℕ, ◌+◌, ◌-◌, Bool, true, false, nat_le, List, [], ◌∷◌, ◌++◌, length}
use Rattle.std.specs.Prelude.{Option, Some, None, map, slice_get, codes, decimal}
use Rattle.std.specs.Prelude.{if◌then◌else◌}
use Rattle.std.specs.Fmt.{signed_decimal}
use Rattle.std.specs.List.{flat_map, enumerate_from}
use Rattle.std.specs.Option.{option_map_or}
use Rattle.lang_printer.specs.Canonical.{joined, truth_text}
use Rattle.lang_printer.specs.CanonicalClients.{try_text}
use Rattle.lang_base.specs.declared.value.Value.{Value}
use Rattle.lang_base.specs.declared.value.Value.TheVariants as values
use Rattle.lang_monitor.specs.declared.monitor.Field.{Field}
pub use Rattle.machine_events.specs.PlanText.{method_name}
use Rattle.machine_events.specs.PlanText.{block_mark}
use Rattle.lang_monitor.specs.MonitorParts.{MonitorParts}
use Rattle.machine_implicit.specs.declared.commit.Reply.{Reply}
use Rattle.machine_implicit.specs.declared.commit.Reply.TheVariants as replies
use Rattle.machine_implicit.specs.declared.commit.Commit.{Commit}
use Rattle.machine_implicit.specs.declared.commit.Turns.{Turns}
use Rattle.machine_implicit.specs.declared.script.Call.{Call}
use Rattle.machine_implicit.specs.declared.script.Client.{Client}
use Rattle.machine_implicit.specs.declared.place.Place.{Place}
use Rattle.machine_implicit.specs.Scripted.{calls_of, blocks_in}
use Rattle.machine_implicit.specs.Runs.{Situation}

-- a number in decimal, with its sign, or a truth value
abbrev pub value_text : Value → List ℕ
value_text (values.Int number) = signed_decimal number
value_text (values.Bool truth) = truth_text truth

-- what a block answered
abbrev pub reply_text : Reply → List ℕ
reply_text replies.Unit = codes "-"
reply_text (replies.Int number) = signed_decimal number
reply_text (replies.Bool truth) = truth_text truth
reply_text replies.Overflow = codes "overflow"
reply_text replies.Refused = codes "refused"

-- The name of a client, and none where there is no such client. A commit of a run always has one.
abbrev pub client_name : Option Client → List ℕ
client_name None = []
client_name (Some client) = client.name

-- `put(3, true)`, or `try put(3, true)` of a call that tries: a method's name and the inputs of the
-- call
abbrev pub called_text : MonitorParts → Option Call → List ℕ
called_text monitor None = codes "()"
called_text monitor (Some call) =
    try_text call.tries ++ method_name (slice_get monitor.methods call.method) ++ codes "("
    ++ joined (codes ", ") (map value_text call.inputs) ++ codes ")"

-- `1`, or `1.2` for a method of so many blocks where these are several: a call, by its number from
-- 1, and its block, by its number from 1 within the method
abbrev pub numbers_text : ℕ → ℕ → ℕ → List ℕ
numbers_text count number block = decimal number ++ block_mark count block

-- `A.1 put(3, true)`, or `A.1.2 pair()`: a client, its call and the block of that call, by their
-- numbers
abbrev pub call_text : MonitorParts → List Client → ℕ → ℕ → ℕ → List ℕ
call_text monitor clients client number block =
    let call : Option Call = slice_get (calls_of clients client) (number - 1) in
    client_name (slice_get clients client) ++ codes "."
    ++ numbers_text (option_map_or (blocks_in monitor) call 0) number block ++ codes " "
    ++ called_text monitor call

-- `A.1 put(3, true) = -` and a line feed
abbrev pub commit_text : MonitorParts → List Client → Commit → List ℕ
commit_text monitor clients commit =
    call_text monitor clients commit.client commit.call commit.block ++ codes " = "
    ++ reply_text commit.reply ++ codes "\n"

-- ---- how it ended

-- at this place the client has no call left
abbrev pub has_done : List Client → ℕ → Place → Bool
has_done clients client place = nat_le (length (calls_of clients client)) place.past

-- `A.1 put(3, true) blocked` and a line feed, where the client has a call left at its place
abbrev pub blocked_text : MonitorParts → List Client → ℕ → Place → List ℕ
blocked_text monitor clients client place =
    if has_done clients client place then []
    else call_text monitor clients client (place.past + 1) (place.block + 1) ++ codes " blocked\n"

-- the same for each client, by its place, in file order
abbrev pub blocked_texts : MonitorParts → List Client → List Place → List ℕ
blocked_texts monitor clients places =
    flat_map (λ one. blocked_text monitor clients one.0 one.1) (enumerate_from 0 places)

-- `done`, or `stalled` and who is blocked
abbrev pub end_text : MonitorParts → List Client → List Place → Bool → List ℕ
end_text monitor clients places true = codes "done\n"
end_text monitor clients places false =
    codes "stalled\n" ++ blocked_texts monitor clients places

-- ` name=value` for each field, as far as there are values
abbrev pub fields_text : List Field → List Value → List ℕ
fields_text (field ∷ fields) (value ∷ values) =
    codes " " ++ field.name ++ codes "=" ++ value_text value ++ fields_text fields values
fields_text fields values = []

-- `state count=0` and a line feed
abbrev pub state_text : MonitorParts → List Value → List ℕ
state_text monitor state = codes "state" ++ fields_text monitor.fields state ++ codes "\n"

-- how a run ended in a situation, then the state
abbrev pub ended_text : MonitorParts → List Client → Situation → Bool → List ℕ
ended_text monitor clients now finished =
    end_text monitor clients now.places finished ++ state_text monitor now.state

-- the situation at the end of a run
abbrev pub last_of : Turns → Situation
last_of turns = record { state = turns.state; places = turns.places }

-- a line for each commit, then how the run ended
abbrev pub turns_text : MonitorParts → List Client → Turns → List ℕ
turns_text monitor clients turns =
    flat_map (commit_text monitor clients) turns.history
    ++ ended_text monitor clients (last_of turns) turns.finished
