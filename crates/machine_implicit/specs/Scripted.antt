-- Clients and their calls.
use Rattle.std.specs.Prelude.{◌≡◌, ◌≢◌, ◌≤◌, ◌<◌, ℕ, true, List, [], length, All, AllPairs, Option}
use Rattle.std.specs.Prelude.{Some, None, sum_by, slice_get}
use Rattle.lang_base.specs.Limits.{CLIENTS, CALLS}
use Rattle.lang_base.specs.Identifiers.{IsIdentifier}
use Rattle.lang_monitor.specs.MonitorParts.{MonitorParts, asserts_in, count_in}
use Rattle.machine_implicit.specs.declared.script.Call.{Call}
use Rattle.machine_implicit.specs.declared.script.Client.{Client}
use Rattle.machine_implicit.specs.Steps.{FitsArguments}

-- the rule of scripts
pub record AreClients (clients : List Client) : Type 0 where
  pub few : length clients ≤ CLIENTS
  pub names : All (λ client. IsIdentifier client.name) clients
  pub distinct : AllPairs (λ client other. client.name ≢ other.name) clients
  pub few_calls : sum_by (λ client. length client.calls) clients ≤ CALLS

-- the call is of a method of the monitor, with a value for each parameter; of a method that
-- asserts it tries
pub record FitsCall (monitor : MonitorParts) (call : Call) : Type 0 where
  pub method : call.method < length monitor.methods
  pub inputs : FitsArguments monitor call.method call.inputs
  pub tries : asserts_in (slice_get monitor.methods call.method) ≡ true → call.tries ≡ true

-- each call fits the monitor
abbrev pub FitsScripts : MonitorParts → List Client → Type 0
FitsScripts monitor clients = All (λ client. All (FitsCall monitor) client.calls) clients

abbrev pub calls_in : Option Client → List Call
calls_in None = []
calls_in (Some client) = client.calls

-- the calls of a client, by its number
abbrev pub calls_of : List Client → ℕ → List Call
calls_of clients client = calls_in (slice_get clients client)

-- how many blocks a call has
abbrev pub blocks_in : MonitorParts → Call → ℕ
blocks_in monitor call = count_in (slice_get monitor.methods call.method)

-- how many blocks the calls of all clients have together
abbrev pub all_blocks : MonitorParts → List Client → ℕ
all_blocks monitor clients = sum_by (λ client. sum_by (blocks_in monitor) client.calls) clients
