-- What the laws say.
use Rattle.std.specs.Prelude.{◌≡◌, ◌↔◌, ◌⊎◌, ◌+◌, ◌<◌, ◌≤◌, ℕ, true, false, List, Some, length}
use Rattle.std.specs.Prelude.{slice_get}
use Rattle.lang_base.specs.declared.value.Value.{Value}
use Rattle.lang_monitor.specs.MonitorParts.{MonitorParts, IsMonitor, asserts_in, count_in}
use Rattle.machine_implicit.specs.declared.commit.Commit.{Commit}
use Rattle.machine_implicit.specs.declared.commit.Reply.{Reply}
use Rattle.machine_implicit.specs.declared.commit.Reply.TheVariants as replies
use Rattle.machine_implicit.specs.declared.script.Call.{Call}
use Rattle.machine_implicit.specs.declared.script.Client.{Client}
use Rattle.machine_implicit.specs.Scripted.{FitsScripts, all_blocks}
use Rattle.machine_implicit.specs.declared.place.Place.{Place}
use Rattle.machine_implicit.specs.Places.{call_at, guard_at, tries_at, FitsPlace, IsStep}
use Rattle.machine_implicit.specs.Runs.{Situation, IsRun, Ends, FitsSituation}

-- after a history there is one situation
abbrev pub OneSituation : Type 0
OneSituation = (monitor : MonitorParts) (clients : List Client) (history : List Commit)
    (one other : Situation)
    → IsRun monitor clients history one → IsRun monitor clients history other → one ≡ other

-- where no client may step, no client's guard is true
abbrev pub EndsHoldNoGuard : Type 0
EndsHoldNoGuard = (monitor : MonitorParts) (clients : List Client) (now : Situation) (client : ℕ)
    (place : Place)
    → Ends monitor clients now → slice_get now.places client ≡ Some place
    → guard_at monitor clients now.state client place ≡ true → ⊥

-- a step replies that it is refused exactly at the first block of a call that tries, where its
-- guard is false
abbrev pub RefusedExactly : Type 0
RefusedExactly = (monitor : MonitorParts) (clients : List Client) (client : ℕ) (place : Place)
    (state : List Value) (reply : Reply) (next : List Value) (goes : Place)
    → IsStep monitor clients client place state reply next goes
    → (reply ≡ replies.Refused)
    ↔ ((tries_at clients client place ≡ true)
    × (guard_at monitor clients state client place ≡ false))

-- a client at a call of a method that asserts does not wait, whatever the state
abbrev pub AssertionsNeverWait : Type 0
AssertionsNeverWait = (monitor : MonitorParts) (clients : List Client) (client : ℕ) (place : Place)
    (call : Call)
    → IsMonitor monitor → FitsScripts monitor clients → FitsPlace monitor clients client place
    → call_at clients client place ≡ Some call
    → asserts_in (slice_get monitor.methods call.method) ≡ true
    → tries_at clients client place ≡ true

-- a block before its method's last answers nothing
abbrev pub EarlierBlocksAnswerNothing : Type 0
EarlierBlocksAnswerNothing = (monitor : MonitorParts) (clients : List Client) (client : ℕ)
    (place : Place) (call : Call) (state : List Value) (reply : Reply) (next : List Value)
    (goes : Place)
    → IsMonitor monitor → call_at clients client place ≡ Some call
    → place.block + 1 < count_in (slice_get monitor.methods call.method)
    → IsStep monitor clients client place state reply next goes
    → (reply ≡ replies.Unit) ⊎ ((reply ≡ replies.Overflow) ⊎ (reply ≡ replies.Refused))

-- after a run the state and the places fit
abbrev pub RunsFit : Type 0
RunsFit = (monitor : MonitorParts) (clients : List Client) (history : List Commit) (now : Situation)
    → IsMonitor monitor → FitsScripts monitor clients
    → IsRun monitor clients history now → FitsSituation monitor clients now

-- a run has at most as many commits as all calls have blocks
abbrev pub RunsAreShort : Type 0
RunsAreShort = (monitor : MonitorParts) (clients : List Client) (history : List Commit)
    (now : Situation) → IsMonitor monitor → FitsScripts monitor clients
    → IsRun monitor clients history now → length history ≤ all_blocks monitor clients
