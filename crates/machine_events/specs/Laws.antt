-- What the laws say.
use Rattle.std.specs.Prelude.{◌≡◌, ℕ, true, false, List, All, Some, slice_get}
use Rattle.logic_linear.specs.Truth.{truth_of}
use Rattle.lang_base.specs.declared.value.Value.{Value}
use Rattle.lang_monitor.specs.declared.candidate.Candidate.{Candidate}
use Rattle.lang_monitor.specs.declared.monitor.Block.{Block}
use Rattle.lang_monitor.specs.declared.monitor.Condition.{Condition}
use Rattle.lang_monitor.specs.MonitorParts.{MonitorParts, Places, AreOfKinds, fits_block}
use Rattle.lang_monitor.specs.MonitorParts.{IsMonitor, asserts_in, opened_with}
use Rattle.lang_monitor.specs.Starts.{IsStart}
use Rattle.lang_monitor.specs.Bodies.{Inputs, valuation, after}
use Rattle.lang_monitor.specs.Candidates.{AllHold, candidates_of}
use Rattle.lang_monitor.specs.Triples.{Keeps, NoneNeeded, OneEnough, NoTestNeeded}
use Rattle.machine_implicit.specs.declared.place.Place.{Place}
use Rattle.machine_implicit.specs.declared.script.Call.{Call}
use Rattle.machine_implicit.specs.Places.{call_at}
use Rattle.machine_implicit.specs.Runs.{IsRun, Ends}
use Rattle.machine_events.specs.declared.event.Event.{Event}
use Rattle.machine_events.specs.declared.log.Entry.{Entry}
use Rattle.machine_events.specs.declared.plan.Plan.{Plan}
use Rattle.machine_events.specs.Plans.{AreSomeOf, IsCondition, FitsPlan, IsLawful, everyone}
pub use Rattle.machine_events.specs.Running.{MayRun}
use Rattle.machine_events.specs.Counts.{IsLawfulByCounting}
use Rattle.machine_events.specs.Configurations.{System, Configuration, StandsAt, situation_of}
use Rattle.machine_events.specs.declared.event.Stage.TheVariants.{Waiting}
use Rattle.machine_events.specs.Events.{IsEvent, AreEvents}
use Rattle.machine_events.specs.Logs.{IsLegal, IsClosed, IsBounded, commits_of}
use Rattle.machine_events.specs.Pending.{IsSystem, IsSound, IsCovered, WakePending, IsStuck}

-- ---- no wake-up is lost

-- the plan is lawful for the monitor of a system
pub record HasLawfulPlan (system : System) : Type 0 where
  pub is : IsSystem system
  pub lawful : IsLawful system.monitor system.plan

-- the plan is lawful by counting
pub record HasCountingPlan (system : System) : Type 0 where
  pub is : IsSystem system
  pub lawful : IsLawfulByCounting system.monitor system.plan

-- a lawful plan is lawful by counting
abbrev pub LawfulIsByCounting : Type 0
LawfulIsByCounting =
    (monitor : MonitorParts) (plan : Plan) → IsLawful monitor plan
    → IsLawfulByCounting monitor plan

-- whatever events come from the start, a wake-up is pending at the end
abbrev pub WakesArePending : Type 0
WakesArePending =
    (system : System) (events : List Event) (last : Configuration) → HasLawfulPlan system
    → AreEvents system events last → WakePending system last

-- whatever events come from the start, the run is at its end where the end is stuck
abbrev pub StuckIsTheEnd : Type 0
StuckIsTheEnd =
    (system : System) (events : List Event) (last : Configuration) → HasLawfulPlan system
    → AreEvents system events last → IsStuck system last
    → Ends system.monitor system.clients (situation_of last)

-- under a plan that is lawful by counting a wake-up is pending after whatever events
abbrev pub CountedWakesArePending : Type 0
CountedWakesArePending =
    (system : System) (events : List Event) (last : Configuration) → HasCountingPlan system
    → AreEvents system events last → WakePending system last

-- under a plan that is lawful by counting the run is at its end where the end is stuck
abbrev pub CountedStuckIsTheEnd : Type 0
CountedStuckIsTheEnd =
    (system : System) (events : List Event) (last : Configuration) → HasCountingPlan system
    → AreEvents system events last → IsStuck system last
    → Ends system.monitor system.clients (situation_of last)

-- ---- legal logs

-- the commits after a legal log are a run to its state and the clients' places
abbrev pub LegalLogsRun : Type 0
LegalLogsRun = (system : System) (log : List Entry) (last : Configuration) → IsSystem system
    → IsLegal system log last
    → IsRun system.monitor system.clients last.commits (situation_of last)

-- under a lawful plan the run is at its end where a legal log is closed
abbrev pub ClosedIsTheEnd : Type 0
ClosedIsTheEnd = (system : System) (log : List Entry) (last : Configuration) → HasLawfulPlan system
    → IsLegal system log last → IsClosed system last
    → Ends system.monitor system.clients (situation_of last)

-- under a plan that is lawful by counting the run is at its end where a legal log is closed
abbrev pub CountedClosedIsTheEnd : Type 0
CountedClosedIsTheEnd =
    (system : System) (log : List Entry) (last : Configuration) → HasCountingPlan system
    → IsLegal system log last → IsClosed system last
    → Ends system.monitor system.clients (situation_of last)

-- the commits after a legal log are the replies of the log
abbrev pub LogsSayCommits : Type 0
LogsSayCommits =
    (system : System) (log : List Entry) (last : Configuration) → IsLegal system log last
    → last.commits ≡ commits_of log

abbrev pub LogsAreBounded : Type 0
LogsAreBounded =
    (system : System) (log : List Entry) (last : Configuration) → IsSystem system
    → IsLegal system log last → IsBounded system log

-- ---- events keep what each configuration keeps

abbrev pub EventsKeepSound : Type 0
EventsKeepSound = (system : System) (event : Event) (before next : Configuration) → IsSystem system
    → IsSound system before → IsEvent system event before next → IsSound system next

abbrev pub EventsKeepCovered : Type 0
EventsKeepCovered =
    (system : System) (event : Event) (before next : Configuration) → HasLawfulPlan system
    → IsSound system before → IsCovered system before → IsEvent system event before next
    → IsCovered system next

-- under a plan that is lawful by counting each event keeps wake-ups on their way
abbrev pub CountedEventsKeepCovered : Type 0
CountedEventsKeepCovered =
    (system : System) (event : Event) (before next : Configuration) → HasCountingPlan system
    → IsSound system before → IsCovered system before → IsEvent system event before next
    → IsCovered system next

-- ---- who waits

-- whatever events come from the start, who waits does so on a condition of the monitor
abbrev pub WaitersHaveConditions : Type 0
WaitersHaveConditions =
    (system : System) (events : List Event) (last : Configuration) → IsSystem system
    → AreEvents system events last → (client : ℕ) (place : Place) (condition : ℕ)
    → StandsAt last.standings client place (Waiting condition)
    → (which : Condition) × IsCondition system.monitor condition which

-- and in a call of a method that does not assert
abbrev pub NobodyWaitsToAssert : Type 0
NobodyWaitsToAssert =
    (system : System) (events : List Event) (last : Configuration) → IsSystem system
    → AreEvents system events last → (client : ℕ) (place : Place) (condition : ℕ) (call : Call)
    → StandsAt last.standings client place (Waiting condition)
    → call_at system.clients client place ≡ Some call
    → asserts_in (slice_get system.monitor.methods call.method) ≡ false

-- ---- the plan under which everyone is woken

abbrev pub EveryoneFits : Type 0
EveryoneFits = (monitor : MonitorParts) → FitsPlan monitor (everyone monitor)

abbrev pub EveryoneIsLawful : Type 0
EveryoneIsLawful = (monitor : MonitorParts) → IsLawful monitor (everyone monitor)

-- ---- whatever a monitor is opened with

-- the system whose monitor is opened with these values
abbrev pub opened_system : System → List Value → System
opened_system system start = record {
  monitor = opened_with system.monitor start;
  plan = system.plan;
  clients = system.clients;
}

-- a system stays one
abbrev pub SystemsOfEveryChoice : Type 0
SystemsOfEveryChoice =
    (system : System) (start : List Value) → IsStart system.monitor.fields start
    → IsSystem system → IsSystem (opened_system system start)

-- a plan that fits the monitor fits it as it is opened
abbrev pub FitsForEveryChoice : Type 0
FitsForEveryChoice =
    (monitor : MonitorParts) (plan : Plan) (start : List Value) → IsStart monitor.fields start
    → FitsPlan monitor plan → FitsPlan (opened_with monitor start) plan

-- one that is lawful for the monitor is so for it as it is opened
abbrev pub LawfulForEveryChoice : Type 0
LawfulForEveryChoice =
    (monitor : MonitorParts) (plan : Plan) (start : List Value) → IsStart monitor.fields start
    → IsLawful monitor plan → IsLawful (opened_with monitor start) plan

-- and one that is lawful by counting
abbrev pub CountingForEveryChoice : Type 0
CountingForEveryChoice =
    (monitor : MonitorParts) (plan : Plan) (start : List Value) → IsMonitor monitor
    → IsStart monitor.fields start
    → IsLawfulByCounting monitor plan → IsLawfulByCounting (opened_with monitor start) plan

-- ---- bodies and triples in states

-- after a body that fits, the fields and the locals have values of their kinds
abbrev pub BodiesKeepKinds : Type 0
BodiesKeepKinds =
    (places : Places) (inputs : Inputs) (state : List Value) (block : Block)
    → fits_block places block ≡ true
    → AreOfKinds places.fields state → AreOfKinds places.locals inputs.locals
    → AreOfKinds places.fields (after inputs block.body state).state
    × AreOfKinds places.locals (after inputs block.body state).locals

-- each candidate that the block keeps is true after it
abbrev pub KeptApplies : Type 0
KeptApplies =
    (monitor : MonitorParts) (kept some : List Candidate) (number : ℕ) (block : Block)
    (inputs : Inputs) (state : List Value)
    → MayRun monitor kept number block inputs state → AreSomeOf some (candidates_of monitor)
    → All (λ candidate. Keeps monitor kept candidate number) some
    → AllHold (after inputs block.body state).state some

-- A condition's guard is false for a client that waits, of these inputs: where no note is needed it
-- is false after the block.
abbrev pub NoneNeededApplies : Type 0
NoneNeededApplies =
    (monitor : MonitorParts) (kept : List Candidate) (number : ℕ) (block : Block)
    (inputs : Inputs) (state : List Value) (others : Inputs) (condition : ℕ) (which : Condition)
    → MayRun monitor kept number block inputs state → IsCondition monitor condition which
    → NoneNeeded monitor kept number condition
    → truth_of (valuation state others) which.guard ≡ false
    → truth_of (valuation (after inputs block.body state).state others) which.guard ≡ false

-- A condition's guard is true for a client that waits, of these inputs: where one waiter is enough
-- it is false after the block.
abbrev pub OneEnoughApplies : Type 0
OneEnoughApplies =
    (monitor : MonitorParts) (kept : List Candidate) (number : ℕ) (block : Block)
    (inputs : Inputs) (state : List Value) (others : Inputs) (condition : ℕ) (which : Condition)
    → MayRun monitor kept number block inputs state → IsCondition monitor condition which
    → OneEnough monitor kept condition number
    → truth_of (valuation state others) which.guard ≡ true
    → truth_of (valuation (after inputs block.body state).state others) which.guard ≡ false

-- A condition's guard is false for a client that waits, of these inputs: where no test is needed it
-- is true after the block.
abbrev pub NoTestApplies : Type 0
NoTestApplies =
    (monitor : MonitorParts) (kept : List Candidate) (number : ℕ) (block : Block)
    (inputs : Inputs) (state : List Value) (others : Inputs) (condition : ℕ) (which : Condition)
    → MayRun monitor kept number block inputs state → IsCondition monitor condition which
    → NoTestNeeded monitor kept number condition
    → truth_of (valuation state others) which.guard ≡ false
    → truth_of (valuation (after inputs block.body state).state others) which.guard ≡ true
