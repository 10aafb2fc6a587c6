-- What the laws say.
use Rattle.std.specs.Prelude.{◌≡◌, ◌≢◌, ◌⊎◌, ℕ, ◌+◌, Bool, true, false, List, [], ◌∷◌, ◌++◌}
use Rattle.std.specs.Prelude.{All, None, Some, slice_get}
use Rattle.lang_monitor.specs.declared.monitor.Condition.{Condition}
use Rattle.lang_monitor.specs.Inputs.{reads_inputs}
use Rattle.lang_monitor.specs.MonitorParts.{MonitorParts, IsMonitor, asserts_in, first_in}
use Rattle.lang_monitor.specs.MonitorParts.{count_in}
use Rattle.machine_implicit.specs.declared.commit.Commit.{Commit}
use Rattle.machine_implicit.specs.declared.script.Call.{Call}
use Rattle.machine_implicit.specs.declared.script.Client.{Client}
use Rattle.machine_implicit.specs.Scripted.{FitsScripts}
use Rattle.machine_implicit.specs.Places.{gives_up}
use Rattle.machine_implicit.specs.Runs.{Situation, IsRun, Ends}
use Rattle.machine_events.specs.declared.plan.Note.{Note}
use Rattle.machine_events.specs.declared.plan.Plan.{Plan}
use Rattle.machine_events.specs.Plans.{has_note, FitsPlan, IsCondition, IsLawful}
use Rattle.machine_events.specs.Configurations.{System}
use Rattle.machine_events.specs.Pending.{IsSystem}
use Rattle.machine_events.specs.Counts.{IsLawfulByCounting}
use Rattle.machine_events.specs.Laws.{HasLawfulPlan, HasCountingPlan}
use Rattle.emit_code.specs.Code.{Op, late_order, code_of, asserting_code}
use Rattle.emit_code.specs.Code.Op.{Lock, WaitUntil, ElseRefuse, Run, Notify, Unlock, Release}
use Rattle.emit_code.specs.Executions.{Program, program_with, Position, Frame, Moment, IsThread}
use Rattle.emit_code.specs.Executions.{start, call_of, is_open, Abandons, Executes, IsStill}
use Rattle.emit_code.specs.Executions.{IsQuiet}
use Rattle.emit_code.specs.Executions.Position.{Outside, At, Asleep, Notified}
use Rattle.emit_code.specs.Functions.{FunctionsRanOnce, DataFollowTheRun}
use Rattle.emit_code.specs.Sleepers.{SleepersAreCounted, UncountedSleepNot, LeftOutIsMade}
use Rattle.emit_code.specs.Orders.{notes_to_come, IsTold}
use Rattle.emit_code.specs.LivePlans.{live_plan, printed_program}

-- an execution of the program from its start leads to the moment
abbrev pub Leads : Program → Moment → Type 0
Leads program last = Executes program (start program) last

-- ---- who holds the mutex

-- the operation reads or changes what is in the mutex, or gives it back
abbrev pub needs_mutex : Op → Bool
needs_mutex Lock = false
needs_mutex (WaitUntil block condition) = true
needs_mutex (ElseRefuse block) = true
needs_mutex (Run block otherwise) = true
needs_mutex (Notify note) = note.tested
needs_mutex Unlock = true
needs_mutex (Release notes) = true

-- a thread that is about to do such an operation holds the mutex, as Rust's types ask
abbrev pub HoldersAct : Program → Moment → Type 0
HoldersAct program last =
    (thread : ℕ) (frame : Frame) (op : Op) (rest : List Op)
    → IsThread last.threads thread frame (At (op ∷ rest)) → needs_mutex op ≡ true
    → last.holder ≡ Some thread

-- a thread that is about to run a body, and with the last one of its call the function that this
-- was given, holds the mutex, and the guard is true
abbrev pub BodiesAreReady : Program → Moment → Type 0
BodiesAreReady program last =
    (thread : ℕ) (frame : Frame) (block : ℕ) (otherwise : List Note) (rest : List Op)
    → IsThread last.threads thread frame (At (Run block otherwise ∷ rest))
    → (last.holder ≡ Some thread) × (is_open program last.state thread frame block ≡ true)

-- ---- what ran

-- what ran, with the answers, is a run of the implicit monitor to a situation with this state
pub record Ran (program : Program) (last : Moment) : Type 0 where
  pub now : Situation
  pub run : IsRun program.monitor program.clients last.ran now
  pub state_is : now.state ≡ last.state

-- ---- what calls answer

-- the commit is the last one of this thread
pub record IsLastOf (thread : ℕ) (ran : List Commit) (commit : Commit) : Type 0 where
  pub earlier : List Commit
  pub later : List Commit
  pub is : ran ≡ earlier ++ commit ∷ later
  pub own : commit.client ≡ thread
  pub none_later : All (λ other. other.client ≢ thread) later

-- the call is done after the commit: it overflowed, was refused, or ran its last block
abbrev pub IsDoneBy : MonitorParts → Call → Commit → Type 0
IsDoneBy monitor call commit =
    (gives_up commit.reply ≡ true)
    ⊎ (commit.block ≡ count_in (slice_get monitor.methods call.method))

-- The call that the thread is in answers the reply of the last commit of the thread, after which
-- the call is done. A call with a function hands that reply to the function, and answers what this
-- returns.
pub record Answers (program : Program) (ran : List Commit) (thread : ℕ) (frame : Frame)
    (call : Call) : Type 0 where
  pub commit : Commit
  pub last_is : IsLastOf thread ran commit
  pub of : commit.call ≡ frame.past + 1
  pub answer_is : commit.reply ≡ frame.answer
  pub done : IsDoneBy program.monitor call commit

-- so it is wherever a call is about to return
abbrev pub AnswersAreReplies : Program → Moment → Type 0
AnswersAreReplies program last =
    (thread : ℕ) (frame : Frame) (call : Call) → IsThread last.threads thread frame (At [])
    → call_of program thread frame ≡ Some call → Answers program last.ran thread frame call

-- ---- no wake-up is lost

-- a thread is notified on the condition, or has a note on it to make
abbrev pub SomeoneSees : Moment → ℕ → Type 0
SomeoneSees now condition =
    ((other : ℕ) × (frame : Frame) × (block : ℕ) × (rest : List Op)
    × IsThread now.threads other frame (Notified block condition rest))
    ⊎ ((other : ℕ) × (frame : Frame) × (rest : List Op) × IsThread now.threads other frame (At rest)
    × (has_note (notes_to_come rest) condition ≡ true))

-- where nobody holds the mutex and a thread sleeps whose guard is true, someone sees to it
abbrev pub SleepersAreSeenTo : Program → Moment → Type 0
SleepersAreSeenTo program last =
    last.holder ≡ None → (thread : ℕ) (frame : Frame) (block condition : ℕ) (rest : List Op)
    → IsThread last.threads thread frame (Asleep block condition rest)
    → is_open program last.state thread frame block ≡ true → SomeoneSees last condition

-- ---- a call gives up after its time

-- Where it does, and the guard of its condition reads no inputs, the guard of each thread that
-- sleeps on the condition is false too. So it has no note to pass on: who woke in its place would
-- sleep again. Where guards read inputs, the notes of a lawful plan wake all.
abbrev pub NobodyIsOwed : Program → Moment → Type 0
NobodyIsOwed program last =
    (thread : ℕ) (frame : Frame) (next : Moment)
    (move : Abandons program thread frame last next) (which : Condition)
    → IsCondition program.monitor move.condition which → reads_inputs which.guard ≡ false
    → (other : ℕ) (others_frame : Frame) (block : ℕ) (rest : List Op)
    → IsThread last.threads other others_frame (Asleep block move.condition rest)
    → is_open program last.state other others_frame block ≡ false

-- ---- where no thread can move but by chance

-- the thread is between two calls and has none left, or it sleeps and its guard is false
abbrev pub IsAtEnd : Program → Moment → ℕ → Frame → Position → Type 0
IsAtEnd program now thread frame Outside = call_of program thread frame ≡ None
IsAtEnd program now thread frame (At rest) = ⊥
IsAtEnd program now thread frame (Asleep block condition rest) =
    is_open program now.state thread frame block ≡ false
IsAtEnd program now thread frame (Notified block condition rest) = ⊥

-- each thread is at its end: so none hangs whose guard is true
abbrev pub StillIsTheEnd : Program → Moment → Type 0
StillIsTheEnd program last =
    IsStill program last → (thread : ℕ) (frame : Frame) (position : Position)
    → IsThread last.threads thread frame position → IsAtEnd program last thread frame position

-- the thread has stopped between two calls or before it locks the mutex, or it sleeps and its guard
-- is false
abbrev pub IsAtRest : Program → Moment → ℕ → Frame → Position → Type 0
IsAtRest program now thread frame Outside = Unit {0}
IsAtRest program now thread frame (At []) = ⊥
IsAtRest program now thread frame (At (Lock ∷ rest)) = Unit {0}
IsAtRest program now thread frame (At (WaitUntil block condition ∷ rest)) = ⊥
IsAtRest program now thread frame (At (ElseRefuse block ∷ rest)) = ⊥
IsAtRest program now thread frame (At (Run block otherwise ∷ rest)) = ⊥
IsAtRest program now thread frame (At (Notify note ∷ rest)) = ⊥
IsAtRest program now thread frame (At (Unlock ∷ rest)) = ⊥
IsAtRest program now thread frame (At (Release notes ∷ rest)) = ⊥
IsAtRest program now thread frame (Asleep block condition rest) =
    is_open program now.state thread frame block ≡ false
IsAtRest program now thread frame (Notified block condition rest) = ⊥

-- whichever threads have stopped, after a panic or otherwise, and whichever times don't end: none
-- hangs whose guard is true
abbrev pub QuietIsAtRest : Program → Moment → Type 0
QuietIsAtRest program last =
    IsQuiet program last → (thread : ℕ) (frame : Frame) (position : Position)
    → IsThread last.threads thread frame position → IsAtRest program last thread frame position

-- and the run of what ran is at its end
abbrev pub StillEndsTheRun : Program → Moment → Type 0
StillEndsTheRun program last =
    IsStill program last → (now : Situation)
    → IsRun program.monitor program.clients last.ran now
    → Ends program.monitor program.clients now

-- ---- the laws, of code that makes a block's notes before or after it gives the mutex back, or as
-- the counts call for them

-- whatever the plan, who reads or changes the state holds the mutex
abbrev pub LateHoldersAct : Type 0
LateHoldersAct =
    (system : System) (told : ℕ → List Op) (timed : ℕ → ℕ → Bool) (last : Moment) → IsSystem system
    → IsTold system told → Leads (program_with system told timed) last
    → HoldersAct (program_with system told timed) last

-- whatever the plan, bodies run by who holds the mutex, where their guards are true
abbrev pub LateBodiesAreReady : Type 0
LateBodiesAreReady =
    (system : System) (told : ℕ → List Op) (timed : ℕ → ℕ → Bool) (last : Moment) → IsSystem system
    → IsTold system told → Leads (program_with system told timed) last
    → BodiesAreReady (program_with system told timed) last

-- whatever the plan, the functions that returned are those of the calls that blocks completed
abbrev pub LateFunctionsRanOnce : Type 0
LateFunctionsRanOnce =
    (system : System) (told : ℕ → List Op) (timed : ℕ → ℕ → Bool) (last : Moment) → IsSystem system
    → IsTold system told → FunctionsRanOnce (program_with system told timed) last

-- whatever the plan, data are what these functions leave of them
abbrev pub LateDataFollowTheRun : Type 0 → Type 0
LateDataFollowTheRun D =
    (system : System) (told : ℕ → List Op) (timed : ℕ → ℕ → Bool) (last : Moment) → IsSystem system
    → IsTold system told → DataFollowTheRun D (program_with system told timed) last

-- whatever the plan, what ran is a run of the implicit monitor
abbrev pub LateExecutionsRun : Type 0
LateExecutionsRun =
    (system : System) (told : ℕ → List Op) (timed : ℕ → ℕ → Bool) (last : Moment) → IsSystem system
    → IsTold system told → Leads (program_with system told timed) last
    → Ran (program_with system told timed) last

-- whatever the plan, a call answers the reply of the last that its thread did
abbrev pub LateAnswersAreReplies : Type 0
LateAnswersAreReplies =
    (system : System) (told : ℕ → List Op) (timed : ℕ → ℕ → Bool) (last : Moment) → IsSystem system
    → IsTold system told → Leads (program_with system told timed) last
    → AnswersAreReplies (program_with system told timed) last

-- whatever the plan, who gives up after its time owes nobody a note
abbrev pub LateNobodyIsOwed : Type 0
LateNobodyIsOwed =
    (system : System) (told : ℕ → List Op) (timed : ℕ → ℕ → Bool) (last : Moment) → IsSystem system
    → IsTold system told → Leads (program_with system told timed) last
    → NobodyIsOwed (program_with system told timed) last

-- under a lawful plan no wake-up is lost
abbrev pub LateSleepersAreSeenTo : Type 0
LateSleepersAreSeenTo =
    (system : System) (told : ℕ → List Op) (timed : ℕ → ℕ → Bool) (last : Moment)
    → HasLawfulPlan system → IsTold system told → Leads (program_with system told timed) last
    → SleepersAreSeenTo (program_with system told timed) last

-- under a lawful plan no thread hangs whose guard is true
abbrev pub LateStillIsTheEnd : Type 0
LateStillIsTheEnd =
    (system : System) (told : ℕ → List Op) (timed : ℕ → ℕ → Bool) (last : Moment)
    → HasLawfulPlan system → IsTold system told → Leads (program_with system told timed) last
    → StillIsTheEnd (program_with system told timed) last

-- under a lawful plan no thread hangs whose guard is true, where others stopped
abbrev pub LateQuietIsAtRest : Type 0
LateQuietIsAtRest =
    (system : System) (told : ℕ → List Op) (timed : ℕ → ℕ → Bool) (last : Moment)
    → HasLawfulPlan system → IsTold system told → Leads (program_with system told timed) last
    → QuietIsAtRest (program_with system told timed) last

-- under a lawful plan the run is at its end where no thread can move but by chance
abbrev pub LateStillEndsTheRun : Type 0
LateStillEndsTheRun =
    (system : System) (told : ℕ → List Op) (timed : ℕ → ℕ → Bool) (last : Moment)
    → HasLawfulPlan system → IsTold system told → Leads (program_with system told timed) last
    → StillEndsTheRun (program_with system told timed) last

-- under a plan that is lawful by counting no wake-up is lost
abbrev pub CountedSleepersAreSeenTo : Type 0
CountedSleepersAreSeenTo =
    (system : System) (told : ℕ → List Op) (timed : ℕ → ℕ → Bool) (last : Moment)
    → HasCountingPlan system → IsTold system told → Leads (program_with system told timed) last
    → SleepersAreSeenTo (program_with system told timed) last

-- under a plan that is lawful by counting no thread hangs whose guard is true
abbrev pub CountedStillIsTheEnd : Type 0
CountedStillIsTheEnd =
    (system : System) (told : ℕ → List Op) (timed : ℕ → ℕ → Bool) (last : Moment)
    → HasCountingPlan system → IsTold system told → Leads (program_with system told timed) last
    → StillIsTheEnd (program_with system told timed) last

-- under a plan that is lawful by counting no thread hangs whose guard is true, where others stopped
abbrev pub CountedQuietIsAtRest : Type 0
CountedQuietIsAtRest =
    (system : System) (told : ℕ → List Op) (timed : ℕ → ℕ → Bool) (last : Moment)
    → HasCountingPlan system → IsTold system told → Leads (program_with system told timed) last
    → QuietIsAtRest (program_with system told timed) last

-- under a plan that is lawful by counting the run is at its end where no thread can move but by
-- chance
abbrev pub CountedStillEndsTheRun : Type 0
CountedStillEndsTheRun =
    (system : System) (told : ℕ → List Op) (timed : ℕ → ℕ → Bool) (last : Moment)
    → HasCountingPlan system → IsTold system told → Leads (program_with system told timed) last
    → StillEndsTheRun (program_with system told timed) last

-- the order that is printed is such a one
abbrev pub LateOrderIsTold : Type 0
LateOrderIsTold = (system : System) → IsSystem system → IsTold system (late_order system.plan)

-- ---- the counts beside the fields, whatever the plan and the order

-- the counts are right
abbrev pub LateSleepersAreCounted : Type 0
LateSleepersAreCounted =
    (system : System) (told : ℕ → List Op) (timed : ℕ → ℕ → Bool) (last : Moment)
    → Leads (program_with system told timed) last → SleepersAreCounted last

-- where a count is 0 nobody sleeps
abbrev pub LateUncountedSleepNot : Type 0
LateUncountedSleepNot =
    (system : System) (told : ℕ → List Op) (timed : ℕ → ℕ → Bool) (last : Moment)
    → Leads (program_with system told timed) last → UncountedSleepNot last

-- and a note that is left out there is made
abbrev pub LateLeftOutIsMade : Type 0
LateLeftOutIsMade =
    (system : System) (told : ℕ → List Op) (timed : ℕ → ℕ → Bool) (last : Moment)
    → Leads (program_with system told timed) last
    → LeftOutIsMade (program_with system told timed) last

-- ---- methods that assert

-- a call of a method that asserts is refused or runs, whether it is one that tries or has a time:
-- its code waits nowhere
abbrev pub AssertingCodeWaitsNowhere : Type 0
AssertingCodeWaitsNowhere =
    (monitor : MonitorParts) (plan : Plan) (method : ℕ) (tries : Bool) → IsMonitor monitor
    → asserts_in (slice_get monitor.methods method) ≡ true
    → code_of monitor plan method tries
    ≡ asserting_code monitor plan (first_in (slice_get monitor.methods method))

-- ---- plans without the notes that nobody hears

-- the plan without the notes that nobody hears fits where the plan does
abbrev pub LivePlansFit : Type 0
LivePlansFit =
    (monitor : MonitorParts) (plan : Plan) → FitsPlan monitor plan
    → FitsPlan monitor (live_plan monitor plan)

-- and is lawful where the plan is
abbrev pub LivePlansAreLawful : Type 0
LivePlansAreLawful =
    (monitor : MonitorParts) (plan : Plan) → IsLawful monitor plan
    → IsLawful monitor (live_plan monitor plan)

-- the plan without the notes that nobody hears is lawful by counting where the plan is
abbrev pub LivePlansCount : Type 0
LivePlansCount =
    (monitor : MonitorParts) (plan : Plan) → IsLawfulByCounting monitor plan
    → IsLawfulByCounting monitor (live_plan monitor plan)

-- ---- the program that is printed

-- what is so at each moment of its executions
pub record LosesNone (program : Program) (last : Moment) : Type 0 where
  pub mutex : HoldersAct program last
  pub ready : BodiesAreReady program last
  pub run : Ran program last
  pub functions : FunctionsRanOnce program last
  pub answers : AnswersAreReplies program last
  pub counts : SleepersAreCounted last
  pub pending : SleepersAreSeenTo program last
  pub owed : NobodyIsOwed program last
  pub rests : QuietIsAtRest program last
  pub ends : StillIsTheEnd program last
  pub ends_the_run : StillEndsTheRun program last

-- The printed program of a lawful plan loses no wake-up, whatever threads call its methods, as
-- often as they do, and whichever calls have a time. Calls that try are the same to their caller
-- where they have one: what ran is a run of the implicit monitor, in which they try.
abbrev pub PrintedCodeLosesNone : Type 0
PrintedCodeLosesNone =
    (monitor : MonitorParts) (plan : Plan) (clients : List Client) (timed : ℕ → ℕ → Bool)
    (last : Moment) → IsMonitor monitor → FitsScripts monitor clients
    → FitsPlan monitor plan → IsLawful monitor plan
    → Leads (printed_program monitor plan clients timed) last
    → LosesNone (printed_program monitor plan clients timed) last

-- so does the program that is printed under a plan that is lawful by counting
abbrev pub CountedCodeLosesNone : Type 0
CountedCodeLosesNone =
    (monitor : MonitorParts) (plan : Plan) (clients : List Client) (timed : ℕ → ℕ → Bool)
    (last : Moment) → IsMonitor monitor → FitsScripts monitor clients
    → FitsPlan monitor plan → IsLawfulByCounting monitor plan
    → Leads (printed_program monitor plan clients timed) last
    → LosesNone (printed_program monitor plan clients timed) last
