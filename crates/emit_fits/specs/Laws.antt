-- What the laws say.
use Rattle.std.specs.Prelude.{◌≡◌, ℕ, ◌+◌, ◌<◌, ◌≤◌, Bool, List, All, Some, slice_get}
use Rattle.lang_monitor.specs.declared.candidate.Candidate.{Candidate}
use Rattle.lang_monitor.specs.MonitorParts.{MonitorParts, IsMonitor, count_in, first_in, locals_in}
use Rattle.lang_monitor.specs.MonitorParts.{start_of}
use Rattle.machine_implicit.specs.declared.commit.Reply.TheVariants as replies
use Rattle.machine_implicit.specs.declared.script.Call.{Call}
use Rattle.machine_implicit.specs.declared.script.Client.{Client}
use Rattle.machine_implicit.specs.Scripted.{FitsScripts}
use Rattle.machine_events.specs.declared.plan.Plan.{Plan}
use Rattle.machine_events.specs.Plans.{FitsPlan}
use Rattle.machine_events.specs.Counts.{IsLawfulByCounting}
use Rattle.emit_code.specs.Code.{Op}
use Rattle.emit_code.specs.Executions.{Frame, IsThread, Moment, Position, Program, RunsBody}
use Rattle.emit_code.specs.Executions.{call_of}
use Rattle.emit_code.specs.Executions.Position.{At}
use Rattle.emit_code.specs.Laws.{Leads}
use Rattle.emit_code.specs.LivePlans.{printed_program}
use Rattle.plan_fits.specs.Fits.{AreIn64, Fits64}

-- ---- executions within 64 bits

-- the fields at the start, and the locals with which a call begins, are within 64 bits
pub record StartsIn64 (monitor : MonitorParts) : Type 0 where
  pub state : AreIn64 (start_of monitor)
  pub locals : (method : ℕ) → AreIn64 (locals_in (slice_get monitor.methods method))

-- the arguments of all calls of these clients are within 64 bits
abbrev pub PassIn64 : List Client → Type 0
PassIn64 clients = All (λ client. All (λ call. AreIn64 call.inputs) client.calls) clients

-- the fields, and the locals that each thread has, are within 64 bits at this moment
pub record IsIn64 (now : Moment) : Type 0 where
  pub state : AreIn64 now.state
  pub locals : (thread : ℕ) (frame : Frame) (position : Position)
      → IsThread now.threads thread frame position → AreIn64 frame.locals

-- Where the start and the arguments of all calls are within 64 bits, so are the fields and locals
-- at each moment of each execution.
abbrev pub MomentsStayIn64 : Type 0
MomentsStayIn64 =
    (program : Program) (last : Moment) → StartsIn64 program.monitor → PassIn64 program.clients
    → Leads program last → IsIn64 last

-- ---- blocks that fit

-- Under a plan that is lawful by counting, no move of an execution of the printed program overflows
-- that runs the body of a block which fits under what the plan keeps.
abbrev pub FittingBlocksNeverOverflow : Type 0
FittingBlocksNeverOverflow =
    (monitor : MonitorParts) (plan : Plan) (clients : List Client) (timed : ℕ → ℕ → Bool)
    (before next : Moment) (thread : ℕ) (frame : Frame)
    → IsMonitor monitor → FitsScripts monitor clients
    → FitsPlan monitor plan → IsLawfulByCounting monitor plan
    → StartsIn64 monitor → PassIn64 clients
    → Leads (printed_program monitor plan clients timed) before
    → (move : RunsBody (printed_program monitor plan clients timed) thread frame before next)
    → Fits64 monitor plan.kept move.block → move.reply ≡ replies.Overflow → ⊥

-- each block of the method fits
abbrev pub MethodFits : MonitorParts → List Candidate → ℕ → Type 0
MethodFits monitor kept method =
    (number : ℕ) → first_in (slice_get monitor.methods method) ≤ number
    → number < first_in (slice_get monitor.methods method)
    + count_in (slice_get monitor.methods method)
    → Fits64 monitor kept number

-- So no call of a method all of whose blocks fit has an overflow for its answer, at any moment from
-- its begin to its return.
abbrev pub FittingCallsNeverOverflow : Type 0
FittingCallsNeverOverflow =
    (monitor : MonitorParts) (plan : Plan) (clients : List Client) (timed : ℕ → ℕ → Bool)
    (last : Moment) (thread : ℕ) (frame : Frame) (rest : List Op) (call : Call)
    → IsMonitor monitor → FitsScripts monitor clients
    → FitsPlan monitor plan → IsLawfulByCounting monitor plan
    → StartsIn64 monitor → PassIn64 clients
    → Leads (printed_program monitor plan clients timed) last
    → IsThread last.threads thread frame (At rest)
    → call_of (printed_program monitor plan clients timed) thread frame ≡ Some call
    → MethodFits monitor plan.kept call.method → frame.answer ≡ replies.Overflow → ⊥
