-- The functions that calls are given, for data beside the fields: whose ran, in which order.
use Rattle.std.specs.Prelude.{◌≡◌, ◌==◌, ℕ, suc, ◌+◌, ◌-◌, Bool, true, false, not, ◌&&◌, List, []}
use Rattle.std.specs.Prelude.{◌∷◌, ◌++◌, filter, map, slice_get, if◌then◌else◌}
use Rattle.std.specs.Option.{option_map_or}
use Rattle.lang_monitor.specs.MonitorParts.{count_in}
use Rattle.machine_implicit.specs.declared.commit.Commit.{Commit}
use Rattle.machine_implicit.specs.declared.commit.Reply.{Reply}
use Rattle.machine_implicit.specs.declared.commit.Reply.TheVariants as replies
use Rattle.machine_implicit.specs.declared.script.Call.{Call}
use Rattle.machine_implicit.specs.Places.{gives_up}
use Rattle.machine_implicit.specs.Scripted.{calls_of}
use Rattle.emit_code.specs.Code.{Op, is_last_run}
use Rattle.emit_code.specs.Executions.{Program, Moment, commit_of, start, IsMove, Executes}
use Rattle.emit_code.specs.Executions.IsMove.{runs_body, panics}
use Rattle.emit_code.specs.Executions.Executes.{none_yet, one_more}

-- A call may be given a function, which its last body calls with the data, under the mutex and
-- before it changes a field. A call that is given none has one that does nothing.

-- the function of a call has run
pub data Turn : Type 0 where
  -- it returned, and the body that it was called with made this commit
  Returned : (commit : Commit) → Turn
  -- It panicked, in the call of this number among those of the thread, counted from 1. In Rust this
  -- ends the call, and the thread may stop there. Where it goes on, it makes the call again, with
  -- another function: so a call here may have many that panicked, and one at most that returned.
  Panicked : (thread call : ℕ) → Turn

-- ---- whose functions run: this is read off the code

-- the body stopped at a value that overflows
abbrev pub has_overflowed : Reply → Bool
has_overflowed replies.Overflow = true
has_overflowed reply = false

-- Whose function returned with a body, given what there is to do after it: that of the call, where
-- the body is the last of the call's code and did not overflow. So it is printed:
-- `let answer = next.run_m()?;` and then `f`, in this block alone.
abbrev pub returned_in : List Op → Commit → List Turn
returned_in rest commit =
    if not (has_overflowed commit.reply) && is_last_run rest then Returned commit ∷ [] else []

-- whose function runs in a move
abbrev pub turns_in : (program : Program) (before next : Moment) → IsMove program before next
    → List Turn
turns_in program before next (runs_body thread frame move) =
    returned_in move.rest (commit_of program thread frame move.block move.reply)
turns_in program before next (panics thread frame move) = Panicked thread (frame.past + 1) ∷ []
turns_in program before next move = []

-- whose functions ran in an execution, in order
abbrev pub turns_of : (program : Program) (first last : Moment) → Executes program first last
    → List Turn
turns_of program first last none_yet = []
turns_of program first last (one_more middle end so_far move) =
    turns_of program first middle so_far ++ turns_in program middle end move

-- those that returned
abbrev pub returned : List Turn → List Commit
returned [] = []
returned (Returned commit ∷ turns) = commit ∷ returned turns
returned (Panicked thread call ∷ turns) = returned turns

-- ---- what the monitor says

-- how many blocks a call of a program has
abbrev pub blocks_of : Program → Call → ℕ
blocks_of program call = count_in (slice_get program.monitor.methods call.method)

-- the last block of a call replied so, and did not overflow
abbrev pub completes : Program → Commit → Bool
completes program commit =
    not (gives_up commit.reply)
    && option_map_or (λ call. commit.block == blocks_of program call)
    (slice_get (calls_of program.clients commit.client) (commit.call - 1)) false

-- The functions that returned are those of the calls that blocks completed, each once, in the order
-- of what ran: so in the order of a run. It is so of the code that is printed, and not of any code:
-- not where the last body is that of an earlier block, or another comes after the last block's.
abbrev pub FunctionsRanOnce : Program → Moment → Type 0
FunctionsRanOnce program last =
    (run : Executes program (start program) last)
    → returned (turns_of program (start program) last run) ≡ filter (completes program) last.ran

-- ---- data

-- What functions leave of what they work on, each after those before it: the first to run does with
-- it what is said of 0, the next what is said of 1.
abbrev pub left_by : {D : Type 0} → (ℕ → Turn → D → D) → ℕ → List Turn → D → D
left_by does number [] held = held
left_by does number (turn ∷ turns) held =
    left_by does (suc number) turns (does number turn held)

-- a function panicked
abbrev pub has_panic : List Turn → Bool
has_panic [] = false
has_panic (Returned commit ∷ turns) = has_panic turns
has_panic (Panicked thread call ∷ turns) = true

-- Where none did, that is what the functions of those blocks leave, in the order of what ran.
abbrev pub DataFollowTheRun : Type 0 → Program → Moment → Type 0
DataFollowTheRun D program last =
    (run : Executes program (start program) last) (does : ℕ → Turn → D → D) (begun : D)
    → has_panic (turns_of program (start program) last run) ≡ false
    → left_by does 0 (turns_of program (start program) last run) begun
    ≡ left_by does 0 (map Returned (filter (completes program) last.ran)) begun
