-- What code does: threads that share a mutex and condition variables, one move at a time.
use Rattle.std.specs.Prelude.{◌≡◌, ◌==◌, ◌⊎◌, ℕ, ◌+◌, ◌-◌, Bool, true, false, not, ◌&&◌, ◌||◌}
use Rattle.std.specs.Prelude.{◌∷◌, ◌++◌, map, Option, Some, None, IsSomeAnd, slice_get, slice_set}
use Rattle.std.specs.Prelude.{List, [], if◌then◌else◌}
use Rattle.std.specs.Option.{option_map_or}
use Rattle.lang_base.specs.declared.value.Value.{Value}
use Rattle.lang_monitor.specs.MonitorParts.{MonitorParts, first_in, locals_in}
use Rattle.machine_implicit.specs.declared.commit.Commit.{Commit}
use Rattle.machine_implicit.specs.declared.commit.Reply.{Reply}
use Rattle.machine_implicit.specs.declared.commit.Reply.TheVariants as replies
use Rattle.machine_implicit.specs.declared.script.Call.{Call}
use Rattle.machine_implicit.specs.declared.script.Client.{Client}
use Rattle.machine_implicit.specs.Steps.{BlockSteps, given, held, guard_truth, condition_truth}
use Rattle.machine_implicit.specs.Steps.{start_of}
use Rattle.machine_implicit.specs.Scripted.{calls_of}
use Rattle.machine_events.specs.declared.plan.Note.{Note}
use Rattle.machine_events.specs.Counts.{one_if}
use Rattle.machine_events.specs.Configurations.{System}
use Rattle.emit_code.specs.Code.{Op, telling_code, test_code, code_with, is_last_run}
use Rattle.emit_code.specs.Code.Op.{Lock, WaitUntil, ElseRefuse, Run, Notify, Unlock, Release}

-- ---- programs and threads

-- a monitor, the code of each method, by its number, for calls that are refused at once or wait,
-- what each thread calls, and which of its calls, by their numbers from 0, have a time: of those
-- that try, `put_for(time)` and `put_until(end)` have one, and `try_put()` has none
pub record Program : Type 0 where
  pub monitor : MonitorParts
  pub code : ℕ → Bool → List Op
  pub clients : List Client
  pub timed : (thread call : ℕ) → Bool

-- a system as a program: a client is a thread, and after the body of a block comes what is told
abbrev pub program_with : System → (ℕ → List Op) → (ℕ → ℕ → Bool) → Program
program_with system told timed = record {
  monitor = system.monitor;
  code = code_with system.monitor told;
  clients = system.clients;
  timed = timed;
}

-- where a thread is
pub data Position : Type 0 where
  -- between two calls
  Outside : Position
  -- in a call, with this to do
  At : (rest : List Op) → Position
  -- in `Condvar::wait` on this condition, asleep, in the loop of this block; then there is the rest
  Asleep : (block condition : ℕ) (rest : List Op) → Position
  -- in `Condvar::wait`, notified or woken by nothing, and in want of the mutex
  Notified : (block condition : ℕ) (rest : List Op) → Position

-- what a thread keeps: how many of its calls were answered, and, of the call that it is in, the
-- locals and the answer so far
pub record Frame : Type 0 where
  pub past : ℕ
  pub locals : List Value
  pub answer : Reply

-- a thread: what it keeps, and where it is
pub record Thread : Type 0 where
  pub frame : Frame
  pub position : Position

-- a moment of an execution
pub record Moment : Type 0 where
  -- the fields, in the mutex
  pub state : List Value
  -- beside them: how many sleep on each condition, as the code counts
  pub asleep : ℕ → ℕ
  -- the thread that holds the mutex
  pub holder : Option ℕ
  -- which bodies ran and which calls were refused, in order: the program doesn't keep it
  pub ran : List Commit
  pub threads : List Thread

-- a thread that has made no call
abbrev pub new_thread : Thread
new_thread = record {
  frame = record { past = 0; locals = []; answer = replies.Unit };
  position = Outside;
}

-- the fields at their start, nobody asleep, the mutex free, and every thread between two calls
abbrev pub start : Program → Moment
start program = record {
  state = start_of program.monitor;
  asleep = λ condition. 0;
  holder = None;
  ran = [];
  threads = map (λ client. new_thread) program.clients;
}

-- the thread of this number keeps this, and is there
abbrev pub IsThread : List Thread → ℕ → Frame → Position → Type 0
IsThread threads thread frame position =
    slice_get threads thread ≡ Some (record { frame = frame; position = position })

-- it does so from now on
abbrev pub goes : List Thread → ℕ → Frame → Position → List Thread
goes threads thread frame position =
    slice_set threads thread (record { frame = frame; position = position })

-- the call that a thread is at
abbrev pub call_of : Program → ℕ → Frame → Option Call
call_of program thread frame = slice_get (calls_of program.clients thread) frame.past

-- ---- a call begins and ends

-- a call that tries is refused at once where its guard is false, unless it has a time; one of a
-- method that asserts is so by its code, with a time or without (`test_code`)
abbrev pub at_once : Program → ℕ → Frame → Bool → Bool
at_once program thread frame tries = not (program.timed thread frame.past) && tries

-- the thread's next call begins, with the start values of the method's locals
pub record Calls (program : Program) (thread : ℕ) (frame : Frame) (before next : Moment) : Type 0
  where
    pub outside : IsThread before.threads thread frame Outside
    pub call : Call
    pub call_is : call_of program thread frame ≡ Some call
    pub becomes : next ≡ record before {
      threads = goes before.threads thread
          (record {
            past = frame.past;
            locals = locals_in (slice_get program.monitor.methods call.method);
            answer = replies.Unit;
          })
          (At (program.code call.method (at_once program thread frame call.tries)));
    }

-- nothing is left to do: the call returns the answer
pub record Returns (thread : ℕ) (frame : Frame) (before next : Moment) : Type 0 where
  pub at : IsThread before.threads thread frame (At [])
  pub becomes : next ≡ record before {
    threads = goes before.threads thread (record frame { past = frame.past + 1 }) Outside;
  }

-- ---- the mutex

-- `lock` takes the mutex, which nobody holds
pub record Takes (thread : ℕ) (frame : Frame) (before next : Moment) : Type 0 where
  pub rest : List Op
  pub at : IsThread before.threads thread frame (At (Lock ∷ rest))
  pub free : before.holder ≡ None
  pub becomes : next ≡ record before {
    holder = Some thread;
    threads = goes before.threads thread frame (At rest);
  }

-- the guard of the mutex is dropped
pub record Unlocks (thread : ℕ) (frame : Frame) (before next : Moment) : Type 0 where
  pub rest : List Op
  pub at : IsThread before.threads thread frame (At (Unlock ∷ rest))
  pub becomes : next ≡ record before {
    holder = None;
    threads = goes before.threads thread frame (At rest);
  }

-- ---- guards

-- the guard of a block in a state, at the arguments of the thread's call and its locals
abbrev pub is_open : Program → List Value → ℕ → Frame → ℕ → Bool
is_open program state thread frame block =
    option_map_or
    (λ call. guard_truth program.monitor state block (given call.inputs frame.locals))
    (call_of program thread frame) false

-- the block whose guard an operation tests
abbrev pub tested_block : Op → Option ℕ
tested_block (WaitUntil block condition) = Some block
tested_block (ElseRefuse block) = Some block
tested_block op = None

-- the guard is true, and the thread goes on
pub record Passes (program : Program) (thread : ℕ) (frame : Frame) (before next : Moment) : Type 0
  where
    pub op : Op
    pub block : ℕ
    pub rest : List Op
    pub at : IsThread before.threads thread frame (At (op ∷ rest))
    pub tests : tested_block op ≡ Some block
    pub open_is : is_open program before.state thread frame block ≡ true
    pub becomes : next ≡ record before {
      threads = goes before.threads thread frame (At rest);
    }

-- `inner.asleep_c += 1;`
abbrev pub one_more_on : ℕ → (ℕ → ℕ) → ℕ → ℕ
one_more_on condition asleep other = asleep other + one_if (condition == other)

-- `inner.asleep_c -= 1;`
abbrev pub one_less_on : ℕ → (ℕ → ℕ) → ℕ → ℕ
one_less_on condition asleep other = asleep other - one_if (condition == other)

-- the guard is false: the thread is counted, and `wait` gives the mutex back and falls asleep, in
-- one step
pub record FallsAsleep (program : Program) (thread : ℕ) (frame : Frame) (before next : Moment) :
    Type 0 where
  pub block : ℕ
  pub condition : ℕ
  pub rest : List Op
  pub at : IsThread before.threads thread frame (At (WaitUntil block condition ∷ rest))
  pub closed_is : is_open program before.state thread frame block ≡ false
  pub becomes : next ≡ record before {
    asleep = one_more_on condition before.asleep;
    holder = None;
    threads = goes before.threads thread frame (Asleep block condition rest);
  }

-- one that sleeps is woken by nothing, or by the clock, where its call has a time
pub record WakesByNothing (thread : ℕ) (frame : Frame) (before next : Moment) : Type 0 where
  pub block : ℕ
  pub condition : ℕ
  pub rest : List Op
  pub at : IsThread before.threads thread frame (Asleep block condition rest)
  pub becomes : next ≡ record before {
    threads = goes before.threads thread frame (Notified block condition rest);
  }

-- `wait` returns with the mutex, which nobody holds, the thread is no longer counted, and the loop
-- begins again
pub record Retakes (thread : ℕ) (frame : Frame) (before next : Moment) : Type 0 where
  pub block : ℕ
  pub condition : ℕ
  pub rest : List Op
  pub at : IsThread before.threads thread frame (Notified block condition rest)
  pub free : before.holder ≡ None
  pub becomes : next ≡ record before {
    asleep = one_less_on condition before.asleep;
    holder = Some thread;
    threads = goes before.threads thread frame (At (WaitUntil block condition ∷ rest));
  }

-- ---- bodies and refusals

-- the number of a block within the method of the thread's call
abbrev pub number_in : Program → ℕ → Frame → ℕ → ℕ
number_in program thread frame block =
    option_map_or (λ call. block - first_in (slice_get program.monitor.methods call.method))
    (call_of program thread frame) 0

-- what is noted of a block of the thread's call, which has the numbers counted from 1
abbrev pub commit_of : Program → ℕ → Frame → ℕ → Reply → Commit
commit_of program thread frame block reply = record {
  client = thread;
  call = frame.past + 1;
  block = number_in program thread frame block + 1;
  reply = reply;
}

-- the call that a thread is in tries at the block, the first of its method
abbrev pub tries_there : Program → ℕ → Frame → ℕ → Bool
tries_there program thread frame block =
    option_map_or (λ call. call.tries && number_in program thread frame block == 0)
    (call_of program thread frame) false

-- it waits there, and no longer than its time
abbrev pub has_time : Program → ℕ → Frame → ℕ → Bool
has_time program thread frame block =
    program.timed thread frame.past && tries_there program thread frame block

-- the guard is false in a call that tries and has no time, or whose method asserts: it is refused
pub record Refuses (program : Program) (thread : ℕ) (frame : Frame) (before next : Moment) : Type 0
  where
    pub block : ℕ
    pub rest : List Op
    pub at : IsThread before.threads thread frame (At (ElseRefuse block ∷ rest))
    pub closed_is : is_open program before.state thread frame block ≡ false
    pub becomes : next ≡ record before {
      ran = before.ran ++ commit_of program thread frame block replies.Refused ∷ [];
      threads = goes before.threads thread (record frame { answer = replies.Refused })
          (At (Unlock ∷ []));
    }

-- The guard is false in a call whose time is over: it is refused, before it waited or after, and
-- makes no note. Of the clock nothing is said: a time may be over at any moment, or never.
pub record Abandons (program : Program) (thread : ℕ) (frame : Frame) (before next : Moment) : Type 0
  where
    pub block : ℕ
    pub condition : ℕ
    pub rest : List Op
    pub at : IsThread before.threads thread frame (At (WaitUntil block condition ∷ rest))
    pub timed : has_time program thread frame block ≡ true
    pub closed_is : is_open program before.state thread frame block ≡ false
    pub becomes : next ≡ record before {
      ran = before.ran ++ commit_of program thread frame block replies.Refused ∷ [];
      threads = goes before.threads thread (record frame { answer = replies.Refused })
          (At (Unlock ∷ []));
    }

-- what is left to do after a body: after an overflow these notes alone, and the call ends
abbrev pub continues : Reply → List Note → List Op → List Op
continues replies.Overflow otherwise rest = telling_code otherwise
continues reply otherwise rest = rest

-- the body runs whole, or a value overflows and nothing changes
pub record RunsBody (program : Program) (thread : ℕ) (frame : Frame) (before next : Moment) :
    Type 0 where
  pub block : ℕ
  pub otherwise : List Note
  pub rest : List Op
  pub at : IsThread before.threads thread frame (At (Run block otherwise ∷ rest))
  pub reply : Reply
  pub state : List Value
  pub locals : List Value
  pub steps : IsSomeAnd (call_of program thread frame)
      (λ call. IsSomeAnd (slice_get program.monitor.blocks block)
      (λ which. BlockSteps which (given call.inputs frame.locals) before.state reply
      (held state locals)))
  pub becomes : next ≡ record before {
    state = state;
    ran = before.ran ++ commit_of program thread frame block reply ∷ [];
    threads = goes before.threads thread
        (record { past = frame.past; locals = locals; answer = reply })
        (At (continues reply otherwise rest));
  }

-- ---- a function panics

-- these notes are made, the mutex is given back, and there is more to do
abbrev pub telling_then : List Note → List Op → List Op
telling_then [] rest = Unlock ∷ rest
telling_then (note ∷ notes) rest = Notify note ∷ telling_then notes rest

-- what is left to do after a panic: the notes of an overflow are made, the mutex is given back, and
-- the thread stands before the block as if it had not come so far
abbrev pub recovers : Program → ℕ → Frame → ℕ → List Note → List Op → List Op
recovers program thread frame block otherwise rest =
    telling_then otherwise (Lock ∷ test_code program.monitor
    (at_once program thread frame (tries_there program thread frame block)) block
    (Run block otherwise ∷ rest))

-- The function that a call was given panics, which its last body calls. In what is printed nothing
-- else can panic, so at no other body is there such a move. Nothing has changed but the function's
-- data. Where the panic is caught the call may be made again, or another one, as by another thread;
-- where it isn't, the thread makes no move after it gave the mutex back.
pub record Panics (program : Program) (thread : ℕ) (frame : Frame) (before next : Moment) : Type 0
  where
    pub block : ℕ
    pub otherwise : List Note
    pub rest : List Op
    pub at : IsThread before.threads thread frame (At (Run block otherwise ∷ rest))
    pub last : is_last_run rest ≡ true
    pub becomes : next ≡ record before {
      threads = goes before.threads thread frame
          (At (recovers program thread frame block otherwise rest));
    }

-- ---- notes

-- an `if` around it has a true guard, or it has none
abbrev pub is_made : Program → List Value → Note → Bool
is_made program state note =
    not note.tested || condition_truth program.monitor state note.condition

-- no thread sleeps on the condition
abbrev pub NoneSleeps : List Thread → ℕ → Type 0
NoneSleeps threads condition =
    (thread : ℕ) (frame : Frame) (block : ℕ) (rest : List Op)
    → IsThread threads thread frame (Asleep block condition rest) → ⊥

-- one that sleeps on the condition is notified
abbrev pub woken_position : ℕ → Position → Position
woken_position condition (Asleep block other rest) =
    if other == condition then Notified block condition rest else Asleep block other rest
woken_position condition Outside = Outside
woken_position condition (At rest) = At rest
woken_position condition (Notified block other rest) = Notified block other rest

-- so is the thread, if it sleeps on the condition
abbrev pub woken_thread : ℕ → Thread → Thread
woken_thread condition thread =
    record { frame = thread.frame; position = woken_position condition thread.position }

-- `notify_one`, where one sleeps on the condition, wakes any one of those
pub record NotifiesOne (program : Program) (now : Moment) (note : Note) (woken : List Thread) :
    Type 0 where
  pub made : is_made program now.state note ≡ true
  pub one : note.all ≡ false
  pub target : ℕ
  pub target_frame : Frame
  pub block : ℕ
  pub rest : List Op
  pub sleeps : IsThread now.threads target target_frame (Asleep block note.condition rest)
  pub becomes : woken
      ≡ goes now.threads target target_frame (Notified block note.condition rest)

-- `notify_all` wakes each that sleeps on the condition
pub record NotifiesEach (program : Program) (now : Moment) (note : Note) (woken : List Thread) :
    Type 0 where
  pub made : is_made program now.state note ≡ true
  pub each : note.all ≡ true
  pub becomes : woken ≡ map (woken_thread note.condition) now.threads

-- a note that an `if` leaves out, and a `notify_one` where nobody sleeps, do nothing
pub record NotifiesNobody (program : Program) (now : Moment) (note : Note) (woken : List Thread) :
    Type 0 where
  pub nobody : (is_made program now.state note ≡ false)
      ⊎ ((note.all ≡ false) × NoneSleeps now.threads note.condition)
  pub becomes : woken ≡ now.threads

-- the threads after a note
abbrev pub AreNotified : Program → Moment → Note → List Thread → Type 0
AreNotified program now note woken =
    NotifiesOne program now note woken
    ⊎ (NotifiesEach program now note woken ⊎ NotifiesNobody program now note woken)

-- a note is made
pub record Notifies (program : Program) (thread : ℕ) (frame : Frame) (before next : Moment) : Type 0
  where
    pub note : Note
    pub rest : List Op
    pub woken : List Thread
    pub at : IsThread before.threads thread frame (At (Notify note ∷ rest))
    pub notified : AreNotified program before note woken
    pub becomes : next ≡ record before { threads = goes woken thread frame (At rest) }

-- ---- the mutex is given back, and those notes come next that are called for

-- someone sleeps on the condition of the note, as the code counts, and an `if` around it has a true
-- guard, or it has none
abbrev pub is_called_for : Program → Moment → Note → Bool
is_called_for program now note =
    not (now.asleep note.condition == 0) && is_made program now.state note

-- it is made whatever the guard is when it is made
abbrev pub untested : Note → Note
untested note = record note { tested = false }

-- of these notes each that is called for, and then the rest
abbrev pub called_for : Program → Moment → List Note → List Op → List Op
called_for program now [] rest = rest
called_for program now (note ∷ notes) rest =
    if is_called_for program now note
    then Notify (untested note) ∷ called_for program now notes rest
    else called_for program now notes rest

-- which notes come next is settled in the step that gives the mutex back
pub record Releases (program : Program) (thread : ℕ) (frame : Frame) (before next : Moment) : Type 0
  where
    pub notes : List Note
    pub rest : List Op
    pub at : IsThread before.threads thread frame (At (Release notes ∷ rest))
    pub becomes : next ≡ record before {
      holder = None;
      threads = goes before.threads thread frame (At (called_for program before notes rest));
    }

-- ---- executions

-- a move of a thread; any thread may make its next one at any moment
pub data IsMove (program : Program) (before next : Moment) : Type 0 where
  calls : (thread : ℕ) (frame : Frame) → Calls program thread frame before next
      → IsMove program before next
  takes : (thread : ℕ) (frame : Frame) → Takes thread frame before next
      → IsMove program before next
  passes : (thread : ℕ) (frame : Frame) → Passes program thread frame before next
      → IsMove program before next
  falls_asleep : (thread : ℕ) (frame : Frame) → FallsAsleep program thread frame before next
      → IsMove program before next
  wakes : (thread : ℕ) (frame : Frame) → WakesByNothing thread frame before next
      → IsMove program before next
  retakes : (thread : ℕ) (frame : Frame) → Retakes thread frame before next
      → IsMove program before next
  refuses : (thread : ℕ) (frame : Frame) → Refuses program thread frame before next
      → IsMove program before next
  abandons : (thread : ℕ) (frame : Frame) → Abandons program thread frame before next
      → IsMove program before next
  runs_body : (thread : ℕ) (frame : Frame) → RunsBody program thread frame before next
      → IsMove program before next
  panics : (thread : ℕ) (frame : Frame) → Panics program thread frame before next
      → IsMove program before next
  notifies : (thread : ℕ) (frame : Frame) → Notifies program thread frame before next
      → IsMove program before next
  unlocks : (thread : ℕ) (frame : Frame) → Unlocks thread frame before next
      → IsMove program before next
  releases : (thread : ℕ) (frame : Frame) → Releases program thread frame before next
      → IsMove program before next
  returns : (thread : ℕ) (frame : Frame) → Returns thread frame before next
      → IsMove program before next

-- moves one after the other
pub data Executes (program : Program) (before : Moment) : Moment → Type 0 where
  none_yet : Executes program before before
  one_more : (middle last : Moment) → Executes program before middle → IsMove program middle last
      → Executes program before last

-- A wake-up by nothing, or a panic, which nobody may count on. By the clock a call that has a time
-- is woken at last, so that is not by chance.
abbrev pub is_by_chance : (program : Program) (before next : Moment)
    → IsMove program before next → Bool
is_by_chance program before next (wakes thread frame move) =
    not (has_time program thread frame move.block)
is_by_chance program before next (panics thread frame move) = true
is_by_chance program before next move = false

-- no thread can move but by chance
abbrev pub IsStill : Program → Moment → Type 0
IsStill program now =
    (next : Moment) (move : IsMove program now next) → is_by_chance program now next move ≡ true

-- What a thread need not do, since it may stop between two calls, or before it locks the mutex, as
-- after a panic; what the clock need not do, as times may never end; and what is by chance.
abbrev pub is_optional : (program : Program) (before next : Moment)
    → IsMove program before next → Bool
is_optional program before next (calls thread frame move) = true
is_optional program before next (takes thread frame move) = true
is_optional program before next (wakes thread frame move) = true
is_optional program before next move = is_by_chance program before next move

-- no thread can move but so
abbrev pub IsQuiet : Program → Moment → Type 0
IsQuiet program now =
    (next : Moment) (move : IsMove program now next) → is_optional program now next move ≡ true
