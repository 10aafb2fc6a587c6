-- The code of a monitor under a plan: what a thread does in a call, one operation after the other.
use Rattle.std.specs.Prelude.{◌==◌, ℕ, zero, suc, ◌+◌, ◌-◌, Bool, true, false, not, ◌&&◌, ◌||◌, List}
use Rattle.std.specs.Prelude.{[], ◌∷◌, ◌++◌, slice_get, if◌then◌else◌}
use Rattle.std.specs.Option.{option_map_or}
use Rattle.logic_linear.specs.declared.formula.Formula.{Formula}
use Rattle.logic_linear.specs.declared.formula.Formula.TheOpen.{Formula-F, Row, Flag, All as Every}
use Rattle.logic_linear.specs.declared.formula.Formula.TheOpen.{Any as Some_of}
use Rattle.logic_linear.specs.declared.formula.Formula.TheFolds.{fold-Formula}
use Rattle.lang_monitor.specs.MonitorParts.{MonitorParts, first_in, count_in}
use Rattle.machine_events.specs.declared.plan.Note.{Note}
use Rattle.machine_events.specs.declared.plan.Plan.{Plan}
use Rattle.machine_events.specs.Plans.{notes_at}
use Rattle.machine_events.specs.Configurations.{block_condition}

-- ---- operations; each stands for a statement of Rust

-- There `inner` is what the mutex guards: the fields, `inner.state`, of each condition how many
-- sleep on it, `inner.asleep_c`, and `inner.data`. `can_m` and `run_m` are the functions of a
-- block's guard and body, and `can_c` is that of the guard of a condition's first block, and the
-- condition's variable. Of the second block of a method they are `can2_m`, `run2_m` and
-- `asleep2_m`, and so on. They are handed the parameters and locals that they take, as in
-- `can_m(amount, seen)` and
-- `run_m(amount, &mut seen)`. `lock`, `wait` and `wait_for` are functions of the module, which call
-- `Mutex::lock`, `Condvar::wait` and `Condvar::wait_timeout`, and `time_left` is one which says how
-- long it is until then by the clock, or `None`.
--
-- Of what else is printed, `State::START` and the counts of 0, with which the mutex begins, are the
-- fields and the counts at the `start` of an execution (specs/Executions), and on a
-- `Condvar::new()` nobody sleeps, as there. A method's head, and after it `let mut seen: i64 = 0;`
-- for each local, are the move `Calls`; its end is the move `Returns`. The last line of a method is
-- what its last block answered: `answer`, or none where it has no result; `Ok(answer)` where a body
-- of the method may overflow or its calls try, with `()` in place of `answer` where there is no
-- result. In a call with a function it is `result`, or `Ok(result)`: what the function returned,
-- which was handed `answer` where there is one. Calls with a time are `m_until(end)`, and
-- `m_for(time)`: where `Instant::now().checked_add(time)` is `Some(end)` that is `m_until(end)`,
-- and where it is `None`, since the clock does not get there, it is `m()`, so a call that waits.
-- With a function they are `m_until_with`, and `m_for_with` by this and `m_with`.

-- what a thread does in a call, by one statement
pub data Op : Type 0 where
  -- `let mut inner = lock(&self.inner);`: the mutex is taken
  Lock : Op
  -- `while !inner.state.can_m() { inner.asleep_c += 1; inner = wait(&self.can_c, inner);
  -- inner.asleep_c -= 1; }`: the guard of a block, on a condition; where the condition reads no
  -- inputs, the test is `can_c()`. The count is raised and lowered with the mutex. In a call with a
  -- time the loop of its first block begins with
  -- `let Some(left) = time_left(end) else { return Err(Refused); };` (`Failed::Refused` as below),
  -- whose `return` is the move `Abandons`, and it waits by
  -- `inner = wait_for(&self.can_c, inner, left);`
  WaitUntil : (block condition : ℕ) → Op
  -- `if !inner.state.can_m() { return Err(Refused); }`: the guard of a block, tested as above; that
  -- of a block without a condition by its own `can_m`, whatever it reads. The error is
  -- `Failed::Refused` where a body of the method may overflow. The `return` drops the guard of the
  -- mutex: this is the `Unlock` that the move `Refuses` leaves to do
  ElseRefuse : (block : ℕ) → Op
  -- the body of a block, and the notes that are made where it overflows:
  -- `let answer = inner.state.run_m();` where it can't overflow, and so none of them is made;
  -- `let answer = inner.state.run_m()?;` where it may and there are no such notes;
  -- `let Ok(answer) = inner.state.run_m() else { self.can_c.notify_one(); return Err(Overflow); };`
  -- where there are. Where it has no result it is `inner.state.run_m();`, `inner.state.run_m()?;`
  -- and `let Ok(()) = ..`. In a call that tries the error is `Failed::Overflow`, which the `?`
  -- makes of the other. The `?` and the `return` of an overflow drop the guard of the mutex: this
  -- is the `Unlock` that ends `telling_code`. In a call that is given a function its last block is
  -- `let hand = HandOn(&self.can_c);`, `let mut next = inner.state;`,
  -- `let answer = next.run_m()?;`, `let result = f(&mut inner.data, answer);`,
  -- `std::mem::forget(hand);`, `inner.state = next;`. The first and the fifth are left out where
  -- there are no such notes, so where nobody waits on the block's condition; the `?` where the body
  -- can't overflow; `let answer = ` and `, answer` where it has no result. The shortest is
  -- `let mut next = inner.state;`, `next.run_m();`, `let result = f(&mut inner.data);`,
  -- `inner.state = next;`. Where the `?` returns or `f` panics, `hand` is dropped, which makes the
  -- note, and then `inner`; a panic is the move `Panics`. No other block of the call calls `f`
  Run : (block : ℕ) (otherwise : List Note) → Op
  -- the mutex is given back, and those of the notes come next that are called for:
  -- `let copy = inner.copy(); drop(inner);`, and then of each note
  -- `if copy.asleep_c > 0 { self.can_c.notify_one(); }`, or `notify_all` where the note is for all;
  -- where it is tested, in `if copy.asleep_c > 0 && copy.state.can_c() { .. }`. So what the mutex
  -- guarded when it was given back says which of them are made. With no notes it is `drop(inner);`
  Release : (notes : List Note) → Op
  -- `self.can_c.notify_one();`, or `notify_all`: a note that is made whatever the count. In what is
  -- printed it is untested: the note after an overflow, and one that was called for
  Notify : (note : Note) → Op
  -- the guard of the mutex is dropped, which gives the mutex back: by a `return` or a `?`, as
  -- above, and by no statement of its own
  Unlock : Op

-- ---- whether anyone ever waits on a condition: its guard is not `true`

abbrev pub is_always_step : Formula-F Bool → Bool
is_always_step (Every []) = true
is_always_step (Every (part ∷ parts)) = false
is_always_step (Row form) = false
is_always_step (Flag place is) = false
is_always_step (Some_of parts) = false

-- the formula is `true` as it is written
abbrev pub is_always : Formula → Bool
is_always = fold-Formula Bool is_always_step

-- there is a condition of this number, and it has no such guard
abbrev pub is_waited_on : MonitorParts → ℕ → Bool
is_waited_on monitor condition =
    not (condition == 0) && option_map_or (λ which. not (is_always which.guard))
    (slice_get monitor.conditions (condition - 1)) false

-- the guard of the block of this number is no such guard
abbrev pub is_guarded : MonitorParts → ℕ → Bool
is_guarded monitor block =
    option_map_or (λ which. not (is_always which.guard)) (slice_get monitor.blocks block) false

-- ---- the code of a block, from its end

-- these notes are made, and the mutex is given back
abbrev pub telling_code : List Note → List Op
telling_code [] = Unlock ∷ []
telling_code (note ∷ notes) = Notify note ∷ telling_code notes

-- an untested signal
abbrev pub signal_on : ℕ → Note
signal_on condition = record { condition = condition; all = false; tested = false }

-- after an overflow: one signal on the block's own condition, where anyone waits there
abbrev pub overflow_notes : MonitorParts → ℕ → List Note
overflow_notes monitor block =
    if is_waited_on monitor (block_condition monitor block)
    then signal_on (block_condition monitor block) ∷ [] else []

-- A block's guard is tested before the rest, if it is not `true`: the call waits for it, or, where
-- it tries, is refused. A block without a condition asserts: nobody ever waits for it.
abbrev pub test_code : MonitorParts → Bool → ℕ → List Op → List Op
test_code monitor tries block rest =
    if is_guarded monitor block
    then (if tries || block_condition monitor block == 0 then ElseRefuse block ∷ rest
    else WaitUntil block (block_condition monitor block) ∷ rest)
    else rest

-- ---- the code of a method, given what comes after the body of each block

-- the body of a block, what comes after it, and the rest
abbrev pub running_code : MonitorParts → (ℕ → List Op) → ℕ → List Op → List Op
running_code monitor told block rest = Run block (overflow_notes monitor block) ∷ told block ++ rest

-- So many blocks one after the other, the first of them with this number: each locks the mutex
-- anew. A call that tries does so at the first alone.
abbrev pub blocks_code : MonitorParts → (ℕ → List Op) → Bool → ℕ → ℕ → List Op
blocks_code monitor told tries block zero = []
blocks_code monitor told tries block (suc more) =
    Lock ∷ test_code monitor tries block
    (running_code monitor told block (blocks_code monitor told false (block + 1) more))

-- the code of a method, by its number, for calls that try or for those that wait
abbrev pub code_with : MonitorParts → (ℕ → List Op) → ℕ → Bool → List Op
code_with monitor told method tries =
    blocks_code monitor told tries (first_in (slice_get monitor.methods method))
    (count_in (slice_get monitor.methods method))

-- no body is left to run: the one before this is the last of its call
abbrev pub is_last_run : List Op → Bool
is_last_run [] = true
is_last_run (Run block otherwise ∷ rest) = false
is_last_run (op ∷ rest) = is_last_run rest

-- ---- the code that is printed

-- after the body of a block: the mutex is given back, and its notes come next that are called for
abbrev pub late_order : Plan → ℕ → List Op
late_order plan block = Release (notes_at plan block) ∷ []

-- the code of a method under a plan
abbrev pub code_of : MonitorParts → Plan → ℕ → Bool → List Op
code_of monitor plan = code_with monitor (late_order plan)

-- what a call of a method does that asserts, whose only block this is: it is refused, or runs, and
-- nobody ever waits for it
abbrev pub asserting_code : MonitorParts → Plan → ℕ → List Op
asserting_code monitor plan block =
    Lock ∷ (if is_guarded monitor block
    then ElseRefuse block ∷ Run block [] ∷ Release (notes_at plan block) ∷ []
    else Run block [] ∷ Release (notes_at plan block) ∷ [])
