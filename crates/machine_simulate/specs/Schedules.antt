-- Schedules: by rounds, and drawn from the words of a generator.
use Rattle.std.specs.Prelude.{◌≡◌, ◌==◌, ◌&&◌, ◌+◌, ◌/◌, ◌%◌, ◌<◌, ℕ, Bool, true, false, nat_lt}
use Rattle.std.specs.Prelude.{List, ◌++◌, length, filter, Some, slice_get}
use Rattle.std.specs.List.{range_with_len}
use Rattle.std.specs.Option.{option_map_or}
use Rattle.rand_pcg.specs.Lcg.{Lcg, started, increment_of}
use Rattle.rand_pcg.specs.Pcg.{pcg32, multiplier_64}
use Rattle.machine_implicit.specs.Rounds.{asked_before}
use Rattle.machine_events.specs.declared.log.Entry.{Entry}
use Rattle.machine_events.specs.Stages.{is_waiting_stage}
use Rattle.machine_events.specs.Logs.{IsClosed}
use Rattle.machine_explicit.specs.declared.section.Section.{Section}
use Rattle.machine_explicit.specs.Machines.{shown_stage}
use Rattle.machine_explicit.specs.Sections.{FreeMachine, MadeSection, WokenByNothing, is_ready}

-- the client makes a section
abbrev pub Acts : ℕ → FreeMachine → FreeMachine → Type 0
Acts client before next = (section : Section) × MadeSection client before next section

-- ---- by rounds

-- the first client that can make a section, in cyclic file order from the one that is asked first
pub record IsNextReady (asked : ℕ) (machine : FreeMachine) (client : ℕ) : Type 0 where
  pub is : client < length machine.system.clients
  pub can : is_ready machine client ≡ true
  pub first : (other : ℕ) → other < length machine.system.clients
      → asked_before (length machine.system.clients) asked other < asked_before
      (length machine.system.clients) asked client
      → is_ready machine other ≡ false

-- The schedule by rounds from here, to its end: the next actor is asked for after the last one; it
-- ends where no client can make a section.
pub data IsByRounds : ℕ → FreeMachine → FreeMachine → Type 0 where
  ended : (asked : ℕ) (now : FreeMachine) → ((client : ℕ) → is_ready now client ≡ false)
      → IsByRounds asked now now
  acted : (asked client : ℕ) (now next last : FreeMachine) → IsNextReady asked now client
      → Acts client now next
      → IsByRounds (client + 1) next last → IsByRounds asked now last

-- ---- drawn

-- whether a client waits
abbrev pub is_waiting : FreeMachine → ℕ → Bool
is_waiting machine client =
    option_map_or (λ standing. is_waiting_stage (shown_stage standing.stage))
    (slice_get machine.now.standings client) false

-- the clients of whom this is true, in file order
abbrev pub clients_who : (FreeMachine → ℕ → Bool) → FreeMachine → List ℕ
clients_who test machine = filter (test machine) (range_with_len 0 (length machine.system.clients))

-- the clients that can make a section
abbrev pub ready : FreeMachine → List ℕ
ready machine = clients_who is_ready machine

-- the clients that wait
abbrev pub waiting : FreeMachine → List ℕ
waiting machine = clients_who is_waiting machine

-- the client at this position modulo their number
abbrev pub IsAt : List ℕ → ℕ → ℕ → Type 0
IsAt clients position client = slice_get clients (position % length clients) ≡ Some client

-- where a drawn schedule stands: the monitor, the generator, and how many spurious wake-ups may
-- still be made
pub record Drawing : Type 0 where
  pub machine : FreeMachine
  pub generator : Lcg
  pub left : ℕ

-- whether a spurious wake-up is made at this word: at a fourth of the words, where one is left and
-- some client waits
abbrev pub wakes_at : ℕ → ℕ → FreeMachine → Bool
wakes_at word left machine = word % 4 == 0 && nat_lt 0 left && nat_lt 0 (length (waiting machine))

-- One turn. A first word is drawn. Either a second is drawn, and it picks the waiting client that
-- is woken by nothing; or the first picks the ready client that makes a section.
pub data IsTurn : Drawing → Drawing → Type 0 where
  woken : (now next : Drawing) (x y client : ℕ) (drawn : Lcg) → (x, drawn) ≡ pcg32 now.generator
      → wakes_at x now.left now.machine ≡ true
      → (y, next.generator) ≡ pcg32 drawn → IsAt (waiting now.machine) y client
      → WokenByNothing client now.machine next.machine
      → next.left + 1 ≡ now.left → IsTurn now next
  acted : (now next : Drawing) (x client : ℕ) → (x, next.generator) ≡ pcg32 now.generator
      → wakes_at x now.left now.machine ≡ false
      → IsAt (ready now.machine) (x / 4) client → Acts client now.machine next.machine
      → next.left ≡ now.left → IsTurn now next

-- the drawn schedule from here, to its end, where the monitor is closed
pub data IsDrawnFrom : Drawing → FreeMachine → Type 0 where
  ended : (now : Drawing) → IsClosed now.machine.system now.machine.now
      → IsDrawnFrom now now.machine
  turned : (now next : Drawing) (last : FreeMachine)
      → (IsClosed now.machine.system now.machine.now → ⊥) → IsTurn now next
      → IsDrawnFrom next last → IsDrawnFrom now last

-- the generator `Lcg64Xsh32::new(seed, 1)`
abbrev pub generator_of : ℕ → Lcg
generator_of seed = started 64 multiplier_64 seed (increment_of 64 1)

-- the schedule that the words of a seed draw, with at most so many spurious wake-ups
abbrev pub IsDrawn : ℕ → ℕ → FreeMachine → FreeMachine → Type 0
IsDrawn seed spurious before last =
    IsDrawnFrom (record { machine = before; generator = generator_of seed; left = spurious }) last

-- ---- what a schedule leaves

-- entries were added to the log, and what is run stays
pub record Extends (before next : FreeMachine) : Type 0 where
  pub entries : (more : List Entry) × (next.log ≡ before.log ++ more)
  pub system : next.system ≡ before.system
  pub extra : next.extra ≡ before.extra
