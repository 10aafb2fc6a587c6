-- Who acts next, and schedules so far.
use Rattle.std.specs.Prelude.{◌≡◌, ◌+◌, ◌<◌, ◌≤◌, ℕ, Bool, true, false, List, length}
use Rattle.machine_explicit.specs.Sections.{FreeMachine, is_ready, spurious_in}
use Rattle.machine_simulate.specs.declared.draws.Draws.{Draws}
use Rattle.machine_simulate.specs.declared.picking.Who.{Who}
use Rattle.machine_simulate.specs.declared.picking.Who.TheVariants as who
use Rattle.machine_simulate.specs.Schedules.{Drawing, Extends, IsByRounds, IsDrawnFrom, clients_who}
use Rattle.machine_simulate.specs.Schedules.{is_waiting}

-- ---- by rounds

-- no client of a range can make a section
abbrev pub NoneReady : FreeMachine → ℕ → ℕ → Type 0
NoneReady machine from to =
    (client : ℕ) → from ≤ client → client < to → is_ready machine client ≡ false

-- the first client of a range that can
pub record IsFirstReady (machine : FreeMachine) (from to client : ℕ) : Type 0 where
  pub above : from ≤ client
  pub below : client < to
  pub can : is_ready machine client ≡ true
  pub before : NoneReady machine from client

-- the schedule so far: what follows from now on, follows from before
pub record RoundsSoFar (asked : ℕ) (before now : FreeMachine) : Type 0 where
  pub follows : (last : FreeMachine) → IsByRounds asked now last → IsByRounds 0 before last
  pub extends : Extends before now
  pub spurious : spurious_in now.log ≡ spurious_in before.log
  pub within : asked ≤ length now.system.clients

-- ---- drawn

-- whether a client is one of these
abbrev pub is_one : Who → FreeMachine → ℕ → Bool
is_one who.Ready machine client = is_ready machine client
is_one who.Waiting machine client = is_waiting machine client

-- these clients, in file order
abbrev pub those : Who → FreeMachine → List ℕ
those which machine = clients_who (is_one which) machine

abbrev pub drawing : FreeMachine → Draws → Drawing
drawing machine draws = record { machine = machine; generator = draws.generator; left = draws.left }

pub record DrawnSoFar (before : Drawing) (machine : FreeMachine) (draws : Draws) : Type 0 where
  pub follows : (last : FreeMachine) → IsDrawnFrom (drawing machine draws) last
      → IsDrawnFrom before last
  pub extends : Extends before.machine machine
  pub spurious : spurious_in machine.log + draws.left ≡ spurious_in before.machine.log + before.left
