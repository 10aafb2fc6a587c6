-- The schedule by rounds: the next actor is the first client that can act, in cyclic file order
-- after the last actor.
use Rattle.std.specs.Prelude.{◌↔◌, ◌<◌, ◌+◌, ◌-◌, ℕ, IsTrue, List, length, fold, nat_le}
use Rattle.std.specs.Prelude.{if◌then◌else◌}
use Rattle.lang_monitor.specs.MonitorParts.{MonitorParts}
use Rattle.machine_implicit.specs.declared.commit.Commit.{Commit}
use Rattle.machine_implicit.specs.declared.commit.Turns.{Turns}
use Rattle.machine_implicit.specs.declared.script.Client.{Client}
use Rattle.machine_implicit.specs.Runs.{Situation, CanAct, IsRunBy, IsRun, Ends, IsFinished}

-- one after the last actor; after the last client this is how many clients there are, which asks
-- client 0 first; at first client 0
abbrev pub first_asked : List Commit → ℕ
first_asked history = fold (λ asked commit. commit.client + 1) 0 history

-- how many clients stand before this one in cyclic order, of so many clients, from the first one
-- asked
abbrev pub asked_before : ℕ → ℕ → ℕ → ℕ
asked_before count first client =
    if nat_le first client then client - first else (client + count) - first

pub record IsNextActor (monitor : MonitorParts) (clients : List Client) (history : List Commit)
    (now : Situation) (client : ℕ) : Type 0 where
  pub is : client < length clients
  pub can : CanAct monitor clients now client
  pub first : (other : ℕ) → other < length clients
      → asked_before (length clients) (first_asked history) other
      < asked_before (length clients) (first_asked history) client
      → CanAct monitor clients now other → ⊥

abbrev pub IsRunByRounds : MonitorParts → List Client → List Commit → Situation → Type 0
IsRunByRounds monitor clients = IsRunBy monitor clients (IsNextActor monitor clients)

-- the situation after it
abbrev pub end_of : Turns → Situation
end_of turns = record { state = turns.state; places = turns.places }

-- the run by rounds, to its end
pub record AreTurnsByRounds (monitor : MonitorParts) (clients : List Client)
    (turns : Turns) : Type 0 where
  pub run : IsRun monitor clients turns.history (end_of turns)
  pub by_rounds : IsRunByRounds monitor clients turns.history (end_of turns)
  pub ends : Ends monitor clients (end_of turns)
  pub finished : IsTrue turns.finished ↔ IsFinished clients (end_of turns)
