-- What stands in the log once all passes are back.
use Rattle.std.specs.Prelude.{◌≡◌, ◌==◌, ◌<◌, ◌≤◌, ◌⊎◌, ◌↔◌, ℕ, List, length, count_by}
use Rattle.std.specs.List.{All, Contains, flat_map}
use Rattle.machine_events.specs.declared.log.Entry.{Entry}
use Rattle.machine_events.specs.Logs.{IsClosed}
use Rattle.machine_explicit.specs.Sections.{FreeMachine}
use Rattle.threads_lock.specs.declared.receipt.Receipt.{Receipt}
use Rattle.threads_lock.specs.declared.view.Knowledge.{Knowledge}
use Rattle.threads_lock.specs.Growth.{Follows}
use Rattle.threads_lock.specs.Passes.{PassView, StandsIn}

-- The front has grown to this monitor, whose log is no shorter than was seen and has each receipt's
-- entry at its place.
pub record Covers (top : FreeMachine) (known : Knowledge) : Type 0 where
  pub front : Follows known.front top
  pub seen : known.seen ≤ length top.log
  pub stand : All (StandsIn top.log) known.receipts

-- the receipts of all passes
abbrev pub receipts_of : List PassView → List Receipt
receipts_of passes = flat_map (λ pass. pass.known.receipts) passes

-- how many of the receipts are of this place
abbrev pub times : ℕ → List Receipt → ℕ
times place receipts = count_by (λ receipt. receipt.place == place) receipts

-- Each entry after those of the start has just one receipt, and no other place has one.
pub record HaveOneEach (first : ℕ) (log : List Entry) (receipts : List Receipt) : Type 0 where
  pub once : (place : ℕ) → first ≤ place → place < length log → times place receipts ≡ 1
  pub no_other : (place : ℕ) → (place < first) ⊎ (length log ≤ place) → times place receipts ≡ 0

-- Of two receipts the one with the earlier ticket is of the earlier place.
abbrev pub AreInOrder : List Receipt → Type 0
AreInOrder receipts =
    (one other : Receipt) → Contains receipts one → Contains receipts other
    → (one.ticket < other.ticket) ↔ (one.place < other.place)

-- the monitor was closed when the pass last held the lock
abbrev pub KnowsClosed : PassView → Type 0
KnowsClosed pass = IsClosed pass.known.front.system pass.known.front.now
