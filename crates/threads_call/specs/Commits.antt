-- What a call that blocks tells its caller.
use Rattle.std.specs.Prelude.{◌≡◌, ◌<◌, ◌≤◌, ◌+◌, ◌++◌, ◌∷◌, [], ℕ, List, length, max}
use Rattle.std.specs.List.{All}
use Rattle.machine_implicit.specs.declared.commit.Reply.{Reply}
use Rattle.machine_events.specs.declared.log.Outcome.TheVariants as outcomes
use Rattle.machine_events.specs.Logs.{IsClosed}
use Rattle.machine_explicit.specs.Sections.{FreeMachine}
use Rattle.threads_lock.specs.declared.receipt.Receipt.{Receipt}
use Rattle.threads_lock.specs.declared.view.Knowledge.{Knowledge}
use Rattle.threads_lock.specs.Growth.{Follows}
use Rattle.threads_lock.specs.Passes.{IsReceipt}
use Rattle.threads_lock.specs.Standings.{HasNoCallLeft}
use Rattle.threads_call.specs.declared.commit_end.CommitEnd.{CommitEnd}
use Rattle.threads_call.specs.declared.commit_end.CommitEnd.TheVariants as ends

-- how many callers a monitor has: one for each client, and one where there is no client
abbrev pub callers_of : FreeMachine → ℕ
callers_of machine = max (length machine.system.clients) 1

-- the receipt of a section of the client that waits
abbrev pub IsWaitOf : ℕ → Receipt → Type 0
IsWaitOf client receipt =
    (receipt.entry.client ≡ client) × (receipt.entry.outcome ≡ outcomes.Waits)

-- the receipt of a section of the client that replies
abbrev pub IsReplyTo : ℕ → Receipt → Type 0
IsReplyTo client receipt =
    (receipt.entry.client ≡ client)
    × ((reply : Reply) × (woken : ℕ) × (receipt.entry.outcome ≡ outcomes.Replies reply woken))

-- What a caller knows has grown: by these receipts, one for each section that the call made, and by
-- what it saw of the monitor. These sections stand after all that it had seen. What was joined into
-- it stays.
pub record Adds (made : List Receipt) (before after : Knowledge) : Type 0 where
  pub receipts : after.receipts ≡ before.receipts ++ made
  pub later : All (λ receipt. before.seen ≤ receipt.place) made
  pub front : Follows before.front after.front
  pub seen : before.seen ≤ after.seen
  pub looks : before.looks ≤ after.looks
  pub joined : after.joined_fronts ≡ before.joined_fronts

-- in each section that the call made the client waits
pub record HasWaited (client : ℕ) (before after : Knowledge) : Type 0 where
  pub waits : List Receipt
  pub each : All (IsWaitOf client) waits
  pub adds : Adds waits before after

-- the call looked at the monitor, and knows it as it was at the last look or section
pub record HasLooked (before after : Knowledge) : Type 0 where
  pub more : before.looks < after.looks
  pub seen : after.seen ≡ length after.front.log

-- The last section that the call made replies to the client, and its receipt is answered; in each
-- section before it the client waits.
pub record HasReplied (client : ℕ) (before after : Knowledge) (told : Receipt) : Type 0 where
  pub waits : List Receipt
  pub receipt : Receipt
  pub each : All (IsWaitOf client) waits
  pub replies : IsReplyTo client receipt
  pub adds : Adds (waits ++ receipt ∷ []) before after
  pub told_is : IsReceipt told receipt
  pub counted : receipt.place + 1 ≤ after.seen
  pub looked : HasLooked before after

-- The client has no call left in the monitor that was seen last, whose log has so many entries.
pub record IsOver (client : ℕ) (before after : Knowledge) (count : ℕ) : Type 0 where
  pub waited : HasWaited client before after
  pub looked : HasLooked before after
  pub entries : count ≡ length after.front.log
  pub over : HasNoCallLeft after.front client

-- The monitor that was seen last, whose log has so many entries, is closed, and the client has a
-- call left in it.
pub record IsStalled (client : ℕ) (before after : Knowledge) (count : ℕ) : Type 0 where
  pub waited : HasWaited client before after
  pub looked : HasLooked before after
  pub entries : count ≡ length after.front.log
  pub closed : IsClosed after.front.system after.front.now
  pub left : HasNoCallLeft after.front client → ⊥

-- how the call ended
abbrev pub Commits : ℕ → Knowledge → Knowledge → CommitEnd → Type 0
Commits client before after (ends.Replied told) = HasReplied client before after told
Commits client before after (ends.Over entries) = IsOver client before after entries
Commits client before after (ends.Stalled entries) = IsStalled client before after entries
