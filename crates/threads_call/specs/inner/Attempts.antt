-- What an attempt answers.
use Rattle.std.specs.Prelude.{ℕ, Option, Some, None, Result, Ok, Err}
use Rattle.machine_events.specs.declared.log.Outcome.{Outcome}
use Rattle.machine_events.specs.declared.log.Outcome.TheVariants as outcomes
use Rattle.machine_explicit.specs.declared.section.NotReady.{NotReady}
use Rattle.threads_lock.specs.declared.receipt.Receipt.{Receipt}
use Rattle.threads_lock.specs.declared.standing.Standing.{Standing}
use Rattle.threads_lock.specs.declared.standing.Standing.TheVariants as standings
use Rattle.threads_call.specs.declared.commit_end.CommitEnd.{CommitEnd}
use Rattle.threads_call.specs.declared.commit_end.CommitEnd.TheVariants as ends

abbrev pub replied_by : Receipt → Outcome → Option Receipt
replied_by receipt (outcomes.Replies reply woken) = Some receipt
replied_by receipt outcome = None

-- the receipt, where its section replied
abbrev pub reply_in : Receipt → Option Receipt
reply_in receipt = replied_by receipt receipt.entry.outcome

-- the receipt of a section that was made and replied
abbrev pub reply_of : Result Receipt NotReady → Option Receipt
reply_of (Ok receipt) = reply_in receipt
reply_of (Err fault) = None

-- how a call ends whose client stands so
abbrev pub end_of : Standing → ℕ → Option CommitEnd
end_of standings.Over entries = Some (ends.Over entries)
end_of standings.Stalled entries = Some (ends.Stalled entries)
end_of standing entries = None
