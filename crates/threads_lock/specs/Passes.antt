-- What a pass knows, and what each call of the shared monitor tells it.
use Rattle.std.specs.Prelude.{◌≡◌, ◌<◌, ◌≤◌, ◌+◌, ◌%◌, ◌^◌, ◌++◌, ◌∷◌, [], ℕ, List, Some, Result}
use Rattle.std.specs.Prelude.{MatchResult, length, slice_get}
use Rattle.std.specs.List.{All}
use Rattle.atomic_table.specs.Seated.{TableId}
use Rattle.machine_events.specs.declared.log.Entry.{Entry}
use Rattle.machine_explicit.specs.declared.section.NotReady.{NotReady}
use Rattle.machine_explicit.specs.Sections.{FreeMachine, HoldsAlways, MadeSection, NotMade, Rests}
use Rattle.threads_lock.specs.declared.receipt.Receipt.{Receipt}
use Rattle.threads_lock.specs.declared.view.Knowledge.{Knowledge}
use Rattle.threads_lock.specs.Growth.{Follows}

-- a pass: which shared monitor it is of, and what it knows
pub record PassView : Type 0 where
  pub lock : TableId
  pub known : Knowledge

-- a shared monitor: which one it is, how the monitor began, and for how many passes it was made
pub record SharedView : Type 0 where
  pub lock : TableId
  pub start : FreeMachine
  pub passes : ℕ

-- ---- the rule

-- the receipt's entry is the log's at its place
abbrev pub StandsIn : List Entry → Receipt → Type 0
StandsIn log receipt = slice_get log receipt.place ≡ Some receipt.entry

-- each is of an earlier place than those after it
abbrev pub HaveRisingPlaces : List Receipt → Type 0
HaveRisingPlaces [] = Unit {0}
HaveRisingPlaces (receipt ∷ later) =
    All (λ other. receipt.place < other.place) later × HaveRisingPlaces later

-- The rule of what is known: the front is a monitor that can be, so its log is legal, and it is no
-- longer than was seen; each receipt stands in it.
pub record IsKnown (known : Knowledge) : Type 0 where
  pub always : HoldsAlways known.front
  pub seen : length known.front.log ≤ known.seen
  pub stand : All (StandsIn known.front.log) known.receipts
  pub rising : HaveRisingPlaces known.receipts

-- ---- what the calls do

-- what is known at the start
abbrev pub newly_known : FreeMachine → Knowledge
newly_known free =
    record { front = free; seen = length free.log; receipts = []; joined_fronts = []; looks = 0 }

-- what a call may find: a monitor that can be, to which the front has grown, and which has all that
-- was seen
pub record Reaches (known : Knowledge) (found : FreeMachine) : Type 0 where
  pub front : Follows known.front found
  pub seen : known.seen ≤ length found.log
  pub always : HoldsAlways found

-- what is known after a look that found this monitor
abbrev pub looked : Knowledge → FreeMachine → Knowledge
looked known found =
    record known { front = found; seen = length found.log; looks = known.looks + 1 }

-- what is known after a look at the log's length
abbrev pub observed : Knowledge → ℕ → Knowledge
observed known count = record known { seen = count; looks = known.looks + 1 }

-- what is known after a section that left this monitor and gave this receipt
abbrev pub receipted : Knowledge → FreeMachine → Receipt → Knowledge
receipted known next receipt =
    record known { front = next; seen = length next.log; receipts = known.receipts ++ receipt ∷ [] }

-- what the program is told, with a ticket of 64 bits, is this receipt
abbrev pub IsReceipt : Receipt → Receipt → Type 0
IsReceipt told receipt =
    (told.place ≡ receipt.place) × (told.entry ≡ receipt.entry)
    × (told.ticket ≡ receipt.ticket % 2 ^ 64)

-- The client does not rest in the monitor that the call found, and made a section on it; its entry
-- is the last of the monitor that is left.
pub record MadeShared (client : ℕ) (before after : Knowledge) (told : Receipt) : Type 0 where
  pub found : FreeMachine
  pub next : FreeMachine
  pub receipt : Receipt
  pub reaches : Reaches before found
  pub works : Rests found client → ⊥
  pub made : MadeSection client found next (record { place = receipt.place; entry = receipt.entry })
  pub known : after ≡ receipted (looked before found) next receipt
  pub told_is : IsReceipt told receipt

-- The client rests in the monitor that the call found.
pub record NotMadeShared (client : ℕ) (before after : Knowledge) (fault : NotReady) : Type 0 where
  pub found : FreeMachine
  pub reaches : Reaches before found
  pub rests : NotMade client found found fault
  pub known : after ≡ looked before found

-- a section of the client
abbrev pub SectionsShared : ℕ → Knowledge → Knowledge → Result Receipt NotReady → Type 0
SectionsShared client before after result =
    MatchResult result (λ told. MadeShared client before after told)
    (λ fault. NotMadeShared client before after fault)

-- The call looked at the monitor, and at nothing else.
pub record Looks (before after : Knowledge) : Type 0 where
  pub found : FreeMachine
  pub reaches : Reaches before found
  pub known : after ≡ looked before found
