-- What a seat comes to by the steps of the lock.
use Rattle.std.specs.Prelude.{◌≡◌, ◌%◌, ◌^◌, ◌∷◌, [], ℕ, Bool, true, false, Result, MatchResult}
use Rattle.atomic_table.specs.Table.{Me}
use Rattle.machine_explicit.specs.Sections.{FreeMachine, HoldsAlways, MadeSection, NotMade}
use Rattle.machine_explicit.specs.declared.section.Section.{Section}
use Rattle.machine_explicit.specs.declared.section.NotReady.{NotReady}
use Rattle.threads_lock.specs.declared.receipt.Receipt.{Receipt}
use Rattle.threads_lock.specs.declared.view.SeatState.TheVariants.{Waiting, Holding}
use Rattle.threads_lock.specs.declared.view.View.{View}
use Rattle.threads_lock.specs.declared.view.Knowledge.{Knowledge}
use Rattle.threads_lock.specs.Passes.{IsKnown, IsReceipt, Looks, receipted}
use Rattle.threads_lock.specs.inner.Queueing.{holds}
use Rattle.threads_lock.specs.inner.Steps.{HasTurn, in_state}

-- the seat has the ticket that the program knows modulo 2^64
abbrev pub IsWaiting : ℕ → Me FreeMachine View → Me FreeMachine View → Type 0
IsWaiting number me next =
    (ticket : ℕ) × (number ≡ ticket % 2 ^ 64) × (next ≡ (in_state (Waiting ticket) me.0, me.1))

-- the ticket is served, and the seat has the turn
abbrev pub TurnIsHere : ℕ → Me FreeMachine View → Me FreeMachine View → Type 0
TurnIsHere number me next = (ticket : ℕ) × (number ≡ ticket % 2 ^ 64) × HasTurn ticket me next

-- the turn has come, or nothing changed
abbrev pub TurnComes : ℕ → Me FreeMachine View → Me FreeMachine View → Bool → Type 0
TurnComes number me next true = TurnIsHere number me next
TurnComes number me next false = next ≡ me

-- the seat has the turn, and the monitor, which is as its front says
abbrev pub HasMonitor : Me FreeMachine View → Type 0
HasMonitor me = (holds me.0.state ≡ true) × (me.1 ≡ (0, me.0.known.front) ∷ [])

-- the seat has the turn by this ticket and has made no section yet
abbrev pub IsHolding : ℕ → Me FreeMachine View → Type 0
IsHolding number me =
    (ticket : ℕ) × (number ≡ ticket % 2 ^ 64) × (me.0.state ≡ Holding ticket)
    × (me.1 ≡ (0, me.0.known.front) ∷ [])

-- The turn has come by this ticket: a look at the monitor as it is then, with no section yet.
pub record TurnGives (number : ℕ) (me next : Me FreeMachine View) : Type 0 where
  pub holding : IsHolding number next
  pub parts : next.0.parts ≡ me.0.parts
  pub looks : Looks me.0.known next.0.known
  pub known : IsKnown next.0.known

-- it is made, and gives a receipt
pub record MakesOne (client : ℕ) (before after : Knowledge) (told : Receipt) : Type 0 where
  pub next : FreeMachine
  pub receipt : Receipt
  pub made : MadeSection client before.front next (record {
    place = receipt.place;
    entry = receipt.entry;
  })
  pub known : after ≡ receipted before next receipt
  pub told_is : IsReceipt told receipt

-- a section of the client on the monitor that the seat has: its front
abbrev pub MakesShared : ℕ → Knowledge → Knowledge → Result Receipt NotReady → Type 0
MakesShared client before after result =
    MatchResult result (λ told. MakesOne client before after told)
    (λ fault. NotMade client before.front before.front fault × (after ≡ before))

-- a section was made on the monitor that the seat has, and isn't counted yet
pub record IsMade (client : ℕ) (me next : Me FreeMachine View) (section : Section) : Type 0 where
  pub after : FreeMachine
  pub now : next ≡ (me.0, (0, after) ∷ [])
  pub made : MadeSection client me.0.known.front after section
  pub always : HoldsAlways after

-- no section was made, and all is as before
pub record IsNotMade (client : ℕ) (me next : Me FreeMachine View) (fault : NotReady) : Type 0 where
  pub now : next ≡ me
  pub rests : NotMade client me.0.known.front me.0.known.front fault
