-- What a waiting seat may ask of whoever has the monitor, and what it is told.
use Rattle.std.specs.Prelude.{◌≡◌, ◌↔◌, ℕ, ◌%◌, ◌^◌, ◌<◌, [], Option, Some, None, Result, IsTrue}
use Rattle.std.specs.Prelude.{length}
use Rattle.atomic_table.specs.Table.{Me}
use Rattle.atomic_table.specs.declared.shared.Seat.{Seat}
use Rattle.machine_events.specs.Configurations.{System}
use Rattle.machine_events.specs.Logs.{IsClosed}
use Rattle.machine_explicit.specs.declared.section.NotReady.{NotReady}
use Rattle.machine_explicit.specs.Sections.{FreeMachine, HasEnded}
use Rattle.threads_lock.specs.declared.found.Look.{Look}
use Rattle.threads_lock.specs.declared.found.Stand.{Stand}
use Rattle.threads_lock.specs.declared.lent.Answer.{Answer}
use Rattle.threads_lock.specs.declared.lent.Answer.TheVariants as answers
use Rattle.threads_lock.specs.declared.lent.Lent.{Lent}
use Rattle.threads_lock.specs.declared.lent.Returned.{Returned}
use Rattle.threads_lock.specs.declared.lent.Wish.{Wish}
use Rattle.threads_lock.specs.declared.lent.Wish.TheVariants as wishes
use Rattle.threads_lock.specs.declared.receipt.Receipt.{Receipt}
use Rattle.threads_lock.specs.declared.view.Knowledge.{Knowledge}
use Rattle.threads_lock.specs.declared.view.SeatState.TheVariants.{Waiting}
use Rattle.threads_lock.specs.declared.view.View.{View}
use Rattle.threads_lock.specs.Passes.{IsKnown, Looks, SectionsShared}
use Rattle.threads_lock.specs.Standings.{StandsAs}
use Rattle.threads_lock.specs.inner.Queueing.{IsIdle}

-- ---- what is asked

-- the client that is wished for, if any, is one of the system's
abbrev pub MayWish : Wish → System → Type 0
MayWish (wishes.Section client) system = client < length system.clients
MayWish (wishes.Standing client) system = client < length system.clients
MayWish wishes.Closed system = Unit {0}

-- the seat waits for the ticket that the program knows modulo 2^64
abbrev pub WaitsFor : ℕ → Me FreeMachine View → Type 0
WaitsFor number me = (ticket : ℕ) × (number ≡ ticket % 2 ^ 64) × (me.0.state ≡ Waiting ticket)

-- a seat that may be lent for the wish
pub record MayLend (wish : Wish) (number : ℕ) (me : Me FreeMachine View) : Type 0 where
  pub waits : WaitsFor number me
  pub none : me.1 ≡ []
  pub live : 0 < me.0.parts
  pub known : IsKnown me.0.known
  pub client_is : MayWish wish me.0.known.front.system

-- it is a seat of the lock that this one is of
pub record IsLent (lock : Seat FreeMachine View) (lent : Lent) : Type 0 where
  pub own : lent.seat.table_id ≡ lock.table_id
  pub may : MayLend lent.wish lent.ticket lent.seat.me

-- ---- what is told

-- a look at how the client stands
pub record FindsStand (client : ℕ) (before after : Knowledge) (stand : Stand) : Type 0 where
  pub looks : Looks before after
  pub standing : StandsAs after.front client stand.standing
  pub entries : stand.entries ≡ after.seen

-- a look at whether the monitor is closed
pub record FindsEnd (before after : Knowledge) (look : Look) : Type 0 where
  pub looks : Looks before after
  pub closed : IsTrue look.closed ↔ IsClosed after.front.system after.front.now
  pub ends : IsTrue look.closed → HasEnded after.front
  pub entries : look.entries ≡ after.seen

-- what came of a section, of a look at whether the monitor is closed, and at how a client stands
abbrev pub section : Result Receipt NotReady → Answer
section result = answers.Section result

abbrev pub closed : Look → Answer
closed look = answers.Closed look

abbrev pub standing : Stand → Answer
standing stand = answers.Standing stand

-- the answer is that to the wish, and to no other
abbrev pub IsAnswerTo : Wish → Knowledge → Knowledge → Answer → Type 0
IsAnswerTo (wishes.Section client) before after (answers.Section result) =
    SectionsShared client before after result
IsAnswerTo (wishes.Standing client) before after (answers.Standing stand) =
    FindsStand client before after stand
IsAnswerTo wishes.Closed before after (answers.Closed look) = FindsEnd before after look
IsAnswerTo wish before after answer = ⊥

-- what was wished is done, and the seat has no ticket any more
pub record IsMadeFor (wish : Wish) (me next : Me FreeMachine View) (answer : Answer) : Type 0 where
  pub idle : IsIdle next
  pub parts : next.0.parts ≡ me.0.parts
  pub told : IsAnswerTo wish me.0.known next.0.known answer
  pub known : IsKnown next.0.known

-- what was wished is done for the seat, or all is as it was
abbrev pub ComesBack : Wish → Me FreeMachine View → Me FreeMachine View → Option Answer → Type 0
ComesBack wish me next (Some answer) = IsMadeFor wish me next answer
ComesBack wish me next None = next ≡ me

-- the same seat, as it comes back
abbrev pub IsReturned : Seat FreeMachine View → Lent → Returned → Type 0
IsReturned lock lent returned =
    (returned.seat.table_id ≡ lent.seat.table_id)
    × ComesBack lent.wish lent.seat.me returned.seat.me returned.answer
