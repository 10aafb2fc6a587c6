-- Seats that are lent.
use Rattle.std.proofs.Common.{◌≡◌, ◌≢◌, ◌↔◌, ◌==◌, ℕ, ◌<◌, [], None, IsTrue, eq-eqb, ne_eqb, length, refl, sym, ap, ◌∙◌, subst}
use Rattle.std.specs.Prelude.{Result}
use Rattle.atomic_table.specs.Table.{Me}
use Rattle.atomic_table.specs.declared.shared.Seat.{Seat}
use Rattle.machine_events.specs.Logs.{IsClosed}
use Rattle.machine_explicit.specs.declared.section.NotReady.{NotReady}
use Rattle.machine_explicit.specs.Sections.{FreeMachine, HasEnded}
use Rattle.threads_lock.specs.declared.found.Look.{Look}
use Rattle.threads_lock.specs.declared.found.Stand.{Stand}
use Rattle.threads_lock.specs.declared.lent.Answer.{Answer}
use Rattle.threads_lock.specs.declared.lent.Answer.TheVariants as answers
use Rattle.threads_lock.specs.declared.lent.Lent.{Lent}
use Rattle.threads_lock.specs.declared.lent.Returned.{Returned}
use Rattle.threads_lock.specs.declared.lent.Wish.{Wish}
use Rattle.threads_lock.specs.declared.lent.Wish.TheVariants as wishes
use Rattle.threads_lock.specs.declared.receipt.Receipt.{Receipt}
use Rattle.threads_lock.specs.declared.view.Knowledge.{Knowledge}
use Rattle.threads_lock.specs.declared.view.View.{View}
use Rattle.threads_lock.specs.Passes.{IsKnown, Looks}
use Rattle.threads_lock.specs.Standings.{StandsAs}
use Rattle.threads_lock.specs.inner.Lending.{ComesBack, FindsEnd, FindsStand, IsAnswerTo, IsMadeFor, MayLend, MayWish, WaitsFor}
use Rattle.threads_lock.specs.inner.Queueing.{IsIdle, view}
use Rattle.threads_lock.specs.inner.Turns.{HasMonitor, IsHolding, IsWaiting, MakesShared, TurnComes, TurnGives, TurnIsHere}
use Rattle.threads_lock.proofs.Calling.{holding_has, looks_clients, looks_seen, sections_shared, turn_gives}

-- the turn of a seat that may be lent has come
pub lent_here : (wish : Wish) (number : ℕ) (me next : Me FreeMachine View) → MayLend wish number me → TurnIsHere number me next → TurnGives number me next
lent_here wish number me next may here =
    let w = may.waits in
    let waits : IsWaiting number me me = (w.0, w.1, ap (λ state. (view state me.0.parts me.0.known, me.1)) w.2) in
    turn_gives number me me next may.none may.known waits here

pub lent_turn : (wish : Wish) (number distance : ℕ) (me next : Me FreeMachine View) → MayLend wish number me → TurnComes number me next (distance == 0) → distance ≡ 0 → TurnGives number me next
lent_turn wish number distance me next may comes here = lent_here wish number me next may (subst (TurnComes number me next) (eq-eqb distance 0 here) comes)

-- it has not come
pub lent_waits : (number distance : ℕ) (me next : Me FreeMachine View) → TurnComes number me next (distance == 0) → distance ≢ 0 → next ≡ me
lent_waits number distance me next comes far = subst (TurnComes number me next) (ne_eqb distance 0 far) comes

pub lent_client : (wish : Wish) (before after : Knowledge) → Looks before after → MayWish wish before.front.system → MayWish wish after.front.system
lent_client wish before after looks here = subst (MayWish wish) (sym (looks_clients before after looks)) here

-- what is wished is done for it
pub lent_made : (wish : Wish) (number : ℕ) (me mid next : Me FreeMachine View) (answer : Answer) → TurnGives number me mid → IsIdle next → next.0.parts ≡ mid.0.parts
    → ((before : Knowledge) → Looks before mid.0.known → IsAnswerTo wish before next.0.known answer) → IsKnown next.0.known → IsMadeFor wish me next answer
lent_made wish number me mid next answer gives idle parts told known =
    record { idle = idle; parts = parts ∙ gives.parts; told = told me.0.known gives.looks; known = known }

-- ---- what is done with the monitor is an answer

pub section_told : (wish : Wish) (client : ℕ) (mid next : Knowledge) (result : Result Receipt NotReady) → wish ≡ wishes.Section client → MakesShared client mid next result
    → (before : Knowledge) → Looks before mid → IsAnswerTo wish before next (answers.Section result)
section_told wish client mid next result is made before looks =
    subst (λ w. IsAnswerTo w before next (answers.Section result)) (sym is) (sections_shared client before mid next result looks made)

pub stand_told : (wish : Wish) (client : ℕ) (mid next : Me FreeMachine View) (stand : Stand) → wish ≡ wishes.Standing client → next ≡ mid → StandsAs mid.0.known.front client stand.standing
    → stand.entries ≡ length mid.0.known.front.log → (before : Knowledge) → Looks before mid.0.known → IsAnswerTo wish before next.0.known (answers.Standing stand)
stand_told wish client mid next stand is same standing entries before looks =
    let finds : FindsStand client before mid.0.known stand =
    record { looks = looks; standing = standing; entries = entries ∙ sym (looks_seen before mid.0.known looks) } in
    subst (λ w. IsAnswerTo w before next.0.known (answers.Standing stand)) (sym is) (subst (λ (m : Me FreeMachine View). FindsStand client before m.0.known stand) (sym same) finds)

pub look_told : (wish : Wish) (mid next : Me FreeMachine View) (look : Look) → wish ≡ wishes.Closed → next ≡ mid → IsTrue look.closed ↔ IsClosed mid.0.known.front.system mid.0.known.front.now
    → (IsTrue look.closed → HasEnded mid.0.known.front) → look.entries ≡ length mid.0.known.front.log → (before : Knowledge) → Looks before mid.0.known → IsAnswerTo wish before next.0.known (answers.Closed look)
look_told wish mid next look is same closed ends entries before looks =
    let finds : FindsEnd before mid.0.known look =
    record { looks = looks; closed = closed; ends = ends; entries = entries ∙ sym (looks_seen before mid.0.known looks) } in
    subst (λ w. IsAnswerTo w before next.0.known (answers.Closed look)) (sym is) (subst (λ (m : Me FreeMachine View). FindsEnd before m.0.known look) (sym same) finds)

-- the turn is there still, after a look
pub still_turn : (number : ℕ) (mid next : Me FreeMachine View) → next ≡ mid → IsHolding number mid → HasMonitor next
still_turn number mid next same turn = subst HasMonitor (sym same) (holding_has number mid turn)

-- ---- with a ticket that was drawn

pub drawn_may : (wish : Wish) (number : ℕ) (me mid : Me FreeMachine View) → IsIdle me → 0 < me.0.parts → IsKnown me.0.known → MayWish wish me.0.known.front.system → IsWaiting number me mid → MayLend wish number mid
drawn_may wish number me mid idle live known client_is w = record {
  waits = (w.0, w.1, ap (λ (m : Me FreeMachine View). m.0.state) w.2);
  none = ap (λ (m : Me FreeMachine View). m.1) w.2 ∙ idle.1;
  live = subst (λ (m : Me FreeMachine View). 0 < m.0.parts) (sym w.2) live;
  known = subst (λ (m : Me FreeMachine View). IsKnown m.0.known) (sym w.2) known;
  client_is = subst (λ (m : Me FreeMachine View). MayWish wish m.0.known.front.system) (sym w.2) client_is;
}

pub drawn_made : (wish : Wish) (number : ℕ) (me mid next : Me FreeMachine View) (answer : Answer) → IsWaiting number me mid → IsMadeFor wish mid next answer → IsMadeFor wish me next answer
drawn_made wish number me mid next answer w made = record {
  idle = made.idle;
  parts = made.parts ∙ ap (λ (m : Me FreeMachine View). m.0.parts) w.2;
  told = subst (λ (m : Me FreeMachine View). IsAnswerTo wish m.0.known next.0.known answer) w.2 made.told;
  known = made.known;
}

pub waiting_ticket : (number : ℕ) (me mid : Me FreeMachine View) → IsWaiting number me mid → WaitsFor number mid
waiting_ticket number me mid w = (w.0, w.1, ap (λ (m : Me FreeMachine View). m.0.state) w.2)

pub waiting_live : (number : ℕ) (me mid : Me FreeMachine View) → IsWaiting number me mid → 0 < me.0.parts → 0 < mid.0.parts
waiting_live number me mid w live = subst (λ (m : Me FreeMachine View). 0 < m.0.parts) (sym w.2) live

-- it is not served yet, or it is
pub come_waits : (number distance : ℕ) (me mid next : Me FreeMachine View) → IsWaiting number me mid → TurnComes number mid next (distance == 0) → distance ≢ 0 → IsWaiting number me next
come_waits number distance me mid next w comes far = subst (IsWaiting number me) (sym (lent_waits number distance mid next comes far)) w

pub come_here : (number distance : ℕ) (me mid next : Me FreeMachine View) → me.1 ≡ [] → IsKnown me.0.known → IsWaiting number me mid → TurnComes number mid next (distance == 0) → distance ≡ 0
    → TurnGives number me next
come_here number distance me mid next empty known w comes here = turn_gives number me mid next empty known w (subst (TurnComes number mid next) (eq-eqb distance 0 here) comes)

-- ---- a wish is done at once

pub now_made : (wish : Wish) (number : ℕ) (me mid held next : Me FreeMachine View) (answer : Answer) → TurnGives number me mid → held.0.parts ≡ mid.0.parts → IsAnswerTo wish me.0.known held.0.known answer
    → IsKnown held.0.known → IsIdle next → next.0.parts ≡ held.0.parts → next.0.known ≡ held.0.known → IsMadeFor wish me next answer
now_made wish number me mid held next answer gives parts told known idle parts_still still = record {
  idle = idle;
  parts = parts_still ∙ (parts ∙ gives.parts);
  told = subst (λ k. IsAnswerTo wish me.0.known k answer) (sym still) told;
  known = subst IsKnown (sym still) known;
}

pub section_now : (number client : ℕ) (me mid held next : Me FreeMachine View) (result : Result Receipt NotReady) → TurnGives number me mid → held.0.parts ≡ mid.0.parts
    → MakesShared client mid.0.known held.0.known result → IsKnown held.0.known → IsIdle next → next.0.parts ≡ held.0.parts → next.0.known ≡ held.0.known
    → IsMadeFor (wishes.Section client) me next (answers.Section result)
section_now number client me mid held next result gives parts made known idle parts_still still =
    now_made (wishes.Section client) number me mid held next (answers.Section result) gives parts (sections_shared client me.0.known mid.0.known held.0.known result gives.looks made) known idle parts_still still

pub stand_now_made : (number client : ℕ) (me mid held next : Me FreeMachine View) (stand : Stand) → TurnGives number me mid → held ≡ mid → StandsAs mid.0.known.front client stand.standing
    → stand.entries ≡ length mid.0.known.front.log → IsIdle next → next.0.parts ≡ held.0.parts → next.0.known ≡ held.0.known → IsMadeFor (wishes.Standing client) me next (answers.Standing stand)
stand_now_made number client me mid held next stand gives same standing entries idle parts_still still =
    now_made (wishes.Standing client) number me mid held next (answers.Standing stand) gives (ap (λ (m : Me FreeMachine View). m.0.parts) same)
    (stand_told (wishes.Standing client) client mid held stand refl same standing entries me.0.known gives.looks) (subst (λ (m : Me FreeMachine View). IsKnown m.0.known) (sym same) gives.known) idle parts_still still

pub look_now_made : (number : ℕ) (me mid held next : Me FreeMachine View) (look : Look) → TurnGives number me mid → held ≡ mid → IsTrue look.closed ↔ IsClosed mid.0.known.front.system mid.0.known.front.now
    → (IsTrue look.closed → HasEnded mid.0.known.front) → look.entries ≡ length mid.0.known.front.log → IsIdle next → next.0.parts ≡ held.0.parts → next.0.known ≡ held.0.known
    → IsMadeFor wishes.Closed me next (answers.Closed look)
look_now_made number me mid held next look gives same closed ends entries idle parts_still still =
    now_made wishes.Closed number me mid held next (answers.Closed look) gives (ap (λ (m : Me FreeMachine View). m.0.parts) same)
    (look_told wishes.Closed mid held look refl same closed ends entries me.0.known gives.looks) (subst (λ (m : Me FreeMachine View). IsKnown m.0.known) (sym same) gives.known) idle parts_still still

-- ---- an answer that is known to be one of this kind

pub section_had : (client : ℕ) (me next : Me FreeMachine View) (answer : Answer) (result : Result Receipt NotReady) → answer ≡ answers.Section result
    → IsMadeFor (wishes.Section client) me next answer → IsMadeFor (wishes.Section client) me next (answers.Section result)
section_had client me next answer result is made = subst (IsMadeFor (wishes.Section client) me next) is made

pub stand_had : (client : ℕ) (me next : Me FreeMachine View) (answer : Answer) (stand : Stand) → answer ≡ answers.Standing stand
    → IsMadeFor (wishes.Standing client) me next answer → IsMadeFor (wishes.Standing client) me next (answers.Standing stand)
stand_had client me next answer stand is made = subst (IsMadeFor (wishes.Standing client) me next) is made

pub look_had : (me next : Me FreeMachine View) (answer : Answer) (look : Look) → answer ≡ answers.Closed look → IsMadeFor wishes.Closed me next answer → IsMadeFor wishes.Closed me next (answers.Closed look)
look_had me next answer look is made = subst (IsMadeFor wishes.Closed me next) is made

-- ---- a letter comes back

-- the seat is as it was lent
pub back_unused : (lent back : Lent) (returned : Returned) → back ≡ lent → returned.seat ≡ back.seat → returned.answer ≡ None
    → (returned.seat.table_id ≡ lent.seat.table_id) × ComesBack lent.wish lent.seat.me returned.seat.me returned.answer
back_unused lent back returned same seat none =
    let seat_is : returned.seat ≡ lent.seat = seat ∙ ap (λ (l : Lent). l.seat) same in (
      ap (λ (s : Seat FreeMachine View). s.table_id) seat_is,
      subst (ComesBack lent.wish lent.seat.me returned.seat.me) (sym none) (ap (λ (s : Seat FreeMachine View). s.me) seat_is),
    )
