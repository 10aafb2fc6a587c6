-- What the steps tell whoever makes them.
use Rattle.std.proofs.Common.{◌≡◌, ◌≢◌, ◌↔◌, ◌==◌, ℕ, ◌+◌, ◌-◌, ◌<◌, ◌%◌, ◌^◌, [], ◌∷◌, eq-eqb, ne_eqb, length, refl, sym, ap, ◌∙◌, subst, Ok, Err, arith}
use Rattle.std.specs.Prelude.{Result, MatchResult}
use mathlib.Core.Logic.{dite}
use native.Mathlib.Decide.{ℕ_discrete}
use Rattle.atomic_table.specs.Table.{Me}
use Rattle.machine_explicit.specs.declared.section.NotReady.{NotReady}
use Rattle.machine_explicit.specs.declared.section.Section.{Section}
use Rattle.machine_explicit.specs.Sections.{FreeMachine, HoldsAlways, MadeSection}
use Rattle.machine_explicit.specs.Sections.{NotMade, Sections}
use Rattle.threads_lock.specs.declared.receipt.Receipt.{Receipt}
use Rattle.threads_lock.specs.declared.view.Knowledge.{Knowledge}
use Rattle.threads_lock.specs.declared.view.SeatState.TheVariants.{Holding}
use Rattle.threads_lock.specs.declared.view.View.{View}
use Rattle.threads_lock.specs.Passes.{IsKnown, Looks, Reaches, SectionsShared}
use Rattle.threads_lock.specs.inner.Queueing.{holds}
use Rattle.threads_lock.specs.inner.Steps.{HasTurn, has_at, receipt_at, told}
use Rattle.threads_lock.specs.inner.Turns.{HasMonitor, IsHolding, IsMade, IsNotMade, IsWaiting, MakesOne, MakesShared, TurnComes, TurnGives, TurnIsHere}
use Rattle.threads_lock.proofs.Readiness.{made_works, section_follows}
use Rattle.threads_lock.proofs.Knowing.{known_looked, known_receipted}

-- a ticket is no further away than the one that is served just where it is that one
pub distance_zero : (ticket found : ℕ) → ticket < 2 ^ 64 → found < 2 ^ 64 → ((ticket + (2 ^ 64 - found)) % 2 ^ 64 ≡ 0) ↔ (found ≡ ticket)
distance_zero ticket found below below' = (λ none. omega arith, λ same. omega arith)

pub turn_comes : (ticket found distance t : ℕ) (m n : Me FreeMachine View) → ticket ≡ t % 2 ^ 64 → (distance ≡ 0) ↔ (found ≡ ticket)
    → (found ≡ t % 2 ^ 64 → HasTurn t m n) × (found ≢ t % 2 ^ 64 → n ≡ m) → TurnComes ticket m n (distance == 0)
turn_comes ticket found distance t m n is near told = dite (ℕ_discrete distance 0)
    (λ none. subst (TurnComes ticket m n) (sym (eq-eqb distance 0 none)) (t, is, told.0 (near.0 none ∙ is)))
    (λ some. subst (TurnComes ticket m n) (sym (ne_eqb distance 0 some)) (told.1 (λ same. some (near.1 (same ∙ sym is)))))

pub turn_gives : (number : ℕ) (me mid next : Me FreeMachine View) → me.1 ≡ [] → IsKnown me.0.known → IsWaiting number me mid → TurnIsHere number mid next → TurnGives number me next
turn_gives number me mid next empty known w h = subst (TurnGives number me) (sym next_is) record {
  holding = (t, h.1, refl, refl);
  parts = refl;
  looks = record { found = top; reaches = reaches; known = refl };
  known = known_looked me.0.known top known reaches.front h.2.always;
}
  where
    t : ℕ
    t = h.0

    top : FreeMachine
    top = h.2.top

    reaches : Reaches me.0.known top
    reaches = subst (λ k. Reaches k top) (ap (λ (m : Me FreeMachine View). m.0.known) w.2) h.2.reaches

    next_is : next ≡ (has_at t top me.0, (0, top) ∷ [])
    next_is = h.2.now ∙ (ap (λ (m : Me FreeMachine View). (has_at t top m.0, (0, top) ∷ m.1)) w.2 ∙ ap (λ l. (has_at t top me.0, (0, top) ∷ l)) empty)

-- a section after a look is a section on the monitor that was found
pub sections_shared : (client : ℕ) (before mid after : Knowledge) (result : Result Receipt NotReady) → Looks before mid → MakesShared client mid after result → SectionsShared client before after result
sections_shared client before mid after (Ok told) looks made =
    let one = subst (λ k. MakesOne client k after told) looks.known made in
    record { found = looks.found; next = one.next; receipt = one.receipt; reaches = looks.reaches; works = made_works client looks.found one.next _ one.made; made = one.made; known = one.known; told_is = one.told_is }
sections_shared client before mid after (Err fault) looks rests =
    record { found = looks.found; reaches = looks.reaches; rests = subst (λ k. NotMade client k.front k.front fault) looks.known rests.0; known = rests.1 ∙ looks.known }

-- what a section comes to, on the monitor that the seat has
pub step_gives : (client : ℕ) (me next : Me FreeMachine View) (y : FreeMachine) (result : Result Section NotReady) → me.1 ≡ (0, me.0.known.front) ∷ [] → next ≡ (me.0, (0, y) ∷ [])
    → Sections client me.0.known.front y result → HoldsAlways y → MatchResult result (λ section. IsMade client me next section) (λ fault. IsNotMade client me next fault)
step_gives client me next y (Ok section) has now made always = record { after = y; now = now; made = made; always = always }
step_gives client me next y (Err fault) has now made always = record {
  now = now ∙ (ap (λ z. (me.0, (0, z) ∷ [])) made.same ∙ ap (λ l. (me.0, l)) (sym has));
  rests = record { rests = made.rests; entries = made.entries; same = refl };
}

pub publish_turn : (client number : ℕ) (me mid : Me FreeMachine View) (section : Section) → IsHolding number me → IsMade client me mid section → (t : ℕ) × (mid.0.state ≡ Holding t)
publish_turn client number me mid section h made = (h.0, ap (λ (m : Me FreeMachine View). m.0.state) made.now ∙ h.2)

pub publish_made : (client : ℕ) (me mid : Me FreeMachine View) (section : Section) → IsMade client me mid section
    → (y : FreeMachine) × (mid.1 ≡ (0, y) ∷ []) × HoldsAlways y × MadeSection section.entry.client mid.0.known.front y section
publish_made client me mid section made = (
  made.after,
  ap (λ (m : Me FreeMachine View). m.1) made.now,
  made.always,
  subst (λ (f : FreeMachine). MadeSection section.entry.client f made.after section) (ap (λ (m : Me FreeMachine View). m.0.known.front) (sym made.now))
      (subst (λ c. MadeSection c me.0.known.front made.after section) (sym made.made.whose) made.made),
)

-- a section that was made and counted
pub record CountGives (client number : ℕ) (me next : Me FreeMachine View) (section : Section) : Type 0 where
  pub turn : HasMonitor next
  pub parts : next.0.parts ≡ me.0.parts
  pub made : MakesOne client me.0.known next.0.known (record { place = section.place; entry = section.entry; ticket = number })
  pub known : IsKnown next.0.known

pub count_gives : (client number : ℕ) (me mid next : Me FreeMachine View) (section : Section) → IsHolding number me → IsKnown me.0.known → IsMade client me mid section
    → ((t : ℕ) (y : FreeMachine) → mid.0.state ≡ Holding t → mid.1 ≡ (0, y) ∷ [] → next ≡ (told t mid.0 y section.entry, (0, y) ∷ [])) → CountGives client number me next section
unfolding publish_turn publish_made
count_gives client number me mid next section h known is tells = subst (λ n. CountGives client number me n section) (sym next_is) record {
  turn = (refl, refl);
  parts = refl;
  made = record { next = y; receipt = receipt_at t me.0 section.entry; made = subst (λ place. MadeSection client me.0.known.front y (record { place = place; entry = section.entry })) made.place made; known = refl; told_is = (made.place, refl, h.1) };
  known = known_receipted me.0.known y (receipt_at t me.0 section.entry) known (section_follows client me.0.known.front y section made) is.always made.appends.log refl;
}
  where
    t : ℕ
    t = h.0

    y : FreeMachine
    y = is.after

    made : MadeSection client me.0.known.front y section
    made = is.made

    next_is : next ≡ (told t me.0 y section.entry, (0, y) ∷ [])
    next_is = tells t y (publish_turn client number me mid section h is).1 (publish_made client me mid section is).1 ∙ ap (λ (m : Me FreeMachine View). (told t m.0 y section.entry, (0, y) ∷ [])) is.now

-- whoever holds the lock by a ticket has the monitor
pub holding_has : (number : ℕ) (me : Me FreeMachine View) → IsHolding number me → HasMonitor me
holding_has number me h = (ap holds h.2, h.3)

-- a look finds the same clients
pub looks_clients : (before after : Knowledge) → Looks before after → after.front.system ≡ before.front.system
looks_clients before after looks = ap (λ (k : Knowledge). k.front.system) looks.known ∙ looks.reaches.front.system

-- a look tells the length of the log that it found
pub looks_seen : (before after : Knowledge) → Looks before after → after.seen ≡ length after.front.log
looks_seen before after looks = ap (λ (k : Knowledge). k.seen) looks.known ∙ ap (λ (k : Knowledge). length k.front.log) (sym looks.known)
