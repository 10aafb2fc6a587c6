-- Who makes a section doesn't rest, so no section is made where all do.
use Rattle.std.proofs.Common.{◌≡◌, ℕ, ◌+◌, ◌<◌, Bool, true, false, true≢false, cond, List, [], ◌∷◌, ◌++◌, Some, refl, sym, ap, ◌∙◌, subst, arith, ⊎_elim}
use Rattle.std.specs.Prelude.{nat_le, length}
use Rattle.std.proofs.lemmas.Grind.{common_steps}
use Rattle.machine_implicit.specs.declared.place.Place.{Place}
use Rattle.machine_events.specs.declared.log.Entry.{Entry}
use Rattle.machine_events.specs.declared.plan.Note.{Note}
use Rattle.machine_events.specs.declared.event.Stage.{Stage}
use Rattle.machine_events.specs.Configurations.{System, Standing, Configuration, StandsAt}
use Rattle.machine_events.specs.declared.event.Stage.TheVariants.{Idle, Woken}
use Rattle.machine_events.specs.Events.{Begins}
use Rattle.machine_events.specs.Logs.{IsBegun, IsClosed, IsSection, is_spurious_entry, rests}
use Rattle.machine_events.specs.Logs.IsSection.{waited, refused, replied}
use Rattle.machine_implicit.specs.Scripted.{calls_of}
use Rattle.machine_explicit.specs.declared.section.Section.{Section}
use Rattle.machine_explicit.specs.Sections.{FreeMachine, MadeSection, Rests, spurious_in}
use Rattle.threads_lock.specs.Growth.{Follows}

-- a client stands at one place
same_rests : (system : System) (standings : List Standing) (client : ℕ) (place also : Place)
    (stage stage' : Stage (List Note)) → StandsAt standings client place stage
    → StandsAt standings client also stage'
    → rests system client also stage' ≡ rests system client place stage
same_rests system standings client place also stage stage' at at' = ap (λ (s : Standing). rests system client s.place s.stage) (some_same _ _ (sym at' ∙ at))
  where
    some_same : (a b : Standing) → Some a ≡ Some b → a ≡ b
    some_same a b e = cc

begun_works : (system : System) (client : ℕ) (place : Place) (before begun : Configuration)
    → IsBegun system client place before begun → (also : Place) (stage : Stage (List Note))
    → StandsAt before.standings client also stage → rests system client also stage ≡ true → ⊥
begun_works system client place before begun begins also stage at rest = ⊎_elim
    (λ (b : Begins system client place before begun).
    let idle : nat_le (length (calls_of system.clients client)) place.past ≡ true = sym (same_rests system before.standings client place also Idle stage b.idle at) ∙ rest in
    let left = b.left in
    absurd (below (length (calls_of system.clients client)) place.past left idle))
    (λ (w : ((condition : ℕ) × StandsAt before.standings client place (Woken condition)) × (begun ≡ before)).
    absurd (true≢false (sym rest ∙ same_rests system before.standings client place also (Woken w.0.0) stage w.0.1 at)))
    begins
  where
    below : (n m : ℕ) → m < n → nat_le n m ≡ true → ⊥
    below n m lt is = grind arith

section_works : (system : System) (log : List Entry) (before : Configuration) (entry : Entry)
    (next : Configuration) → IsSection system log before entry next
    → (place : Place) (stage : Stage (List Note)) → StandsAt before.standings entry.client place stage
    → rests system entry.client place stage ≡ true → ⊥
section_works system log before entry next (waited client place begun locked last free begins locks waits) also stage at rest = begun_works system client place before begun begins also stage at rest
section_works system log before entry next (refused client place goes reply state begun locked ran last free begins locks refuses unlocks) also stage at rest = begun_works system client place before begun begins also stage at rest
section_works system log before entry next (replied client place goes woken reply state begun locked ran notified last free begins locks runs notes unlocks are) also stage at rest = begun_works system client place before begun begins also stage at rest

pub made_works : (client : ℕ) (before next : FreeMachine) (section : Section)
    → MadeSection client before next section → Rests before client → ⊥
made_works client before next section made r = section_works before.system before.log before.now section.entry next.now made.made r.0 r.1
    (subst (λ c. StandsAt before.now.standings c r.0 r.1) (sym made.whose) r.2) (subst (λ c. rests before.system c r.0 r.1 ≡ true) (sym made.whose) r.3)

-- ---- what a section leaves

closed_begins : (system : System) (client : ℕ) (place : Place) (before begun : Configuration)
    → IsClosed system before → IsBegun system client place before begun → ⊥
closed_begins system client place before begun closed begins = ⊎_elim
    (λ (b : Begins system client place before begun). begun_works system client place before begun begins place Idle b.idle (closed.each client place Idle b.idle))
    (λ (w : ((condition : ℕ) × StandsAt before.standings client place (Woken condition)) × (begun ≡ before)).
    begun_works system client place before begun begins place (Woken w.0.0) w.0.1 (closed.each client place (Woken w.0.0) w.0.1))
    begins

closed_section : (system : System) (log : List Entry) (before : Configuration) (entry : Entry)
    (next : Configuration) → IsClosed system before → IsSection system log before entry next → ⊥
closed_section system log before entry next closed (waited client place begun locked last free begins locks waits) = closed_begins system client place before begun closed begins
closed_section system log before entry next closed (refused client place goes reply state begun locked ran last free begins locks refuses unlocks) = closed_begins system client place before begun closed begins
closed_section system log before entry next closed (replied client place goes woken reply state begun locked ran notified last free begins locks runs notes unlocks are) = closed_begins system client place before begun closed begins

pub not_spurious : (system : System) (log : List Entry) (before : Configuration) (entry : Entry)
    (next : Configuration) → IsSection system log before entry next
    → is_spurious_entry entry ≡ false
not_spurious system log before entry next (waited client place begun locked last free begins locks waits) = refl
not_spurious system log before entry next (refused client place goes reply state begun locked ran last free begins locks refuses unlocks) = refl
not_spurious system log before entry next (replied client place goes woken reply state begun locked ran notified last free begins locks runs notes unlocks are) = refl

spurious_more : (log : List Entry) (entry : Entry)
    → spurious_in (log ++ entry ∷ []) ≡ spurious_in log + cond (is_spurious_entry entry) 1 0
spurious_more log entry = grind (arith, common_steps)

none_more : (log : List Entry) (entry : Entry) → is_spurious_entry entry ≡ false
    → spurious_in (log ++ entry ∷ []) ≡ spurious_in log
none_more log entry is = omega (arith, spurious_more log entry, ap {B = ℕ} (λ (test : Bool). cond test 1 0) is)

pub section_follows : (client : ℕ) (before next : FreeMachine) (section : Section)
    → MadeSection client before next section → Follows before next
section_follows client before next section made = record {
  system = made.appends.system;
  extra = made.appends.extra;
  log = (section.entry ∷ [], made.appends.log);
  spurious = ap (λ (log : List Entry). spurious_in log) made.appends.log ∙ none_more before.log section.entry (not_spurious before.system before.log before.now section.entry next.now made.made);
  closed = λ is. absurd (closed_section before.system before.log before.now section.entry next.now is made.made);
}
