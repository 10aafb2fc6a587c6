-- What each step of the lock tells whoever makes it.
use Rattle.std.specs.Prelude.{◌≡◌, ◌≢◌, ℕ, ◌%◌, ◌^◌, ◌≤◌, [], ◌∷◌, ◌++◌, length}
use Rattle.atomic_table.specs.Table.{Me, Step}
use Rattle.machine_events.specs.declared.log.Entry.{Entry}
use Rattle.machine_explicit.specs.Sections.{FreeMachine, HoldsAlways}
use Rattle.threads_lock.specs.declared.receipt.Receipt.{Receipt}
use Rattle.threads_lock.specs.declared.view.SeatState.{SeatState}
use Rattle.threads_lock.specs.declared.view.SeatState.TheVariants.{Idle, Waiting, Holding, Leaving}
use Rattle.threads_lock.specs.declared.view.View.{View}
use Rattle.threads_lock.specs.Passes.{Reaches, looked, observed, receipted}
use Rattle.threads_lock.specs.inner.Queueing.{view}

abbrev pub in_state : SeatState → View → View
in_state state v = view state v.parts v.known

-- the view has a ticket, which the word told
abbrev pub Drew : Step FreeMachine → Me FreeMachine View → ℕ → Me FreeMachine View → Type 0
Drew step me found next =
    (ticket : ℕ) × (found ≡ ticket % 2 ^ 64) × (next ≡ (in_state (Waiting ticket) me.0, me.1))

abbrev pub has_at : ℕ → FreeMachine → View → View
has_at ticket top v = view (Holding ticket) v.parts (looked v.known top)

-- the view has the turn, and the monitor, which is as it may be found
pub record HasTurn (ticket : ℕ) (me next : Me FreeMachine View) : Type 0 where
  pub top : FreeMachine
  pub now : next ≡ (has_at ticket top me.0, (0, top) ∷ me.1)
  pub reaches : Reaches me.0.known top
  pub always : HoldsAlways top

-- the ticket is served, and the view has the turn; or nothing changed
abbrev pub Called : Step FreeMachine → Me FreeMachine View → ℕ → Me FreeMachine View → Type 0
Called step me found next =
    (ticket : ℕ) → me.0.state ≡ Waiting ticket
    → (found ≡ ticket % 2 ^ 64 → HasTurn ticket me next) × (found ≢ ticket % 2 ^ 64 → next ≡ me)

-- the receipt of a section that added the entry to the view's front
abbrev pub receipt_at : ℕ → View → Entry → Receipt
receipt_at ticket v entry =
    record { place = length v.known.front.log; entry = entry; ticket = ticket }

abbrev pub told : ℕ → View → FreeMachine → Entry → View
told ticket v next entry =
    view (Leaving ticket) v.parts (receipted v.known next (receipt_at ticket v entry))

-- the monitor that the view has, with one entry more than its front, is its front now
abbrev pub Published : Step FreeMachine → Me FreeMachine View → ℕ → Me FreeMachine View → Type 0
Published step me found next =
    (ticket : ℕ) (y : FreeMachine) (entry : Entry) → me.0.state ≡ Holding ticket
    → me.1 ≡ (0, y) ∷ []
    → y.log ≡ me.0.known.front.log ++ entry ∷ [] → next ≡ (told ticket me.0 y entry, me.1)

abbrev pub Released : Step FreeMachine → Me FreeMachine View → ℕ → Me FreeMachine View → Type 0
Released step me found next = next ≡ (in_state Idle me.0, [])

-- the log has this length, no less than what was seen
pub record Observed (step : Step FreeMachine) (me : Me FreeMachine View) (found : ℕ)
    (next : Me FreeMachine View) : Type 0 where
  pub now : next ≡ (view me.0.state me.0.parts (observed me.0.known found), me.1)
  pub seen : me.0.known.seen ≤ found

-- nothing is told to a seat that stands for one that is lent
abbrev pub Came : Step FreeMachine → Me FreeMachine View → ℕ → Me FreeMachine View → Type 0
Came step me found next = Unit {0}
