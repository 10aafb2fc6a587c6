-- The rule of the lock, which holds between any two steps.
-- Word 0 is the next ticket, word 1 the ticket that is served, and word 2 the length of the log.
-- Slot 0 has the monitor.
use Rattle.std.specs.Prelude.{◌≡◌, ◌⊎◌, ℕ, ◌+◌, ◌-◌, ◌%◌, ◌^◌, ◌<◌, ◌≤◌, nat_lt, List, [], ◌∷◌}
use Rattle.std.specs.Prelude.{◌++◌, length, map, Bool, true, false, max, if◌then◌else◌, None}
use Rattle.std.specs.List.{All, Contains}
use mathlib.Core.Option.{Option, none, some}
use lib.ListN.{get_elem?}
use Rattle.atomic_table.specs.Table.{State, Me}
use Rattle.machine_explicit.specs.Sections.{FreeMachine, HoldsAlways}
use Rattle.threads_lock.specs.declared.receipt.Receipt.{Receipt}
use Rattle.threads_lock.specs.declared.view.SeatState.{SeatState}
use Rattle.threads_lock.specs.declared.view.SeatState.TheVariants.{Idle, Waiting, Holding, Leaving}
use Rattle.threads_lock.specs.declared.view.Knowledge.{Knowledge}
use Rattle.threads_lock.specs.declared.view.View.{View}
use Rattle.threads_lock.specs.declared.view.Terms.{Terms}
use Rattle.threads_lock.specs.Growth.{Follows}
use Rattle.threads_lock.specs.Passes.{IsKnown, newly_known}
use Rattle.threads_lock.specs.Closing.{times}

-- ---- seats

abbrev pub view : SeatState → ℕ → Knowledge → View
view state parts known = record { state = state; parts = parts; known = known }

abbrev pub ticket_of : SeatState → Option ℕ
ticket_of Idle = none
ticket_of (Waiting ticket) = some ticket
ticket_of (Holding ticket) = some ticket
ticket_of (Leaving ticket) = some ticket

-- whether it has the turn, and with it the monitor
abbrev pub holds : SeatState → Bool
holds (Holding ticket) = true
holds (Leaving ticket) = true
holds state = false

-- 1 where it has a ticket
abbrev pub queued : SeatState → ℕ
queued Idle = 0
queued state = 1

-- the tickets of the sections that were counted are below this number while this view holds the
-- lock
abbrev pub limit_of : SeatState → ℕ
limit_of Idle = 0
limit_of (Waiting ticket) = 0
limit_of (Holding ticket) = ticket
limit_of (Leaving ticket) = ticket + 1

-- f of each view, added up
abbrev pub total : (View → ℕ) → List View → ℕ
total f [] = 0
total f (one ∷ views) = f one + total f views

-- ---- the sections so far

-- Receipts of sections that were made one after the other, from this place on and with no earlier
-- ticket than this; all tickets are below the last number.
abbrev pub AreInTurn : ℕ → ℕ → List Receipt → ℕ → Type 0
AreInTurn place ticket [] last = ticket ≤ last
AreInTurn place ticket (receipt ∷ receipts) last =
    (receipt.place ≡ place) × (ticket ≤ receipt.ticket)
    × AreInTurn (place + 1) (receipt.ticket + 1) receipts last

-- The monitor has come from the start by the sections of the history, whose tickets are below the
-- limit.
pub record IsHistory (start : FreeMachine) (history : List Receipt) (limit : ℕ)
    (top : FreeMachine) : Type 0 where
  pub follows : Follows start top
  pub log : top.log ≡ start.log ++ map (λ receipt. receipt.entry) history
  pub in_turn : AreInTurn (length start.log) 0 history limit
  pub always : HoldsAlways top

-- what a seat knows is so
pub record Agrees (history : List Receipt) (top : FreeMachine) (known : Knowledge) : Type 0 where
  pub front : Follows known.front top
  pub seen : known.seen ≤ length top.log
  pub joined : All (λ front. Follows front top) known.joined_fronts
  pub receipts : All (Contains history) known.receipts

-- ---- splitting and joining seats

-- the receipt goes before the first of a later place
abbrev pub put_in : Receipt → List Receipt → List Receipt
put_in receipt [] = receipt ∷ []
put_in receipt (other ∷ others) =
    if nat_lt receipt.place other.place then receipt ∷ other ∷ others
    else other ∷ put_in receipt others

-- the receipts of both, in rising places
abbrev pub merged : List Receipt → List Receipt → List Receipt
merged [] others = others
merged (receipt ∷ receipts) others = put_in receipt (merged receipts others)

-- the front with the longer log
abbrev pub longer : FreeMachine → FreeMachine → FreeMachine
longer front other = if nat_lt (length front.log) (length other.log) then other else front

-- what two seats know together
abbrev pub joined : Knowledge → Knowledge → Knowledge
joined known other = record {
  front = longer known.front other.front;
  seen = max known.seen other.seen;
  receipts = merged known.receipts other.receipts;
  joined_fronts = known.front ∷ other.front ∷ (known.joined_fronts ++ other.joined_fronts);
  looks = known.looks;
}

-- what the seat of a new part knows
abbrev pub parted : Knowledge → Knowledge
parted known = record known { receipts = []; joined_fronts = []; looks = 0 }

abbrev pub one_less : View → View
one_less v = view v.state (v.parts - 1) v.known

abbrev pub one_part : View → View
one_part v = view Idle 1 (parted v.known)

abbrev pub together : View → View → View
together v w = view v.state (v.parts + w.parts) (joined v.known w.known)

-- a monitor of nothing, which stands for the front of a seat that was joined into another
abbrev pub nothing : FreeMachine
nothing = record {
  system =
      record {
        monitor = record {
          name = [];
          fields = [];
          methods = [];
          blocks = [];
          conditions = [];
        };
        plan = record { kept = []; kinds = []; notes = [] };
        clients = [];
      };
  now = record { state = []; owner = None; commits = []; standings = [] };
  log = [];
  extra = 0;
}

abbrev pub spent : View
spent = view Idle 0 (newly_known nothing)

abbrev pub newcomer : Terms → View
newcomer key = view Idle key.passes (newly_known key.start.value)

-- no ticket, and no slot
abbrev pub IsIdle : Me FreeMachine View → Type 0
IsIdle me = (me.0.state ≡ Idle) × (me.1 ≡ [])

-- ---- the rule

-- What a seat knows is so, and its ticket is drawn and not passed; a seat that was joined into
-- another knows nothing.
pub record Fits (served drawn : ℕ) (history : List Receipt) (top : FreeMachine) (v : View) : Type 0
  where
    pub known : 0 < v.parts → IsKnown v.known × Agrees history top v.known
    pub joined : v.parts ≡ 0 → v ≡ spent
    pub ticket : (ticket : ℕ) → ticket_of v.state ≡ some ticket
        → (served ≤ ticket) × (ticket < drawn)

-- no two views have one ticket
abbrev pub AreApart : List View → Type 0
AreApart views =
    (i j : ℕ) (v w : View) (ticket : ℕ) → get_elem? views i ≡ some v → get_elem? views j ≡ some w
    → ticket_of v.state ≡ some ticket → ticket_of w.state ≡ some ticket → i ≡ j

-- some view has the ticket
abbrev pub IsHad : List View → ℕ → Type 0
IsHad views ticket =
    (j : ℕ) × (v : View) × (get_elem? views j ≡ some v) × (ticket_of v.state ≡ some ticket)

-- The tickets that are out are those from the one that is served up to the next, and one view has
-- each.
pub record IsQueue (served drawn : ℕ) (views : List View) : Type 0 where
  pub out : served + total (λ v. queued v.state) views ≡ drawn
  pub apart : AreApart views
  pub had : (ticket : ℕ) → served ≤ ticket → ticket < drawn → IsHad views ticket

-- the monitor is at home, and no view has the turn
pub record IsFree (served limit : ℕ) (top : FreeMachine) (homes : List (Option FreeMachine))
    (views : List View) : Type 0 where
  pub home : homes ≡ some top ∷ []
  pub none_holds : (j : ℕ) (v : View) → get_elem? views j ≡ some v → holds v.state ≡ false
  pub bound : limit ≤ served

-- the monitor is away with the one view that has the turn; it has the ticket that is served, and
-- its front has the log
pub record IsTaken (served limit : ℕ) (top : FreeMachine) (homes : List (Option FreeMachine))
    (views : List View) : Type 0 where
  pub away : homes ≡ none ∷ []
  pub holder : ℕ
  pub its_view : View
  pub holder_is : get_elem? views holder ≡ some its_view
  pub turn : holds its_view.state ≡ true
  pub ticket : ticket_of its_view.state ≡ some served
  pub front : its_view.known.front ≡ top
  pub bound : limit ≤ limit_of its_view.state
  pub only : (j : ℕ) (v : View) → get_elem? views j ≡ some v → holds v.state ≡ true → j ≡ holder

pub record Kept (key : Terms) (s : State FreeMachine View) : Type 0 where
  -- the monitor now, the sections so far, and a number above all their tickets
  pub top : FreeMachine
  pub history : List Receipt
  pub limit : ℕ
  -- how many tickets are through, and how many were drawn, without end
  pub served : ℕ
  pub drawn : ℕ
  pub words : s.words ≡ drawn % 2 ^ 64 ∷ served % 2 ^ 64 ∷ length top.log ∷ []
  pub few : key.passes < 2 ^ 32
  pub whole : total (λ v. v.parts) s.views ≡ key.passes
  pub made : IsHistory key.start.value history limit top
  pub receipts : (place : ℕ)
      → total (λ v. times place v.known.receipts) s.views ≡ times place history
  pub each : (j : ℕ) (v : View) → get_elem? s.views j ≡ some v → Fits served drawn history top v
  pub queue : IsQueue served drawn s.views
  pub lock : IsFree served limit top s.homes s.views ⊎ IsTaken served limit top s.homes s.views
