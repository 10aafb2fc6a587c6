-- What the queue and its passes show, and what each call does.
use Rattle.std.specs.Prelude.{◌≡◌, ◌+◌, ◌<◌, ◌≤◌, ◌==◌, ℕ, List, [], ◌∷◌, ◌++◌, Option, MatchOption}
use Rattle.std.specs.Prelude.{count_by, if◌then◌else◌}
use Rattle.std.specs.List.{flat_map}
use mathlib.Core.Option.{some}
use lib.ListN.{get_elem?}
use Rattle.atomic_table.specs.Seated.{TableId}
use Rattle.threads_queue.specs.declared.hand.Hand.{Hand}
use Rattle.threads_queue.specs.Hands.{EachHasOneHolder}

-- a queue: which one it is, and for how many clients and passes it was opened
pub record QueueView : Type 0 where
  pub id : TableId
  pub clients : ℕ
  pub passes : ℕ

-- a pass: which queue it is of, the clients whose tickets it has, and how many of its pops found
-- the queue empty
pub record QueuePassView : Type 0 where
  pub queue : QueueView
  pub tickets : List ℕ
  pub empties : ℕ

-- a pass at the start
abbrev pub new_pass : QueueView → QueuePassView
new_pass queue = record { queue = queue; tickets = []; empties = 0 }

-- ---- each ticket once

-- how often a number stands in the list
abbrev pub times : ℕ → List ℕ → ℕ
times number tickets = count_by (λ ticket. ticket == number) tickets

-- Each number below `clients` stands in the list just once, and no other number does.
pub record IsEachOnce (clients : ℕ) (tickets : List ℕ) : Type 0 where
  pub once : (number : ℕ) → number < clients → times number tickets ≡ 1
  pub no_other : (number : ℕ) → clients ≤ number → times number tickets ≡ 0

-- the tickets of all passes
abbrev pub tickets_of : List QueuePassView → List ℕ
tickets_of passes = flat_map (λ pass. pass.tickets) passes

-- the list without the first that is this number
abbrev pub without : ℕ → List ℕ → List ℕ
without number [] = []
without number (ticket ∷ tickets) =
    if ticket == number then tickets else ticket ∷ without number tickets

-- ---- what the calls do

-- what the rule of the queue knows of a pass
abbrev pub hand_of : QueuePassView → Hand
hand_of pass =
    record {
      clients = pass.queue.clients;
      passes = pass.queue.passes;
      parts = 1;
      tickets = pass.tickets;
      empties = pass.empties;
    }

-- At one moment no ticket was in the queue: the passes had them all, this one its own.
pub record WasEmpty (pass : QueuePassView) : Type 0 where
  pub hands : List Hand
  pub place : ℕ
  pub own : get_elem? hands place ≡ some (hand_of pass)
  pub all : EachHasOneHolder [] hands

-- A ticket is one more of the pass; or a pop found the queue empty, and is counted.
abbrev pub Takes : QueuePassView → QueuePassView → Option ℕ → Type 0
Takes before after result =
    MatchOption result
    (WasEmpty before × (after ≡ record before { empties = before.empties + 1 }))
    (λ ticket. (ticket < before.queue.clients)
    × (after ≡ record before { tickets = ticket ∷ before.tickets }))

-- At one moment the ticket was the last of the queue, and the passes had all that the queue had
-- not, this one its own.
pub record IsQueued (ticket : ℕ) (pass : QueuePassView) : Type 0 where
  pub earlier : List ℕ
  pub hands : List Hand
  pub place : ℕ
  pub own : get_elem? hands place ≡ some (hand_of pass)
  pub all : EachHasOneHolder (earlier ++ ticket ∷ []) hands

-- the pass has the ticket no more
abbrev pub put_back : ℕ → QueuePassView → QueuePassView
put_back ticket pass = record pass { tickets = without ticket pass.tickets }
