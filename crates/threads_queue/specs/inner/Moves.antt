-- What each step of the queue does to the hand of whoever makes it, and what it tells.
use Rattle.std.specs.Prelude.{◌≡◌, ◌+◌, ◌-◌, ◌<◌, ◌≤◌, ℕ, List, [], ◌∷◌, ◌++◌, length, sum_by}
use Rattle.std.specs.List.{range_with_len}
use mathlib.Core.Option.{some}
use lib.ListN.{get_elem?}
use Rattle.threads_queue.specs.declared.hand.Hand.{Hand}
use Rattle.threads_queue.specs.Hands.{EachHasOneHolder}
use Rattle.threads_queue.specs.Tickets.{without}

abbrev pub with_ticket : ℕ → Hand → Hand
with_ticket ticket hand = record hand { tickets = ticket ∷ hand.tickets }

abbrev pub without_ticket : ℕ → Hand → Hand
without_ticket ticket hand = record hand { tickets = without ticket hand.tickets }

-- a pop found the queue empty
abbrev pub found_empty : Hand → Hand
found_empty hand = record hand { empties = hand.empties + 1 }

-- every part and every ticket
abbrev pub begun : ℕ → ℕ → Hand
begun clients passes =
    record {
      clients = clients;
      passes = passes;
      parts = passes;
      tickets = range_with_len 0 clients;
      empties = 0;
    }

abbrev pub one_less : Hand → Hand
one_less hand = record hand { parts = hand.parts - 1 }

abbrev pub one_part : Hand → Hand
one_part hand =
    record { clients = hand.clients; passes = hand.passes; parts = 1; tickets = []; empties = 0 }

abbrev pub together : Hand → Hand → Hand
together hand other =
    record hand {
      parts = hand.parts + other.parts;
      tickets = hand.tickets
          ++ other.tickets;
      empties = hand.empties + other.empties;
    }

-- ---- what the steps tell

abbrev pub Took : Hand → ℕ → Hand → Type 0
Took before ticket after = (ticket < before.clients) × (after ≡ with_ticket ticket before)

-- the queue holds these, and the passes the rest
pub record Stands (hand : Hand) (queued : List ℕ) : Type 0 where
  pub hands : List Hand
  pub place : ℕ
  pub own : get_elem? hands place ≡ some hand
  pub all : EachHasOneHolder queued hands

-- the queue holds the ticket behind others, and the passes the rest
abbrev pub StandsLast : ℕ → Hand → Type 0
StandsLast ticket hand = (earlier : List ℕ) × Stands hand (earlier ++ ticket ∷ [])

abbrev pub Gave : Hand → ℕ → Hand → Type 0
Gave before ticket after = (after ≡ without_ticket ticket before) × StandsLast ticket after

-- there is room in the queue for the tickets of the hand
abbrev pub Fit : Hand → List ℕ → Type 0
Fit hand queued = length queued + length hand.tickets ≤ hand.clients

-- what the queue and this hand have is all that there is
abbrev pub AreAll : Hand → List ℕ → Type 0
AreAll hand queued =
    (weight : ℕ → ℕ) → sum_by weight queued + sum_by weight hand.tickets ≡ sum_by weight
    (range_with_len 0 hand.clients)
