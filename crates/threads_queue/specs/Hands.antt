-- The rule of the queue, which holds between any two steps.
use Rattle.std.specs.Prelude.{◌≡◌, ◌+◌, ◌<◌, ℕ, List, [], sum_by}
use Rattle.std.specs.List.{range_with_len}
use mathlib.Core.Option.{some}
use lib.ListN.{get_elem?}
use Rattle.threads_queue.specs.declared.hand.Hand.{Hand}

-- who has no part of the right to close has no ticket, and who has one knows for how many clients
-- and passes the queue is
pub record IsHand (clients passes : ℕ) (hand : Hand) : Type 0 where
  pub idle : hand.parts ≡ 0 → hand.tickets ≡ []
  pub knows : 0 < hand.parts → (hand.clients ≡ clients) × (hand.passes ≡ passes)

-- The tickets in the queue and in all hands are the numbers below `clients`, each once: however
-- numbers are weighed, both weigh the same.
pub record EachHasOneHolder (queued : List ℕ) (hands : List Hand) : Type 0 where
  pub clients : ℕ
  pub passes : ℕ
  pub tickets : (weight : ℕ → ℕ)
      → sum_by weight queued + sum_by (λ hand. sum_by weight hand.tickets) hands
      ≡ sum_by weight (range_with_len 0 clients)
  pub parts : sum_by (λ hand. hand.parts) hands ≡ passes
  pub each : (place : ℕ) (hand : Hand) → get_elem? hands place ≡ some hand
      → IsHand clients passes hand

-- a hand that was joined into another
abbrev pub spent : Hand
spent = record { clients = 0; passes = 0; parts = 0; tickets = []; empties = 0 }

-- the first hand, before the tickets are made
abbrev pub unset : Hand
unset = record { clients = 0; passes = 1; parts = 1; tickets = []; empties = 0 }
