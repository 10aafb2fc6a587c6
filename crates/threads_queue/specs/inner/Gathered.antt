-- What a place has taken in.
use Rattle.std.specs.Prelude.{◌≡◌, ◌+◌, ℕ, List, length, sum_by}
use Rattle.crossbeam_queue.specs.Passes.{Pass, view}
use Rattle.atomic_table.specs.Seated.{TableId}
use Rattle.threads_queue.specs.declared.hand.Hand.{Hand}
use Rattle.threads_queue.specs.Tickets.{QueuePassView, tickets_of}

-- a hand at a queue, as a pass
abbrev pub pass_of : TableId → Hand → QueuePassView
pass_of id hand =
    record {
      queue = record { id = id; clients = hand.clients; passes = hand.passes };
      tickets = hand.tickets;
      empties = hand.empties;
    }

abbrev pub pass_view : Pass ℕ Hand → QueuePassView
pass_view place = pass_of place.table_id (view place)

-- a hand took in the parts and the tickets of these passes
pub record Gathered (before after : Hand) (passes : List QueuePassView) : Type 0 where
  pub clients : after.clients ≡ before.clients
  pub passes_same : after.passes ≡ before.passes
  pub parts : after.parts ≡ before.parts + length passes
  pub tickets : (weight : ℕ → ℕ)
      → sum_by weight after.tickets
      ≡ sum_by weight before.tickets + sum_by weight (tickets_of passes)
