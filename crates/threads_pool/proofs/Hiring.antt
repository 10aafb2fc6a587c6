-- What a worker has of its passes.
use Rattle.std.proofs.Common.{◌≡◌, ℕ, List, [], ◌∷◌, ◌++◌, ap}
use Rattle.std.specs.List.{All}
use Rattle.std.proofs.lemmas.List.Elements.{All-nil, All-cons, All-head, All-tail}
use Rattle.threads_lock.specs.declared.view.Knowledge.{Knowledge}
use Rattle.threads_lock.specs.Passes.{observed}
use Rattle.threads_queue.specs.Tickets.{QueuePassView, new_pass}
use Rattle.threads_pool.specs.declared.shop.Shop.{Shop}
use Rattle.threads_pool.specs.declared.worker.Worker.{Worker}
use Rattle.threads_pool.specs.inner.Workers.{HasFinished, IsPlace, IsWorker, KnowsClosed}

pub hired : (shop : Shop) (worker : Worker) → IsPlace shop worker.place → worker.tickets ≡ new_pass shop.queue → IsWorker shop worker
hired shop worker place new = record {
  place = place;
  queue = ap (λ (p : QueuePassView). p.queue) new;
  idle = ap (λ (p : QueuePassView). p.tickets) new;
}

pub has_place : (shop : Shop) (worker : Worker) → HasFinished shop worker → worker.place.lock ≡ shop.monitor.lock
has_place shop worker is = is.own.place.lock

pub knew : (shop : Shop) (worker : Worker) → HasFinished shop worker → KnowsClosed worker.place
knew shop worker is = is.closed

pub finished : (shop : Shop) (worker : Worker) → IsWorker shop worker → KnowsClosed worker.place → HasFinished shop worker
finished shop worker own closed = record { own = own; closed = closed }

-- a look at how long the log is leaves the clients that a pass knows
pub observed_system : (before after : Knowledge) (count : ℕ) → after ≡ observed before count → after.front.system ≡ before.front.system
observed_system before after count is = ap (λ (k : Knowledge). k.front.system) is

-- all of a list, and the last
pub all_parted : {X : Type 0} (P : X → Type 0) (xs : List X) (x : X) → All P (xs ++ x ∷ []) → All P xs × P x
all_parted P [] x all = (All-nil P, All-head P x [] all)
all_parted P (y ∷ ys) x all =
    let more = all_parted P ys x (All-tail P y (ys ++ x ∷ []) all) in
    (All-cons P y ys (All-head P y (ys ++ x ∷ []) all) more.0, more.1)
