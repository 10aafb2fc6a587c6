-- What all workers knew when they ended is so.
use Rattle.std.proofs.Common.{◌≡◌, ℕ, List, ◌++◌, length, take, sym, subst}
use Rattle.std.proofs.Math.Seq.{take-append_seam}
use Rattle.std.specs.List.{All}
pub use Rattle.threads_lock.proofs.Ending.{is_closed, has_ended}
use Rattle.threads_pool.specs.declared.shop.Shop.{Shop}
use Rattle.threads_pool.specs.declared.worker.Worker.{Worker}
use Rattle.threads_pool.specs.inner.Workers.{HasFinished}

-- what was written back of a list of workers that have ended
pub finished_written : (shop : Shop) (n : ℕ) (workers rest : List Worker) → length workers ≡ n → All (HasFinished shop) workers → All (HasFinished shop) (take n (workers ++ rest))
finished_written shop n workers rest many every =
    subst (λ k. All (HasFinished shop) (take k (workers ++ rest))) many
    (subst (All (HasFinished shop)) (sym (take-append_seam workers rest)) every)
