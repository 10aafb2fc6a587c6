-- What was written back.
use Rattle.std.proofs.Common.{◌≡◌, ℕ, List, ◌++◌, length, take, sym, subst}
use Rattle.std.proofs.Math.Seq.{take-append_seam}
use Rattle.std.specs.List.{All}
use Rattle.threads_lock.specs.Passes.{SharedView}
use Rattle.threads_call.specs.declared.crew.Calling.{Calling}
use Rattle.threads_call.specs.inner.Callings.{IsPlace}

-- what was written back of a list of clients whose calls have ended
pub called_written : (monitor : SharedView) (n : ℕ) (crew rest : List Calling) → length crew ≡ n → All (λ (one : Calling). IsPlace monitor one.caller) crew
    → All (λ (one : Calling). IsPlace monitor one.caller) (take n (crew ++ rest))
called_written monitor n crew rest many every =
    subst (λ k. All (λ (one : Calling). IsPlace monitor one.caller) (take k (crew ++ rest))) many
    (subst (All (λ (one : Calling). IsPlace monitor one.caller)) (sym (take-append_seam crew rest)) every)
