-- What is so once all passes are back.
use Rattle.std.proofs.Common.{◌≡◌, ℕ, ◌+◌, List, [], ◌∷◌, ◌++◌, refl, ap, ◌∙◌, arith}
use Rattle.std.specs.Prelude.{sum_by}
use Rattle.std.specs.List.{range_with_len}
use Rattle.std.proofs.lemmas.List.Sums.{sum_by-append}
use Rattle.threads_queue.specs.declared.hand.Hand.{Hand}
use Rattle.threads_queue.specs.Tickets.{IsEachOnce, QueuePassView, times, tickets_of}
use Rattle.threads_queue.specs.inner.Gathered.{Gathered}
use Rattle.threads_queue.specs.inner.Moves.{AreAll}
use Rattle.threads_queue.proofs.Sums.{here, times_after, times_within}

pub weight_with_last : (h : ℕ → ℕ) (passes : List QueuePassView) (last : QueuePassView) → sum_by h (tickets_of (passes ++ last ∷ [])) ≡ sum_by h (tickets_of passes) + sum_by h last.tickets
weight_with_last h [] last =
    let a = sum_by-append h last.tickets [] in
    let z : sum_by h [] ≡ 0 = refl in
    omega arith
weight_with_last h (pass ∷ passes) last =
    let a = sum_by-append h pass.tickets (tickets_of (passes ++ last ∷ [])) in
    let b = sum_by-append h pass.tickets (tickets_of passes) in
    let rest = weight_with_last h passes last in
    omega arith

pub closes : (clients : ℕ) (before after : Hand) (rest : List QueuePassView) (last : QueuePassView) (queued : List ℕ)
    → last.tickets ≡ before.tickets → before.clients ≡ clients → Gathered before after rest → AreAll after queued
    → IsEachOnce clients (queued ++ tickets_of (rest ++ last ∷ []))
closes clients before after rest last queued same of_queue gathered all =
    let count : (number : ℕ) → times number (queued ++ tickets_of (rest ++ last ∷ [])) ≡ times number (range_with_len 0 clients) = λ number.
    let a = sum_by-append (here number) queued (tickets_of (rest ++ last ∷ [])) in
    let b = weight_with_last (here number) rest last in
    let c = gathered.tickets (here number) in
    let d = all (here number) in
    let e : sum_by (here number) last.tickets ≡ sum_by (here number) before.tickets = ap (sum_by (here number)) same in
    let f : sum_by (here number) (range_with_len 0 after.clients) ≡ sum_by (here number) (range_with_len 0 clients) = ap (λ n. sum_by (here number) (range_with_len 0 n)) (gathered.clients ∙ of_queue) in
    omega arith in
    record {
      once = λ number lt. count number ∙ times_within 0 clients number (omega arith) (omega arith);
      no_other = λ number le. count number ∙ times_after 0 clients number (omega arith);
    }
