use Rattle.std.proofs.Common.{◌≡◌, ◌++◌, [], ◌∷◌, All, length, rules, ap, sym, subst, arith}
use Rattle.std.proofs.lemmas.List.{length-append}
use Rattle.std.proofs.lemmas.List.Elements.{All-push, All-tail}
use Rattle.threads_queue.specs.Tickets.{new_pass}
use Rattle.threads_pool.specs.inner.Workers.{IsPlace, IsWorker}
use Rattle.threads_pool.proofs.Hiring.{all_parted}
use Rattle.threads_pool.proofs.crew.hire.Goals as goal

pub loop-place-preserved : goal.loop-place-preserved
loop-place-preserved c =
    let before = c.loop-place.invariant in
    let shop = c.args.shop.now in
    let steps : c.loop-place.place-iterator.rest.items ≡ c.in-Some.place ∷ c.next.new.self.rest.items = search rules in
    let parted : c.loop-place.tickets.items ≡ c.pop.new.self.items ++ c.in-Some-pop.own ∷ [] = search rules in
    let added : c.push_reserved.new.self.items ≡ c.loop-place.crew.items ++ c.hired.result ∷ [] = search rules in
    let one_place = ap length steps in
    let one_pass = ap length parted in
    let passes = length-append c.pop.new.self.items (c.in-Some-pop.own ∷ []) in
    let one_worker = ap length added in
    let workers = length-append c.loop-place.crew.items (c.hired.result ∷ []) in (
      All-tail (IsPlace shop) c.in-Some.place c.next.new.self.rest.items (subst (All (IsPlace shop)) steps before.0),
      (all_parted (λ p. p ≡ new_pass shop.queue) c.pop.new.self.items c.in-Some-pop.own (subst (All (λ p. p ≡ new_pass shop.queue)) parted before.1)).0,
      omega (arith, before.2),
      omega (arith, before.3),
      search rules,
      subst (All (IsWorker shop)) (sym added) (All-push (IsWorker shop) c.loop-place.crew.items c.hired.result before.5 c.hired.ensures.own),
    )
