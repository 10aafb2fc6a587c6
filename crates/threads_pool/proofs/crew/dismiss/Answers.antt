use Rattle.std.proofs.Common.{◌≡◌, ◌++◌, [], ◌∷◌, All, length, rules, ap, sym, subst, arith}
use Rattle.std.proofs.lemmas.List.{length-append}
use Rattle.std.proofs.lemmas.List.Elements.{All-push, All-tail}
use Rattle.threads_lock.specs.Passes.{PassView}
use Rattle.threads_pool.specs.inner.Workers.{HasFinished, KnowsClosed}
use Rattle.threads_pool.proofs.crew.dismiss.Goals as goal

pub loop-worker-preserved : goal.loop-worker-preserved
loop-worker-preserved c =
    let before = c.loop-worker.invariant in
    let shop = c.args.shop.now in
    let steps : c.loop-worker.worker-iterator.rest.items ≡ c.in-Some.worker ∷ c.next.new.self.rest.items = search rules in
    let added : c.push_reserved.new.self.items ≡ c.loop-worker.places.items ++ c.into_place.result ∷ [] = search rules in
    let one_worker = ap length steps in
    let one_place = ap length added in
    let places = length-append c.loop-worker.places.items (c.into_place.result ∷ []) in (
      All-tail (HasFinished shop) c.in-Some.worker c.next.new.self.rest.items (subst (All (HasFinished shop)) steps before.0),
      omega (arith, before.1),
      search rules,
      subst (All (λ (p : PassView). p.lock ≡ shop.monitor.lock)) (sym added) (All-push (λ (p : PassView). p.lock ≡ shop.monitor.lock) c.loop-worker.places.items c.into_place.result before.3 c.into_place.ensures.own),
      subst (All KnowsClosed) (sym added) (All-push KnowsClosed c.loop-worker.places.items c.into_place.result before.4 c.into_place.ensures.closed),
    )
