use Rattle.std.proofs.Common.{◌≡◌, ◌++◌, [], ◌∷◌, All, length, rules, ap, sym, subst, arith}
use Rattle.std.proofs.lemmas.List.{length-append}
use Rattle.std.proofs.lemmas.List.Elements.{All-push, All-tail}
use Rattle.threads_lock.specs.Closing.{KnowsClosed}
use Rattle.threads_lock.specs.Passes.{PassView}
use Rattle.threads_call.specs.inner.Callings.{IsCalling}
use Rattle.threads_call.proofs.crew.dismiss.Goals as goal

pub loop-calling-preserved : goal.loop-calling-preserved
loop-calling-preserved g c =
    let before = c.loop-calling.invariant in
    let hall = c.args.hall.now in
    let steps : c.loop-calling.calling-iterator.rest.items ≡ c.in-Some.calling ∷ c.next.new.self.rest.items = search rules in
    let added : c.push_reserved.new.self.items ≡ c.loop-calling.back.items ++ c.finished.result ∷ [] = search rules in
    let one_calling = ap length steps in
    let one_caller = ap length added in
    let callers = length-append c.loop-calling.back.items (c.finished.result ∷ []) in (
      All-tail (IsCalling hall) c.in-Some.calling c.next.new.self.rest.items (subst (All (IsCalling hall)) steps before.0),
      omega (arith, before.1),
      search rules,
      subst (All (λ (p : PassView). p.lock ≡ hall.monitor.lock)) (sym added) (All-push (λ (p : PassView). p.lock ≡ hall.monitor.lock) c.loop-calling.back.items c.finished.result before.3 c.finished.ensures.own),
      subst (All KnowsClosed) (sym added) (All-push KnowsClosed c.loop-calling.back.items c.finished.result before.4 c.finished.ensures.closed),
    )
