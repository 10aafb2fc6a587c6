use Rattle.std.proofs.Common.{◌≡◌, ◌++◌, [], ◌∷◌, All, length, rules, ap, sym, subst, arith}
use Rattle.std.proofs.lemmas.List.{length-append}
use Rattle.std.proofs.lemmas.List.Elements.{All-push, All-tail}
use Rattle.threads_call.specs.inner.Callings.{IsCalling, IsPlace}
use Rattle.threads_call.proofs.crew.gather.Goals as goal

pub loop-caller-preserved : goal.loop-caller-preserved
loop-caller-preserved c =
    let before = c.loop-caller.invariant in
    let hall = c.args.hall.now in
    let steps : c.loop-caller.caller-iterator.rest.items ≡ c.in-Some.caller ∷ c.next.new.self.rest.items = search rules in
    let added : c.push_reserved.new.self.items ≡ c.loop-caller.crew.items ++ c.new.result ∷ [] = search rules in
    let one_caller = ap length steps in
    let one_calling = ap length added in
    let callings = length-append c.loop-caller.crew.items (c.new.result ∷ []) in (
      All-tail (IsPlace hall.monitor) c.in-Some.caller c.next.new.self.rest.items (subst (All (IsPlace hall.monitor)) steps before.0),
      omega (arith, before.1),
      search rules,
      subst (All (IsCalling hall)) (sym added) (All-push (IsCalling hall) c.loop-caller.crew.items c.new.result before.3 c.new.ensures.own),
    )
