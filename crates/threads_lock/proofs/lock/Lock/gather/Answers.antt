use Rattle.std.proofs.Common.{◌≡◌, ◌++◌, [], ◌∷◌, rules, ap, sym, ◌∙◌}
use Rattle.std.proofs.lemmas.List.{append_assoc}
use Rattle.threads_lock.proofs.Gathering.{gathered_more}
use Rattle.threads_lock.proofs.lock.Lock.gather.Goals as goal

pub loop-pass-preserved : goal.loop-pass-preserved
loop-pass-preserved c =
    let steps : c.loop-pass.pass-iterator.rest.items ≡ c.in-Some.pass ∷ c.next.new.self.rest.items = search rules in (
      search rules,
      gathered_more _ _ _ c.into_seat.result.me _ _ c.loop-pass.invariant.1 c.into_seat.ensures.one_part c.into_seat.ensures.known c.take_in.ensures.taken,
      append_assoc c.loop-pass.yielded (c.in-Some.pass ∷ []) c.next.new.self.rest.items ∙ (ap (λ l. c.loop-pass.yielded ++ l) (sym steps) ∙ c.loop-pass.invariant.2),
    )
