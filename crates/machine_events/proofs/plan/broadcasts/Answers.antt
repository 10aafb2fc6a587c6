use Rattle.std.proofs.Common.{List, [], ◌∷◌, ◌++◌, take, true, false, sym, ap, subst, ◌∙◌, arith}
use Rattle.machine_events.specs.declared.plan.Note.{Note}
use Rattle.machine_events.specs.Rising.{AreRising}
use Rattle.machine_events.proofs.Everyone.{next_made, broadcasts_rise}
use Rattle.machine_events.proofs.plan.broadcasts.Goals as goal

pub loop-condition-preserved : goal.loop-condition-preserved
loop-condition-preserved c =
    let number = c.loop-condition.number in
    let invariant = c.loop-condition.invariant in record {
      counted = omega (arith, invariant.counted);
      made = c.in_ok-push.ensures.items
          ∙ ap (λ (notes : List Note). notes ++ record { condition = number; all = true; tested = false } ∷ []) invariant.made
          ∙ sym (next_made c.args.conditions.now c.loop-condition._condition-index number c._condition-item.result c.loop-condition-test.true invariant.counted);
    }

pub of-requires : goal.of-requires
of-requires c = subst AreRising (sym c.loop-condition.invariant.made) (broadcasts_rise 1 (take c.loop-condition._condition-index c.args.conditions.now))
