use Rattle.std.proofs.Common.{length, ap, arith}
use Rattle.machine_events.proofs.fitting.plan_fits.Goals as goal

pub returns : goal.returns
returns c =
    let told = rw c.items-3.ensures at c.lists_fit.ensures in (
      λ held. record {
        kept = c.requires;
        kinds = omega (arith, c.if-items-conditions.false, ap length c.items.ensures, ap length c.conditions.ensures.conditions);
        notes = omega (arith, c.if-items-blocks.false, ap length c.items-2.ensures, ap length c.blocks-2.ensures.blocks);
        each = told.0 held;
      },
      λ fits. told.1 fits.each,
    )
