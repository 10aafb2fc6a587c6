use Rattle.std.proofs.Common.{arith}
use Rattle.lang_forms.proofs.FormSums.{add_ends, add_fits, add_step}
use Rattle.lang_forms.proofs.form.add_each.Goals as goal

pub overflow_add-times : goal.overflow_add-times
overflow_add-times c =
    add_fits c.requires.room.0 c.args.times.now c.loop-index.times c.args.others.now c.args.minus c.loop-index.index c.signed.result c.requires.length c.requires.room.1 c.requires.room.2 c.requires.limited c.loop-index.invariant (omega arith) c.signed.ensures

pub loop-index-preserved : goal.loop-index-preserved
loop-index-preserved c =
    add_step c.requires.room.0 c.args.times.now c.loop-index.times c.args.others.now c.args.minus c.loop-index.index c.signed.result c.requires.length c.requires.room.1 c.requires.room.2 c.requires.limited c.loop-index.invariant (omega arith) c.signed.ensures

pub returns : goal.returns
returns c = add_ends c.args.times.now c.loop-index.times c.args.others.now c.args.minus c.loop-index.index c.requires.length c.loop-index.invariant (omega arith)
