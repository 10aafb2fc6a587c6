use Rattle.std.proofs.Common.{FitsSigned, get_or, pos, rules}
use Rattle.std.specs.Int.{w128}
use Rattle.std.proofs.lemmas.Int.{to_z-of_z}
use Rattle.plan_candidates.proofs.PoolNumbers.{all_noted, noted}
use Rattle.plan_candidates.proofs.pool.pool.Goals as goal

pub loop-number-preserved : goal.loop-number-preserved
loop-number-preserved c =
    let fits : FitsSigned w128 (get_or c.deref-number-items.result.now c.loop-number.number-index (pos 0)) = search rules in
    noted c.deref-number-items.result.now c.loop-number.pool.items c.note.new.pool.items c.loop-number.number-index _ c.loop-number-test.true
    (to_z-of_z w128 (get_or c.deref-number-items.result.now c.loop-number.number-index (pos 0)) fits) c.loop-number.invariant c.in_ok-note.ensures

pub returns : goal.returns
returns c =
    all_noted c.args.blocks.now c.args.number _ c.deref-number-items.result.now c.in_ok-numbers.numbers.items c.loop-number.pool.items c.loop-number.number-index c.loop-number-test.false
    c.deref-number-items.ensures.value c.in_ok-numbers.ensures c.loop-number.invariant
