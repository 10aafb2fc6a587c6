use Rattle.logic_solve.specs.inner.Flags.{IsUnopposed}
use Rattle.logic_solve.proofs.LiteralLemmas.{clash_found, each_next}
use Rattle.logic_solve.proofs.flags.clash.Goals as goal

pub returns-in-Some : goal.returns-in-Some
returns-in-Some c = clash_found c.args.literals.now c.loop-i.i c.in-Some.other c.index-literals-i.result c.loop-i-test.true c.index-literals-i.is (rw c.in-Some.is at c.in_ok-other.ensures)

pub loop-i-preserved : goal.loop-i-preserved
loop-i-preserved c =
    let looked = (rw c.in_default.is at c.in_ok-other.ensures) c.loop-i.invariant.clear in
    record {
      looked = each_next (IsUnopposed c.args.literals.now) c.args.literals.now c.loop-i.i c.index-literals-i.result c.loop-i-test.true c.index-literals-i.is c.loop-i.invariant.looked looked.1;
      clear = looked.0;
    }
