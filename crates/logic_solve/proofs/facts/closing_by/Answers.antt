use Rattle.std.proofs.Common.{length, refl}
use Rattle.logic_solve.proofs.FactLemmas.{closes_literals, open_literals}
use Rattle.logic_solve.proofs.facts.closing_by.Goals as goal

pub returns-in_default : goal.returns-in_default
returns-in_default c =
    open_literals c.args.literals.now c.args.facts.now.literals.items c.as_slice.result.now c.args.facts.now.numbers.items c.as_slice.ensures.value c.requires.facts (rw c.in_default.is at c.in_ok-cert.ensures)

pub returns-in-Some-2 : goal.returns-in-Some-2
returns-in-Some-2 c =
    closes_literals c.args.literals.now c.args.facts.now.literals.items c.as_slice.result.now c.args.facts.now.numbers.items c.as_slice-2.result.now (length c.args.literals.now) c.in-Some.cert c.in-Some-2.made
    c.as_slice.ensures.value c.as_slice-2.ensures.value refl c.requires.facts (rw c.in-Some-2.is at c.in_ok-made.ensures) (rw c.in-Some.is at c.in_ok-cert.ensures)
