use Rattle.std.proofs.Common.{rules, get_or, pos}
use Rattle.std.proofs.lemmas.Int.{to_z-of_z}
use mir.Syntax.{w128}
use mir.Val.{SFits}
use Rattle.logic_linear.specs.declared.form.Term.{Term}
use Rattle.logic_linear.proofs.RisingLemmas.{found_at}
use Rattle.logic_linear.proofs.substitution.times_at.Goals as goal

abbrev no_term : Term
no_term = record { place = 0; times = pos 0 }

pub returns-then-term-place : goal.returns-then-term-place
returns-then-term-place c =
    let f : SFits w128 (get_or c.terms-term-items.result.now c.loop-term.term-index no_term).times = search rules in
    simp to_z-of_z (found_at c.args.place c.args.form.now c.terms-term-items.result.now c.loop-term.term-index no_term c.terms-term-items.ensures.rule c.terms-term-items.ensures.terms c.loop-term-test.true c.if-term-place.true c.loop-term.invariant)
