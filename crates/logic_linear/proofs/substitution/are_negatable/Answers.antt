use Rattle.std.proofs.Common.{pos, arith, rules, get_or}
use Rattle.std.proofs.lemmas.Int.{ints}
use mir.Syntax.{w128}
use mir.Val.{SFits}
use Rattle.logic_linear.specs.declared.form.Term.{Term}
use Rattle.logic_linear.proofs.ReplacedLemmas.{negatable_stops}
use Rattle.logic_linear.proofs.substitution.are_negatable.Goals as goal

abbrev no_term : Term
no_term = record { place = 0; times = pos 0 }

pub returns-then-term : goal.returns-then-term
returns-then-term c =
    let f : SFits w128 (get_or c.args.terms.now c.loop-term.term-index no_term).times = search rules in
    let h = c.if-term.true in
    negatable_stops c.args.terms.now c.loop-term.term-index no_term c.loop-term-test.true (omega (arith, ints))
