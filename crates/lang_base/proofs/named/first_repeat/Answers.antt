use Rattle.std.proofs.Common.{map, sym, ◌∙◌, refl, arith}
use borrow.Author.Count.{below_more}
use Rattle.std.proofs.lemmas.Bool.{false≢true}
use Rattle.lang_base.specs.Names.{IsRepeated}
use Rattle.lang_base.proofs.Names.{distinct_from, not_distinct}
use Rattle.lang_base.proofs.named.first_repeat.Goals as goal

pub returns-then-is_repeated-clause-repeated : goal.returns-then-is_repeated-clause-repeated
returns-then-is_repeated-clause-repeated g c = record { repeated = c.is_repeated.ensures.0 c.if-is_repeated.true; first = c.loop-place.invariant }

pub returns-then-is_repeated-clause-distinct : goal.returns-then-is_repeated-clause-distinct
returns-then-is_repeated-clause-distinct g c = (
  λ none. absurd (false≢true (sym none)),
  λ pairs. absurd (not_distinct g.T.Named.name_of c.args.items.now c.loop-place.place (c.is_repeated.ensures.0 c.if-is_repeated.true) pairs),
)

pub loop-place-preserved : goal.loop-place-preserved
loop-place-preserved g c =
    below_more (λ k. IsRepeated (map g.T.Named.name_of c.args.items.now) k → ⊥) c.loop-place.place c.loop-place.invariant
    (λ repeated. false≢true (sym c.if-is_repeated.false ∙ c.is_repeated.ensures.1 repeated))

pub returns-clause-distinct : goal.returns-clause-distinct
returns-clause-distinct g c = (
  λ none. distinct_from g.T.Named.name_of c.args.items.now (λ k within. c.loop-place.invariant k (omega (arith, within, c.loop-place-test.false))),
  λ pairs. refl,
)
