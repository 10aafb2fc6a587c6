use Rattle.std.proofs.Common.{◌≡◌, refl, rules, Ok}
use Rattle.lang_tokens.specs.declared.token.TokenKind.TheVariants as kinds
use Rattle.lang_cursor.specs.Reading.{begins, begins_listed, minus_of}
use Rattle.lang_syntax.specs.inner.Reading.{unary_at, factor_at, factors_at, addend_at, addends_at, sign_of, inner_at, part_at, parts_at}
use Rattle.lang_syntax.proofs.ListItems.{factor_items, addend_items, part_items}
use Rattle.lang_syntax.proofs.expression_parser.+expression.Goals as goal

pub factors-many-requires : goal.factors-many-requires
factors-many-requires t c κs = (
  (refl, tt),
  (
    search rules,
    (
      search rules,
      λ ws x rest call.
          let read : (factor_at (unary_at c.args.levels)) ws ≡ Ok (x, rest) = search rules in
          (factor_items c.args.levels).shorter ws x rest read,
    ),
  ),
)

pub factors-returns : goal.factors-returns
unfolding factors_at
factors-returns t c = c.many.ensures (begins kinds.Star) (factor_at (unary_at c.args.levels)) (λ ws b call. search rules) (λ ws r rest call. search rules) (factor_items c.args.levels)

pub addends-many-requires : goal.addends-many-requires
addends-many-requires t c κs = (
  (refl, tt),
  (
    search rules,
    (
      search rules,
      λ ws x rest call.
          let read : (addend_at (unary_at c.args.levels)) ws ≡ Ok (x, rest) = search rules in
          (addend_items c.args.levels).shorter ws x rest read,
    ),
  ),
)

pub addends-returns : goal.addends-returns
unfolding addends_at
addends-returns t c = c.many.ensures (begins_listed minus_of) (addend_at (unary_at c.args.levels)) (λ ws b call. search rules) (λ ws r rest call. search rules) (addend_items c.args.levels)

pub parts-many-requires : goal.parts-many-requires
parts-many-requires t c κs = (
  (refl, tt),
  (
    search rules,
    (
      search rules,
      λ ws x rest call.
          let read : (part_at c.args.join (inner_at c.args.join c.args.levels)) ws ≡ Ok (x, rest) = search rules in
          (part_items c.args.join c.args.levels).shorter ws x rest read,
    ),
  ),
)

pub parts-returns : goal.parts-returns
unfolding parts_at
parts-returns t c = c.many.ensures (begins (sign_of c.args.join)) (part_at c.args.join (inner_at c.args.join c.args.levels)) (λ ws b call. search rules) (λ ws r rest call. search rules) (part_items c.args.join c.args.levels)
