use Rattle.std.proofs.Common.{◌≡◌, refl, rules, Ok}
use Rattle.lang_tokens.specs.declared.token.TokenKind.TheVariants as kinds
use Rattle.lang_cursor.specs.Reading.{begins}
use Rattle.lang_syntax.specs.inner.Reading.{later_argument_at, later_arguments_at}
use Rattle.lang_syntax.proofs.ListItems.{later_argument_items}
use Rattle.lang_syntax.proofs.item_parser.later_arguments.Goals as goal

pub many-requires : goal.many-requires
many-requires c κs = (
  (refl, tt),
  (
    search rules,
    (
      search rules,
      λ ws x rest call.
          let read : later_argument_at ws ≡ Ok (x, rest) = search rules in
          later_argument_items.shorter ws x rest read,
    ),
  ),
)

pub returns : goal.returns
unfolding later_arguments_at
returns c = c.many.ensures (begins kinds.Comma) later_argument_at (λ ws b call. search rules) (λ ws r rest call. search rules) later_argument_items
