use Rattle.std.proofs.Common.{◌≡◌, refl, rules, Ok}
use Rattle.lang_tokens.specs.declared.token.TokenKind.TheVariants as kinds
use Rattle.lang_cursor.specs.Reading.{begins}
use Rattle.lang_syntax.specs.inner.Reading.{later_input_at, later_inputs_at}
use Rattle.lang_syntax.proofs.ListItems.{later_input_items}
use Rattle.lang_syntax.proofs.monitor_parser.later_inputs.Goals as goal

pub many-requires : goal.many-requires
many-requires c κs = (
  (refl, tt),
  (
    search rules,
    (
      search rules,
      λ ws x rest call.
          let read : later_input_at ws ≡ Ok (x, rest) = search rules in
          later_input_items.shorter ws x rest read,
    ),
  ),
)

pub returns : goal.returns
unfolding later_inputs_at
returns c = c.many.ensures (begins kinds.Comma) later_input_at (λ ws b call. search rules) (λ ws r rest call. search rules) later_input_items
