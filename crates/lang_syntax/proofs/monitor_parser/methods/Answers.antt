use Rattle.std.proofs.Common.{◌≡◌, refl, rules, Ok}
use Rattle.lang_tokens.specs.declared.token.TokenKind.TheVariants as kinds
use Rattle.lang_cursor.specs.Reading.{begins}
use Rattle.lang_syntax.specs.inner.Reading.{method_at, methods_at}
use Rattle.lang_syntax.proofs.ListItems.{method_items}
use Rattle.lang_syntax.proofs.monitor_parser.methods.Goals as goal

pub many-requires : goal.many-requires
many-requires c κs = (
  (refl, tt),
  (
    search rules,
    (
      search rules,
      λ ws x rest call.
          let read : method_at ws ≡ Ok (x, rest) = search rules in
          method_items.shorter ws x rest read,
    ),
  ),
)

pub returns : goal.returns
unfolding methods_at
returns c = c.many.ensures (begins kinds.KeyMethod) method_at (λ ws b call. search rules) (λ ws r rest call. search rules) method_items
