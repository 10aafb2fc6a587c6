use Rattle.std.proofs.Common.{◌≡◌, refl, rules, Ok}
use Rattle.lang_tokens.specs.declared.token.TokenKind.TheVariants as kinds
use Rattle.lang_cursor.specs.Reading.{begins}
use Rattle.lang_syntax.specs.inner.Reading.{local_at, locals_at}
use Rattle.lang_syntax.proofs.ListItems.{local_items}
use Rattle.lang_syntax.proofs.monitor_parser.locals.Goals as goal

pub many-requires : goal.many-requires
many-requires c κs = (
  (refl, tt),
  (
    search rules,
    (
      search rules,
      λ ws x rest call.
          let read : local_at ws ≡ Ok (x, rest) = search rules in
          local_items.shorter ws x rest read,
    ),
  ),
)

pub returns : goal.returns
unfolding locals_at
returns c = c.many.ensures (begins kinds.KeyLocal) local_at (λ ws b call. search rules) (λ ws r rest call. search rules) local_items
