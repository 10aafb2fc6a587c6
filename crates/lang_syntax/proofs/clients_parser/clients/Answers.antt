use Rattle.std.proofs.Common.{◌≡◌, refl, rules, Ok}
use Rattle.lang_tokens.specs.declared.token.TokenKind.TheVariants as kinds
use Rattle.lang_cursor.specs.Reading.{begins}
use Rattle.lang_syntax.specs.inner.Reading.{client_at, clients_at}
use Rattle.lang_syntax.proofs.ListItems.{client_items}
use Rattle.lang_syntax.proofs.clients_parser.clients.Goals as goal

pub many-requires : goal.many-requires
many-requires c κs = (
  (refl, tt),
  (
    search rules,
    (
      search rules,
      λ ws x rest call.
          let read : client_at ws ≡ Ok (x, rest) = search rules in
          client_items.shorter ws x rest read,
    ),
  ),
)

pub returns : goal.returns
unfolding clients_at
returns c = c.many.ensures (begins kinds.KeyClient) client_at (λ ws b call. search rules) (λ ws r rest call. search rules) client_items
