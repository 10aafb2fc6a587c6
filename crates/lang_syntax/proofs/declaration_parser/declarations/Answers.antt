use Rattle.std.proofs.Common.{◌≡◌, refl, rules, Ok}
use Rattle.lang_syntax.specs.inner.Reading.{begins_declaration, declaration_at, declarations_at}
use Rattle.lang_syntax.proofs.ListItems.{declaration_items}
use Rattle.lang_syntax.proofs.declaration_parser.declarations.Goals as goal

pub many-requires : goal.many-requires
many-requires c κs = (
  (refl, tt),
  (
    search rules,
    (
      search rules,
      λ ws x rest call.
          let read : declaration_at ws ≡ Ok (x, rest) = search rules in
          declaration_items.shorter ws x rest read,
    ),
  ),
)

pub returns : goal.returns
unfolding declarations_at
returns c = c.many.ensures begins_declaration declaration_at (λ ws b call. search rules) (λ ws r rest call. search rules) declaration_items
