use Rattle.std.proofs.Common.{◌≡◌, refl, rules, Ok}
use Rattle.lang_syntax.specs.inner.Reading.{begins_item, item_at}
use Rattle.lang_syntax.proofs.ListItems.{item_items}
use Rattle.lang_syntax.proofs.item_parser.+item.Goals as goal

pub items-many-requires : goal.items-many-requires
items-many-requires t c κs = (
  (refl, tt),
  (
    search rules,
    (
      search rules,
      λ ws x rest call.
          let read : (item_at c.args.levels) ws ≡ Ok (x, rest) = search rules in
          (item_items c.args.levels).shorter ws x rest read,
    ),
  ),
)

pub items-returns : goal.items-returns
items-returns t c = c.many.ensures begins_item (item_at c.args.levels) (λ ws b call. search rules) (λ ws r rest call. search rules) (item_items c.args.levels)
