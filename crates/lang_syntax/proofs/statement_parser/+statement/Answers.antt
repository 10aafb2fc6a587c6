use Rattle.std.proofs.Common.{◌≡◌, refl, rules, Ok}
use Rattle.lang_syntax.specs.inner.Reading.{begins_statement, statement_at}
use Rattle.lang_syntax.proofs.ListItems.{statement_items}
use Rattle.lang_syntax.proofs.statement_parser.+statement.Goals as goal

pub statements-many-requires : goal.statements-many-requires
statements-many-requires t c κs = (
  (refl, tt),
  (
    search rules,
    (
      search rules,
      λ ws x rest call.
          let read : (statement_at c.args.levels) ws ≡ Ok (x, rest) = search rules in
          (statement_items c.args.levels).shorter ws x rest read,
    ),
  ),
)

pub statements-returns : goal.statements-returns
statements-returns t c = c.many.ensures begins_statement (statement_at c.args.levels) (λ ws b call. search rules) (λ ws r rest call. search rules) (statement_items c.args.levels)
