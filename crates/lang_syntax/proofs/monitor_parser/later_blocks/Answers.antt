use Rattle.std.proofs.Common.{◌≡◌, refl, rules, Ok}
use Rattle.lang_tokens.specs.declared.token.TokenKind.TheVariants as kinds
use Rattle.lang_cursor.specs.Reading.{begins}
use Rattle.lang_syntax.specs.inner.Reading.{guarded_at, later_blocks_at}
use Rattle.lang_syntax.proofs.ListItems.{guarded_items}
use Rattle.lang_syntax.proofs.monitor_parser.later_blocks.Goals as goal

pub many-requires : goal.many-requires
many-requires c κs = (
  (refl, tt),
  (
    search rules,
    (
      search rules,
      λ ws x rest call.
          let read : guarded_at ws ≡ Ok (x, rest) = search rules in
          guarded_items.shorter ws x rest read,
    ),
  ),
)

pub returns : goal.returns
unfolding later_blocks_at
returns c = c.many.ensures (begins kinds.KeyWaituntil) guarded_at (λ ws b call. search rules) (λ ws r rest call. search rules) guarded_items
