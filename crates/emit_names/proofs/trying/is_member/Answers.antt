use Rattle.emit_names.specs.inner.Spellings.{spelling_text}
use Rattle.emit_names.proofs.TryTexts.{member_is}
use Rattle.emit_names.proofs.trying.is_member.Goals as goal

pub returns : goal.returns
returns c =
    member_is c.args.tree.now (spelling_text c.args.it) c.items.result.now c.items-2.result.now _ _ _ c.items.ensures c.items-2.ensures
    c.any_declared_is-declared.ensures c.any_method_is-method.ensures c.either.ensures
