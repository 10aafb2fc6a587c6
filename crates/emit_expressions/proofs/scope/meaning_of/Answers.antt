use Rattle.emit_expressions.proofs.Meanings.{meaning_says}
use Rattle.emit_expressions.proofs.scope.meaning_of.Goals as goal

pub returns : goal.returns
returns c =
    meaning_says c.args.tree.now c.args.method.now _ _ _ c.args.name.now _ _ _ _ _ c.items.ensures c.items-2.ensures c.items-3.ensures c.bytes-bytes.ensures
    c.meaning_by.ensures c.any_is_constant-constant.ensures c.any_declares-declared.ensures c.any_declares-local.ensures
