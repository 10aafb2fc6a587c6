use Rattle.emit_names.proofs.TryTexts.{ended_says}
use Rattle.emit_names.proofs.trying.is_ended_free.Goals as goal

pub returns : goal.returns
returns c =
    ended_says c.args.tree.now c.args.ending _ c.args.name.now c.items.result.now _ _ _ c.ended_spelling-ended.ensures c.items.ensures c.is_member-member.ensures c.any_try_is-tries.ensures
    c.is_neither.ensures
