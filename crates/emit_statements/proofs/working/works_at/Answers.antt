use Rattle.std.proofs.Common.{◌∙◌, ◌+◌, ◌-◌, ◌==◌, ◌&&◌, length, ap, ℕ, List}
use Rattle.lang_tree.specs.declared.tree.BlockTree.{BlockTree}
use Rattle.emit_statements.proofs.working.works_at.Goals as goal

pub returns : goal.returns
returns c =
    c.is_last_with.ensures
    ∙ ap (λ (n : ℕ). c.args.it.now.works && n == length c.items.result.now) c.saturating_sub-number.ensures
    ∙ ap (λ (xs : List BlockTree). c.args.it.now.works && (c.args.block + 1 - c.args.it.now.first) == length xs) c.items.ensures
