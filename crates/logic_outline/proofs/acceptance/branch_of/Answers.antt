use Rattle.std.proofs.Common.{◌∙◌}
use Rattle.logic_outline.proofs.BranchLemmas.{put_in}
use Rattle.logic_outline.proofs.acceptance.branch_of.Goals as goal

pub returns : goal.returns
returns c cert =
    put_in c.args.at.now c.in_ok-todo.todo.items c.push.new.self.items c.in_ok-from_slice.field-0.items c.args.first cert
    (c.in_ok-todo.ensures.items ∙ c.deref.ensures.value) c.in_ok-push.ensures.items (c.in_ok-from_slice.ensures.items ∙ c.deref-2.ensures.value)
