-- The functions of guards, by what stands for their parts.
use Rattle.std.proofs.Common.{◌≡◌, ℕ, Bool, ◌++◌, codes, false, ap}
use Rattle.lang_tree.specs.declared.tree.Expr.{Expr}
use Rattle.lang_tree.specs.declared.tree.MethodTree.{MethodTree}
use Rattle.lang_tree.specs.declared.tree.MonitorTree.{MonitorTree}
use Rattle.emit_expressions.specs.declared.scope.Reach.{Reach}
use Rattle.emit_expressions.specs.Expressions.{plain_text}
use Rattle.emit_bodies.specs.Guards.{guard_head, guard_reach, guard_text}

pub guard_says : (tree : MonitorTree) (method : MethodTree) (number : ℕ) (reads : Bool) (guard : Expr) (reach : Reach) → reach ≡ guard_reach reads
    → guard_head tree method number reach ++ plain_text (record { tree = tree; method = method; receiver = codes "self"; reach = reach; whole = false }) guard ++ codes "\n    }\n" ≡ guard_text tree method number reads guard
guard_says tree method number reads guard reach is =
    ap (λ (r : Reach). guard_head tree method number r ++ plain_text (record { tree = tree; method = method; receiver = codes "self"; reach = r; whole = false }) guard ++ codes "\n    }\n") is
