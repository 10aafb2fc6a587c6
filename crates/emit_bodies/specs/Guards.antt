-- The guards of blocks, as functions of the state.
use Rattle.std.specs.Prelude.{ℕ, Bool, true, false, List, ◌++◌, codes}
use Rattle.lang_tree.specs.declared.tree.Expr.{Expr}
use Rattle.lang_tree.specs.declared.tree.MethodTree.{MethodTree}
use Rattle.lang_tree.specs.declared.tree.MonitorTree.{MonitorTree}
use Rattle.emit_expressions.specs.declared.scope.Reach.{Reach}
use Rattle.emit_expressions.specs.declared.scope.Reach.TheVariants as reaches
use Rattle.emit_expressions.specs.Scopes.{ScopeParts}
use Rattle.emit_expressions.specs.Expressions.{plain_text}
use Rattle.emit_bodies.specs.Blocks.{block_name, inputs_text}

-- a guard reaches inputs by value, or not at all
abbrev pub guard_reach : Bool → Reach
guard_reach true = reaches.Held
guard_reach false = reaches.Unread

-- where a guard stands, by whether the guard of its condition reads inputs
abbrev pub guard_scope : MonitorTree → MethodTree → Bool → ScopeParts
guard_scope tree method reads = record {
  tree = tree;
  method = method;
  receiver = codes "self";
  reach = guard_reach reads;
  whole = false;
}

-- up to the test
abbrev pub guard_head : MonitorTree → MethodTree → ℕ → Reach → List ℕ
guard_head tree method number reach =
    codes "    fn " ++ block_name tree method (codes "can") number ++ codes "(&self"
    ++ inputs_text method reach ++ codes ") -> bool {\n        "

abbrev pub guard_text : MonitorTree → MethodTree → ℕ → Bool → Expr → List ℕ
guard_text tree method number reads guard =
    guard_head tree method number (guard_reach reads)
    ++ plain_text (guard_scope tree method reads) guard ++ codes "\n    }\n"
