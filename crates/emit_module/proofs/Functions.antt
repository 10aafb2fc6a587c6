-- The functions of a block, by what stands for their parts.
use Rattle.std.proofs.Common.{◌≡◌, ℕ, ◌+◌, Bool, true, false, cond, List, [], ◌++◌, ◌∙◌, Option, codes, ap, sym}
use Rattle.lang_base.specs.declared.kind.Kind.{Kind}
use Rattle.lang_tree.specs.declared.tree.BlockTree.{BlockTree}
use Rattle.lang_tree.specs.declared.tree.MethodTree.{MethodTree}
use Rattle.lang_tree.specs.declared.tree.StmtTree.{StmtTree}
use Rattle.machine_events.specs.Configurations.{block_condition}
use Rattle.emit_bodies.specs.Bodies.{body_text}
use Rattle.emit_bodies.specs.Guards.{guard_text}
use Rattle.emit_statements.specs.Sources.{SourceParts, answer_of, is_whole, tests_alone}
use Rattle.emit_module.specs.Modules.{body_function, test_function, tests_guard}

module _ (source : SourceParts) (method : MethodTree) (place block : ℕ) (parts : BlockTree) where
  abbrev own : ℕ
  own = block_condition source.monitor block

  abbrev test_by : Bool → Bool → List ℕ
  test_by tests reads = cond tests (codes "\n" ++ guard_text source.tree method (place + 1) reads parts.guard) []

  pub no_test : (condition : ℕ) (answer : Bool) → condition ≡ own → answer ≡ tests_guard source.monitor condition block → answer ≡ false → [] ≡ test_function source method place block parts
  no_test condition answer is says lacks =
      ap (λ (b : Bool). test_by b (tests_alone source.monitor own)) (sym lacks ∙ says ∙ ap (λ (q : ℕ). tests_guard source.monitor q block) is)

  pub some_test : (condition : ℕ) (answer reads : Bool) → condition ≡ own → answer ≡ tests_guard source.monitor condition block → reads ≡ tests_alone source.monitor condition → answer ≡ true
      → codes "\n" ++ guard_text source.tree method (place + 1) reads parts.guard ≡ test_function source method place block parts
  some_test condition answer reads is says same holds =
      ap (test_by true) (same ∙ ap (tests_alone source.monitor) is)
      ∙ ap (λ (b : Bool). test_by b (tests_alone source.monitor own)) (sym holds ∙ says ∙ ap (λ (q : ℕ). tests_guard source.monitor q block) is)

  pub body_says : (answer : Option Kind) (body : List StmtTree) (whole : Bool) → answer ≡ answer_of source.monitor block → body ≡ parts.body → whole ≡ is_whole source block
      → codes "\n" ++ body_text source.tree method (place + 1) answer body whole ≡ body_function source method place block parts
  body_says answer body whole is same says =
      ap (λ (a : Option Kind). codes "\n" ++ body_text source.tree method (place + 1) a body whole) is
      ∙ ap (λ (some : List StmtTree). codes "\n" ++ body_text source.tree method (place + 1) (answer_of source.monitor block) some whole) same
      ∙ ap (λ (b : Bool). codes "\n" ++ body_text source.tree method (place + 1) (answer_of source.monitor block) parts.body b) says
