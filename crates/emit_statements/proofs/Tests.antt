-- Calls of a method, by what stands for their parts.
use Rattle.std.proofs.Common.{◌≡◌, ℕ, ◌+◌, ◌==◌, Bool, true, false, ◌&&◌, ◌∙◌, codes, ap}
use Rattle.machine_events.specs.Configurations.{block_condition}
use Rattle.emit_expressions.specs.declared.scope.Reach.TheVariants as reaches
use Rattle.emit_statements.specs.Sources.{tests_alone}
use Rattle.emit_statements.specs.Ways.{tries}
use Rattle.emit_statements.specs.Conditions.{around_name}
use Rattle.emit_statements.specs.Statements.{MethodParts, own_call, test_text}
use Rattle.emit_statements.specs.inner.Parts.{block_ops}
use Rattle.emit_statements.proofs.Choices.{yes_text, no_text}
use Rattle.std.proofs.Common.{[]}

-- the test of a guard
module _ (it : MethodParts) (block condition : ℕ) (answer : Bool) (is : condition ≡ block_condition it.source.monitor block) (says : answer ≡ tests_alone it.source.monitor condition) where
  pub test_own : answer ≡ true → own_call it (codes "can") block reaches.Held ≡ test_text it block
  test_own holds = yes_text (tests_alone it.source.monitor (block_condition it.source.monitor block)) answer _ (around_name it.source [] (block_condition it.source.monitor block) (codes "()")) (says ∙ ap (tests_alone it.source.monitor) is) holds

  pub test_shared : answer ≡ false → around_name it.source [] (block_condition it.source.monitor block) (codes "()") ≡ test_text it block
  test_shared lacks = no_text (tests_alone it.source.monitor (block_condition it.source.monitor block)) answer (own_call it (codes "can") block reaches.Held) _ (says ∙ ap (tests_alone it.source.monitor) is) lacks

-- a block, by its number
pub block_says : (it : MethodParts) (index block : ℕ) (try : Bool) → try ≡ (tries it.way && (index == 0)) → block ≡ it.first + index
    → block_ops it try block ≡ block_ops it (tries it.way && (index == 0)) (it.first + index)
block_says it index block try says is = ap (λ (b : Bool). block_ops it b block) says ∙ ap (block_ops it (tries it.way && (index == 0))) is
