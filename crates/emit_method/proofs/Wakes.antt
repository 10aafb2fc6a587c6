-- What is said of a block: what it waits for.
use Rattle.std.proofs.Common.{◌≡◌, ℕ, ◌+◌, Bool, true, false, cond, List, [], ◌++◌, ◌∙◌, codes, ap, sym, append-nil}
use Rattle.lang_tree.specs.declared.tree.BlockTree.{BlockTree}
use Rattle.lang_printer.specs.Canonical.{expression_text}
use Rattle.machine_events.specs.Configurations.{block_condition}
use Rattle.emit_code.specs.Code.{is_waited_on}
use Rattle.emit_statements.specs.Statements.{MethodParts}
use Rattle.emit_method.specs.Docs.{going_text, waiting_text, waits_until}

module _ (it : MethodParts) (place : ℕ) (block : BlockTree) where
  abbrev waiting_by : Bool → List ℕ
  waiting_by waited = cond waited (waits_until place ++ expression_text block.guard ++ codes "`.\n") (going_text place)

  abbrev waited : ℕ → Bool
  waited number = is_waited_on it.source.monitor (block_condition it.source.monitor number)

  pub waits_not : (number condition : ℕ) (answer : Bool) (bytes : List ℕ) → number ≡ it.first + place → condition ≡ block_condition it.source.monitor number → answer ≡ is_waited_on it.source.monitor condition
      → answer ≡ false → bytes ≡ going_text place → bytes ≡ waiting_text it place block
  waits_not number condition answer bytes counts is says lacks same =
      same ∙ ap waiting_by (sym lacks ∙ says ∙ ap (is_waited_on it.source.monitor) is ∙ ap waited counts)

  pub waits_then : (number condition : ℕ) (answer : Bool) (before : List ℕ) → number ≡ it.first + place → condition ≡ block_condition it.source.monitor number → answer ≡ is_waited_on it.source.monitor condition
      → answer ≡ true → before ≡ waits_until place → (before ++ []) ++ expression_text block.guard ++ codes "`.\n" ≡ waiting_text it place block
  waits_then number condition answer before counts is says holds same =
      ap (λ text. text ++ expression_text block.guard ++ codes "`.\n") (append-nil before ∙ same)
      ∙ ap waiting_by (sym holds ∙ says ∙ ap (is_waited_on it.source.monitor) is ∙ ap waited counts)
