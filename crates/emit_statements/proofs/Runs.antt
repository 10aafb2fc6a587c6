-- The statements of a block, by what stands for their parts.
use Rattle.std.proofs.Common.{◌≡◌, ◌==◌, ◌||◌, ℕ, Bool, true, false, cond, List, [], ◌∷◌, ◌++◌, ◌∙◌, codes, ap, sym, append_assoc, append-nil}
use Rattle.machine_events.specs.declared.plan.Note.{Note}
use Rattle.machine_events.specs.Configurations.{block_condition}
use Rattle.emit_code.specs.Code.{is_guarded, is_waited_on, overflow_notes, signal_on}
use Rattle.emit_code.specs.Code.Op.{WaitUntil, ElseRefuse}
use Rattle.emit_statements.specs.Sources.{answer_of}
use Rattle.emit_statements.specs.Ways.{may_refuse}
use Rattle.emit_statements.specs.Conditions.{around_name, condition_name}
use Rattle.emit_statements.specs.Statements.{MethodParts, answer_name, call_text, fails_at, forget_text, hand_text, op_text, ops_text, overflow_text, plain_run, run_text}
use Rattle.emit_statements.specs.inner.Parts.{guarded_run, own_run, test_ops}

-- ---- the test of a guard

module _ (it : MethodParts) (block : ℕ) where
  abbrev waits : Bool
  waits = is_waited_on it.source.monitor (block_condition it.source.monitor block)

  abbrev test_by : Bool → Bool → List ℕ
  test_by guarded refuses = ops_text it (cond guarded (cond refuses (ElseRefuse block ∷ []) (WaitUntil block (block_condition it.source.monitor block) ∷ [])) [])

  -- where the guard is false the call is refused
  abbrev pub asks : Bool → Bool
  asks tries = tries || block_condition it.source.monitor block == 0

  pub test_none : (tries answer : Bool) → answer ≡ is_guarded it.source.monitor block → answer ≡ false → [] ≡ test_ops it tries block
  test_none tries answer is lacks = ap (λ (b : Bool). test_by b (asks tries)) (sym lacks ∙ is)

  pub test_refuses : (tries answer refuses : Bool) → answer ≡ is_guarded it.source.monitor block → answer ≡ true → refuses ≡ asks tries → refuses ≡ true → op_text it (ElseRefuse block) ≡ test_ops it tries block
  test_refuses tries answer refuses is holds says refused =
      sym (append-nil (op_text it (ElseRefuse block))) ∙ ap (λ (b : Bool). test_by true b) (sym refused ∙ says) ∙ ap (λ (b : Bool). test_by b (asks tries)) (sym holds ∙ is)

  pub test_waits : (tries answer refuses : Bool) → answer ≡ is_guarded it.source.monitor block → answer ≡ true → refuses ≡ asks tries → refuses ≡ false → op_text it (WaitUntil block (block_condition it.source.monitor block)) ≡ test_ops it tries block
  test_waits tries answer refuses is holds says lacks =
      sym (append-nil (op_text it (WaitUntil block (block_condition it.source.monitor block)))) ∙ ap (λ (b : Bool). test_by true b) (sym lacks ∙ says) ∙ ap (λ (b : Bool). test_by b (asks tries)) (sym holds ∙ is)

  -- ---- the body

  abbrev run_by : Bool → Bool → List ℕ
  run_by waiting fails = run_text it block (cond waiting (signal_on (block_condition it.source.monitor block) ∷ []) []) fails

  pub run_sure : (fails : Bool) → fails ≡ fails_at it block → fails ≡ false → plain_run it block (codes ";\n") ≡ own_run it block
  run_sure fails is lacks = ap (λ (b : Bool). run_by waits b) (sym lacks ∙ is)

  pub run_alone : (fails answer : Bool) → fails ≡ fails_at it block → fails ≡ true → answer ≡ waits → answer ≡ false → plain_run it block (codes "?;\n") ≡ own_run it block
  run_alone fails answer is holds same lacks = ap (λ (b : Bool). run_by false b) (sym holds ∙ is) ∙ ap (λ (b : Bool). run_by b (fails_at it block)) (sym lacks ∙ same)

  noted : (front name last : List ℕ) → front ++ (codes " else {\n            self." ++ name ++ (codes ".notify_one();\n" ++ last))
      ≡ front ++ codes " else {\n" ++ ((codes "    " ++ (codes "        self." ++ name ++ codes ".notify_one();\n")) ++ []) ++ last
  noted front name last =
      let said = (codes "    " ++ (codes "        self." ++ name ++ codes ".notify_one();\n")) ++ [] in
      sym (append_assoc (front ++ codes " else {\n") said last ∙ append_assoc front (codes " else {\n") (said ++ last)
      ∙ ap (λ text. front ++ (codes " else {\n            self." ++ text))
      (ap (λ text. text ++ last) (append-nil (name ++ codes ".notify_one();\n")) ∙ append_assoc name (codes ".notify_one();\n") last))

  pub run_guarded : (fails answer : Bool) → fails ≡ fails_at it block → fails ≡ true → answer ≡ waits → answer ≡ true → guarded_run it block ≡ own_run it block
  run_guarded fails answer is holds same waiting =
      noted (codes "        let Ok(" ++ answer_name (answer_of it.source.monitor block) ++ codes ") = " ++ call_text it block) (condition_name it.source (block_condition it.source.monitor block)) (overflow_text (may_refuse it.way))
      ∙ ap (λ (b : Bool). run_by true b) (sym holds ∙ is) ∙ ap (λ (b : Bool). run_by b (fails_at it block)) (sym waiting ∙ same)

  -- ---- what is dropped where the block changes nothing

  abbrev notes_by : Bool → List Note
  notes_by waiting = cond waiting (signal_on (block_condition it.source.monitor block) ∷ []) []

  pub hand_none : (answer : Bool) → answer ≡ waits → answer ≡ false → [] ≡ hand_text it.source (overflow_notes it.source.monitor block)
  hand_none answer is lacks = ap (λ (b : Bool). hand_text it.source (notes_by b)) (sym lacks ∙ is)

  pub hand_some : (answer : Bool) → answer ≡ waits → answer ≡ true
      → around_name it.source (codes "        let hand = HandOn(&self.") (block_condition it.source.monitor block) (codes ");\n") ≡ hand_text it.source (overflow_notes it.source.monitor block)
  hand_some answer is holds = ap (λ (b : Bool). hand_text it.source (notes_by b)) (sym holds ∙ is)

  pub forget_none : (answer : Bool) → answer ≡ waits → answer ≡ false → [] ≡ forget_text (overflow_notes it.source.monitor block)
  forget_none answer is lacks = ap (λ (b : Bool). forget_text (notes_by b)) (sym lacks ∙ is)

  pub forget_some : (answer : Bool) → answer ≡ waits → answer ≡ true → codes "        std::mem::forget(hand);\n" ≡ forget_text (overflow_notes it.source.monitor block)
  forget_some answer is holds = ap (λ (b : Bool). forget_text (notes_by b)) (sym holds ∙ is)
