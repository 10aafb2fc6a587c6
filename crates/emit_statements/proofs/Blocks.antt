-- The statements of the blocks of a method, one block after the other.
use Rattle.std.proofs.Common.{◌≡◌, ℕ, zero, suc, ◌+◌, ◌-◌, ◌<◌, ◌==◌, Bool, true, false, cond, ◌&&◌, ◌||◌, List, [], ◌∷◌, ◌++◌, ◌∙◌, codes, ap, sym, refl, append_assoc, append-nil, arith}
use Rattle.std.specs.List.{flat_map, list_any}
use Rattle.std.proofs.lemmas.Bool.{true≢false}
use Rattle.std.proofs.lemmas.List.Concat.{flat_map-append}
use Rattle.std.proofs.Math.Dec.{eqb-suc-zero}
use Rattle.machine_events.specs.declared.plan.Note.{Note}
use Rattle.machine_events.specs.declared.plan.Plan.{Plan}
use Rattle.machine_events.specs.Plans.{notes_at}
use Rattle.machine_events.specs.Configurations.{block_condition}
use Rattle.emit_code.specs.Code.{Op, blocks_code, is_guarded, late_order, overflow_notes, test_code}
use Rattle.emit_code.specs.Code.Op.{Lock, WaitUntil, ElseRefuse, Run}
use Rattle.emit_code.specs.LivePlans.{heard_notes, live_plan}
use Rattle.emit_code.proofs.Live.{notes_live}
use Rattle.emit_statements.specs.Sources.{SourceParts}
use Rattle.emit_statements.specs.Ways.{tries}
use Rattle.emit_statements.specs.Statements.{MethodParts, blocks_ops, note_text, op_text, ops_text, release_text}
use Rattle.emit_statements.specs.inner.Parts.{block_ops, heard_texts, run_op, test_ops, told_ops}
use Rattle.emit_statements.proofs.Heard.{hears, none_heard}

-- ---- what comes after a body

module _ (source : SourceParts) where
  pub releases_none : (notes : List Note) (any : Bool) → any ≡ list_any (hears source) notes → any ≡ false → codes "        drop(inner);\n" ≡ release_text source (heard_notes source.monitor notes)
  releases_none notes any is lacks = ap (release_text source) (none_heard source notes (sym is ∙ lacks))

  -- the notes that someone may hear
  all_noted : (notes : List Note) → heard_texts source notes ≡ flat_map (note_text source) (heard_notes source.monitor notes)
  all_noted [] = refl
  all_noted (note ∷ notes) = by (hears source note) (all_noted notes)
    where
      by : (one : Bool) → heard_texts source notes ≡ flat_map (note_text source) (heard_notes source.monitor notes)
          → cond one (note_text source note) [] ++ heard_texts source notes ≡ flat_map (note_text source) (cond one (note ∷ heard_notes source.monitor notes) (heard_notes source.monitor notes))
      by true more = ap (λ text. note_text source note ++ text) more
      by false more = more

  some_released : (notes : List Note) → list_any (hears source) notes ≡ true
      → codes "        let copy = inner.copy();\n        drop(inner);\n" ++ flat_map (note_text source) (heard_notes source.monitor notes) ≡ release_text source (heard_notes source.monitor notes)
  some_released [] some = absurd (true≢false (sym some))
  some_released (note ∷ notes) some = by (hears source note) some (some_released notes)
    where
      by : (one : Bool) → (one || list_any (hears source) notes) ≡ true
          → (list_any (hears source) notes ≡ true
          → codes "        let copy = inner.copy();\n        drop(inner);\n" ++ flat_map (note_text source) (heard_notes source.monitor notes) ≡ release_text source (heard_notes source.monitor notes))
          → codes "        let copy = inner.copy();\n        drop(inner);\n" ++ flat_map (note_text source) (cond one (note ∷ heard_notes source.monitor notes) (heard_notes source.monitor notes))
          ≡ release_text source (cond one (note ∷ heard_notes source.monitor notes) (heard_notes source.monitor notes))
      by true holds more = refl
      by false holds more = more holds

  pub releases_some : (notes : List Note) (any : Bool) → any ≡ list_any (hears source) notes → any ≡ true
      → codes "        let copy = inner.copy();\n        drop(inner);\n" ++ heard_texts source notes ≡ release_text source (heard_notes source.monitor notes)
  releases_some notes any is holds = ap (λ text. codes "        let copy = inner.copy();\n        drop(inner);\n" ++ text) (all_noted notes) ∙ some_released notes (sym is ∙ holds)

-- the notes that someone may hear, in the order of the code
pub told_says : (it : MethodParts) (plan : Plan) (block : ℕ) (notes : List Note) → it.source.plan ≡ live_plan it.source.monitor plan → notes ≡ notes_at plan block
    → release_text it.source (heard_notes it.source.monitor notes) ≡ told_ops it block
told_says it plan block notes lives is =
    let heard : heard_notes it.source.monitor notes ≡ notes_at it.source.plan block =
    ap (heard_notes it.source.monitor) is ∙ sym (notes_live it.source.monitor plan block) ∙ ap (λ (p : Plan). notes_at p block) (sym lives) in
    ap (release_text it.source) heard ∙ sym (append-nil (release_text it.source (notes_at it.source.plan block)))

-- ---- one block, and the others

module _ (it : MethodParts) where
  abbrev told : ℕ → List Op
  told = late_order it.source.plan

  abbrev texts : Bool → ℕ → ℕ → List ℕ
  texts tries block count = ops_text it (blocks_code it.source.monitor told tries block count)

  -- a test, and what comes after it
  tested : (tries : Bool) (block : ℕ) (rest : List Op) → ops_text it (test_code it.source.monitor tries block rest) ≡ test_ops it tries block ++ ops_text it rest
  tested tries block rest = by (is_guarded it.source.monitor block) (tries || condition == 0)
    where
      condition : ℕ
      condition = block_condition it.source.monitor block

      by : (guarded refuses : Bool) → ops_text it (cond guarded (cond refuses (ElseRefuse block ∷ rest) (WaitUntil block condition ∷ rest)) rest)
          ≡ ops_text it (cond guarded (cond refuses (ElseRefuse block ∷ []) (WaitUntil block condition ∷ [])) []) ++ ops_text it rest
      by true true = ap (λ text. text ++ ops_text it rest) (sym (append-nil (op_text it (ElseRefuse block))))
      by true false = ap (λ text. text ++ ops_text it rest) (sym (append-nil (op_text it (WaitUntil block condition))))
      by false refuses = refl

  -- the first of some blocks
  first_block : (tries : Bool) (block more : ℕ) → texts tries block (suc more) ≡ block_ops it tries block ++ texts false (block + 1) more
  first_block tries block more =
      let lock = op_text it Lock in
      let test = test_ops it tries block in
      let run = run_op it block in
      let after = told_ops it block in
      let rest = texts false (block + 1) more in
      ap (λ text. lock ++ text) (tested tries block (Run block (overflow_notes it.source.monitor block) ∷ (told block ++ blocks_code it.source.monitor told false (block + 1) more)))
      ∙ ap (λ text. lock ++ (test ++ (run ++ text))) (flat_map-append (op_text it) (told block) (blocks_code it.source.monitor told false (block + 1) more))
      ∙ sym (append_assoc (lock ++ test ++ run) after rest ∙ append_assoc (lock ++ test) run (after ++ rest) ∙ append_assoc lock test (run ++ (after ++ rest)))

  tries_first : (tries : Bool) → (tries && (zero == 0)) ≡ tries
  tries_first true = refl
  tries_first false = refl

  no_try : (tries : Bool) (index : ℕ) → (tries && (suc index == 0)) ≡ false
  no_try true index = eqb-suc-zero index
  no_try false index = refl

  -- the last of some blocks
  last_block : (tries : Bool) (block index : ℕ) → texts tries block index ++ block_ops it (tries && (index == 0)) (block + index) ≡ texts tries block (suc index)
  last_block tries block zero =
      let here : block + zero ≡ block = omega arith in
      ap (λ (try : Bool). block_ops it try (block + zero)) (tries_first tries) ∙ ap (block_ops it tries) here ∙ sym (append-nil (block_ops it tries block)) ∙ sym (first_block tries block zero)
  last_block tries block (suc index) =
      let here : block + suc index ≡ (block + 1) + index = omega arith in
      ap (λ (try : Bool). texts tries block (suc index) ++ block_ops it try (block + suc index)) (no_try tries index)
      ∙ ap (λ (n : ℕ). texts tries block (suc index) ++ block_ops it false n) here
      ∙ ap (λ text. text ++ block_ops it false ((block + 1) + index)) (first_block tries block index)
      ∙ append_assoc (block_ops it tries block) (texts false (block + 1) index) (block_ops it false ((block + 1) + index))
      ∙ ap (λ text. block_ops it tries block ++ text) (last_block false (block + 1) index)
      ∙ sym (first_block tries block (suc index))

  -- one block more
  pub blocks_more : (index : ℕ) → blocks_ops it index ++ block_ops it (tries it.way && (index == 0)) (it.first + index) ≡ blocks_ops it (index + 1)
  blocks_more index =
      let more : suc index ≡ index + 1 = omega arith in
      last_block (tries it.way) it.first index ∙ ap (blocks_ops it) more

  grown : (index extra : ℕ) → (rest : List ℕ) × (blocks_ops it index ++ rest ≡ blocks_ops it (index + extra))
  grown index zero =
      let same : index ≡ index + zero = omega arith in
      ([], append-nil (blocks_ops it index) ∙ ap (blocks_ops it) same)
  grown index (suc extra) =
      let before = grown index extra in
      let next = block_ops it (tries it.way && ((index + extra) == 0)) (it.first + (index + extra)) in
      let same : (index + extra) + 1 ≡ index + suc extra = omega arith in
      (before.0 ++ next, sym (append_assoc (blocks_ops it index) before.0 next) ∙ ap (λ text. text ++ next) before.1 ∙ blocks_more (index + extra) ∙ ap (blocks_ops it) same)

  -- a block among so many, and those after it
  pub blocks_cut : (index count : ℕ) → index < count
      → (rest : List ℕ) × (blocks_ops it index ++ block_ops it (tries it.way && (index == 0)) (it.first + index) ++ rest ≡ blocks_ops it count)
  blocks_cut index count less =
      let after = grown (index + 1) (count - (index + 1)) in
      let same : (index + 1) + (count - (index + 1)) ≡ count = omega (arith, less) in
      (after.0, ap (λ text. text ++ after.0) (blocks_more index) ∙ after.1 ∙ ap (blocks_ops it) same)
