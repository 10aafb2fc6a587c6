-- A plan's text names the plan, whatever stands after it that is no candidate's line. Bytes: 98 is
-- `b`, 99 is `c`, 107 is `k`.
use Rattle.std.proofs.Common.{◌≡◌, ℕ, ◌+◌, true, List, [], ◌∷◌, ◌++◌, length, codes, ap, sym, refl, ◌∙◌, append_assoc, arith}
use Rattle.std.specs.List.{flat_map, zip, enumerate_from, AllByRecursion as Each}
use Rattle.std.proofs.lemmas.List.{append_cancel_left}
use Rattle.std.proofs.lemmas.List.Elements.{recursion_from_All}
use Rattle.lang_monitor.specs.declared.candidate.Candidate.{Candidate}
use Rattle.lang_monitor.specs.declared.monitor.Condition.{Condition}
use Rattle.lang_monitor.specs.Conditions.{IsDescribed}
use Rattle.lang_monitor.specs.MonitorParts.{MonitorParts, IsMonitor}
use Rattle.machine_events.specs.declared.plan.CondKind.{CondKind}
use Rattle.machine_events.specs.declared.plan.Note.{Note}
use Rattle.machine_events.specs.declared.plan.Plan.{Plan}
use Rattle.machine_events.specs.Plans.{FitsNote, FitsNotes, FitsPlan}
use Rattle.machine_events.specs.PlanText.{kept_text, condition_text, conditions_text, block_text, blocks_text, plan_text}
use Rattle.machine_events.proofs.CandidatePlaces.{is_low, kept_low}
use Rattle.lang_base.proofs.Cuts.{same_first}
use Rattle.lang_base.proofs.Lines.{same_line}
use Rattle.report_text.proofs.CandidateBounds.{start_at, IsNearStart, kept_near}
use Rattle.report_text.proofs.PlanLines.{IsKnown, kept_is_line, kept_line_names, condition_is_line, condition_line_names, block_is_line, block_line_names}

-- ---- the candidates' lines, as far as they go

-- it begins with no candidate's line
abbrev pub IsAfterKept : List ℕ → Type 0
IsAfterKept text = (more : List ℕ) → text ≡ codes "keep " ++ more → ⊥

pub nothing_after : IsAfterKept []
nothing_after more same = absurd (omega (arith, ap {B = ℕ} length same))

pub other_after : (byte : ℕ) (text : List ℕ) → (byte ≡ 107 → ⊥) → IsAfterKept (byte ∷ text)
other_after byte text differs more same = differs (same_first byte 107 text (codes "eep " ++ more) same)

same_kept : (monitor : MonitorParts) → IsMonitor monitor → (kept others : List Candidate)
    (rest more : List ℕ) → Each (IsKnown monitor) kept → Each (IsKnown monitor) others
    → IsAfterKept rest → IsAfterKept more
    → flat_map (kept_text monitor.fields) kept ++ rest
    ≡ flat_map (kept_text monitor.fields) others ++ more → (kept ≡ others) × (rest ≡ more)
same_kept monitor rule [] [] rest more known also after ends same = (refl, same)
same_kept monitor rule [] (other ∷ others) rest more known also after ends same = absurd (after _ same)
same_kept monitor rule (one ∷ kept) [] rest more known also after ends same = absurd (ends _ (sym same))
same_kept monitor rule (one ∷ kept) (other ∷ others) rest more known also after ends same =
    let text : Candidate → List ℕ = kept_text monitor.fields in
    let lines =
    same_line (text one) (text other) (flat_map text kept ++ rest) (flat_map text others ++ more) (kept_is_line monitor one rule known.0) (kept_is_line monitor other rule also.0)
    (sym (append_assoc (text one) (flat_map text kept) rest) ∙ same ∙ append_assoc (text other) (flat_map text others) more) in
    let found = same_kept monitor rule kept others rest more known.1 also.1 after ends lines.1 in
    (λ i. kept_line_names monitor one other rule known.0 also.0 lines.0 i ∷ found.0 i, found.1)

-- ---- the conditions' lines, of which the monitor says how many there are

same_kinds : (number : ℕ) (conditions : List Condition) (kinds others : List CondKind)
    (rest more : List ℕ) → Each IsDescribed conditions → length kinds ≡ length conditions
    → length others ≡ length conditions
    → flat_map (λ one. condition_text one.0 one.1.0 one.1.1)
    (enumerate_from number (zip conditions kinds)) ++ rest
    ≡ flat_map (λ one. condition_text one.0 one.1.0 one.1.1)
    (enumerate_from number (zip conditions others)) ++ more
    → (kinds ≡ others) × (rest ≡ more)
same_kinds number [] [] [] rest more described here there same = (refl, same)
same_kinds number [] (kind ∷ kinds) others rest more described here there same = absurd (omega (arith, here))
same_kinds number [] [] (other ∷ others) rest more described here there same = absurd (omega (arith, there))
same_kinds number (condition ∷ conditions) [] others rest more described here there same = absurd (omega (arith, here))
same_kinds number (condition ∷ conditions) (kind ∷ kinds) [] rest more described here there same = absurd (omega (arith, there))
same_kinds number (condition ∷ conditions) (kind ∷ kinds) (other ∷ others) rest more described here there same =
    let text : List ℕ = condition_text number condition kind in
    let also : List ℕ = condition_text number condition other in
    let texts : List ℕ = flat_map (λ one. condition_text one.0 one.1.0 one.1.1) (enumerate_from (number + 1) (zip conditions kinds)) in
    let alsos : List ℕ = flat_map (λ one. condition_text one.0 one.1.0 one.1.1) (enumerate_from (number + 1) (zip conditions others)) in
    let lines =
    same_line text also (texts ++ rest) (alsos ++ more) (condition_is_line number condition kind described.0) (condition_is_line number condition other described.0)
    (sym (append_assoc text texts rest) ∙ same ∙ append_assoc also alsos more) in
    let found = same_kinds (number + 1) conditions kinds others rest more described.1 (omega (arith, here)) (omega (arith, there)) lines.1 in
    (λ i. condition_line_names number condition kind other lines.0 i ∷ found.0 i, found.1)

-- ---- the blocks' lines, of which the monitor says how many there are

same_lists : (monitor : MonitorParts) → IsMonitor monitor → (number : ℕ)
    (lists others : List (List Note)) (rest more : List ℕ)
    → Each (Each (FitsNote monitor)) lists → Each (Each (FitsNote monitor)) others
    → length lists ≡ length others
    → flat_map (λ one. block_text monitor one.0 one.1) (enumerate_from number lists) ++ rest
    ≡ flat_map (λ one. block_text monitor one.0 one.1) (enumerate_from number others) ++ more
    → (lists ≡ others) × (rest ≡ more)
same_lists monitor rule number [] [] rest more fit also many same = (refl, same)
same_lists monitor rule number [] (other ∷ others) rest more fit also many same = absurd (omega (arith, many))
same_lists monitor rule number (notes ∷ lists) [] rest more fit also many same = absurd (omega (arith, many))
same_lists monitor rule number (notes ∷ lists) (other ∷ others) rest more fit also many same =
    let text : List ℕ = block_text monitor number notes in
    let second : List ℕ = block_text monitor number other in
    let texts : List ℕ = flat_map (λ one. block_text monitor one.0 one.1) (enumerate_from (number + 1) lists) in
    let seconds : List ℕ = flat_map (λ one. block_text monitor one.0 one.1) (enumerate_from (number + 1) others) in
    let lines =
    same_line text second (texts ++ rest) (seconds ++ more) (block_is_line monitor number notes rule) (block_is_line monitor number other rule)
    (sym (append_assoc text texts rest) ∙ same ∙ append_assoc second seconds more) in
    let found = same_lists monitor rule (number + 1) lists others rest more fit.1 also.1 (omega (arith, many)) lines.1 in
    (λ i. block_line_names monitor number notes other rule fit.0 also.0 lines.0 i ∷ found.0 i, found.1)

-- ---- the whole

-- no line of a condition or a block is a candidate's
after_blocks : (monitor : MonitorParts) (number : ℕ) (lists : List (List Note)) (rest : List ℕ)
    → IsAfterKept rest
    → IsAfterKept
    (flat_map (λ one. block_text monitor one.0 one.1) (enumerate_from number lists) ++ rest)
after_blocks monitor number [] rest after = after
after_blocks monitor number (notes ∷ lists) rest after = other_after 98 _ (λ is. omega (arith, is))

after_conditions : (number : ℕ) (conditions : List Condition) (kinds : List CondKind)
    (rest : List ℕ) → IsAfterKept rest
    → IsAfterKept
    (flat_map (λ one. condition_text one.0 one.1.0 one.1.1) (enumerate_from number (zip conditions kinds)) ++ rest)
after_conditions number [] kinds rest after = after
after_conditions number (condition ∷ conditions) [] rest after = after
after_conditions number (condition ∷ conditions) (kind ∷ kinds) rest after = other_after 99 _ (λ is. omega (arith, is))

known_kept : (monitor : MonitorParts) (kept : List Candidate)
    → Each (λ candidate. is_low (length monitor.fields) candidate ≡ true) kept
    → Each (IsNearStart (start_at monitor.fields)) kept → Each (IsKnown monitor) kept
known_kept monitor [] low near = tt
known_kept monitor (candidate ∷ kept) low near = (record { low = low.0; near = near.0 }, known_kept monitor kept low.1 near.1)

plan_known : (monitor : MonitorParts) (plan : Plan) → IsMonitor monitor → FitsPlan monitor plan
    → Each (IsKnown monitor) plan.kept
plan_known monitor plan rule fits =
    known_kept monitor plan.kept
    (recursion_from_All (λ candidate. is_low (length monitor.fields) candidate ≡ true) plan.kept (kept_low monitor plan.kept fits.kept))
    (kept_near monitor plan.kept rule fits.kept)

fit_lists : (monitor : MonitorParts) (lists : List (List Note)) → Each (FitsNotes monitor) lists
    → Each (Each (FitsNote monitor)) lists
fit_lists monitor [] fit = tt
fit_lists monitor (notes ∷ lists) fit = (recursion_from_All (FitsNote monitor) notes fit.0.each, fit_lists monitor lists fit.1)

plan_fit : (monitor : MonitorParts) (plan : Plan) → FitsPlan monitor plan
    → Each (Each (FitsNote monitor)) plan.notes
plan_fit monitor plan fits = fit_lists monitor plan.notes (recursion_from_All (FitsNotes monitor) plan.notes fits.each)

-- the parts of a plan's text, and what stands after it
plan_parts : (monitor : MonitorParts) (plan : Plan) (rest : List ℕ)
    → plan_text monitor plan ++ rest
    ≡ (codes "plan " ++ monitor.name ++ codes "\n") ++
    (flat_map (kept_text monitor.fields) plan.kept ++ (conditions_text monitor.conditions plan.kinds ++ (blocks_text monitor plan.notes ++ rest)))
plan_parts monitor plan rest =
    let head : List ℕ = codes "plan " ++ monitor.name ++ codes "\n" in
    let kept : List ℕ = flat_map (kept_text monitor.fields) plan.kept in
    let conditions : List ℕ = conditions_text monitor.conditions plan.kinds in
    let blocks : List ℕ = blocks_text monitor plan.notes in
    append_assoc (head ++ kept ++ conditions) blocks rest ∙ append_assoc (head ++ kept) conditions (blocks ++ rest) ∙ append_assoc head kept (conditions ++ (blocks ++ rest))

-- the text of a plan names it, and where it ends
pub plan_named : (monitor : MonitorParts) (plan other : Plan) (rest more : List ℕ)
    → IsMonitor monitor → FitsPlan monitor plan → FitsPlan monitor other → IsAfterKept rest
    → IsAfterKept more
    → plan_text monitor plan ++ rest ≡ plan_text monitor other ++ more
    → (plan ≡ other) × (rest ≡ more)
plan_named monitor plan other rest more rule fits also after ends same =
    let described = recursion_from_All IsDescribed monitor.conditions rule.described in
    let tails : List ℕ = blocks_text monitor plan.notes ++ rest in
    let mores : List ℕ = blocks_text monitor other.notes ++ more in
    let first =
    same_kept monitor rule plan.kept other.kept (conditions_text monitor.conditions plan.kinds ++ tails) (conditions_text monitor.conditions other.kinds ++ mores)
    (plan_known monitor plan rule fits) (plan_known monitor other rule also)
    (after_conditions 1 monitor.conditions plan.kinds tails (after_blocks monitor 0 plan.notes rest after))
    (after_conditions 1 monitor.conditions other.kinds mores (after_blocks monitor 0 other.notes more ends))
    (append_cancel_left (codes "plan " ++ monitor.name ++ codes "\n") _ _ (sym (plan_parts monitor plan rest) ∙ same ∙ plan_parts monitor other more)) in
    let second = same_kinds 1 monitor.conditions plan.kinds other.kinds tails mores described fits.kinds also.kinds first.1 in
    let third = same_lists monitor rule 0 plan.notes other.notes rest more (plan_fit monitor plan fits) (plan_fit monitor other also) (fits.notes ∙ sym also.notes) second.1 in
    (λ i. record { kept = first.0 i; kinds = second.0 i; notes = third.0 i }, third.1)

-- plans that fit one monitor and have one text are one plan
pub plan_text_names : (monitor : MonitorParts) (plan other : Plan) → IsMonitor monitor
    → FitsPlan monitor plan → FitsPlan monitor other
    → plan_text monitor plan ≡ plan_text monitor other → plan ≡ other
plan_text_names monitor plan other rule fits also same =
    (plan_named monitor plan other [] [] rule fits also nothing_after nothing_after (ap (λ text. text ++ []) same)).0
