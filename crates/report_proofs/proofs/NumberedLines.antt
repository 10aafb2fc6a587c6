-- The lines of a plan and of a report, counted and numbered.
use Rattle.std.proofs.Common.{◌≡◌, ◌==◌, ℕ, suc, ◌+◌, ◌-◌, Bool, true, false, List, [], ◌∷◌, ◌++◌, cond, length, map, codes, option_map, Option, Some, None, append-nil, refl, sym, ap, subst, ◌∙◌, arith}
use Rattle.std.specs.Prelude.{All, IsSomeAnd, slice_get}
use Rattle.std.specs.List.{enumerate_from, flat_map, list_all, zip, AllByRecursion as Each}
use Rattle.std.proofs.lemmas.Bool.{and_parts, false≢true}
use Rattle.std.proofs.lemmas.List.{length-append}
use Rattle.std.proofs.lemmas.List.Concat.{flat_map-append}
use Rattle.std.proofs.lemmas.List.Elements.{All-append, All-cons, All-map, All-nil, recursion_from_All}
use Rattle.std.proofs.lemmas.List.Folds.{flat_map-map}
use Rattle.std.proofs.lemmas.List.Sums.{sum_by-append, sum_by-cons}
use Rattle.std.proofs.lemmas.Option.{slice_get-map}
use Rattle.logic_cert.specs.declared.cert.Cert.{Cert}
use Rattle.lang_printer.specs.Canonical.{all_texts}
use Rattle.lang_monitor.specs.declared.candidate.Candidate.{Candidate}
use Rattle.lang_monitor.specs.declared.claim.Claim.{Claim}
use Rattle.lang_monitor.specs.declared.monitor.Condition.{Condition}
use Rattle.lang_monitor.specs.Conditions.{IsDescribed}
use Rattle.lang_monitor.specs.MonitorParts.{MonitorParts, IsMonitor}
use Rattle.machine_events.specs.declared.plan.CondKind.{CondKind}
use Rattle.machine_events.specs.declared.plan.Note.{Note}
use Rattle.machine_events.specs.declared.plan.Plan.{Plan}
use Rattle.machine_events.specs.PlanText.{block_text, condition_text, conditions_text, blocks_text, kept_text, plan_text}
use Rattle.lang_base.specs.Lines.{is_in_line}
use Rattle.lang_base.proofs.Lines.{HasNoLineFeed, IsLine as IsPlainLine}
use Rattle.lang_base.proofs.Lines.{both_in_line, words_in_line}
use Rattle.lang_base.proofs.Words.{name_words}
use Rattle.report_text.proofs.PlanLines.{block_is_line, condition_is_line}
use Rattle.report_verdict.specs.declared.report.Report.{Report}
use Rattle.report_proofs.specs.Lines.{IsLine, IsLineOf, lines_in}
use Rattle.report_proofs.specs.ReportTexts.{proof_text, report_text}
use Rattle.report_verdict.specs.Reports.{IsPlanOf, IsReport, proofs_of}
use Rattle.report_verdict.specs.Verdicts.{IsOpen, IsUnproved, plan_lines}
use Rattle.report_proofs.proofs.ProofLines.{kept_is_line, proof_is_line}

-- ---- how often the line feed stands in a text

abbrev feeds : ℕ → ℕ
feeds byte = cond (byte == 10) 1 0

lines_append : (front rest : List ℕ) → lines_in (front ++ rest) ≡ lines_in front + lines_in rest
lines_append front rest = sum_by-append feeds front rest

is_not : (test : Bool) → cond test false true ≡ true → test ≡ false
is_not true is = absurd (false≢true is)
is_not false is = refl

no_lines : (text : List ℕ) → HasNoLineFeed text → lines_in text ≡ 0
no_lines [] plain = refl
no_lines (byte ∷ text) plain =
    let parts = and_parts (is_in_line byte) (list_all is_in_line text) plain in
    let here : feeds byte ≡ 0 = ap {B = ℕ} (λ test. cond test 1 0) (is_not (byte == 10) parts.0) in
    omega (arith, sum_by-cons feeds byte text, here, no_lines text parts.1)

one_line : (text : List ℕ) → IsPlainLine text → IsLine text
one_line text line =
    let last : lines_in (codes "\n") ≡ 1 = refl in
    record {
      body = line.body;
      ends = line.is;
      only = ap lines_in line.is ∙ omega (arith, lines_append line.body (codes "\n"), no_lines line.body line.plain, last);
    }

-- ---- texts of lines

-- the text is so many lines, one after the other
record AreLines (text : List ℕ) (number : ℕ) : Type 0 where
  lines : List (List ℕ)
  each : All IsLine lines
  whole : text ≡ all_texts lines
  many : length lines ≡ number

nothing : AreLines [] 0
nothing = record { lines = []; each = All-nil IsLine; whole = refl; many = refl }

line_then : (line rest : List ℕ) (number : ℕ) → IsPlainLine line → AreLines rest number
    → AreLines (line ++ rest) (suc number)
line_then line rest number is are = record {
  lines = line ∷ are.lines;
  each = All-cons IsLine line are.lines (one_line line is) are.each;
  whole = ap (λ text. line ++ text) are.whole;
  many = ap suc are.many;
}

lines_then : (front rest : List ℕ) (number more : ℕ) → AreLines front number → AreLines rest more
    → AreLines (front ++ rest) (number + more)
lines_then front rest number more before after = record {
  lines = before.lines ++ after.lines;
  each = All-append IsLine before.lines after.lines before.each after.each;
  whole = ap (λ text. text ++ rest) before.whole ∙ ap (λ text. all_texts before.lines ++ text) after.whole ∙ sym (flat_map-append (λ text. text) before.lines after.lines);
  many = omega (arith, length-append before.lines after.lines, before.many, after.many);
}

all_counted : (lines : List (List ℕ)) → Each IsLine lines → lines_in (all_texts lines) ≡ length lines
all_counted [] each = refl
all_counted (line ∷ lines) each = omega (arith, lines_append line (all_texts lines), each.0.only, all_counted lines each.1)

counted : (text : List ℕ) (number : ℕ) → AreLines text number → lines_in text ≡ number
counted text number are = ap lines_in are.whole ∙ all_counted are.lines (recursion_from_All IsLine are.lines are.each) ∙ are.many

-- ---- the lines of a plan

kept_lines : (monitor : MonitorParts) (kept : List Candidate) → IsMonitor monitor
    → AreLines (flat_map (kept_text monitor.fields) kept) (length kept)
kept_lines monitor [] rule = nothing
kept_lines monitor (one ∷ kept) rule =
    line_then (kept_text monitor.fields one) (flat_map (kept_text monitor.fields) kept) (length kept) (kept_is_line monitor one rule) (kept_lines monitor kept rule)

conditions_lines : (number : ℕ) (conditions : List Condition) (kinds : List CondKind)
    → Each IsDescribed conditions → length kinds ≡ length conditions
    → AreLines
    (flat_map (λ one. condition_text one.0 one.1.0 one.1.1)
    (enumerate_from number (zip conditions kinds)))
    (length conditions)
conditions_lines number [] kinds described many = nothing
conditions_lines number (condition ∷ conditions) [] described many = absurd (omega (arith, many))
conditions_lines number (condition ∷ conditions) (kind ∷ kinds) described many =
    line_then (condition_text number condition kind) (flat_map (λ one. condition_text one.0 one.1.0 one.1.1) (enumerate_from (number + 1) (zip conditions kinds))) (length conditions)
    (condition_is_line number condition kind described.0) (conditions_lines (number + 1) conditions kinds described.1 (omega (arith, many)))

blocks_lines : (monitor : MonitorParts) (number : ℕ) (lists : List (List Note)) → IsMonitor monitor
    → AreLines (flat_map (λ one. block_text monitor one.0 one.1) (enumerate_from number lists))
    (length lists)
blocks_lines monitor number [] rule = nothing
blocks_lines monitor number (notes ∷ lists) rule =
    line_then (block_text monitor number notes) (flat_map (λ one. block_text monitor one.0 one.1) (enumerate_from (number + 1) lists)) (length lists)
    (block_is_line monitor number notes rule) (blocks_lines monitor (number + 1) lists rule)

head_line : (monitor : MonitorParts) → IsMonitor monitor
    → AreLines (codes "plan " ++ monitor.name ++ codes "\n") 1
head_line monitor rule =
    let text : List ℕ = codes "plan " ++ monitor.name ++ codes "\n" in
    let line : IsPlainLine text = record {
      body = codes "plan " ++ monitor.name;
      plain = both_in_line (codes "plan ") monitor.name refl (words_in_line monitor.name (name_words monitor.name rule.name));
      is = refl;
    } in
    record { lines = text ∷ []; each = All-cons IsLine text [] (one_line text line) (All-nil IsLine); whole = sym (append-nil text); many = refl }

plan_is_lines : (monitor : MonitorParts) (plan : Plan) → IsMonitor monitor → IsPlanOf monitor plan
    → AreLines (plan_text monitor plan) (plan_lines monitor plan)
plan_is_lines monitor plan rule is =
    let head : List ℕ = codes "plan " ++ monitor.name ++ codes "\n" in
    let kept : List ℕ = flat_map (kept_text monitor.fields) plan.kept in
    let conditions : List ℕ = conditions_text monitor.conditions plan.kinds in
    let blocks : List ℕ = blocks_text monitor plan.notes in
    let described = recursion_from_All IsDescribed monitor.conditions rule.described in
    let named = lines_then head kept 1 (length plan.kept) (head_line monitor rule) (kept_lines monitor plan.kept rule) in
    let kinds = lines_then (head ++ kept) conditions (1 + length plan.kept) (length monitor.conditions) named (conditions_lines 1 monitor.conditions plan.kinds described is.kinds) in
    let notes : AreLines blocks (length monitor.blocks) = subst (AreLines blocks) is.notes (blocks_lines monitor 0 plan.notes rule) in
    lines_then (head ++ kept ++ conditions) blocks (1 + length plan.kept + length monitor.conditions) (length monitor.blocks) kinds notes

pub plan_counted : (monitor : MonitorParts) (plan : Plan) → IsMonitor monitor → IsPlanOf monitor plan
    → lines_in (plan_text monitor plan) ≡ plan_lines monitor plan
plan_counted monitor plan rule is = counted (plan_text monitor plan) (plan_lines monitor plan) (plan_is_lines monitor plan rule is)

-- ---- the lines of a report

get_later : {X : Type 0} (xs ys : List X) (k : ℕ) → slice_get (xs ++ ys) (length xs + k) ≡ slice_get ys k
get_later [] ys k = let same : 0 + k ≡ k = omega arith in ap (slice_get ys) same
get_later (x ∷ xs) ys k =
    let same : length (x ∷ xs) + k ≡ suc (length xs + k) = omega arith in
    ap (slice_get (x ∷ (xs ++ ys))) same ∙ get_later xs ys k

pub claim_numbered : (monitor : MonitorParts) (report : Report) (place : ℕ) (one : Claim × Cert)
    → IsMonitor monitor → IsReport monitor report
    → slice_get (proofs_of monitor report) place ≡ Some one
    → IsLineOf (report_text monitor report) (plan_lines monitor report.plan + (place + 1))
    (proof_text monitor one.0 one.1)
claim_numbered monitor report place one rule is there =
    let text : Claim × Cert → List ℕ = λ one. proof_text monitor one.0 one.1 in
    let proofs : List (Claim × Cert) = proofs_of monitor report in
    let plan = plan_is_lines monitor report.plan rule is.plan in
    let at : length plan.lines + place ≡ plan_lines monitor report.plan + (place + 1) - 1 = omega (arith, plan.many) in
    record {
      lines = plan.lines ++ map text proofs;
      each = All-append IsLine plan.lines (map text proofs) plan.each (All-map IsLine text proofs (λ i other within. one_line _ (proof_is_line monitor _ _ rule)));
      whole =
          ap (λ front. front ++ flat_map text proofs) plan.whole ∙ ap (λ rest. all_texts plan.lines ++ rest) (sym (flat_map-map (λ line. line) text proofs))
          ∙ sym (flat_map-append (λ line. line) plan.lines (map text proofs));
      numbered = omega arith;
      here =
          subst (λ (k : ℕ). slice_get (plan.lines ++ map text proofs) k ≡ Some (text one)) at
          (get_later plan.lines (map text proofs) place ∙ slice_get-map text proofs place ∙ ap (option_map text) there);
    }

pub open_numbered : (monitor : MonitorParts) (report : Report) (line : ℕ) → IsMonitor monitor
    → IsReport monitor report → IsUnproved monitor report line
    → (one : Claim × Cert)
    × IsLineOf (report_text monitor report) line (proof_text monitor one.0 one.1)
    × IsOpen monitor report.plan.kept one
open_numbered monitor report line rule is unproved = by_held (slice_get (proofs_of monitor report) unproved.place) refl unproved.here
  where
    by_held : (held : Option (Claim × Cert))
        → slice_get (proofs_of monitor report) unproved.place ≡ held
        → IsSomeAnd held (IsOpen monitor report.plan.kept)
        → (one : Claim × Cert)
        × IsLineOf (report_text monitor report) line (proof_text monitor one.0 one.1)
        × IsOpen monitor report.plan.kept one
    by_held None there here = absurd here
    by_held (Some one) there here = (
      one,
      subst (λ (number : ℕ). IsLineOf (report_text monitor report) number (proof_text monitor one.0 one.1)) (sym unproved.line_is)
          (claim_numbered monitor report unproved.place one rule is there),
      here,
    )
