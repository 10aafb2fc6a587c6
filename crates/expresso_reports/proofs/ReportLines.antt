-- The text of a report is lines, none of which begins with `proof fits `.
use Rattle.std.proofs.Common.{◌≡◌, ◌==◌, ℕ, ◌+◌, Bool, true, false, cond, List, [], ◌∷◌, ◌++◌, codes, decimal, get_or, refl, sym, ap, ◌∙◌, append-nil, append_assoc, arith}
use Rattle.std.specs.List.{enumerate_from, flat_map, zip, AllByRecursion as Each}
use Rattle.std.proofs.lemmas.List.Concat.{flat_map-append}
use Rattle.std.proofs.lemmas.List.Elements.{recursion_from_All}
use Rattle.logic_cert.specs.declared.cert.Cert.{Cert}
use Rattle.logic_cert.specs.CertText.{cert_text}
use Rattle.lang_base.proofs.Lines.{HasNoLineFeed, both_in_line, decimal_in_line, words_in_line}
use Rattle.lang_base.proofs.Words.{name_words}
use Rattle.lang_printer.specs.Canonical.{all_texts}
use Rattle.lang_monitor.specs.declared.candidate.Candidate.{Candidate}
use Rattle.lang_monitor.specs.declared.claim.Claim.{Claim}
use Rattle.lang_monitor.specs.declared.claim.Claim.TheVariants as claims
use Rattle.lang_monitor.specs.declared.monitor.Condition.{Condition}
use Rattle.lang_monitor.specs.Conditions.{IsDescribed}
use Rattle.lang_monitor.specs.MonitorParts.{IsMonitor, MonitorParts}
use Rattle.machine_events.specs.declared.plan.CondKind.{CondKind}
use Rattle.machine_events.specs.declared.plan.Note.{Note}
use Rattle.machine_events.specs.declared.plan.Plan.{Plan}
use Rattle.machine_events.specs.PlanText.{block_name, block_text, blocks_text, condition_text, conditions_text, kept_text, plan_text}
use Rattle.plan_count.specs.declared.question.Question.{Question}
use Rattle.plan_count.specs.declared.question.Question.TheVariants as questions
use Rattle.report_text.proofs.PlanLines.{block_is_line, condition_is_line}
use Rattle.report_proofs.specs.ReportTexts.{proof_text, proofs_text}
use Rattle.report_proofs.proofs.ProofLines.{block_in_line, cert_in_line, kept_is_line, proof_is_line}
use Rattle.report_tally.specs.declared.report.CountedReport.{CountedReport}
use Rattle.report_questions.specs.QuestionText.{asked_text, question_text, row_mark}
use Rattle.report_tally.specs.CountedReports.{answer_text, answers_text, counted_report_text, owed_claims, owed_questions}
use Rattle.report_fits.proofs.PartedTexts.{IsOtherLine}

-- ---- texts of such lines

pub record AreOtherLines (text : List ℕ) : Type 0 where
  pub lines : List (List ℕ)
  pub each : Each IsOtherLine lines
  pub whole : text ≡ all_texts lines

nothing : AreOtherLines []
nothing = record { lines = []; each = tt; whole = refl }

line_then : (line rest : List ℕ) → IsOtherLine line → AreOtherLines rest → AreOtherLines (line ++ rest)
line_then line rest is are = record { lines = line ∷ are.lines; each = (is, are.each); whole = ap (λ (text : List ℕ). line ++ text) are.whole }

each_then : (lines others : List (List ℕ)) → Each IsOtherLine lines → Each IsOtherLine others → Each IsOtherLine (lines ++ others)
each_then [] others each also = also
each_then (line ∷ lines) others each also = (each.0, each_then lines others each.1 also)

lines_then : (front rest : List ℕ) → AreOtherLines front → AreOtherLines rest → AreOtherLines (front ++ rest)
lines_then front rest before after = record {
  lines = before.lines ++ after.lines;
  each = each_then before.lines after.lines before.each after.each;
  whole =
      ap (λ (text : List ℕ). text ++ rest) before.whole ∙ ap (λ (text : List ℕ). all_texts before.lines ++ text) after.whole
      ∙ sym (flat_map-append (λ text. text) before.lines after.lines);
}

-- ---- each line

-- the bytes at these places differ
differs : (place : ℕ) (one other : List ℕ) → one ≡ other → get_or one place 0 ≡ get_or other place 0
differs place one other same = ap (λ (text : List ℕ). get_or text place 0) same

kept_other : (monitor : MonitorParts) (candidate : Candidate) → IsMonitor monitor → IsOtherLine (kept_text monitor.fields candidate)
kept_other monitor candidate rule = record {
  line = kept_is_line monitor candidate rule;
  other = λ rest more same. absurd (omega (arith, differs 0 _ _ same));
}

condition_other : (number : ℕ) (condition : Condition) (kind : CondKind) → IsDescribed condition → IsOtherLine (condition_text number condition kind)
condition_other number condition kind described = record {
  line = condition_is_line number condition kind described;
  other = λ rest more same. absurd (omega (arith, differs 0 _ _ same));
}

block_other : (monitor : MonitorParts) (block : ℕ) (notes : List Note) → IsMonitor monitor → IsOtherLine (block_text monitor block notes)
block_other monitor block notes rule = record {
  line = block_is_line monitor block notes rule;
  other = λ rest more same. absurd (omega (arith, differs 0 _ _ same));
}

head_other : (monitor : MonitorParts) → IsMonitor monitor → IsOtherLine (codes "plan " ++ monitor.name ++ codes "\n")
head_other monitor rule = record {
  line = record {
    body = codes "plan " ++ monitor.name;
    plain = both_in_line (codes "plan ") monitor.name refl (words_in_line monitor.name (name_words monitor.name rule.name));
    is = refl;
  };
  other = λ rest more same. absurd (omega (arith, differs 1 _ _ same));
}

proof_other : (monitor : MonitorParts) (claim : Claim) (cert : Cert) → IsMonitor monitor → IsOtherLine (proof_text monitor claim cert)
proof_other monitor claim cert rule = record { line = proof_is_line monitor claim cert rule; other = by_claim claim }
  where
    by_claim : (one : Claim) (rest more : List ℕ) → codes "proof fits " ++ rest ≡ proof_text monitor one cert ++ more → ⊥
    by_claim (claims.Keeps candidate block) rest more same = absurd (omega (arith, differs 6 _ _ same))
    by_claim (claims.NoNote block condition) rest more same = absurd (omega (arith, differs 6 _ _ same))
    by_claim (claims.One condition block) rest more same = absurd (omega (arith, differs 6 _ _ same))
    by_claim (claims.NoTest block condition) rest more same = absurd (omega (arith, differs 6 _ _ same))

mark_in_line : (row : ℕ) → HasNoLineFeed (row_mark row)
mark_in_line row = by_test (row == 1)
  where
    by_test : (test : Bool) → HasNoLineFeed (cond test [] (codes "(row " ++ decimal row ++ codes ") "))
    by_test true = refl
    by_test false = both_in_line (codes "(row " ++ decimal row) (codes ") ") (both_in_line (codes "(row ") (decimal row) refl (decimal_in_line row)) refl

asked_in_line : (monitor : MonitorParts) (word : List ℕ) (condition row block : ℕ) → IsMonitor monitor → HasNoLineFeed word → HasNoLineFeed (asked_text monitor word condition row block)
asked_in_line monitor word condition row block rule plain =
    let numbered : List ℕ = word ++ decimal condition ++ codes " " in
    both_in_line (numbered ++ row_mark row) (block_name monitor block)
    (both_in_line numbered (row_mark row) (both_in_line (word ++ decimal condition) (codes " ") (both_in_line word (decimal condition) plain (decimal_in_line condition)) refl) (mark_in_line row))
    (block_in_line monitor block rule)

question_in_line : (monitor : MonitorParts) (question : Question) → IsMonitor monitor → HasNoLineFeed (question_text monitor question)
question_in_line monitor (questions.Counts condition row block) rule = asked_in_line monitor (codes "counts ") condition row block rule refl
question_in_line monitor (questions.Gives condition row block) rule = asked_in_line monitor (codes "gives ") condition row block rule refl
question_in_line monitor (questions.First condition row block) rule = asked_in_line monitor (codes "first ") condition row block rule refl

answer_other : (monitor : MonitorParts) (question : Question) (cert : Cert) → IsMonitor monitor → IsOtherLine (answer_text monitor question cert)
answer_other monitor question cert rule = record {
  line = record {
    body = codes "proof " ++ question_text monitor question ++ codes ": " ++ cert_text cert;
    plain = both_in_line (codes "proof " ++ question_text monitor question ++ codes ": ") (cert_text cert)
        (both_in_line (codes "proof " ++ question_text monitor question) (codes ": ") (both_in_line (codes "proof ") (question_text monitor question) refl (question_in_line monitor question rule)) refl)
        (cert_in_line cert);
    is = refl;
  };
  other = by_question question;
}
  where
    by_question : (one : Question) (rest more : List ℕ) → codes "proof fits " ++ rest ≡ answer_text monitor one cert ++ more → ⊥
    by_question (questions.Counts condition row block) rest more same = absurd (omega (arith, differs 6 _ _ same))
    by_question (questions.Gives condition row block) rest more same = absurd (omega (arith, differs 6 _ _ same))
    by_question (questions.First condition row block) rest more same = absurd (omega (arith, differs 8 _ _ same))

-- ---- the parts of a report

kept_lines : (monitor : MonitorParts) (kept : List Candidate) → IsMonitor monitor → AreOtherLines (flat_map (kept_text monitor.fields) kept)
kept_lines monitor [] rule = nothing
kept_lines monitor (one ∷ kept) rule = line_then (kept_text monitor.fields one) (flat_map (kept_text monitor.fields) kept) (kept_other monitor one rule) (kept_lines monitor kept rule)

conditions_lines : (number : ℕ) (conditions : List Condition) (kinds : List CondKind) → Each IsDescribed conditions
    → AreOtherLines (flat_map (λ one. condition_text one.0 one.1.0 one.1.1) (enumerate_from number (zip conditions kinds)))
conditions_lines number [] kinds described = nothing
conditions_lines number (condition ∷ conditions) [] described = nothing
conditions_lines number (condition ∷ conditions) (kind ∷ kinds) described =
    line_then (condition_text number condition kind) (flat_map (λ one. condition_text one.0 one.1.0 one.1.1) (enumerate_from (number + 1) (zip conditions kinds)))
    (condition_other number condition kind described.0) (conditions_lines (number + 1) conditions kinds described.1)

blocks_lines : (monitor : MonitorParts) (number : ℕ) (lists : List (List Note)) → IsMonitor monitor
    → AreOtherLines (flat_map (λ one. block_text monitor one.0 one.1) (enumerate_from number lists))
blocks_lines monitor number [] rule = nothing
blocks_lines monitor number (notes ∷ lists) rule =
    line_then (block_text monitor number notes) (flat_map (λ one. block_text monitor one.0 one.1) (enumerate_from (number + 1) lists))
    (block_other monitor number notes rule) (blocks_lines monitor (number + 1) lists rule)

plan_lines : (monitor : MonitorParts) (plan : Plan) → IsMonitor monitor → AreOtherLines (plan_text monitor plan)
plan_lines monitor plan rule =
    let head : List ℕ = codes "plan " ++ monitor.name ++ codes "\n" in
    let kept : List ℕ = flat_map (kept_text monitor.fields) plan.kept in
    let conditions : List ℕ = conditions_text monitor.conditions plan.kinds in
    let first : AreOtherLines head = record { lines = head ∷ []; each = (head_other monitor rule, tt); whole = sym (append-nil head) } in
    lines_then (head ++ kept ++ conditions) (blocks_text monitor plan.notes)
    (lines_then (head ++ kept) conditions (lines_then head kept first (kept_lines monitor plan.kept rule))
    (conditions_lines 1 monitor.conditions plan.kinds (recursion_from_All IsDescribed monitor.conditions rule.described)))
    (blocks_lines monitor 0 plan.notes rule)

proofs_lines : (monitor : MonitorParts) (wanted : List Claim) (certs : List Cert) → IsMonitor monitor → AreOtherLines (proofs_text monitor wanted certs)
proofs_lines monitor [] certs rule = nothing
proofs_lines monitor (claim ∷ wanted) [] rule = nothing
proofs_lines monitor (claim ∷ wanted) (cert ∷ certs) rule =
    line_then (proof_text monitor claim cert) (proofs_text monitor wanted certs) (proof_other monitor claim cert rule) (proofs_lines monitor wanted certs rule)

answers_lines : (monitor : MonitorParts) (asked : List Question) (certs : List Cert) → IsMonitor monitor → AreOtherLines (answers_text monitor asked certs)
answers_lines monitor [] certs rule = nothing
answers_lines monitor (question ∷ asked) [] rule = nothing
answers_lines monitor (question ∷ asked) (cert ∷ certs) rule =
    line_then (answer_text monitor question cert) (answers_text monitor asked certs) (answer_other monitor question cert rule) (answers_lines monitor asked certs rule)

-- ---- the whole

pub report_lines : (monitor : MonitorParts) (report : CountedReport) → IsMonitor monitor → AreOtherLines (counted_report_text monitor report)
report_lines monitor report rule =
    let wanted = owed_claims monitor report.plan report.counted in
    let asked = owed_questions monitor report.plan report.counted in
    lines_then (plan_text monitor report.plan) (proofs_text monitor wanted report.proofs ++ answers_text monitor asked report.answers) (plan_lines monitor report.plan rule)
    (lines_then (proofs_text monitor wanted report.proofs) (answers_text monitor asked report.answers) (proofs_lines monitor wanted report.proofs rule) (answers_lines monitor asked report.answers rule))
