-- How `report` and `recheck` end.
use Rattle.std.proofs.Common.{◌≡◌, ℕ, ◌≤◌, ◌⊎◌, Bool, true, false, List, ◌++◌, ◌+◌, length, Option, Some, None, Result, Ok, Err, map, refl, sym, ap, subst, ◌∙◌, inl, inr, arith}
use Rattle.std.specs.Prelude.{All, IfOk}
use Rattle.std.specs.declared.alloc.AllocError.{AllocError}
use Rattle.std.proofs.lemmas.Option.{none-some}
use Rattle.base_io.specs.Outside.{FilesSeen, SinkSeen}
use Rattle.lang_tree.specs.declared.tree.MonitorTree.{MonitorTree}
use Rattle.lang_monitor.specs.declared.candidate.Candidate.{Candidate}
use Rattle.lang_monitor.specs.MonitorParts.{MonitorParts}
use Rattle.plan_claims.specs.declared.placed.PlacedPlan.{PlacedPlan}
use Rattle.plan_claims.specs.Backing.{AreProofs, backed_claims}
use Rattle.report_text.specs.declared.fault.Fault.{Fault}
use Rattle.report_text.specs.Faults.{fault_text}
use Rattle.report_text.specs.FaultText.{other_too_long_text}
use Rattle.report_verdict.specs.declared.report.Verdict.{Verdict}
use Rattle.report_verdict.specs.declared.report.Verdict.TheVariants as verdicts
use Rattle.logic_outline.specs.Outlines.{HasTypedNumbers}
use Rattle.plan_counted.specs.declared.counted.CountedPlan.{CountedPlan}
use Rattle.report_proofs.specs.ReportTexts.{placed_text, report_text, verdict_text}
use Rattle.report_verdict.specs.Reports.{report_of}
use Rattle.report_verdict.specs.Verdicts.{plan_lines}
use Rattle.plan_counted.specs.Counted.{IsCountedFrom}
use Rattle.report_tally.specs.declared.report.CountedReport.{CountedReport}
use Rattle.report_tally.specs.CountedReadings.{IsCountedRead}
use Rattle.report_tally.specs.CountedReports.{IsCountedReport, counted_report_text}
use Rattle.report_tally.specs.CountedTexts.{IsCountingOf, counted_report_of, counted_text}
use Rattle.report_tally.specs.CountedVerdicts.{IsCountedAccepted, IsCountedVerdict}
use Rattle.report_tally.proofs.PrintedCounts.{accepted_only}
use Rattle.report_fits.specs.declared.fit.Fit.{Fit}
use Rattle.report_fits.specs.FitParts.{AreParts}
use Rattle.report_fits.specs.FitReadings.{AreFitsRead}
use Rattle.report_fits.specs.FitVerdicts.{IsFirstOpenFit, IsFit, fitting_text}
use Rattle.report_fits.proofs.Checks.{none_open}
use Rattle.report_fits.proofs.PartedTexts.{same_parts}
use Rattle.front_command.specs.CommandLine.{as_report, recheck, report}
use Rattle.expresso_answers.specs.declared.status.Status.{Status}
use Rattle.expresso_answers.specs.declared.status.Status.TheVariants as statuses
use Rattle.expresso_answers.specs.Placements.{IsCounting, IsPlacement}
use Rattle.expresso_reports.specs.declared.recheck.Judgement.{Judgement}
use Rattle.expresso_reports.specs.declared.recheck.Judgement.TheVariants as judgements
use Rattle.expresso_answers.specs.ReportFiles.{IsAcceptance, IsAcceptanceLine, IsNoReport, IsRechecked, IsRejected, IsReportFile, IsReportRefusalLine, many_certs}
use Rattle.expresso_answers.specs.Answers.{HoldsBytes, HoldsMonitor}
use Rattle.expresso_answers.specs.Ending.{CommandEnds, IsWritten, fault_status}
use Rattle.expresso_answers.specs.Input.{IsLimit}
use Rattle.expresso_reports.specs.inner.Judging.{IsFitsCheck, IsJudgement, IsReportJudged, IsRestJudged, judgement_status, judgement_text}
use Rattle.expresso_reports.specs.inner.Saying.{IsSaid}
use Rattle.expresso_answers.proofs.FirstFaults.{OneSpelling, OneTree}
use Rattle.expresso_answers.proofs.OneFile.{no_rejection}
use Rattle.expresso_answers.proofs.Ending.{work_ended}
use Rattle.expresso_reports.proofs.Said.{said_ended}

-- ---- `report`

-- what is written of a placed plan is the text of its report
abbrev pub PlacedTexts : Type 0
PlacedTexts = (monitor : MonitorParts) (placed : PlacedPlan) → map (λ proof. proof.claim) placed.proofs ≡ backed_claims monitor placed.plan
    → placed_text monitor placed ≡ report_text monitor (report_of placed)

pub report_done : PlacedTexts → (file : List ℕ) (tree : MonitorTree) (monitor : MonitorParts) (placed : PlacedPlan) (files files_now : FilesSeen) (result : Status) (out out_now : SinkSeen)
    → HoldsMonitor files.held file tree monitor → IsPlacement monitor placed.plan → AreProofs monitor placed.plan.kept (backed_claims monitor placed.plan) placed.proofs
    → All (λ proof. HasTypedNumbers proof.cert) placed.proofs → files_now.faults ≡ files.faults → IsWritten statuses.Done (placed_text monitor placed) result out out_now → CommandEnds (report file false false) files files_now result out out_now
report_done texts file tree monitor placed files files_now result out out_now holds placement proofs typed steady written =
    work_ended (report file false false) files files_now (placed_text monitor placed) result out out_now true
    (record { tree = tree; monitor = monitor; placed = placed; holds = holds; placement = placement; proofs = proofs; typed = typed; printed = texts monitor placed proofs.claims })
    (no_rejection files.held file tree monitor holds) steady written

-- what is written of a plan that was placed and then counted is the text of its report
abbrev pub CountedTexts : Type 0
CountedTexts = (monitor : MonitorParts) (placed : PlacedPlan) (counted : CountedPlan) → IsCountingOf monitor placed counted
    → counted_text monitor placed counted ≡ counted_report_text monitor (counted_report_of placed counted)

pub is_counting_of : (monitor : MonitorParts) (placed : PlacedPlan) (counted : CountedPlan) → IsCounting monitor placed counted → IsCountingOf monitor placed counted
is_counting_of monitor placed counted is = record {
  is = is.placement.is;
  fits = is.placement.fits;
  proofs = is.proofs.claims;
  counted_fits = is.fits;
  from = subst (IsCountedFrom monitor placed.plan) (sym is.by.made) is.by.table.counted;
  plan = is.by.made;
  backed = is.by.table.backed;
  broadcasts = is.broadcasts;
}

pub counted_report_done : CountedTexts → (file : List ℕ) (tree : MonitorTree) (monitor : MonitorParts) (placed : PlacedPlan) (counted : CountedPlan) (files files_now : FilesSeen) (result : Status) (out out_now : SinkSeen)
    → HoldsMonitor files.held file tree monitor → IsCounting monitor placed counted → files_now.faults ≡ files.faults
    → IsWritten statuses.Done (counted_text monitor placed counted) result out out_now → CommandEnds (report file true false) files files_now result out out_now
counted_report_done texts file tree monitor placed counted files files_now result out out_now holds counting steady written =
    work_ended (report file true false) files files_now (counted_text monitor placed counted) result out out_now true
    (record { tree = tree; monitor = monitor; placed = placed; counted = counted; holds = holds; counting = counting; printed = texts monitor placed counted (is_counting_of monitor placed counted counting) })
    (no_rejection files.held file tree monitor holds) steady written

-- with `--count` or without
pub report_ended : (file : List ℕ) (count used fits : Bool) (files files_now : FilesSeen) (result : Status) (out out_now : SinkSeen) → count ≡ used
    → CommandEnds (report file used fits) files files_now result out out_now → CommandEnds (report file count fits) files files_now result out out_now
report_ended file count used fits files files_now result out out_now is ends = subst (λ (one : Bool). CommandEnds (report file one fits) files files_now result out out_now) (sym is) ends

-- ---- `recheck`

-- bytes that were read as a report are one of the monitor, with a certificate for each claim and question
pub read_report_is : (monitor : MonitorParts) (bytes : List ℕ) (own : CountedReport) → IsCountedRead monitor bytes (Some own) → IsCountedReport monitor own
read_report_is monitor bytes own read = read.is.is

-- and are not read as none
not_none : (monitor : MonitorParts) (bytes : List ℕ) (own : CountedReport) → IsCountedRead monitor bytes (Some own) → IsCountedRead monitor bytes None → ⊥
not_none monitor bytes own read none = none own read.is read.text

-- bytes have one front and one rest
same_sides : (monitor : MonitorParts) (bytes : List ℕ) (own any : CountedReport) (file : IsReportFile bytes monitor own) (other : IsReportFile bytes monitor any)
    → (file.front ≡ other.front) × (file.rest ≡ other.rest)
same_sides monitor bytes own any file other = same_parts bytes file.front file.rest other.front other.rest file.parts other.parts

-- bytes are the text of one report at most
one_report : (monitor : MonitorParts) (bytes : List ℕ) (own any : CountedReport) → IsReportFile bytes monitor own → IsReportFile bytes monitor any → any ≡ own
one_report monitor bytes own any file other =
    file.read.only any other.read.is (other.read.text ∙ sym (same_sides monitor bytes own any file other).0)

-- and the lines of one list of blocks
one_list : (monitor : MonitorParts) (rest other : List ℕ) (fits others : List Fit) → rest ≡ other → AreFitsRead monitor rest (Some fits) → AreFitsRead monitor other (Some others) → others ≡ fits
one_list monitor rest other fits others same read again = read.only others again.are (again.text ∙ sym same)

-- an accepted report has no other verdict
no_other : (monitor : MonitorParts) (own : CountedReport) (verdict : Verdict) → IsCountedAccepted monitor own → IsCountedVerdict monitor own verdict → (IsAcceptance verdict → ⊥) → ⊥
no_other monitor own verdict accepted is rejected =
    rejected (subst IsAcceptance (sym (accepted_only monitor own verdict
    (record { starts = accepted.lawful.inductive.starts; reading = accepted.lawful.reading; broadcasts = accepted.lawful.broadcasts }) accepted.proofs accepted.answers is)) tt)

-- ---- what is found of the bytes

pub no_front : (monitor : MonitorParts) (bytes front rest : List ℕ) → AreParts bytes front rest → IsCountedRead monitor front None → IsNoReport monitor bytes
no_front monitor bytes front rest parts none = record { front = front; rest = rest; parts = parts; none = inl none }

file_of : (monitor : MonitorParts) (bytes front rest : List ℕ) (own : CountedReport) → length bytes ≤ 16777216 → AreParts bytes front rest → IsCountedRead monitor front (Some own)
    → IsReportFile bytes monitor own
file_of monitor bytes front rest own short parts read = record { short = short; front = front; rest = rest; parts = parts; read = read }

-- the report is accepted, and each block of the rest is shown to keep 64 bits
all_found : (monitor : MonitorParts) (bytes front rest : List ℕ) (own : CountedReport) (certs said : ℕ) (fits found : List Fit) → length bytes ≤ 16777216 → AreParts bytes front rest
    → IsCountedRead monitor front (Some own) → IsCountedAccepted monitor own → certs ≡ many_certs own → AreFitsRead monitor rest (Some fits)
    → (said ≡ certs) × (found ≡ fits) × All (IsFit monitor own.plan.kept) fits → IsJudgement monitor bytes (judgements.Accepted said found)
unfolding file_of
all_found monitor bytes front rest own certs said fits found short parts read accepted many lines (same, are, fitting) = record {
  report = own;
  rechecked = record { is = file_of monitor bytes front rest own short parts read; accepted = accepted; fits = fits; lines = lines; fitting = fitting };
  same_fits = sym are;
  many = same ∙ many;
}

-- or the first that is not is named by its line
one_found : (monitor : MonitorParts) (bytes front rest : List ℕ) (own : CountedReport) (fits : List Fit) (verdict : Verdict) → length bytes ≤ 16777216 → AreParts bytes front rest
    → IsCountedRead monitor front (Some own) → IsCountedAccepted monitor own → AreFitsRead monitor rest (Some fits)
    → (place : ℕ) × IsFirstOpenFit monitor own.plan.kept fits (Some place) × (verdict ≡ verdicts.Unproved (plan_lines monitor own.plan + (many_certs own + place + 1)))
    → IsJudgement monitor bytes (judgements.Rejected verdict)
unfolding file_of
one_found monitor bytes front rest own fits verdict short parts read accepted lines (place, open_there, is) =
    inr (record {
      report = own;
      is = file_of monitor bytes front rest own short parts read;
      accepted = accepted;
      fits = fits;
      lines = lines;
      place = place;
      open_there = open_there;
      verdict_is = is;
    })

-- the report is accepted, and this was found of the rest
pub rest_found : (monitor : MonitorParts) (bytes front rest : List ℕ) (own : CountedReport) (certs : ℕ) (found : Judgement) → length bytes ≤ 16777216 → AreParts bytes front rest
    → IsCountedRead monitor front (Some own) → IsCountedAccepted monitor own → certs ≡ many_certs own → IsRestJudged monitor own certs rest found → IsJudgement monitor bytes found
rest_found monitor bytes front rest own certs found short parts read accepted many (inr (none, is)) =
    subst (IsJudgement monitor bytes) (sym is) (record { front = front; rest = rest; parts = parts; none = inr (own, read, accepted, none) })
rest_found monitor bytes front rest own certs (judgements.Accepted said found) short parts read accepted many (inl (fits, lines, check)) =
    all_found monitor bytes front rest own certs said fits found short parts read accepted many lines check
rest_found monitor bytes front rest own certs (judgements.Rejected verdict) short parts read accepted many (inl (fits, lines, check)) =
    one_found monitor bytes front rest own fits verdict short parts read accepted lines check
rest_found monitor bytes front rest own certs judgements.NoReport short parts read accepted many (inl (fits, lines, none)) = absurd none

report_found : (monitor : MonitorParts) (bytes front rest : List ℕ) (own : CountedReport) (found : Judgement) → length bytes ≤ 16777216 → AreParts bytes front rest
    → IsCountedRead monitor front (Some own) → IsReportJudged monitor own rest found → IsJudgement monitor bytes found
report_found monitor bytes front rest own found short parts read (inl (certs, is, judged)) = rest_found monitor bytes front rest own certs found short parts read is.0 is.1 judged
report_found monitor bytes front rest own found short parts read (inr (verdict, is, rejected, same)) =
    subst (IsJudgement monitor bytes) (sym same) (inl (record { report = own; is = file_of monitor bytes front rest own short parts read; found = is; rejected = rejected }))

pub each_report_found : (monitor : MonitorParts) (bytes front rest : List ℕ) (own : CountedReport) (result : Result Judgement AllocError) → length bytes ≤ 16777216 → AreParts bytes front rest
    → IsCountedRead monitor front (Some own) → IfOk result (IsReportJudged monitor own rest) → IfOk result (IsJudgement monitor bytes)
each_report_found monitor bytes front rest own (Ok found) short parts read told = report_found monitor bytes front rest own found short parts read told
each_report_found monitor bytes front rest own (Err fault) short parts read told = tt

-- the kept candidates are the report's, and the blocks are those that were read
pub same_first : (monitor : MonitorParts) (own : CountedReport) (kept : List Candidate) (told fits : List Fit) (found here : Option ℕ) → kept ≡ own.plan.kept → told ≡ fits → found ≡ here
    → IsFirstOpenFit monitor kept told found → IsFirstOpenFit monitor own.plan.kept fits here
same_first monitor own kept told fits found here is are same first =
    subst (IsFirstOpenFit monitor own.plan.kept fits) same
    (subst (λ (some : List Fit). IsFirstOpenFit monitor own.plan.kept some found) are (subst (λ (some : List Candidate). IsFirstOpenFit monitor some told found) is first))

pub each_accepted : (monitor : MonitorParts) (rest : List ℕ) (own : CountedReport) (certs : ℕ) (result : Result Judgement AllocError) → IsCountedVerdict monitor own (verdicts.Accepted certs)
    → IfOk result (IsRestJudged monitor own certs rest) → IfOk result (IsReportJudged monitor own rest)
each_accepted monitor rest own certs (Ok found) is told = inl (certs, is, told)
each_accepted monitor rest own certs (Err fault) is told = tt

pub each_checked : (monitor : MonitorParts) (rest : List ℕ) (own : CountedReport) (certs : ℕ) (fits : List Fit) (result : Result Judgement AllocError) → AreFitsRead monitor rest (Some fits)
    → IfOk result (IsFitsCheck monitor own certs fits) → IfOk result (IsRestJudged monitor own certs rest)
each_checked monitor rest own certs fits (Ok found) lines told = inl (fits, lines, told)
each_checked monitor rest own certs fits (Err fault) lines told = tt

-- ---- a report that a line refuses is not accepted

none_no_report : (monitor : MonitorParts) (bytes : List ℕ) (own : CountedReport) → IsNoReport monitor bytes → IsRechecked bytes monitor own → ⊥
none_no_report monitor bytes own none file = by_none none.none
  where
    sides : (file.is.front ≡ none.front) × (file.is.rest ≡ none.rest)
    sides = same_parts bytes file.is.front file.is.rest none.front none.rest file.is.parts none.parts

    by_none : IsCountedRead monitor none.front None ⊎ ((any : CountedReport) × IsCountedRead monitor none.front (Some any) × IsCountedAccepted monitor any × AreFitsRead monitor none.rest None) → ⊥
    by_none (inl unread) = not_none monitor none.front own (subst (λ (b : List ℕ). IsCountedRead monitor b (Some own)) sides.0 file.is.read) unread
    by_none (inr (any, read, accepted, unread)) = unread file.fits file.lines.are (file.lines.text ∙ sides.1)

rejected_no_report : (monitor : MonitorParts) (bytes : List ℕ) (own : CountedReport) (verdict : Verdict) → IsRejected monitor bytes verdict → IsRechecked bytes monitor own → ⊥
rejected_no_report monitor bytes own verdict (inl is) file =
    no_other monitor is.report verdict (subst (IsCountedAccepted monitor) (sym (one_report monitor bytes own is.report file.is is.is)) file.accepted) is.found is.rejected
rejected_no_report monitor bytes own verdict (inr is) file =
    let same : is.report ≡ own = one_report monitor bytes own is.report file.is is.is in
    let fits : is.fits ≡ file.fits = one_list monitor file.is.rest is.is.rest file.fits is.fits (same_sides monitor bytes own is.report file.is is.is).1 file.lines is.lines in
    let all : All (IsFit monitor is.report.plan.kept) is.fits =
    subst (λ (some : List Fit). All (IsFit monitor is.report.plan.kept) some) (sym fits)
    (subst (λ (report : CountedReport). All (IsFit monitor report.plan.kept) file.fits) (sym same) file.fitting) in
    none-some is.place (sym (none_open monitor is.report.plan.kept is.fits (Some is.place) all is.open_there))

line_no_report : (monitor : MonitorParts) (file bytes text : List ℕ) (own : CountedReport) → IsReportRefusalLine monitor file bytes text → IsRechecked bytes monitor own → ⊥
line_no_report monitor file bytes text own (inl (long, is)) rechecked = omega (arith, long, rechecked.is.short)
line_no_report monitor file bytes text own (inr (inl (short, none, is))) rechecked = none_no_report monitor bytes own none rechecked
line_no_report monitor file bytes text own (inr (inr line)) rechecked = rejected_no_report monitor bytes own line.verdict line.is rechecked

-- ---- what is said of it

pub report_limit : (file : List ℕ) (fault : Fault) → fault_text fault ≡ other_too_long_text file → fault_status fault ≡ statuses.Refused → IsLimit as_report file 16777216 fault
report_limit file fault says is = record { short = λ monitor bytes must. must.1.is.short; line = λ tree monitor bytes long. inl (long, says); status = is }

found_said : (monitor : MonitorParts) (file bytes : List ℕ) (found : Judgement) → length bytes ≤ 16777216 → IsJudgement monitor bytes found
    → IsSaid (IsAcceptanceLine monitor bytes) (IsReportRefusalLine monitor file bytes) (judgement_status found) (judgement_text monitor file found)
found_said monitor file bytes (judgements.Accepted certs fits) short is = record {
  report = is.report;
  rechecked = is.rechecked;
  printed =
      ap (λ (n : ℕ). verdict_text (verdicts.Accepted n) ++ fitting_text monitor fits) is.many
      ∙ ap (λ (some : List Fit). verdict_text (verdicts.Accepted (many_certs is.report)) ++ fitting_text monitor some) (sym is.same_fits);
}
found_said monitor file bytes (judgements.Rejected verdict) short is = inr (inr (record { verdict = verdict; is = is; printed = refl }))
found_said monitor file bytes judgements.NoReport short none = inr (inl (short, none, refl))

pub judged_ended : OneSpelling → OneTree → (monitor_file report_file bytes slice : List ℕ) (files : FilesSeen) → slice ≡ bytes → HoldsBytes files.held report_file bytes → length bytes ≤ 16777216
    → (tree : MonitorTree) (monitor : MonitorParts) → HoldsMonitor files.held monitor_file tree monitor
    → (files_now : FilesSeen) (found : Judgement) (result : Status) (out mid out_now : SinkSeen) → files_now.faults ≡ files.faults → mid ≡ out → IsJudgement monitor slice found
    → IsWritten (judgement_status found) (judgement_text monitor report_file found) result mid out_now → CommandEnds (recheck monitor_file report_file) files files_now result out out_now
judged_ended one_spelling one_tree monitor_file report_file bytes slice files same holds_bytes short tree monitor holds files_now found result out mid out_now steady silent is written =
    said_ended one_spelling one_tree as_report monitor_file report_file bytes slice files same holds_bytes tree monitor holds (λ one. IsAcceptanceLine)
    (λ text line must. line_no_report monitor report_file slice text must.0 line must.1) (λ text line. (line.report, line.rechecked))
    (recheck monitor_file report_file) refl (λ text is. is) files_now (judgement_status found) (judgement_text monitor report_file found) result out mid out_now steady silent
    (found_said monitor report_file slice found (subst (λ (b : List ℕ). length b ≤ 16777216) (sym same) short) is) written
