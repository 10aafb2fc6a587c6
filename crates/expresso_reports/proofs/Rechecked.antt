-- What `report` printed of a monitor without a hard claim is accepted by `recheck`.
use Rattle.std.proofs.Common.{◌≡◌, ◌≤◌, ◌↔◌, ◌⊎◌, ℕ, ◌+◌, List, [], ◌∷◌, ◌++◌, codes, length, append-nil, Option, Some, None, refl, sym, ap, subst, ◌∙◌, arith, inl, inr}
use Rattle.std.specs.Prelude.{All, unwrap_or}
use Rattle.std.proofs.lemmas.List.{length-map}
use Rattle.std.proofs.lemmas.List.Elements.{All-map, All-nil}
use Rattle.std.proofs.lemmas.Option.{none-some}
use Rattle.logic_cert.specs.CertText.{cert_text}
use Rattle.lang_tree.specs.declared.tree.MonitorTree.{MonitorTree}
use Rattle.lang_syntax.specs.Grammar.{IsMonitorFile}
use Rattle.lang_rules.specs.Rules.{faults_of}
use Rattle.lang_monitor.specs.declared.candidate.Candidate.{Candidate}
use Rattle.lang_monitor.specs.MonitorParts.{MonitorParts, IsMonitor}
use Rattle.machine_events.specs.PlanText.{block_name}
use Rattle.machine_events.specs.Plans.{FitsPlan, IsLawful}
use Rattle.plan_prune.specs.Hardness.{HasNoHardClaim}
use Rattle.plan_claims.specs.declared.placed.PlacedPlan.{PlacedPlan}
use Rattle.plan_claims.specs.declared.placed.Proof.{Proof}
use Rattle.plan_claims.specs.Backing.{AreProofs, backed_claims}
use Rattle.plan_counted.specs.declared.counted.CountedPlan.{CountedPlan}
use Rattle.report_verdict.specs.declared.report.Report.{Report}
use Rattle.report_verdict.specs.declared.report.Verdict.{Verdict}
use Rattle.report_verdict.specs.declared.report.Verdict.TheVariants as verdicts
use Rattle.report_proofs.specs.Readings.{IsReadable}
use Rattle.report_proofs.specs.ReportTexts.{report_text, verdict_text}
use Rattle.report_verdict.specs.Reports.{IsReport, report_of}
use Rattle.report_verdict.specs.Verdicts.{IsVerdict}
use Rattle.report_proofs.proofs.PlacedTexts.{placed_report}
use Rattle.report_tally.specs.declared.report.CountedReport.{CountedReport}
use Rattle.report_tally.specs.CountedReadings.{IsCountedRead}
use Rattle.report_tally.specs.CountedReports.{counted_report_text}
use Rattle.report_tally.specs.CountedTexts.{IsCountingOf, counted_report_of, counted_text}
use Rattle.report_tally.specs.CountedVerdicts.{IsCountedAccepted, IsCountedVerdict}
use Rattle.report_tally.specs.EasyCountings.{IsEasyCounting, OwesNothingOpen}
use Rattle.report_tally.specs.UncountedReports.{uncounted}
use Rattle.report_fits.specs.declared.fit.Fit.{Fit}
use Rattle.report_fits.specs.FitParts.{AreParts, GoesOnWithFit}
use Rattle.report_fits.specs.FitReadings.{AreFitsRead}
use Rattle.report_fits.specs.FitTexts.{certified, fits_text}
use Rattle.report_fits.specs.FitVerdicts.{IsFit, fitting_text}
use Rattle.report_fits.proofs.Checks.{answers_fit, none_open}
use Rattle.report_fits.proofs.FitLines.{certified_readable, read_again}
use Rattle.report_fits.proofs.PartedTexts.{lines_parted, same_parts}
use Rattle.expresso_answers.specs.MonitorFiles.{IsAccepted}
use Rattle.expresso_answers.specs.ReportFiles.{IsAcceptance, IsAcceptanceLine, IsNoReport, IsRejected, IsReportFile, IsReportRefusalLine, many_certs}
use Rattle.expresso_answers.specs.Answers.{HasFits, HoldsMonitor, IsCountedReportText, IsMonitorRefusal, IsOtherText, IsRefusedText, IsReportText}
use Rattle.front_command.specs.CommandLine.{as_report, two_files}
use Rattle.expresso_reports.specs.PrintedReports.{counted_many}
use Rattle.expresso_answers.proofs.FirstFaults.{OneSpelling, NoSpelling, OneTree, no_line}
use Rattle.expresso_reports.proofs.Judged.{CountedTexts, is_counting_of}
use Rattle.expresso_answers.proofs.OneMonitor.{one_monitor}
use Rattle.expresso_reports.proofs.ReportLines.{report_lines}
use Rattle.expresso_answers.proofs.Telling.{holds_same}

-- ---- what is known of the text of a report

-- the bytes are read as this report alone, and the lines of these blocks, and it has no verdict but that so many certificates are accepted, and those of the blocks
pub record IsSurelyAccepted (monitor : MonitorParts) (text : List ℕ) (report : CountedReport) (certs : ℕ) (fits : List Fit) : Type 0 where
  pub front : List ℕ
  pub rest : List ℕ
  pub parts : AreParts text front rest
  pub reads : (read : Option CountedReport) → IsCountedRead monitor front read → read ≡ Some report
  pub lists : (read : Option (List Fit)) → AreFitsRead monitor rest read → read ≡ Some fits
  pub judges : (verdict : Verdict) → IsCountedVerdict monitor report verdict → verdict ≡ verdicts.Accepted certs
  pub fitting : All (IsFit monitor report.plan.kept) fits
  pub many : many_certs report ≡ certs

-- what is known of the text of a report alone
pub record IsSureReport (monitor : MonitorParts) (text : List ℕ) (report : CountedReport) (certs : ℕ) : Type 0 where
  pub is : IsMonitor monitor
  pub says : counted_report_text monitor report ≡ text
  pub reads : (read : Option CountedReport) → IsCountedRead monitor text read → read ≡ Some report
  pub judges : (verdict : Verdict) → IsCountedVerdict monitor report verdict → verdict ≡ verdicts.Accepted certs
  pub many : many_certs report ≡ certs

-- a text of a report, and after it the lines of blocks
parted : (monitor : MonitorParts) (front : List ℕ) (report : CountedReport) (fits : List ℕ) → IsMonitor monitor → counted_report_text monitor report ≡ front → (fits ≡ []) ⊎ GoesOnWithFit fits
    → AreParts (front ++ fits) front fits
parted monitor front report fits rule says begins =
    let own = report_lines monitor report rule in
    subst (λ (text : List ℕ). AreParts (text ++ fits) text fits) (sym own.whole ∙ says) (lines_parted own.lines fits own.each begins)

-- it has none
pub alone : (monitor : MonitorParts) (text : List ℕ) (report : CountedReport) (certs : ℕ) → IsSureReport monitor text report certs → IsSurelyAccepted monitor text report certs []
alone monitor text report certs sure = record {
  front = text;
  rest = [];
  parts = subst (λ (bytes : List ℕ). AreParts bytes text []) (append-nil text) (parted monitor text report [] sure.is sure.says (inl refl));
  reads = sure.reads;
  lists = λ read told. read_again monitor [] read (record { are = tt; readable = All-nil (λ (fit : Fit). IsReadable fit.cert) }) told;
  judges = sure.judges;
  fitting = All-nil (IsFit monitor report.plan.kept);
  many = sure.many;
}

some_lines : (monitor : MonitorParts) (fits : List Fit) → (fits_text monitor fits ≡ []) ⊎ GoesOnWithFit (fits_text monitor fits)
some_lines monitor [] = inl refl
some_lines monitor (fit ∷ fits) =
    let tail : List ℕ = block_name monitor fit.block ++ codes ": " ++ cert_text fit.cert ++ codes "\n" in
    inr (tail ++ fits_text monitor fits, refl)

-- the lines of what the prover answered
pub with_fits : (monitor : MonitorParts) (front text : List ℕ) (report : CountedReport) (certs : ℕ) (kept : List Candidate) → IsSureReport monitor front report certs → kept ≡ report.plan.kept
    → (fits : HasFits monitor kept front text) → IsSurelyAccepted monitor text report certs (certified fits.answers)
with_fits monitor front text report certs kept sure same fits = record {
  front = front;
  rest = fits_text monitor (certified fits.answers);
  parts = subst (λ (bytes : List ℕ). AreParts bytes front (fits_text monitor (certified fits.answers))) (sym fits.printed)
      (parted monitor front report (fits_text monitor (certified fits.answers)) sure.is sure.says (some_lines monitor (certified fits.answers)));
  reads = sure.reads;
  lists = λ read told. read_again monitor (certified fits.answers) read (certified_readable monitor fits.answers fits.are.count fits.typed) told;
  judges = sure.judges;
  fitting = subst (λ (some : List Candidate). All (IsFit monitor some) (certified fits.answers)) same (answers_fit monitor kept fits.answers fits.are);
  many = sure.many;
}

-- ---- plain reports

abbrev pub ReadsPlain : Type 0
ReadsPlain = (monitor : MonitorParts) (bytes : List ℕ) (report : Report) (read : Option CountedReport) → IsReport monitor report → All IsReadable report.proofs
    → report_text monitor report ≡ bytes → IsCountedRead monitor bytes read → read ≡ Some (uncounted report)

abbrev pub SaysPlain : Type 0
SaysPlain = (monitor : MonitorParts) (report : Report) → counted_report_text monitor (uncounted report) ≡ report_text monitor report

abbrev pub JudgesPlain : Type 0
JudgesPlain = (monitor : MonitorParts) (report : Report) (verdict : Verdict) → IsReport monitor report
    → IsCountedVerdict monitor (uncounted report) verdict ↔ IsVerdict monitor report verdict

abbrev pub AcceptsEasy : Type 0
AcceptsEasy = (monitor : MonitorParts) (placed : PlacedPlan) (verdict : Verdict) → IsMonitor monitor → FitsPlan monitor placed.plan → IsLawful monitor placed.plan
    → AreProofs monitor placed.plan.kept (backed_claims monitor placed.plan) placed.proofs → HasNoHardClaim monitor
    → IsVerdict monitor (report_of placed) verdict → verdict ≡ verdicts.Accepted (length placed.proofs)

pub plain_accepted : ReadsPlain → JudgesPlain → AcceptsEasy → (held : List ℕ → Option (List ℕ)) (file text : List ℕ) (is : IsReportText held file text) → HasNoHardClaim is.monitor
    → SaysPlain → IsSureReport is.monitor text (uncounted (report_of is.placed)) (length is.placed.proofs)
plain_accepted reads judges accepts held file text is easy says = record {
  is = is.placement.is;
  says = says is.monitor (report_of is.placed) ∙ sym is.printed;
  reads = λ read told. reads is.monitor text (report_of is.placed) read own (All-map IsReadable (λ (proof : Proof). proof.cert) is.placed.proofs is.typed) (sym is.printed) told;
  judges = λ verdict judged. accepts is.monitor is.placed verdict is.placement.is is.placement.fits is.placement.lawful is.proofs easy ((judges is.monitor (report_of is.placed) verdict own).0 judged);
  many = omega (arith, length-map is.placed.proofs (λ (proof : Proof). proof.cert));
}
  where
    own : IsReport is.monitor (report_of is.placed)
    own = placed_report is.monitor is.placed is.placement.fits is.proofs.claims

-- ---- counted ones

abbrev pub ReadsCounted : Type 0
ReadsCounted = (monitor : MonitorParts) (placed : PlacedPlan) (counted : CountedPlan) (read : Option CountedReport) → IsEasyCounting monitor placed counted
    → IsCountedRead monitor (counted_text monitor placed counted) read → read ≡ Some (counted_report_of placed counted)

abbrev pub AcceptsCounted : Type 0
AcceptsCounted = (monitor : MonitorParts) (placed : PlacedPlan) (counted : CountedPlan) (verdict : Verdict) (report : CountedReport) → IsEasyCounting monitor placed counted
    → report ≡ counted_report_of placed counted → IsCountedVerdict monitor report verdict → verdict ≡ verdicts.Accepted (length report.proofs + length report.answers)

pub counted_accepted : CountedTexts → ReadsCounted → AcceptsCounted → (held : List ℕ → Option (List ℕ)) (file text : List ℕ) (is : IsCountedReportText held file text)
    → OwesNothingOpen is.monitor is.placed.plan.kept is.counted → IsSureReport is.monitor text (counted_report_of is.placed is.counted) (counted_many is.placed is.counted)
counted_accepted texts reads accepts held file text is owes = record {
  is = is.counting.placement.is;
  says = sym is.printed;
  reads = λ read told. reads is.monitor is.placed is.counted read own
      (subst (λ (bytes : List ℕ). IsCountedRead is.monitor bytes read) (is.printed ∙ sym (texts is.monitor is.placed is.counted (is_counting_of is.monitor is.placed is.counted is.counting))) told);
  judges = λ verdict judged. accepts is.monitor is.placed is.counted verdict (counted_report_of is.placed is.counted) own refl judged;
  many = refl;
}
  where
    counting : IsCountingOf is.monitor is.placed is.counted
    counting = is_counting_of is.monitor is.placed is.counted is.counting

    own : IsEasyCounting is.monitor is.placed is.counted
    own = record {
      owes = owes;
      lawful = is.counting.placement.lawful;
      counting = counting;
      counted_lawful = is.counting.lawful;
      proofs = is.counting.proofs;
      typed = is.counting.typed;
      typed_columns = is.counting.typed_columns;
    }

-- ---- the line that refuses

-- the bytes of an accepted monitor file are not refused
no_monitor_line : OneSpelling → NoSpelling → OneTree → (later : List ℕ → Option (List ℕ)) (file line all : List ℕ) (tree : MonitorTree) (monitor : MonitorParts)
    → later file ≡ Some all → IsAccepted all tree monitor → IsMonitorRefusal later file line → ⊥
no_monitor_line one_spelling no_spelling one_tree later file line all tree monitor same accepted refused =
    let bytes : refused.bytes ≡ all = holds_same later file all refused.bytes same refused.told in
    let here : IsAccepted refused.bytes tree monitor = subst (λ (b : List ℕ). IsAccepted b tree monitor) (sym bytes) accepted in
    no_line IsMonitorFile faults_of one_spelling no_spelling one_tree refused.bytes here.tokens tree here.spelled here.derived here.unbroken file line here.short refused.line

some_same : (report other : CountedReport) → Some report ≡ Some other → report ≡ other
some_same report other is = ap (λ (o : Option CountedReport). unwrap_or o report) is

list_same : (fits others : List Fit) → Some fits ≡ Some others → fits ≡ others
list_same fits others is = ap (λ (o : Option (List Fit)). unwrap_or o fits) is

module _ (monitor : MonitorParts) (report : CountedReport) (certs : ℕ) (fits : List Fit) (text : List ℕ) (surely : IsSurelyAccepted monitor text report certs fits) where
  -- the parts of the text
  same_sides : (front rest : List ℕ) → AreParts text front rest → (front ≡ surely.front) × (rest ≡ surely.rest)
  same_sides front rest parts = same_parts text front rest surely.front surely.rest parts surely.parts

  read_same : (own : CountedReport) (file : IsReportFile text monitor own) → own ≡ report
  read_same own file =
      some_same own report (surely.reads (Some own) (subst (λ (b : List ℕ). IsCountedRead monitor b (Some own)) (same_sides file.front file.rest file.parts).0 file.read))

  fits_same : (own : CountedReport) (file : IsReportFile text monitor own) (others : List Fit) → AreFitsRead monitor file.rest (Some others) → others ≡ fits
  fits_same own file others told =
      list_same others fits (surely.lists (Some others) (subst (λ (b : List ℕ). AreFitsRead monitor b (Some others)) (same_sides file.front file.rest file.parts).1 told))

  never_none : IsNoReport monitor text → ⊥
  never_none none = by_none none.none
    where
      sides : (none.front ≡ surely.front) × (none.rest ≡ surely.rest)
      sides = same_sides none.front none.rest none.parts

      by_none : IsCountedRead monitor none.front None ⊎ ((own : CountedReport) × IsCountedRead monitor none.front (Some own) × IsCountedAccepted monitor own × AreFitsRead monitor none.rest None) → ⊥
      by_none (inl unread) = none-some report (surely.reads None (subst (λ (b : List ℕ). IsCountedRead monitor b None) sides.0 unread))
      by_none (inr (own, read, accepted, unread)) = none-some fits (surely.lists None (subst (λ (b : List ℕ). AreFitsRead monitor b None) sides.1 unread))

  never_rejected : (verdict : Verdict) → IsRejected monitor text verdict → ⊥
  never_rejected verdict (inl is) =
      let judged = surely.judges verdict (subst (λ (one : CountedReport). IsCountedVerdict monitor one verdict) (read_same is.report is.is) is.found) in
      is.rejected (subst IsAcceptance (sym judged) tt)
  never_rejected verdict (inr is) =
      let same = read_same is.report is.is in
      let others = fits_same is.report is.is is.fits is.lines in
      let all : All (IsFit monitor is.report.plan.kept) is.fits =
      subst (λ (some : List Fit). All (IsFit monitor is.report.plan.kept) some) (sym others) (subst (λ (one : CountedReport). All (IsFit monitor one.plan.kept) fits) (sym same) surely.fitting) in
      none-some is.place (sym (none_open monitor is.report.plan.kept is.fits (Some is.place) all is.open_there))

  pub no_report_line : (report_file line : List ℕ) → length text ≤ 16777216 → IsReportRefusalLine monitor report_file text line → ⊥
  no_report_line report_file line short (inl (long, says)) = omega (arith, short, long)
  no_report_line report_file line short (inr (inl (few, none, says))) = never_none none
  no_report_line report_file line short (inr (inr rejected)) = never_rejected rejected.verdict rejected.is

  pub accepted_line : (line : List ℕ) → IsAcceptanceLine monitor text line → line ≡ verdict_text (verdicts.Accepted certs) ++ fitting_text monitor fits
  accepted_line line said =
      said.printed
      ∙ ap (λ (one : CountedReport). verdict_text (verdicts.Accepted (many_certs one)) ++ fitting_text monitor said.rechecked.fits) (read_same said.report said.rechecked.is)
      ∙ ap (λ (n : ℕ). verdict_text (verdicts.Accepted n) ++ fitting_text monitor said.rechecked.fits) surely.many
      ∙ ap (λ (some : List Fit). verdict_text (verdicts.Accepted certs) ++ fitting_text monitor some) (fits_same said.report said.rechecked.is said.rechecked.fits said.rechecked.lines)

-- the monitor that a file with the same bytes holds is the same
same_monitor : OneSpelling → OneTree → (held later : List ℕ → Option (List ℕ)) (file : List ℕ) (own_tree tree : MonitorTree) (own monitor : MonitorParts) (holds : HoldsMonitor held file own_tree own)
    → later file ≡ Some holds.bytes → HoldsMonitor later file tree monitor → monitor ≡ own
same_monitor one_spelling one_tree held later file own_tree tree own monitor holds same also =
    let bytes : also.bytes ≡ holds.bytes = holds_same later file holds.bytes also.bytes same also.told in
    one_monitor one_spelling one_tree holds.bytes tree own_tree monitor own (subst (λ (b : List ℕ). IsAccepted b tree monitor) bytes also.accepted) holds.accepted

-- of a text that is surely accepted, in a file beside one with the monitor
module _ (one_spelling : OneSpelling) (no_spelling : NoSpelling) (one_tree : OneTree) (held later : List ℕ → Option (List ℕ)) (file report_file text : List ℕ)
    (tree : MonitorTree) (monitor : MonitorParts) (holds : HoldsMonitor held file tree monitor) (report : CountedReport) (certs : ℕ) (fits : List Fit)
    (surely : IsSurelyAccepted monitor text report certs fits) (short : length text ≤ 16777216) (same : later file ≡ Some holds.bytes) (there : later report_file ≡ Some text) where
  pub none_refused : (line : List ℕ) → IsRefusedText later (two_files as_report file report_file) line → ⊥
  none_refused line (inl refused) = no_monitor_line one_spelling no_spelling one_tree later file line holds.bytes tree monitor same holds.accepted refused
  none_refused line (inr refused) =
      let one = same_monitor one_spelling one_tree held later file tree refused.tree monitor refused.monitor holds same refused.holds in
      let bytes : refused.bytes ≡ text = holds_same later report_file text refused.bytes there refused.told in
      no_report_line monitor report certs fits text surely report_file line short
      (subst (λ (b : List ℕ). IsReportRefusalLine monitor report_file b line) bytes
      (subst (λ (m : MonitorParts). IsReportRefusalLine m report_file refused.bytes line) one refused.line))

  pub line_of : (line : List ℕ) → IsOtherText later (λ tree. IsAcceptanceLine) file report_file line → line ≡ verdict_text (verdicts.Accepted certs) ++ fitting_text monitor fits
  line_of line done =
      let one = same_monitor one_spelling one_tree held later file tree done.tree monitor done.monitor holds same done.holds in
      let bytes : done.bytes ≡ text = holds_same later report_file text done.bytes there done.told in
      accepted_line monitor report certs fits text surely line
      (subst (λ (b : List ℕ). IsAcceptanceLine monitor b line) bytes
      (subst (λ (m : MonitorParts). IsAcceptanceLine m done.bytes line) one done.line))
