-- How `audit` ends.
use Rattle.std.proofs.Common.{◌≡◌, ℕ, ◌≤◌, Bool, true, false, List, length, Option, Some, None, refl, sym, subst, inl, inr, append-nil, arith}
use Rattle.base_io.specs.Outside.{FilesSeen, SinkSeen}
use Rattle.lang_tree.specs.declared.tree.MonitorTree.{MonitorTree}
use Rattle.lang_monitor.specs.MonitorParts.{MonitorParts}
use Rattle.machine_events.specs.declared.plan.Plan.{Plan}
use Rattle.report_proofs.specs.Readings.{IsPlanRead}
use Rattle.report_audit.specs.declared.finding.Finding.{Finding}
use Rattle.report_audit.specs.declared.finding.Finding.TheVariants as findings
use Rattle.report_audit.specs.CountedFindings.{IsFindingBy}
use Rattle.report_audit.specs.FindingText.{finding_text}
use Rattle.plan_why.specs.declared.failing.Failure.{Failure}
use Rattle.report_text.specs.declared.fault.Fault.{Fault}
use Rattle.report_text.specs.Faults.{fault_text}
use Rattle.report_text.specs.FaultText.{other_too_long_text}
use Rattle.front_command.specs.CommandLine.{as_plan, audit}
use Rattle.expresso_reports.specs.declared.audit.Found.{Found}
use Rattle.expresso_answers.specs.declared.status.Status.{Status}
use Rattle.expresso_answers.specs.declared.status.Status.TheVariants as statuses
use Rattle.expresso_answers.specs.PlanFiles.{IsAudited, IsFailureBy, IsLawfulLine, IsPlanFile, IsPlanRefusalLine, audit_text}
use Rattle.expresso_answers.specs.Answers.{HoldsBytes, HoldsMonitor}
use Rattle.expresso_answers.specs.Ending.{CommandEnds, IsWritten, fault_status}
use Rattle.expresso_answers.specs.Input.{IsLimit}
use Rattle.expresso_reports.specs.inner.Auditing.{IsFound, IsPlanFound, audit_status, found_status, found_text}
use Rattle.expresso_reports.specs.inner.Saying.{IsSaid}
use Rattle.expresso_answers.proofs.FirstFaults.{OneSpelling, OneTree}
use Rattle.expresso_reports.proofs.Said.{said_ended}

-- bytes that were read as a plan are not read as none
not_none : (monitor : MonitorParts) (bytes : List ℕ) (plan : Plan) → IsPlanRead monitor bytes (Some plan) → IsPlanRead monitor bytes None → ⊥
not_none monitor bytes plan read none = none plan read.is read.text

-- bytes are the text of one plan at most
one_plan : (monitor : MonitorParts) (bytes : List ℕ) (plan any : Plan) → IsPlanFile bytes monitor plan → IsPlanFile bytes monitor any → any ≡ plan
one_plan monitor bytes plan any file other = file.read.only any other.read.is other.read.text

-- a plan that a line refuses is not lawful
line_no_plan : (count : Bool) (tree : MonitorTree) (monitor : MonitorParts) (file bytes text : List ℕ) (plan : Plan) → IsPlanRefusalLine count tree monitor file bytes text → IsAudited count bytes monitor plan → ⊥
line_no_plan count tree monitor file bytes text plan (inl (long, is)) audited = omega (arith, long, audited.is.short)
line_no_plan count tree monitor file bytes text plan (inr (inl (short, none, is))) audited = not_none monitor bytes plan audited.is.read none
line_no_plan count tree monitor file bytes text plan (inr (inr line)) audited =
    line.other (audited.only line.finding (subst (λ (p : Plan). IsFindingBy count monitor p line.finding) (one_plan monitor bytes plan line.plan audited.is line.is) line.found))

-- ---- what is said of a finding

pub plan_limit : (count : Bool) (file : List ℕ) (fault : Fault) → fault_text fault ≡ other_too_long_text file → fault_status fault ≡ statuses.Refused → IsLimit (as_plan count) file 16777216 fault
plan_limit count file fault says is = record { short = λ monitor bytes must. must.1.is.short; line = λ tree monitor bytes long. inl (long, says); status = is }

-- nothing more is printed of a plan that is found lawful
lawful_text : (count : Bool) (tree : MonitorTree) (monitor : MonitorParts) (plan : Plan) (failure : Option Failure) → audit_text count tree monitor plan findings.Lawful failure ≡ finding_text monitor plan findings.Lawful
lawful_text false tree monitor plan failure = refl
lawful_text true tree monitor plan failure = append-nil (finding_text monitor plan findings.Lawful)

module _ (count : Bool) (tree : MonitorTree) (monitor : MonitorParts) (file bytes : List ℕ) (found : Found) (short : length bytes ≤ 16777216) (it : IsPlanFound count monitor bytes found) where
  -- what is said where this is found
  abbrev SaysOf : Finding → Type 0
  SaysOf finding = IsSaid (IsLawfulLine count monitor bytes) (IsPlanRefusalLine count tree monitor file bytes) (audit_status finding) (audit_text count tree monitor found.plan finding found.failure)

  finding_line : (finding : Finding) → found.finding ≡ finding → (finding ≡ findings.Lawful → ⊥) → IsPlanRefusalLine count tree monitor file bytes (audit_text count tree monitor found.plan finding found.failure)
  finding_line finding is other = inr (inr (record {
    plan = found.plan;
    finding = finding;
    failure = found.failure;
    is = record { short = short; read = it.read };
    found = subst (IsFindingBy count monitor found.plan) is it.is;
    other = other;
    why = subst (λ (one : Finding). IsFailureBy count monitor found.plan one found.failure) is it.why;
    printed = refl;
  }))

  says_of : (finding : Finding) → found.finding ≡ finding → SaysOf finding
  says_of findings.Lawful is = record {
    plan = found.plan;
    found = record { is = record { short = short; read = it.read }; lawful = subst (IsFindingBy count monitor found.plan) is it.is };
    printed = lawful_text count tree monitor found.plan found.failure;
  }
  says_of (findings.Start kept) is = finding_line (findings.Start kept) is (λ e. cc)
  says_of (findings.Kind condition) is = finding_line (findings.Kind condition) is (λ e. cc)
  says_of (findings.Unproved claim) is = finding_line (findings.Unproved claim) is (λ e. cc)
  says_of (findings.Uncounted question) is = finding_line (findings.Uncounted question) is (λ e. cc)

found_said : (count : Bool) (tree : MonitorTree) (monitor : MonitorParts) (file bytes : List ℕ) (found : Option Found) → length bytes ≤ 16777216 → IsFound count monitor bytes found
    → IsSaid (IsLawfulLine count monitor bytes) (IsPlanRefusalLine count tree monitor file bytes) (found_status found) (found_text count tree monitor file found)
found_said count tree monitor file bytes (Some found) short it = says_of count tree monitor file bytes found short it found.finding refl
found_said count tree monitor file bytes None short none = inr (inl (short, none, refl))

pub audit_ended : OneSpelling → OneTree → (count : Bool) (monitor_file plan_file bytes slice : List ℕ) (files : FilesSeen) → slice ≡ bytes → HoldsBytes files.held plan_file bytes → length bytes ≤ 16777216
    → (tree : MonitorTree) (monitor : MonitorParts) → HoldsMonitor files.held monitor_file tree monitor
    → (files_now : FilesSeen) (found : Option Found) (result : Status) (out mid out_now : SinkSeen) → files_now.faults ≡ files.faults → mid ≡ out → IsFound count monitor slice found
    → IsWritten (found_status found) (found_text count tree monitor plan_file found) result mid out_now → CommandEnds (audit monitor_file plan_file count) files files_now result out out_now
audit_ended one_spelling one_tree count monitor_file plan_file bytes slice files same holds_bytes short tree monitor holds files_now found result out mid out_now steady silent is written =
    said_ended one_spelling one_tree (as_plan count) monitor_file plan_file bytes slice files same holds_bytes tree monitor holds (λ one. IsLawfulLine count)
    (λ text line must. line_no_plan count tree monitor plan_file slice text must.0 line must.1) (λ text line. (line.plan, line.found))
    (audit monitor_file plan_file count) refl (λ text is. is) files_now (found_status found) (found_text count tree monitor plan_file found) result out mid out_now steady silent
    (found_said count tree monitor plan_file slice found (subst (λ (b : List ℕ). length b ≤ 16777216) (sym same) short) is) written
