-- The lines of a report's proofs, read. Bytes: 107 is `k`, 112 `p`.
use Rattle.std.proofs.Common.{◌≡◌, ℕ, ◌+◌, ◌<◌, ◌≤◌, List, [], ◌∷◌, ◌++◌, length, get_or, Option, Some, None, Result, Ok, Err, codes, refl, sym, ap, subst, ◌∙◌, append_assoc, append-nil, arith}
use Rattle.std.specs.Prelude.{IfOk, MatchOption}
use Rattle.std.specs.Borrow.{Bor}
use Rattle.std.specs.declared.alloc.AllocError.{AllocError}
use Rattle.std.proofs.lemmas.List.{append_cancel_left}
use Rattle.logic_cert.specs.declared.cert.Cert.{Cert}
use Rattle.logic_cert.specs.CertText.{cert_text}
use Rattle.lang_monitor.specs.declared.claim.Claim.{Claim}
use Rattle.lang_monitor.specs.MonitorParts.{MonitorParts}
use Rattle.machine_events.specs.declared.plan.Plan.{Plan}
use Rattle.machine_events.specs.PlanText.{plan_text}
use Rattle.plan_claims.specs.Backing.{backed_claims}
use Rattle.lang_base.proofs.Cuts.{same_first}
use Rattle.report_verdict.specs.declared.report.Report.{Report}
use Rattle.logic_outline.specs.Readings.{IsRead}
use Rattle.report_proofs.specs.Readings.{IsReadable, IsReportRead}
use Rattle.report_proofs.specs.ReportTexts.{claim_text, proof_text, proofs_text}
use Rattle.report_verdict.specs.Reports.{IsPlanOf}
use Rattle.report_proofs.specs.Fronts.{Anything, AreFor, IsAfterKept, IsFront, IsNoFront}
use Rattle.report_proofs.specs.inner.Reading.{IsWithProofs}
use Rattle.report_proofs.proofs.Fronts.{AreGoing, Found, going_end, going_more, going_none}

-- ---- the line of a proof

abbrev pub cert_line : Cert → List ℕ
cert_line cert = cert_text cert ++ codes "\n"

pub proof_line : (monitor : MonitorParts) (claim : Claim) (cert : Cert)
    → proof_text monitor claim cert
    ≡ (codes "proof " ++ claim_text monitor claim ++ codes ": ") ++ cert_line cert
proof_line monitor claim cert = append_assoc (codes "proof " ++ claim_text monitor claim ++ codes ": ") (cert_text cert) (codes "\n")

abbrev both : Cert → Bor (List ℕ) → Cert × Bor (List ℕ)
both cert rest = (cert, rest)

line_again : (bytes : List ℕ) (cert : Cert) (middle : Bor (List ℕ))
    → IsRead cert_text IsReadable bytes (Some (both cert middle)) → (other : Cert) (more : List ℕ)
    → IsReadable other → cert_line other ++ more ≡ bytes
    → (cert ≡ other) × (middle.now ≡ codes "\n" ++ more)
line_again bytes cert middle read other more fits same =
    read.again other (codes "\n" ++ more) fits refl (sym (append_assoc (cert_text other) (codes "\n") more) ∙ same)

pub line_found : (bytes : List ℕ) (cert : Cert) (middle : Bor (List ℕ))
    (answer : Option (Cert × Bor (List ℕ)))
    → IsRead cert_text IsReadable bytes (Some (both cert middle))
    → MatchOption answer ((rest : List ℕ) → codes "\n" ++ rest ≡ middle.now → ⊥)
    (λ read. (read.0 ≡ cert) × (codes "\n" ++ read.1.now ≡ middle.now))
    → Found IsReadable Anything cert_line bytes answer
line_found bytes cert middle None read none = λ other more fits ends same. none more (sym (line_again bytes cert middle read other more fits same).1)
line_found bytes cert middle (Some one) read is = record {
  holds = subst IsReadable (sym is.0) read.found.0;
  begins =
      append_assoc (cert_text one.0) (codes "\n") one.1.now ∙ ap (λ text. cert_text one.0 ++ text) is.1 ∙ ap (λ (which : Cert). cert_text which ++ middle.now) is.0 ∙ read.found.1;
  only = λ other more fits ends same.
      let again = line_again bytes cert middle read other more fits same in
      (sym again.0 ∙ sym is.0, append_cancel_left (codes "\n") more one.1.now (sym again.1 ∙ sym is.1));
}

pub line_none : (bytes : List ℕ) → IsRead cert_text IsReadable bytes None
    → IsNoFront Cert IsReadable Anything cert_line bytes
line_none bytes read other more fits ends same = read.again other (codes "\n" ++ more) fits refl (sym (append_assoc (cert_text other) (codes "\n") more) ∙ same)

-- ---- the lines of the claims

pub proofs_more : (monitor : MonitorParts) (claims : List Claim) (bytes : List ℕ) (i : ℕ)
    (done : List Cert) (rest : List ℕ) (claim d : Claim) (cert : Cert) (next : List ℕ)
    → i < length claims
    → claim ≡ get_or claims i d → AreGoing (proof_text monitor) IsReadable claims bytes i done rest
    → IsFront Cert IsReadable Anything (proof_text monitor claim) rest cert next
    → AreGoing (proof_text monitor) IsReadable claims bytes (i + 1) (done ++ cert ∷ []) next
proofs_more monitor claims bytes i done rest claim d cert next low is going front =
    going_more (proof_text monitor) IsReadable claims bytes i done rest claim d cert next low is going front.holds front.begins (λ other after holds same. front.only other after holds tt same)

pub proofs_stop : (monitor : MonitorParts) (claims : List Claim) (bytes : List ℕ) (i : ℕ)
    (done : List Cert) (rest : List ℕ) (claim d : Claim) → i < length claims
    → claim ≡ get_or claims i d
    → AreGoing (proof_text monitor) IsReadable claims bytes i done rest
    → IsNoFront Cert IsReadable Anything (proof_text monitor claim) rest
    → IsNoFront (List Cert) (AreFor claims IsReadable) Anything (proofs_text monitor claims) bytes
proofs_stop monitor claims bytes i done rest claim d low is going none others more are ends same =
    going_none (proof_text monitor) IsReadable claims bytes i done rest claim d low is going (λ other after holds begins. none other after holds tt begins) others more are same

pub proofs_end : (monitor : MonitorParts) (claims : List Claim) (bytes : List ℕ) (i : ℕ)
    (done : List Cert) (rest : List ℕ) → length claims ≤ i
    → AreGoing (proof_text monitor) IsReadable claims bytes i done rest
    → IsFront (List Cert) (AreFor claims IsReadable) Anything
    (proofs_text monitor claims) bytes done rest
proofs_end monitor claims bytes i done rest end going = going_end (proof_text monitor) IsReadable Anything claims bytes i done rest end going

-- ---- with the plan

pub with_all : (monitor : MonitorParts) (plan : Plan) (claims : List Claim) (bytes : List ℕ)
    (proofs : List Cert) (rest : List ℕ) (answer : Option Report)
    → claims ≡ backed_claims monitor plan
    → IsFront (List Cert) (AreFor claims IsReadable) Anything
    (proofs_text monitor claims) bytes proofs rest
    → MatchOption answer (rest ≡ [] → ⊥)
    (λ report. (report.plan ≡ plan) × (report.proofs ≡ proofs) × (rest ≡ []))
    → IsWithProofs monitor plan bytes answer
with_all monitor plan claims bytes proofs rest None are front some = λ others each same.
    some (sym (front.only others [] (subst (λ (all : List Claim). AreFor all IsReadable others) (sym are) each) tt
    (append-nil (proofs_text monitor claims others) ∙ ap (λ (all : List Claim). proofs_text monitor all others) are ∙ same)).1)
with_all monitor plan claims bytes proofs rest (Some report) are front is = (
  is.0,
  subst (λ (all : List Claim). AreFor all IsReadable report.proofs) are (subst (AreFor claims IsReadable) (sym is.1) front.holds),
  ap (λ (all : List Claim). proofs_text monitor all report.proofs) (sym are) ∙ ap (proofs_text monitor claims) is.1 ∙ sym (append-nil (proofs_text monitor claims proofs))
      ∙ ap (λ text. proofs_text monitor claims proofs ++ text) (sym is.2) ∙ front.begins,
  λ others each same.
      (front.only others [] (subst (λ (all : List Claim). AreFor all IsReadable others) (sym are) each) tt
      (append-nil (proofs_text monitor claims others) ∙ ap (λ (all : List Claim). proofs_text monitor all others) are ∙ same)).0
      ∙ sym is.1,
)

pub with_none : (monitor : MonitorParts) (plan : Plan) (claims : List Claim) (bytes : List ℕ)
    → claims ≡ backed_claims monitor plan
    → IsNoFront (List Cert) (AreFor claims IsReadable) Anything (proofs_text monitor claims) bytes
    → IsWithProofs monitor plan bytes None
with_none monitor plan claims bytes are none others each same =
    none others [] (subst (λ (all : List Claim). AreFor all IsReadable others) (sym are) each) tt
    (append-nil (proofs_text monitor claims others) ∙ ap (λ (all : List Claim). proofs_text monitor all others) are ∙ same)

-- no line of a proof is a candidate's
after_proofs : (monitor : MonitorParts) (claims : List Claim) (certs : List Cert)
    → IsAfterKept (proofs_text monitor claims certs)
after_proofs monitor [] certs more same = absurd (omega (arith, ap {B = ℕ} length same))
after_proofs monitor (claim ∷ claims) [] more same = absurd (omega (arith, ap {B = ℕ} length same))
after_proofs monitor (claim ∷ claims) (cert ∷ certs) more same =
    absurd (omega (arith, same_first 112 107 (codes "roof " ++ claim_text monitor claim ++ codes ": " ++ cert_text cert ++ codes "\n" ++ proofs_text monitor claims certs) (codes "eep " ++ more) same))

pub report_answer : (monitor : MonitorParts) (bytes rest : List ℕ) (plan : Plan)
    (answer : Result (Option Report) AllocError)
    → IsFront Plan (IsPlanOf monitor) IsAfterKept (plan_text monitor) bytes plan rest
    → IfOk answer (IsWithProofs monitor plan rest) → IfOk answer (IsReportRead monitor bytes)
report_answer monitor bytes rest plan (Err fault) front told = tt
report_answer monitor bytes rest plan (Ok None) front none = λ report is readable same.
    let found = front.only report.plan (proofs_text monitor (backed_claims monitor report.plan) report.proofs) is.plan (after_proofs monitor (backed_claims monitor report.plan) report.proofs) same in
    none report.proofs (subst (λ (one : Plan). AreFor (backed_claims monitor one) IsReadable report.proofs) found.0 (record { count = is.each; each = readable }))
    (ap (λ (one : Plan). proofs_text monitor (backed_claims monitor one) report.proofs) (sym found.0) ∙ found.1)
report_answer monitor bytes rest plan (Ok (Some report)) front told =
    let is = told.0 in
    let are = subst (λ (one : Plan). AreFor (backed_claims monitor one) IsReadable report.proofs) (sym is) told.1 in
    record {
      is = record { plan = subst (IsPlanOf monitor) (sym is) front.holds; each = are.count };
      readable = are.each;
      text =
          ap (λ (one : Plan). plan_text monitor one ++ proofs_text monitor (backed_claims monitor one) report.proofs) is ∙ ap (λ text. plan_text monitor plan ++ text) told.2
          ∙ front.begins;
      only = λ other of readable same.
          let found = front.only other.plan (proofs_text monitor (backed_claims monitor other.plan) other.proofs) of.plan (after_proofs monitor (backed_claims monitor other.plan) other.proofs) same in
          let proofs =
          told.3 other.proofs (subst (λ (one : Plan). AreFor (backed_claims monitor one) IsReadable other.proofs) found.0 (record { count = of.each; each = readable }))
          (ap (λ (one : Plan). proofs_text monitor (backed_claims monitor one) other.proofs) (sym found.0) ∙ found.1) in
          let plans = found.0 ∙ sym is in
          λ i. record { plan = plans i; proofs = proofs i };
    }

pub report_none : (monitor : MonitorParts) (bytes : List ℕ)
    → IsNoFront Plan (IsPlanOf monitor) IsAfterKept (plan_text monitor) bytes
    → IsReportRead monitor bytes None
report_none monitor bytes none report is readable same =
    none report.plan (proofs_text monitor (backed_claims monitor report.plan) report.proofs) is.plan (after_proofs monitor (backed_claims monitor report.plan) report.proofs) same
