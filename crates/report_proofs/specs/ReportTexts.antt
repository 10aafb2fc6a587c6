-- The texts of reports, and of what a check says of one.
use Rattle.std.specs.Prelude.{ℕ, List, ◌++◌, codes, decimal}
use Rattle.std.specs.List.{flat_map, zip}
use Rattle.logic_cert.specs.declared.cert.Cert.{Cert}
use Rattle.logic_cert.specs.CertText.{cert_text}
use Rattle.lang_monitor.specs.declared.claim.Claim.{Claim}
use Rattle.lang_monitor.specs.declared.claim.Claim.TheVariants as claims
use Rattle.lang_monitor.specs.MonitorParts.{MonitorParts}
use Rattle.machine_events.specs.PlanText.{block_name, candidate_text, plan_text}
use Rattle.plan_claims.specs.declared.placed.PlacedPlan.{PlacedPlan}
use Rattle.plan_claims.specs.Backing.{backed_claims}
use Rattle.report_verdict.specs.declared.report.Report.{Report}
use Rattle.report_verdict.specs.declared.report.Verdict.{Verdict}
use Rattle.report_verdict.specs.declared.report.Verdict.TheVariants as verdicts

-- `keep x <= 4 put`, `none put 2`, `one 1 put`, `untested put 2`
abbrev pub claim_text : MonitorParts → Claim → List ℕ
claim_text monitor (claims.Keeps candidate block) =
    codes "keep " ++ candidate_text monitor.fields candidate ++ codes " "
    ++ block_name monitor block
claim_text monitor (claims.NoNote block condition) =
    codes "none " ++ block_name monitor block ++ codes " " ++ decimal condition
claim_text monitor (claims.One condition block) =
    codes "one " ++ decimal condition ++ codes " " ++ block_name monitor block
claim_text monitor (claims.NoTest block condition) =
    codes "untested " ++ block_name monitor block ++ codes " " ++ decimal condition

-- `proof none put 2: clash 0 1` and a line feed
abbrev pub proof_text : MonitorParts → Claim → Cert → List ℕ
proof_text monitor claim cert =
    codes "proof " ++ claim_text monitor claim ++ codes ": " ++ cert_text cert ++ codes "\n"

-- a line for each claim with its certificate
abbrev pub proofs_text : MonitorParts → List Claim → List Cert → List ℕ
proofs_text monitor wanted certs =
    flat_map (λ one. proof_text monitor one.0 one.1) (zip wanted certs)

-- the text of the plan, then the lines of the claims that it rests on
abbrev pub report_text : MonitorParts → Report → List ℕ
report_text monitor report =
    plan_text monitor report.plan
    ++ proofs_text monitor (backed_claims monitor report.plan) report.proofs

-- ---- what is written of a placed plan

-- the text of the plan, then a line for each proof
abbrev pub placed_text : MonitorParts → PlacedPlan → List ℕ
placed_text monitor placed =
    plan_text monitor placed.plan
    ++ flat_map (λ proof. proof_text monitor proof.claim proof.cert) placed.proofs

-- ---- the line of a verdict

-- `accepted 6 claims`, `rejected: plan` or `rejected: line 6`, and a line feed
abbrev pub verdict_text : Verdict → List ℕ
verdict_text (verdicts.Accepted count) =
    codes "accepted " ++ decimal count ++ codes " claims\n"
verdict_text verdicts.Unlawful = codes "rejected: plan\n"
verdict_text (verdicts.Unproved line) = codes "rejected: line " ++ decimal line ++ codes "\n"
