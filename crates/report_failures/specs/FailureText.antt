-- The lines of a finding that names what has no certificate.
use Rattle.std.specs.Prelude.{ℕ, List, [], ◌++◌, codes, Option, Some, None}
use Rattle.lang_tree.specs.declared.tree.MonitorTree.{MonitorTree}
use Rattle.lang_monitor.specs.declared.candidate.Candidate.{Candidate}
use Rattle.lang_monitor.specs.declared.claim.Claim.{Claim}
use Rattle.lang_monitor.specs.declared.claim.Claim.TheVariants as claims
use Rattle.lang_monitor.specs.MonitorParts.{MonitorParts}
use Rattle.logic_linear.specs.Truth.{Valuation}
use Rattle.logic_solve.specs.Solutions.{valuation_of}
use Rattle.machine_events.specs.declared.plan.Plan.{Plan}
use Rattle.machine_events.specs.PlanText.{candidate_text}
use Rattle.plan_count.specs.declared.question.Question.{Question}
use Rattle.plan_count.specs.declared.question.Question.TheVariants as questions
use Rattle.plan_why.specs.declared.failing.Failure.{Failure}
use Rattle.plan_why.specs.declared.reason.Answer.{Answer}
use Rattle.plan_why.specs.declared.reason.Answer.TheVariants as answers
use Rattle.plan_why.specs.declared.reason.Thing.{Thing}
use Rattle.plan_why.specs.declared.reason.Thing.TheVariants as things
use Rattle.report_proofs.specs.ReportTexts.{claim_text}
use Rattle.report_reasons.specs.BroadcastText.{broadcast_reason_text}
use Rattle.report_reasons.specs.ReasonText.{change_text, reason_text, running_text}
use Rattle.report_audit.specs.declared.finding.Finding.{Finding}
use Rattle.report_audit.specs.declared.finding.Finding.TheVariants as findings
use Rattle.report_audit.specs.FindingText.{finding_text}

-- ---- things that a plan lacks: those that are needed as reasons have them

-- whether a thing is needed after the block, by what was found
abbrev pub answer_of : ℕ → Option Failure → Answer
answer_of block None = answers.Undecided
answer_of block (Some failure) = answers.Shown block failure.before failure.after

-- `why put 2: count=1 to count=2` or `why put 2: not decided`, and a line feed
abbrev pub thing_text : MonitorTree → MonitorParts → Thing → ℕ → Option Failure → List ℕ
thing_text tree monitor thing block found =
    reason_text tree monitor (record { thing = thing; answer = answer_of block found })

-- `why close 1 broadcast: open=true to open=false` or `why close 1 broadcast: not decided`, and a
-- line feed: a signal is not enough
abbrev pub signal_text : MonitorTree → MonitorParts → ℕ → ℕ → Option Failure → List ℕ
signal_text tree monitor condition block found =
    broadcast_reason_text tree monitor
    (record { broadcast = record { block = block; condition = condition }; failure = found })

-- ---- kept candidates that a block makes false

-- `why keep count >= 2 get:`
abbrev pub leaving_text : MonitorTree → MonitorParts → Candidate → ℕ → Valuation → List ℕ
leaving_text tree monitor candidate block v =
    codes "why keep " ++ candidate_text monitor.fields candidate ++ codes " "
    ++ running_text tree monitor v block ++ codes ":"

-- `why keep count >= 2 get: count=2 to count=1` and a line feed
abbrev pub broken_text : MonitorTree → MonitorParts → Candidate → ℕ → Failure → List ℕ
broken_text tree monitor candidate block failure =
    leaving_text tree monitor candidate block (valuation_of failure.before)
    ++ change_text monitor failure.before failure.after ++ codes "\n"

-- that, or `why keep count >= 2 get: not decided` and a line feed
abbrev pub kept_text : MonitorTree → MonitorParts → Candidate → ℕ → Option Failure → List ℕ
kept_text tree monitor candidate block None =
    codes "why " ++ claim_text monitor (claims.Keeps candidate block) ++ codes ": not decided\n"
kept_text tree monitor candidate block (Some failure) =
    broken_text tree monitor candidate block failure

-- ---- findings

-- the line of a claim
abbrev pub claim_failure_text : MonitorTree → MonitorParts → Claim → Option Failure → List ℕ
claim_failure_text tree monitor (claims.Keeps candidate block) found =
    kept_text tree monitor candidate block found
claim_failure_text tree monitor (claims.NoNote block condition) found =
    thing_text tree monitor (things.Note block condition) block found
claim_failure_text tree monitor (claims.One condition block) found =
    thing_text tree monitor (things.Broadcast condition) block found
claim_failure_text tree monitor (claims.NoTest block condition) found =
    thing_text tree monitor (things.Test block condition) block found

-- the line of a question: with no note, or with one signal
abbrev pub question_failure_text : MonitorTree → MonitorParts → Question → Option Failure → List ℕ
question_failure_text tree monitor (questions.Counts condition row block) found =
    thing_text tree monitor (things.Note block condition) block found
question_failure_text tree monitor (questions.Gives condition row block) found =
    signal_text tree monitor condition block found
question_failure_text tree monitor (questions.First condition row block) found =
    signal_text tree monitor condition block found

-- the line of what the finding names, where it names a claim or a question
abbrev pub failure_line : MonitorTree → MonitorParts → Finding → Option Failure → List ℕ
failure_line tree monitor findings.Lawful found = []
failure_line tree monitor (findings.Start kept) found = []
failure_line tree monitor (findings.Kind condition) found = []
failure_line tree monitor (findings.Unproved claim) found =
    claim_failure_text tree monitor claim found
failure_line tree monitor (findings.Uncounted question) found =
    question_failure_text tree monitor question found

-- the line of the finding, and that one
abbrev pub failing_finding_text : MonitorTree → MonitorParts → Plan → Finding → Option Failure
    → List ℕ
failing_finding_text tree monitor plan finding found =
    finding_text monitor plan finding ++ failure_line tree monitor finding found
