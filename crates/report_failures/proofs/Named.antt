-- What a finding names can be asked.
use Rattle.std.proofs.Common.{◌≡◌, ℕ, true, List, Option, inl, inr, sym, subst}
use Rattle.std.specs.Prelude.{All}
use Rattle.std.specs.List.{list_all}
use Rattle.lang_monitor.specs.declared.claim.Claim.{Claim}
use Rattle.lang_monitor.specs.declared.claim.Claim.TheVariants as claims
use Rattle.lang_monitor.specs.declared.query.Query.{Query}
use Rattle.lang_monitor.specs.Candidates.{candidates_of}
use Rattle.lang_monitor.specs.MonitorParts.{MonitorParts, IsMonitor}
use Rattle.machine_events.specs.declared.plan.Plan.{Plan}
use Rattle.logic_wp.specs.Expressible.{is_expressible}
use Rattle.logic_wp.specs.PlainClaims.{IsBlockNumber, MayAsk, ReadsNone}
use Rattle.plan_claims.specs.Backing.{backed_claims}
use Rattle.plan_candidates.proofs.SomeOf.{some_pass}
use Rattle.plan_count.specs.declared.question.Question.{Question}
use Rattle.plan_why.specs.declared.failing.Failure.{Failure}
use Rattle.plan_why.specs.Failures.{IsFailureOf}
use Rattle.report_verdict.specs.Reports.{IsPlanOf}
use Rattle.report_verdict.proofs.Askable.{claims_askable}
use Rattle.report_verdict.proofs.Pairs.{all_at}
use Rattle.report_audit.specs.CountedFindings.{IsFirstCommon, IsFirstUncounted, IsNamed, block_of, common_claims, counting_questions, is_common, passing_claims}
use Rattle.report_audit.proofs.Asked.{passing}
use Rattle.report_audit.proofs.CountAsked.{each_block, each_question}
use Rattle.report_audit.proofs.Uncounted.{passing_askable, signal_reads}
use Rattle.report_failures.specs.inner.Asked.{AreThere, IsAbout}

-- a failure of a query is one of the query that it was made as
pub failure_made : (monitor : MonitorParts) (query asked : Query) (found : Option Failure) → query ≡ asked → IsFailureOf monitor query found → IsFailureOf monitor asked found
failure_made monitor query asked found is fails = subst (λ (one : Query). IsFailureOf monitor one found) is fails

-- what a plan keeps has formulas
pub kept_pass : (monitor : MonitorParts) (plan : Plan) → IsPlanOf monitor plan → list_all is_expressible (candidates_of monitor) ≡ true → list_all is_expressible plan.kept ≡ true
kept_pass monitor plan of all = some_pass is_expressible plan.kept (candidates_of monitor) of.kept all

-- ---- claims

pub claim_asked : (monitor : MonitorParts) (plan : Plan) (claim : Claim) → IsPlanOf monitor plan → list_all is_expressible (candidates_of monitor) ≡ true → IsFirstCommon monitor plan claim → MayAsk monitor claim
claim_asked monitor plan claim of all first =
    let every : All (MayAsk monitor) (backed_claims monitor plan) = claims_askable monitor plan of (kept_pass monitor plan of all) in
    all_at (MayAsk monitor) (common_claims monitor plan) first.place claim first.here
    (passing is_common (MayAsk monitor) (backed_claims monitor plan) (λ place other within asked. every place other within))

-- ---- questions

questions_about : (monitor : MonitorParts) (plan : Plan) (condition row : ℕ) → ReadsNone monitor condition → All (IsAbout monitor) (counting_questions monitor plan condition row)
questions_about monitor plan condition row reads = each_block (IsAbout monitor) monitor plan condition row (λ block within.
    let there : AreThere monitor condition block = record { is_block = within; reads_none = reads } in
    each_question (IsAbout monitor) monitor plan condition row block (λ cast noted. there) (λ cast noted other. there) (λ cast none. there))

block_there : (monitor : MonitorParts) (claim : Claim) → MayAsk monitor claim → IsBlockNumber monitor (block_of claim)
block_there monitor (claims.Keeps candidate block) may = may.0
block_there monitor (claims.NoNote block condition) may = may.0
block_there monitor (claims.One condition block) may = may.0
block_there monitor (claims.NoTest block condition) may = may.0

pub question_about : (monitor : MonitorParts) (plan : Plan) (question : Question) → IsMonitor monitor → IsPlanOf monitor plan → list_all is_expressible (candidates_of monitor) ≡ true
    → IsFirstUncounted monitor plan question → IsAbout monitor question
question_about monitor plan question rule of all first = by_name first.named
  where
    reads : ReadsNone monitor first.condition
    reads = signal_reads monitor plan first.condition rule of first.sight first.there first.kind

    asked : MayAsk monitor first.claim
    asked = all_at (MayAsk monitor) (passing_claims monitor plan first.condition) first.other_way.place first.claim first.other_way.here
        (passing_askable monitor plan first.condition of (kept_pass monitor plan of all))

    by_name : IsNamed monitor plan first.condition first.claim question → IsAbout monitor question
    by_name (inl (has, named)) = all_at (IsAbout monitor) (counting_questions monitor plan first.condition 1) named.place question named.here (questions_about monitor plan first.condition 1 reads)
    by_name (inr (rowless, is)) = subst (IsAbout monitor) (sym is) (record { is_block = block_there monitor first.claim asked; reads_none = reads })
