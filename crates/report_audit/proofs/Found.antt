-- A plan with which nothing is wrong at sight, and each of whose claims that are asked has a
-- certificate, is lawful.
use Rattle.std.proofs.Common.{◌≡◌, inl, inr, true, List, [], Option, Some, None, refl, sym, ap, subst, ◌∙◌, arith}
use Rattle.std.specs.Prelude.{All, IsSomeAnd, unwrap_or}
use Rattle.std.proofs.lemmas.Bool.{cases_Bool, not_from_false, true≢false}
use Rattle.std.proofs.lemmas.List.Elements.{All-weaker}
use Rattle.std.proofs.lemmas.Option.{slice_get_within}
use Rattle.lang_monitor.specs.declared.candidate.Candidate.{Candidate}
use Rattle.lang_monitor.specs.declared.claim.Claim.{Claim}
use Rattle.lang_monitor.specs.declared.claim.Claim.TheVariants as claims
use Rattle.lang_monitor.specs.declared.monitor.Block.{Block}
use Rattle.lang_monitor.specs.MonitorParts.{MonitorParts, IsMonitor}
use Rattle.lang_monitor.specs.Triples.{IsInductive, Keeps}
use Rattle.machine_events.specs.declared.plan.Note.{Note}
use Rattle.machine_events.specs.declared.plan.Plan.{Plan}
use Rattle.machine_events.specs.CountClaims.{AreNoted}
use Rattle.machine_events.specs.Plans.{IsLawful, has_note, notes_at}
use Rattle.plan_claims.specs.Backing.{HasCertificate, backed_claims}
use Rattle.plan_claims.proofs.Backed.{Laws, held, of_kept, of_signal, of_unnoted}
use Rattle.plan_claims.proofs.Lists.{all_filtered}
use Rattle.report_verdict.specs.Reports.{IsPlanOf}
use Rattle.report_verdict.specs.Verdicts.{IsLawfulAtSight}
use Rattle.report_verdict.proofs.Pairs.{at_place, from_places}
use Rattle.report_audit.specs.Findings.{IsFirstUnproved, IsProved, asked_claims, is_asked}
use Rattle.report_audit.specs.CountedFindings.{is_common}
use Rattle.report_audit.specs.inner.Asked.{IsFirstOpen}

abbrev IsBackedIfAsked : MonitorParts → Plan → Claim → Type 0
IsBackedIfAsked monitor plan claim = is_asked plan claim ≡ true → HasCertificate monitor plan.kept claim

-- what is kept is inductive, and a pair of block and condition without a note needs none
pub record IsCommonLawful (monitor : MonitorParts) (plan : Plan) : Type 0 where
  pub inductive : IsInductive monitor plan.kept
  pub noted : AreNoted monitor plan

abbrev pub IsBackedIfCommon : MonitorParts → Plan → Claim → Type 0
IsBackedIfCommon monitor plan claim = is_common claim ≡ true → HasCertificate monitor plan.kept claim

pub common_lawful : Laws → (monitor : MonitorParts) (plan : Plan) → IsMonitor monitor → IsPlanOf monitor plan → IsLawfulAtSight monitor plan
    → All (IsBackedIfCommon monitor plan) (backed_claims monitor plan) → IsCommonLawful monitor plan
common_lawful laws monitor plan rule of sight all =
    let P = IsBackedIfCommon monitor plan in
    record {
      inductive = record {
        starts = sight.starts;
        keeps = λ block within. from_places (λ candidate. Keeps monitor plan.kept candidate block) plan.kept (λ k candidate is.
            held laws monitor plan.kept (claims.Keeps candidate block) rule within (of_kept P monitor plan k candidate block all is within refl));
      };
      noted = λ block condition within first last none.
          let notes = at_place plan.notes block (omega (arith, within, of.notes)) in
          let same : notes_at plan block ≡ notes.0 = ap (λ (o : Option (List Note)). unwrap_or o []) notes.1 in
          held laws monitor plan.kept (claims.NoNote block condition) rule within
          (of_unnoted P monitor plan block condition notes.0 all notes.1 first last (ap (λ (own : List Note). has_note own condition) (sym same) ∙ none) refl);
    }

common_asked : (plan : Plan) (claim : Claim) → is_common claim ≡ true → is_asked plan claim ≡ true
common_asked plan (claims.Keeps candidate block) is = refl
common_asked plan (claims.NoNote block condition) is = refl
common_asked plan (claims.One condition block) is = absurd (true≢false (sym is))
common_asked plan (claims.NoTest block condition) is = absurd (true≢false (sym is))

pub found_lawful : Laws → (monitor : MonitorParts) (plan : Plan) → IsMonitor monitor → IsPlanOf monitor plan → IsLawfulAtSight monitor plan
    → All (HasCertificate monitor plan.kept) (asked_claims monitor plan) → IsLawful monitor plan
found_lawful laws monitor plan rule of sight certified =
    let P = IsBackedIfAsked monitor plan in
    let all : All P (backed_claims monitor plan) = all_filtered (is_asked plan) (HasCertificate monitor plan.kept) (backed_claims monitor plan) certified in
    let common = common_lawful laws monitor plan rule of sight
    (All-weaker P (IsBackedIfCommon monitor plan) (λ claim backed is. backed (common_asked plan claim is)) (backed_claims monitor plan) all) in
    record {
      inductive = common.inductive;
      noted = common.noted;
      reading = sight.reading;
      broadcasts = sight.broadcasts;
      signals = λ number block there numbered kind. elim (cases_Bool (has_note (notes_at plan number) block.condition)) [
        | inl has ↦ inr has
        | inr none ↦
            let low = slice_get_within monitor.blocks number block there in
            let waits = subst (λ (o : Option Block). IsSomeAnd o (λ held. held.condition ≡ block.condition)) (sym there) refl in
            inl (held laws monitor plan.kept (claims.One block.condition number) rule low
            (of_signal P monitor plan number block.condition all kind numbered waits low
            (not_from_false (has_note (notes_at plan number) block.condition) none)))
      ];
    }

-- ---- what was found of claims is found of the plan

moved : (monitor : MonitorParts) (plan : Plan) (kept : List Candidate) (wanted : List Claim) (found : Option Claim) → kept ≡ plan.kept
    → wanted ≡ asked_claims monitor plan → IsFirstOpen monitor kept wanted found → IsFirstOpen monitor plan.kept (asked_claims monitor plan) found
moved monitor plan kept wanted found is are first =
    subst (λ (one : List Candidate). IsFirstOpen monitor one (asked_claims monitor plan) found) is
    (subst (λ (all : List Claim). IsFirstOpen monitor kept all found) are first)

pub unproved_of : (monitor : MonitorParts) (plan : Plan) (kept : List Candidate) (wanted : List Claim) (claim : Claim) → kept ≡ plan.kept
    → wanted ≡ asked_claims monitor plan → IsLawfulAtSight monitor plan
    → IsFirstOpen monitor kept wanted (Some claim) → IsFirstUnproved monitor plan claim
unproved_of monitor plan kept wanted claim is are sight first =
    let own = moved monitor plan kept wanted (Some claim) is are first in record {
      sight = sight;
      place = own.place;
      here = own.here;
      before = own.before;
      unproved = own.unproved;
    }

pub proved_of : Laws → (monitor : MonitorParts) (plan : Plan) (kept : List Candidate) (wanted : List Claim) → IsMonitor monitor → IsPlanOf monitor plan → kept ≡ plan.kept
    → wanted ≡ asked_claims monitor plan → IsLawfulAtSight monitor plan → IsFirstOpen monitor kept wanted None → IsProved monitor plan
proved_of laws monitor plan kept wanted rule of is are sight none =
    let all = moved monitor plan kept wanted None is are none in
    record { lawful = found_lawful laws monitor plan rule of sight all; claims = all }
