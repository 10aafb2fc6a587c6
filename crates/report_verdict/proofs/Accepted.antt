-- A plan whose certificates were checked is lawful.
use Rattle.std.proofs.Common.{◌≡◌, ℕ, ◌+◌, ◌<◌, true, List, [], ◌++◌, map, length, Option, Some, None, inl, refl, sym, ap, subst, ◌∙◌, arith}
use Rattle.std.specs.Prelude.{All, IsSomeAnd, unwrap_or}
use Rattle.std.specs.List.{flat_map, enumerate_from, zip}
use Rattle.std.proofs.lemmas.Option.{slice_get_within}
use Rattle.logic_cert.specs.declared.cert.Cert.{Cert}
use Rattle.lang_monitor.specs.declared.candidate.Candidate.{Candidate}
use Rattle.lang_monitor.specs.declared.claim.Claim.{Claim}
use Rattle.lang_monitor.specs.declared.claim.Claim.TheVariants as claims
use Rattle.lang_monitor.specs.declared.monitor.Block.{Block}
use Rattle.lang_monitor.specs.MonitorParts.{MonitorParts, IsMonitor}
use Rattle.lang_monitor.specs.Queries.{query_of}
use Rattle.lang_monitor.specs.Triples.{Keeps}
use Rattle.machine_events.specs.declared.plan.CondKind.{CondKind}
use Rattle.machine_events.specs.declared.plan.Note.{Note}
use Rattle.machine_events.specs.declared.plan.Plan.{Plan}
use Rattle.machine_events.specs.Plans.{has_note, notes_at}
use Rattle.logic_wp.specs.Limits.{is_query_within}
use Rattle.plan_candidates.specs.Claims.{keeps_claims}
use Rattle.plan_claims.specs.Backing.{HasCertificate, IsBacked, backed_claims, block_numbers, kind_claims, unnoted_claims, untested_claims}
use Rattle.plan_claims.proofs.Backed.{Laws, held, signals_backed, unnoted_backed}
use Rattle.plan_claims.proofs.Lists.{all_flat, all_left, all_mapped, in_range}
use Rattle.report_verdict.specs.declared.report.Report.{Report}
use Rattle.report_verdict.specs.Reports.{IsReport, proofs_of}
use Rattle.report_verdict.specs.Verdicts.{AreChecked, IsAccepted, IsFirstOpen, IsLawfulAtSight, IsProof, IsUnproved, plan_lines}
use Rattle.report_verdict.proofs.Pairs.{all_at, at_place, from_places, zip_at}

checked_backed : (monitor : MonitorParts) (report : Report) → IsReport monitor report
    → AreChecked monitor report.plan.kept (proofs_of monitor report) → IsBacked monitor report.plan
checked_backed monitor report is checked =
    from_places (HasCertificate monitor report.plan.kept) (backed_claims monitor report.plan) (λ k claim there.
    let low = slice_get_within (backed_claims monitor report.plan) k claim there in
    let cert = at_place report.proofs k (omega (arith, low, is.each)) in
    let here = zip_at (backed_claims monitor report.plan) report.proofs k claim cert.0 there cert.1 in
    let both = all_at (λ (one : Claim × Cert). IsProof monitor report.plan.kept one × (is_query_within monitor (query_of monitor report.plan.kept one.0) ≡ true))
    (proofs_of monitor report) k (claim, cert.0) here checked in
    (cert.0, both.0))

kept_held : Laws → (monitor : MonitorParts) (plan : Plan) → IsMonitor monitor
    → IsBacked monitor plan → (block : ℕ) → block < length monitor.blocks
    → All (λ candidate. Keeps monitor plan.kept candidate block) plan.kept
kept_held laws monitor plan rule backed block within =
    let P = HasCertificate monitor plan.kept in
    let a = keeps_claims monitor plan.kept in
    let b = flat_map (λ (one : ℕ × List Note). unnoted_claims monitor one.0 one.1) (enumerate_from 0 plan.notes) in
    let c = flat_map (λ (one : ℕ × CondKind). kind_claims monitor one.0 one.1) (enumerate_from 1 plan.kinds) in
    let d = flat_map (λ (one : ℕ × List Note). untested_claims monitor one.0 one.1) (enumerate_from 0 plan.notes) in
    let each = all_flat P (λ candidate. map (claims.Keeps candidate) (block_numbers monitor)) plan.kept (all_left P a (b ++ (c ++ d)) backed) in
    from_places (λ candidate. Keeps monitor plan.kept candidate block) plan.kept (λ k candidate is.
    let own = all_at (λ (one : Candidate). All P (map (claims.Keeps one) (block_numbers monitor))) plan.kept k candidate is each in
    held laws monitor plan.kept (claims.Keeps candidate block) rule within
    (in_range (λ (one : ℕ). P (claims.Keeps candidate one)) 0 (length monitor.blocks) block (omega arith) (omega arith) (all_mapped P (claims.Keeps candidate) (block_numbers monitor) own)))

pub accepted : Laws → (monitor : MonitorParts) (report : Report) → IsMonitor monitor
    → IsReport monitor report → IsLawfulAtSight monitor report.plan
    → AreChecked monitor report.plan.kept (proofs_of monitor report) → IsAccepted monitor report
accepted laws monitor report rule is sight checked =
    let plan = report.plan in
    let backed = checked_backed monitor report is checked in
    record {
      proofs = checked;
      lawful = record {
        inductive = record { starts = sight.starts; keeps = kept_held laws monitor plan rule backed };
        noted = λ block condition within first last none.
            let notes = at_place plan.notes block (omega (arith, within, is.plan.notes)) in
            let same : notes_at plan block ≡ notes.0 = ap (λ (o : Option (List Note)). unwrap_or o []) notes.1 in
            held laws monitor plan.kept (claims.NoNote block condition) rule within
            (unnoted_backed monitor plan block condition notes.0 backed notes.1 first last (ap (λ (own : List Note). has_note own condition) (sym same) ∙ none));
        reading = sight.reading;
        broadcasts = sight.broadcasts;
        signals = λ number block there numbered kind.
            let low = slice_get_within monitor.blocks number block there in
            let waits = subst (λ (o : Option Block). IsSomeAnd o (λ held. held.condition ≡ block.condition)) (sym there) refl in
            inl (held laws monitor plan.kept (claims.One block.condition number) rule low
            (signals_backed monitor plan number block.condition backed kind numbered waits low));
      };
    }

-- ---- what was found of claims and certificates is found of the report

moved : (monitor : MonitorParts) (report : Report) (kept : List Candidate) (wanted : List Claim)
    (certs : List Cert) (found : Option ℕ) → kept ≡ report.plan.kept
    → wanted ≡ backed_claims monitor report.plan → certs ≡ report.proofs
    → IsFirstOpen monitor kept (zip wanted certs) found
    → IsFirstOpen monitor report.plan.kept (proofs_of monitor report) found
moved monitor report kept wanted certs found is are same first =
    subst (λ (one : List Candidate). IsFirstOpen monitor one (proofs_of monitor report) found) is
    (subst (λ (all : List Claim). IsFirstOpen monitor kept (zip all report.proofs) found) are
    (subst (λ (all : List Cert). IsFirstOpen monitor kept (zip wanted all) found) same first))

pub unproved_at : (monitor : MonitorParts) (report : Report) (kept : List Candidate)
    (wanted : List Claim) (certs : List Cert) (place line : ℕ) → kept ≡ report.plan.kept
    → wanted ≡ backed_claims monitor report.plan → certs ≡ report.proofs
    → IsLawfulAtSight monitor report.plan → line ≡ plan_lines monitor report.plan + (place + 1)
    → IsFirstOpen monitor kept (zip wanted certs) (Some place) → IsUnproved monitor report line
unproved_at monitor report kept wanted certs place line is are same sight at first =
    let own = moved monitor report kept wanted certs (Some place) is are same first in
    record { sight = sight; place = place; line_is = at; before = own.0; here = own.1 }

pub checked_of : (monitor : MonitorParts) (report : Report) (kept : List Candidate)
    (wanted : List Claim) (certs : List Cert) → kept ≡ report.plan.kept
    → wanted ≡ backed_claims monitor report.plan → certs ≡ report.proofs
    → IsFirstOpen monitor kept (zip wanted certs) None
    → AreChecked monitor report.plan.kept (proofs_of monitor report)
checked_of monitor report kept wanted certs is are same none = moved monitor report kept wanted certs None is are same none
