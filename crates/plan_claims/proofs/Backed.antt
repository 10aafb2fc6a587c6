-- What a backed plan says of each of its claims.
use Rattle.std.proofs.Common.{◌≡◌, ◌==◌, ℕ, ◌-◌, ◌<◌, ◌≤◌, true, false, not, ◌&&◌, List, ◌++◌, map, length, get_or, Option, Some, None, subst, arith}
use Rattle.std.specs.Prelude.{All, slice_get, IsSomeAnd}
use Rattle.std.specs.List.{filter, flat_map, enumerate_from, range_with_len}
use Rattle.std.specs.Option.{option_map_or}
use Rattle.std.proofs.lemmas.Bool.{not_from_false, and_from, eq-eqb}
use Rattle.std.proofs.lemmas.List.Elements.{All-map}
use Rattle.logic_linear.specs.declared.formula.Formula.{Formula}
use Rattle.logic_linear.specs.Truth.{Valuation, truth_of}
use Rattle.logic_cert.specs.declared.cert.Cert.{Cert}
use Rattle.logic_cert.specs.Refutes.{Refutes}
use Rattle.lang_monitor.specs.declared.candidate.Candidate.{Candidate}
use Rattle.lang_monitor.specs.declared.claim.Claim.{Claim}
use Rattle.lang_monitor.specs.declared.claim.Claim.TheVariants as claims
use Rattle.lang_monitor.specs.declared.query.Query.{Query}
use Rattle.lang_monitor.specs.declared.monitor.Block.{Block}
use Rattle.lang_monitor.specs.declared.monitor.Condition.{Condition}
use Rattle.lang_monitor.specs.MonitorParts.{MonitorParts, IsMonitor}
use Rattle.lang_monitor.specs.Queries.{query_of}
use Rattle.lang_monitor.specs.Triples.{Holds, IsValidQuery}
use Rattle.machine_events.specs.declared.plan.CondKind.{CondKind}
use Rattle.machine_events.specs.declared.plan.CondKind.TheVariants as kinds
use Rattle.machine_events.specs.declared.plan.Note.{Note}
use Rattle.machine_events.specs.declared.plan.Plan.{Plan}
use Rattle.machine_events.specs.Plans.{condition_kind, has_note}
use Rattle.logic_wp.specs.NegatedQueries.{negated_query}
use Rattle.logic_wp.specs.PlainClaims.{ReadsNone, WaitsAt}
use Rattle.plan_candidates.specs.Claims.{keeps_claims}
use Rattle.plan_claims.specs.declared.placed.Proof.{Proof}
use Rattle.plan_claims.specs.Backing.{AreProofs, HasCertificate, IsBacked, backed_claims, block_numbers, kind_claims, reads_none, unnoted_claims, untested_claims, waits_at}
use Rattle.machine_events.proofs.Facing.{all_at}
use Rattle.plan_claims.proofs.Lists.{all_left, all_right, all_flat, all_mapped, all_filtered, in_range, in_numbered}

-- ---- what the crates below promise

-- laws of certificates and queries
pub record Laws : Type 0 where
  pub refuted_is_false : (formula : Formula) (cert : Cert) (v : Valuation) → Refutes formula cert → truth_of v formula ≡ false
  pub refuted_is_valid : (monitor : MonitorParts) (query : Query) → IsMonitor monitor → query.block < length monitor.blocks
      → ((v : Valuation) → truth_of v (negated_query monitor query) ≡ false) → IsValidQuery monitor query

pub held : Laws → (monitor : MonitorParts) (kept : List Candidate) (claim : Claim) → IsMonitor monitor → (query_of monitor kept claim).block < length monitor.blocks
    → HasCertificate monitor kept claim → Holds monitor kept claim
held laws monitor kept claim rule within cert =
    laws.refuted_is_valid monitor (query_of monitor kept claim) rule within
    (λ v. laws.refuted_is_false (negated_query monitor (query_of monitor kept claim)) cert.0 v cert.1)

-- ---- words as tests

pub waits_as_test : (monitor : MonitorParts) (condition block : ℕ) → WaitsAt monitor block condition → waits_at monitor condition block ≡ true
waits_as_test monitor condition block waits = by_found (slice_get monitor.blocks block) waits
  where
    by_found : (found : Option Block) → IsSomeAnd found (λ held. held.condition ≡ condition) → option_map_or (λ held. held.condition == condition) found false ≡ true
    by_found None waits = absurd waits
    by_found (Some held) waits = eq-eqb held.condition condition waits

pub reads_as_test : (monitor : MonitorParts) (condition : ℕ) → ReadsNone monitor condition → reads_none monitor condition ≡ true
reads_as_test monitor condition reads = by_found (slice_get monitor.conditions (condition - 1)) reads.1
  where
    by_found : (found : Option Condition) → IsSomeAnd found (λ held. held.reads_inputs ≡ false) → option_map_or (λ held. not held.reads_inputs) found false ≡ true
    by_found None reads = absurd reads
    by_found (Some held) reads = not_from_false held.reads_inputs reads

-- ---- the claims

-- what is true of each claim that the plan rests on, is true of this one

pub of_kept : (P : Claim → Type 0) (monitor : MonitorParts) (plan : Plan) (place : ℕ) (candidate : Candidate) (block : ℕ) → All P (backed_claims monitor plan)
    → slice_get plan.kept place ≡ Some candidate → block < length monitor.blocks → P (claims.Keeps candidate block)
of_kept P monitor plan place candidate block backed there within =
    let a = keeps_claims monitor plan.kept in
    let b = flat_map (λ (one : ℕ × List Note). unnoted_claims monitor one.0 one.1) (enumerate_from 0 plan.notes) in
    let c = flat_map (λ (one : ℕ × CondKind). kind_claims monitor one.0 one.1) (enumerate_from 1 plan.kinds) in
    let d = flat_map (λ (one : ℕ × List Note). untested_claims monitor one.0 one.1) (enumerate_from 0 plan.notes) in
    let each = all_flat P (λ candidate. map (claims.Keeps candidate) (block_numbers monitor)) plan.kept (all_left P a (b ++ (c ++ d)) backed) in
    let own = all_at (λ (one : Candidate). All P (map (claims.Keeps one) (block_numbers monitor))) plan.kept place candidate there each in
    in_range (λ (one : ℕ). P (claims.Keeps candidate one)) 0 (length monitor.blocks) block (omega arith) (omega arith) (all_mapped P (claims.Keeps candidate) (block_numbers monitor) own)

pub of_unnoted : (P : Claim → Type 0) (monitor : MonitorParts) (plan : Plan) (block condition : ℕ) (notes : List Note) → All P (backed_claims monitor plan)
    → slice_get plan.notes block ≡ Some notes → 1 ≤ condition → condition ≤ length monitor.conditions → has_note notes condition ≡ false
    → P (claims.NoNote block condition)
of_unnoted P monitor plan block condition notes backed there first last none =
    let numbered = enumerate_from 0 plan.notes in
    let a = keeps_claims monitor plan.kept in
    let b = flat_map (λ (one : ℕ × List Note). unnoted_claims monitor one.0 one.1) numbered in
    let c = flat_map (λ (one : ℕ × CondKind). kind_claims monitor one.0 one.1) (enumerate_from 1 plan.kinds) in
    let d = flat_map (λ (one : ℕ × List Note). untested_claims monitor one.0 one.1) numbered in
    let own = all_left P b (c ++ d) (all_right P a (b ++ (c ++ d)) backed) in
    let each = all_flat P (λ (one : ℕ × List Note). unnoted_claims monitor one.0 one.1) numbered own in
    let here = in_numbered (λ (one : ℕ × List Note). All P (unnoted_claims monitor one.0 one.1)) 0 plan.notes block notes block there (omega arith) each in
    let test = λ (one : ℕ). not (has_note notes one) in
    let range = range_with_len 1 (length monitor.conditions) in
    in_range (λ (one : ℕ). test one ≡ true → P (claims.NoNote block one)) 1 (length monitor.conditions) condition first (omega arith)
    (all_filtered test (λ (one : ℕ). P (claims.NoNote block one)) range (all_mapped P (claims.NoNote block) (filter test range) here))
    (not_from_false (has_note notes condition) none)

pub unnoted_backed : (monitor : MonitorParts) (plan : Plan) (block condition : ℕ) (notes : List Note) → IsBacked monitor plan
    → slice_get plan.notes block ≡ Some notes → 1 ≤ condition → condition ≤ length monitor.conditions → has_note notes condition ≡ false
    → HasCertificate monitor plan.kept (claims.NoNote block condition)
unnoted_backed monitor plan = of_unnoted (HasCertificate monitor plan.kept) monitor plan

pub of_signal : (P : Claim → Type 0) (monitor : MonitorParts) (plan : Plan) (block condition : ℕ) → All P (backed_claims monitor plan)
    → condition_kind plan condition ≡ Some kinds.Signal → 1 ≤ condition → WaitsAt monitor block condition → block < length monitor.blocks
    → P (claims.One condition block)
of_signal P monitor plan block condition backed kind first waits within =
    let numbered = enumerate_from 0 plan.notes in
    let a = keeps_claims monitor plan.kept in
    let b = flat_map (λ (one : ℕ × List Note). unnoted_claims monitor one.0 one.1) numbered in
    let c = flat_map (λ (one : ℕ × CondKind). kind_claims monitor one.0 one.1) (enumerate_from 1 plan.kinds) in
    let d = flat_map (λ (one : ℕ × List Note). untested_claims monitor one.0 one.1) numbered in
    let own = all_left P c d (all_right P b (c ++ d) (all_right P a (b ++ (c ++ d)) backed)) in
    let each = all_flat P (λ (one : ℕ × CondKind). kind_claims monitor one.0 one.1) (enumerate_from 1 plan.kinds) own in
    let here = in_numbered (λ (one : ℕ × CondKind). All P (kind_claims monitor one.0 one.1)) 1 plan.kinds (condition - 1) kinds.Signal condition kind (omega arith) each in
    let test = waits_at monitor condition in
    let range = range_with_len 0 (length monitor.blocks) in
    in_range (λ (one : ℕ). test one ≡ true → P (claims.One condition one)) 0 (length monitor.blocks) block (omega arith) (omega arith)
    (all_filtered test (λ (one : ℕ). P (claims.One condition one)) range (all_mapped P (claims.One condition) (filter test range) here))
    (waits_as_test monitor condition block waits)

pub signals_backed : (monitor : MonitorParts) (plan : Plan) (block condition : ℕ) → IsBacked monitor plan
    → condition_kind plan condition ≡ Some kinds.Signal → 1 ≤ condition → WaitsAt monitor block condition → block < length monitor.blocks
    → HasCertificate monitor plan.kept (claims.One condition block)
signals_backed monitor plan = of_signal (HasCertificate monitor plan.kept) monitor plan

pub untested_backed : (monitor : MonitorParts) (plan : Plan) (block : ℕ) (notes : List Note) → IsBacked monitor plan → slice_get plan.notes block ≡ Some notes
    → All (λ note. note.tested ≡ false → ReadsNone monitor note.condition → HasCertificate monitor plan.kept (claims.NoTest block note.condition)) notes
untested_backed monitor plan block notes backed there =
    let P = HasCertificate monitor plan.kept in
    let numbered = enumerate_from 0 plan.notes in
    let a = keeps_claims monitor plan.kept in
    let b = flat_map (λ (one : ℕ × List Note). unnoted_claims monitor one.0 one.1) numbered in
    let c = flat_map (λ (one : ℕ × CondKind). kind_claims monitor one.0 one.1) (enumerate_from 1 plan.kinds) in
    let d = flat_map (λ (one : ℕ × List Note). untested_claims monitor one.0 one.1) numbered in
    let own = all_right P c d (all_right P b (c ++ d) (all_right P a (b ++ (c ++ d)) backed)) in
    let each = all_flat P (λ (one : ℕ × List Note). untested_claims monitor one.0 one.1) numbered own in
    let here = in_numbered (λ (one : ℕ × List Note). All P (untested_claims monitor one.0 one.1)) 0 plan.notes block notes block there (omega arith) each in
    let claim = λ (note : Note). claims.NoTest block note.condition in
    let test = λ (note : Note). not note.tested && reads_none monitor note.condition in
    let all = all_filtered test (λ (note : Note). P (claim note)) notes (all_mapped P claim (filter test notes) here) in
    λ place other low untested reads.
    let note = get_or notes place other in
    all place other low (and_from (not note.tested) (reads_none monitor note.condition) (not_from_false note.tested untested) (reads_as_test monitor note.condition reads))

-- ---- proofs

pub proofs_back : (monitor : MonitorParts) (kept : List Candidate) (wanted : List Claim) (proofs : List Proof) → AreProofs monitor kept wanted proofs → All (HasCertificate monitor kept) wanted
proofs_back monitor kept wanted proofs are =
    subst (All (HasCertificate monitor kept)) are.claims
    (All-map (HasCertificate monitor kept) (λ (proof : Proof). proof.claim) proofs (λ place other within. ((get_or proofs place other).cert, are.certificates place other within)))
