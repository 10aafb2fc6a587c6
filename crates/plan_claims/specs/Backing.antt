-- The claims that a plan rests on, and their certificates.
use Rattle.std.specs.Prelude.{◌≡◌, ◌==◌, ℕ, ◌-◌, Bool, false, not, ◌&&◌, List, [], ◌++◌, map}
use Rattle.std.specs.Prelude.{length, slice_get, All}
use Rattle.std.specs.List.{filter, flat_map, enumerate_from, range_with_len}
use Rattle.std.specs.Option.{option_map_or}
use Rattle.logic_cert.specs.declared.cert.Cert.{Cert}
use Rattle.logic_cert.specs.Refutes.{Refutes}
use Rattle.lang_monitor.specs.declared.candidate.Candidate.{Candidate}
use Rattle.lang_monitor.specs.declared.claim.Claim.{Claim}
use Rattle.lang_monitor.specs.declared.claim.Claim.TheVariants as claims
use Rattle.lang_monitor.specs.MonitorParts.{MonitorParts}
use Rattle.lang_monitor.specs.Queries.{query_of}
use Rattle.machine_events.specs.declared.plan.CondKind.{CondKind}
use Rattle.machine_events.specs.declared.plan.CondKind.TheVariants as kinds
use Rattle.machine_events.specs.declared.plan.Note.{Note}
use Rattle.machine_events.specs.declared.plan.Plan.{Plan}
use Rattle.machine_events.specs.Plans.{has_note}
use Rattle.logic_wp.specs.NegatedQueries.{negated_query}
use Rattle.plan_candidates.specs.Claims.{keeps_claims}
use Rattle.plan_claims.specs.declared.placed.Proof.{Proof}

-- ---- claims, with blocks numbered from 0 and conditions from 1

abbrev pub block_numbers : MonitorParts → List ℕ
block_numbers monitor = range_with_len 0 (length monitor.blocks)

abbrev pub condition_numbers : MonitorParts → List ℕ
condition_numbers monitor = range_with_len 1 (length monitor.conditions)

-- the monitor has this block, and it waits at the condition
abbrev pub waits_at : MonitorParts → ℕ → ℕ → Bool
waits_at monitor condition block =
    option_map_or (λ held. held.condition == condition) (slice_get monitor.blocks block) false

-- the monitor has this condition, and its guard reads no inputs
abbrev pub reads_none : MonitorParts → ℕ → Bool
reads_none monitor condition =
    option_map_or (λ held. not held.reads_inputs) (slice_get monitor.conditions (condition - 1))
    false

-- a block, which has these notes, with each condition on which it has none
abbrev pub unnoted_claims : MonitorParts → ℕ → List Note → List Claim
unnoted_claims monitor block notes =
    map (claims.NoNote block)
    (filter (λ condition. not (has_note notes condition)) (condition_numbers monitor))

-- a condition, which has this kind, with each block that waits at it: where the kind is signal
abbrev pub kind_claims : MonitorParts → ℕ → CondKind → List Claim
kind_claims monitor condition kinds.Signal =
    map (claims.One condition) (filter (waits_at monitor condition) (block_numbers monitor))
kind_claims monitor condition kinds.Broadcast = []

-- a block, which has these notes, with each condition that reads no inputs and on which it has an
-- untested one
abbrev pub untested_claims : MonitorParts → ℕ → List Note → List Claim
untested_claims monitor block notes =
    map (λ note. claims.NoTest block note.condition)
    (filter (λ note. not note.tested && reads_none monitor note.condition) notes)

-- The claims that a plan rests on, each once, in the order of their kinds: each kept candidate with
-- each block; each
-- block with each condition on which it has no note; each condition of kind signal with each block
-- that waits at it;
-- each untested note on a condition that reads no inputs.
abbrev pub backed_claims : MonitorParts → Plan → List Claim
backed_claims monitor plan =
    keeps_claims monitor plan.kept
    ++ (flat_map (λ one. unnoted_claims monitor one.0 one.1) (enumerate_from 0 plan.notes)
    ++ (flat_map (λ one. kind_claims monitor one.0 one.1) (enumerate_from 1 plan.kinds)
    ++ flat_map (λ one. untested_claims monitor one.0 one.1) (enumerate_from 0 plan.notes)))

-- ---- certificates

-- the certificate refutes the negated query of the claim
abbrev pub Certifies : MonitorParts → List Candidate → Claim → Cert → Type 0
Certifies monitor kept claim cert =
    Refutes (negated_query monitor (query_of monitor kept claim)) cert

abbrev pub HasCertificate : MonitorParts → List Candidate → Claim → Type 0
HasCertificate monitor kept claim = (cert : Cert) × Certifies monitor kept claim cert

-- each claim that the plan rests on has a certificate
abbrev pub IsBacked : MonitorParts → Plan → Type 0
IsBacked monitor plan = All (HasCertificate monitor plan.kept) (backed_claims monitor plan)

-- exactly one proof of each of these claims, in their order, each with its certificate
pub record AreProofs (monitor : MonitorParts) (kept : List Candidate) (wanted : List Claim)
    (proofs : List Proof) : Type 0 where
  pub claims : map (λ proof. proof.claim) proofs ≡ wanted
  pub certificates : All (λ proof. Certifies monitor kept proof.claim proof.cert) proofs
