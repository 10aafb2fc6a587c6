use Rattle.std.proofs.Common.{◌≡◌, ℕ, List, map, sym, ap, subst, ◌∙◌}
use Rattle.std.specs.List.{enumerate_from, flat_map}
use Rattle.lang_monitor.specs.declared.candidate.Candidate.{Candidate}
use Rattle.machine_events.specs.declared.plan.CondKind.{CondKind}
use Rattle.machine_events.specs.declared.plan.Note.{Note}
use Rattle.machine_events.specs.declared.plan.Plan.{Plan}
use Rattle.plan_candidates.specs.Claims.{keeps_claims}
use Rattle.plan_claims.specs.Backing.{AreProofs, backed_claims, kind_claims, unnoted_claims, untested_claims}
use Rattle.plan_place.specs.inner.Answers.{AreAskable, AreKinds, AreNotesOfEach, IsAnswered, proof_of_kept}
use Rattle.plan_claims.proofs.Backed.{proofs_back}
use Rattle.plan_place.proofs.Placing.{kept_proofs, proofs_of_plan}
use Rattle.plan_place.proofs.placement.answered.Goals as goal
use Rattle.plan_place.proofs.placement.answered.Goals.{In_ok-kept, After-of-3}

may_ask : (c : In_ok-kept) → AreAskable c.in_ok-kept.field-0.kept
may_ask c = record { expressible = c.in_ok-kept.ensures.expressible }

pub kinds_of_all-requires : goal.kinds_of_all-requires
kinds_of_all-requires c = subst AreAskable (sym c.items.ensures) (may_ask (goal.at.kinds_of_all-requires c).In_ok-kept)

pub notes_of_all-requires-clause-kept : goal.notes_of_all-requires-clause-kept
notes_of_all-requires-clause-kept c = subst AreAskable (sym c.items-2.ensures) (may_ask (goal.at.notes_of_all-requires-clause-kept c).In_ok-kept)

-- the plan, before its lists are made
abbrev plan_of : After-of-3 → Plan
plan_of c = record { kept = c.in_ok-kept.field-0.kept; kinds = c.in_ok-kinds.field-0.kinds.items; notes = c.in_ok-notes.field-0.notes.items }

same_plan : (c : After-of-3) → plan_of c ≡ record { kept = c.in_ok-kept.field-0.kept; kinds = c.of.result; notes = c.of-2.result }
same_plan c = λ i. record { kept = c.in_ok-kept.field-0.kept; kinds = sym c.of.ensures i; notes = sym c.of-2.ensures i }

proofs_are : (c : After-of-3) → AreProofs c.args.monitor.now c.in_ok-kept.field-0.kept (backed_claims c.args.monitor.now (plan_of c)) c.in_ok-proofs.proofs.items
proofs_are c =
    let monitor = c.args.monitor.now in
    let kept = c.in_ok-kept.field-0.kept in
    let notes = c.in_ok-notes.field-0 in
    let kinds = c.in_ok-kinds.field-0 in
    let unnoted = flat_map (λ (one : ℕ × List Note). unnoted_claims monitor one.0 one.1) (enumerate_from 0 notes.notes.items) in
    let signals = flat_map (λ (one : ℕ × CondKind). kind_claims monitor one.0 one.1) (enumerate_from 1 kinds.kinds.items) in
    let untested = flat_map (λ (one : ℕ × List Note). untested_claims monitor one.0 one.1) (enumerate_from 0 notes.notes.items) in
    let keeps = sym (c.in_ok-keeps.ensures ∙ ap (map proof_of_kept) c.into_items.ensures) in
    proofs_of_plan monitor (plan_of c) c.in_ok-keeps.keeps.items notes.found.unnoted.items kinds.proofs.items notes.found.untested.items c.in_ok-proofs.proofs.items
    (subst (AreProofs monitor kept (keeps_claims monitor kept)) keeps (kept_proofs monitor kept c.in_ok-kept.field-0.proofs c.in_ok-kept.ensures.proofs))
    (subst (λ (kept : List Candidate). AreProofs monitor kept unnoted notes.found.unnoted.items) c.items-2.ensures c.in_ok-notes.ensures.unnoted)
    (subst (λ (kept : List Candidate). AreProofs monitor kept signals kinds.proofs.items) c.items.ensures c.in_ok-kinds.ensures.proofs)
    (subst (λ (kept : List Candidate). AreProofs monitor kept untested notes.found.untested.items) c.items-2.ensures c.in_ok-notes.ensures.untested)
    c.in_ok-proofs.ensures

pub returns-clause-plan : goal.returns-clause-plan
returns-clause-plan c =
    let monitor = c.args.monitor.now in
    let plan = plan_of c in
    let told = c.in_ok-kept.ensures in
    let notes = subst (λ (kept : List Candidate). AreNotesOfEach monitor kept c.deref.result.now plan.notes) c.items-2.ensures c.in_ok-notes.ensures.notes in
    subst (IsAnswered monitor) (same_plan c) (record {
      invariant = told.invariant;
      easy_kept = told.easy;
      greatest = told.greatest;
      many_kinds = c.in_ok-kinds.ensures.many;
      many_notes = c.in_ok-notes.ensures.many;
      kinds = subst (λ (kept : List Candidate). AreKinds monitor kept plan.kinds) c.items.ensures c.in_ok-kinds.ensures.kinds;
      notes = subst (λ (kinds : List CondKind). AreNotesOfEach monitor plan.kept kinds plan.notes) c.deref.ensures.value notes;
      backed = proofs_back monitor plan.kept (backed_claims monitor plan) c.in_ok-proofs.proofs.items (proofs_are c);
    })

pub returns-clause-proofs : goal.returns-clause-proofs
returns-clause-proofs c =
    let monitor = c.args.monitor.now in
    let kept = c.in_ok-kept.field-0.kept in
    subst (λ (plan : Plan). AreProofs monitor kept (backed_claims monitor plan) c.of-3.result) (same_plan c)
    (subst (AreProofs monitor kept (backed_claims monitor (plan_of c))) (sym c.of-3.ensures) (proofs_are c))
