use Rattle.std.proofs.Common.{ℕ, List, ◌++◌, length, ap, ◌∙◌, arith}
use Rattle.std.specs.List.{flat_map, enumerate_from}
use Rattle.lang_monitor.specs.declared.candidate.Candidate.{Candidate}
use Rattle.machine_events.specs.declared.plan.CondKind.{CondKind}
use Rattle.machine_events.specs.declared.plan.Note.{Note}
use Rattle.plan_candidates.specs.Claims.{keeps_claims}
use Rattle.plan_claims.specs.Backing.{kind_claims, unnoted_claims, untested_claims}
use Rattle.report_verdict.proofs.Gathered.{in_four}
use Rattle.report_verdict.proofs.claims.claims_of.Goals as goal

pub push_unnoted-requires : goal.push_unnoted-requires
push_unnoted-requires c =
    let rule = c.blocks-blocks.ensures.rule in
    omega (arith, ap {B = ℕ} length c.items-2.ensures, c.requires.notes, rule.few_blocks)

pub push_enough-requires : goal.push_enough-requires
push_enough-requires c =
    let rule = c.blocks-blocks.ensures.rule in
    omega (arith, ap {B = ℕ} length c.items-3.ensures, c.requires.kinds, rule.few_conditions)

pub push_untested-requires : goal.push_untested-requires
push_untested-requires c =
    let rule = c.blocks-blocks.ensures.rule in
    omega (arith, ap {B = ℕ} length c.items-4.ensures, c.requires.notes, rule.few_blocks)

pub returns : goal.returns
returns c =
    let monitor = c.args.monitor.now in
    let plan = c.args.plan.now in
    in_four (keeps_claims monitor plan.kept) (flat_map (λ (one : ℕ × List Note). unnoted_claims monitor one.0 one.1) (enumerate_from 0 plan.notes))
    (flat_map (λ (one : ℕ × CondKind). kind_claims monitor one.0 one.1) (enumerate_from 1 plan.kinds)) (flat_map (λ (one : ℕ × List Note). untested_claims monitor one.0 one.1) (enumerate_from 0 plan.notes))
    c.new-claims.result.items c.push_kept.new.claims.items c.push_unnoted.new.claims.items c.push_enough.new.claims.items c.push_untested.new.claims.items c.new-claims.ensures.items
    (c.in_ok-push_kept.ensures ∙ ap (λ (kept : List Candidate). c.new-claims.result.items ++ keeps_claims monitor kept) c.items.ensures)
    (c.in_ok-push_unnoted.ensures ∙ ap (λ (lists : List (List Note)). c.push_kept.new.claims.items ++ flat_map (λ (one : ℕ × List Note). unnoted_claims monitor one.0 one.1) (enumerate_from 0 lists)) c.items-2.ensures)
    (c.in_ok-push_enough.ensures ∙ ap (λ (all : List CondKind). c.push_unnoted.new.claims.items ++ flat_map (λ (one : ℕ × CondKind). kind_claims monitor one.0 one.1) (enumerate_from 1 all)) c.items-3.ensures)
    (c.in_ok-push_untested.ensures ∙ ap (λ (lists : List (List Note)). c.push_enough.new.claims.items ++ flat_map (λ (one : ℕ × List Note). untested_claims monitor one.0 one.1) (enumerate_from 0 lists)) c.items-4.ensures)
