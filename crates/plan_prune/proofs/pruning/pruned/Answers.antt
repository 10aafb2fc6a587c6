use Rattle.std.proofs.Common.{◌≡◌, List, length, rules, arith, subst}
use Rattle.lang_monitor.specs.declared.candidate.Candidate.{Candidate}
use Rattle.lang_monitor.specs.Candidates.{candidates_of}
use Rattle.plan_prune.specs.inner.Pruning.{IsRoundOf}
use Rattle.plan_prune.proofs.Pruned.{left_after, none_dropped}
use Rattle.plan_prune.proofs.RoundSteps.{askable_some}
use Rattle.plan_candidates.proofs.SomeOf.{some_length}
use Rattle.plan_prune.proofs.pruning.pruned.Goals as goal

pub next_round-requires : goal.next_round-requires
next_round-requires c =
    rw c.deref.ensures.value (askable_some c.loop-kept.kept.items (candidates_of c.args.monitor.now) c.loop-kept.invariant.candidates c.requires.askable)

pub returns-then-len : goal.returns-then-len
returns-then-len c =
    let monitor = c.args.monitor.now in
    let kept = c.loop-kept.kept.items in
    let next = c.in_ok-round.round.kept.items in
    let proofs = c.in_ok-round.round.proofs.items in
    let round = subst (λ (before : List Candidate). IsRoundOf monitor before before next proofs) c.deref.ensures.value c.in_ok-round.ensures in
    let same : length next ≡ length kept = search rules in
    record { left = left_after monitor kept next proofs c.loop-kept.invariant round; last = none_dropped monitor kept next proofs round same }

pub loop-kept-smaller : goal.loop-kept-smaller
loop-kept-smaller c =
    let monitor = c.args.monitor.now in
    let kept = c.loop-kept.kept.items in
    let next = c.in_ok-round.round.kept.items in
    let proofs = c.in_ok-round.round.proofs.items in
    let round = subst (λ (before : List Candidate). IsRoundOf monitor before before next proofs) c.deref.ensures.value c.in_ok-round.ensures in
    let fewer = some_length next kept round.candidates in
    omega arith

pub loop-kept-preserved : goal.loop-kept-preserved
loop-kept-preserved c =
    let monitor = c.args.monitor.now in
    let next = c.in_ok-round.round.kept.items in
    let proofs = c.in_ok-round.round.proofs.items in
    left_after monitor c.loop-kept.kept.items next proofs c.loop-kept.invariant
    (subst (λ (before : List Candidate). IsRoundOf monitor before before next proofs) c.deref.ensures.value c.in_ok-round.ensures)
