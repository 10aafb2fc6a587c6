use Rattle.std.proofs.Common.{◌≡◌, ◌+◌, ◌<◌, List, length, rules, arith, sym, subst}
use Rattle.lang_monitor.specs.declared.candidate.Candidate.{Candidate}
use Rattle.lang_monitor.specs.Candidates.{candidates_of}
use Rattle.plan_prune.specs.inner.Asking.{IsAskable, Stands}
use Rattle.plan_prune.proofs.Pruned.{left_without}
use Rattle.plan_prune.proofs.RoundSteps.{askable_at, askable_some}
use Rattle.plan_prune.proofs.sifting.sweep.Goals as goal

pub stands-requires-clause-kept : goal.stands-requires-clause-kept
stands-requires-clause-kept c =
    rw c.deref.ensures.value (askable_some c.loop-at.kept.items (candidates_of c.args.monitor.now) c.loop-at.invariant.sieve.left.candidates c.requires.askable)

pub stands-requires-clause-candidate : goal.stands-requires-clause-candidate
stands-requires-clause-candidate c =
    let kept = c.loop-at.kept.items in
    let low : c.loop-at.at < length kept = search rules in
    subst IsAskable (sym c.index-candidate.ensures)
    (askable_at kept c.loop-at.at c.index-candidate.result.now low
    (askable_some kept (candidates_of c.args.monitor.now) c.loop-at.invariant.sieve.left.candidates c.requires.askable))

pub loop-at-preserved : goal.loop-at-preserved
loop-at-preserved c =
    let monitor = c.args.monitor.now in
    let kept = c.loop-at.kept.items in
    let candidate = c.index-candidate.result.now in
    let low : c.loop-at.at < length kept = search rules in
    let told = subst (λ (hyps : List Candidate). Stands monitor hyps candidate c.in_ok-stands.field-0) c.deref.ensures.value c.in_ok-stands.ensures in
    let none = subst (Stands monitor kept candidate) c.if-branch.false told in
    let fewer_kept : length c.remove.new.self.items + 1 ≡ length kept = search rules in
    let fewer_grounds : length c.remove-else-branch.new.self.items + 1 ≡ length c.loop-at.grounds.items = search rules in
    let same = c.loop-at.invariant.sieve.many in
    let before = c.loop-at.invariant.fewer in
    record {
      sieve = record {
        left = rw c.remove.ensures.items (left_without monitor kept c.loop-at.at candidate low c.index-candidate.ensures c.loop-at.invariant.sieve.left none);
        many = omega arith;
      };
      fewer = omega arith;
    }
