use Rattle.std.proofs.Common.{◌≡◌, ◌-◌, false, not, length, get_or, List, [], ◌∷◌, Option, Some, sym, ap, subst, ◌∙◌, arith}
use Rattle.std.specs.Prelude.{slice_get, IsSomeAnd}
use Rattle.std.proofs.lemmas.Option.{slice_get-get_or}
use Rattle.lang_monitor.specs.declared.claim.Claim.{Claim}
use Rattle.lang_monitor.specs.declared.claim.Claim.TheVariants as claims
use Rattle.lang_monitor.specs.declared.monitor.Condition.{Condition}
use Rattle.plan_place.specs.inner.Answers.{Adds, IsAnswerTo}
use Rattle.plan_place.proofs.Placing.{adds_none, adds_proofs, one_proof, reads_at, reading_unclaimed, untested_claimed}
use Rattle.plan_place.proofs.notes.is_tested.Goals as goal
use Rattle.plan_place.proofs.notes.is_tested.Goals.{After-index-conditions-condition}

abbrev which : After-index-conditions-condition → Condition
which c = get_or c.conditions.result.now (c.args.condition - 1) c.index-conditions-condition.result

there : (c : After-index-conditions-condition) → slice_get c.args.monitor.now.conditions (c.args.condition - 1) ≡ Some (which c)
there c =
    let list = c.conditions.result.now in
    let found = slice_get-get_or list (c.args.condition - 1) c.index-conditions-condition.result (omega (arith, ap length c.conditions.ensures.conditions)) in
    subst (λ (all : List Condition). slice_get all (c.args.condition - 1) ≡ Some (which c)) c.conditions.ensures.conditions found

pub returns-then-conditions-condition-clause-proofs : goal.returns-then-conditions-condition-clause-proofs
returns-then-conditions-condition-clause-proofs c = λ all.
    let monitor = c.args.monitor.now in
    let kept = c.args.kept.now in
    let before = c.args.untested.now.items in
    let at = (goal.at.returns-then-conditions-condition-clause-proofs c).After-index-conditions-condition in
    let reads = reads_at monitor c.args.condition (which at) (there at) ∙ ap not c.if-conditions-condition.true in
    subst (λ (claims : List Claim). Adds monitor kept claims before before) (reading_unclaimed monitor c.args.block c.args.condition all reads) (adds_none monitor kept before)

pub returns-in_ok-push-in-Some-clause-proofs : goal.returns-in_ok-push-in-Some-clause-proofs
returns-in_ok-push-in-Some-clause-proofs c = λ all.
    let monitor = c.args.monitor.now in
    let kept = c.args.kept.now in
    let before = c.args.untested.now.items in
    let claim = claims.NoTest c.args.block c.args.condition in
    let at = (goal.at.returns-in_ok-push-in-Some-clause-proofs c).After-index-conditions-condition in
    let reads = reads_at monitor c.args.condition (which at) (there at) ∙ ap not c.if-conditions-condition.false in
    let is = subst (IsAnswerTo monitor kept claim) c.in-Some.is c.in_ok-proof.ensures in
    subst (λ (claims : List Claim). Adds monitor kept claims before c.push.new.self.items) (untested_claimed monitor c.args.block c.args.condition all reads)
    (adds_proofs monitor kept (claim ∷ []) before c.push.new.self.items (c.in-Some.proof ∷ []) c.in_ok-push-in-Some.ensures.items (one_proof monitor kept claim c.in-Some.proof is))

pub returns-in-None-clause-tested : goal.returns-in-None-clause-tested
returns-in-None-clause-tested c = λ tested. record {
  reads_none = (
    c.requires.first,
    subst (λ (found : Option Condition). IsSomeAnd found (λ held. held.reads_inputs ≡ false)) (sym (there (goal.at.returns-in-None-clause-tested c).After-index-conditions-condition))
        c.if-conditions-condition.false,
  );
  unproved = subst (IsAnswerTo c.args.monitor.now c.args.kept.now (claims.NoTest c.args.block c.args.condition)) c.in-None.is c.in_ok-proof.ensures;
}
